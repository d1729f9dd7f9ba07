-- The pieces of a text whose words stand one space apart.
use Rattle.std.proofs.Common.{ℕ, zero, suc, ◌≡◌, ◌<◌, ◌≤◌, ◌+◌, ◌-◌, Bool, true, false, cond, ◌&&◌, List, [], ◌∷◌, ◌++◌, length, take, drop, get_or, filter, refl, sym, ap, ap₂, ◌∙◌, arith}
use Rattle.std.proofs.lemmas.Bool.{eqb-true, eq-eqb, le-leb, both_ways, false_from_ne_true, ne_eqb}
use Rattle.std.proofs.lemmas.List.{take_more, take_all, take-append-drop, length-take, length-take-le, get_or-take}
use Rattle.std.proofs.lemmas.List.Elements.{All-cons, All-head, All-tail, All-nil, All-append, All-weaker, All-same, filter-append}
use Rattle.std.proofs.lemmas.List.Splits.{slice_split-cons_yes}
use Rattle.std.proofs.str.Laws.{both}
use Rattle.std.specs.Cmp.Lexicographic.{same_text}
use Rattle.std.specs.List.{All, slice_split, onto_first}
use Rattle.std.specs.Str.{bytes_eq}
use Rattle.std.specs.Prelude.{Option, None, Some, IfSome}
use Rattle.memchr.specs.Find.{IsLastByte, OccursAt, is_byte}
use Rattle.gr_tokens.specs.Inside.Plain.{IsShort, IsSome, NoDouble, LastOther, FirstOther}
use Rattle.gr_tokens.specs.Places.{places}
use Rattle.gr_tokens.specs.Tokens.{is_space, is_word, words}
use Rattle.gr_tokens.proofs.Pieces.{some-piece}

-- texts with a space between them
append-step : (x : ℕ) (ps qs : List (List ℕ)) (bx : Bool) → 0 < length ps → cond bx ([] ∷ (ps ++ qs)) (onto_first x (ps ++ qs)) ≡ cond bx ([] ∷ ps) (onto_first x ps) ++ qs
append-step x ps qs true some = refl
append-step x [] qs false some = absurd (omega arith)
append-step x (p ∷ ps) qs false some = refl

pub pieces-append : (before after : List ℕ) (space : ℕ) → is_space space ≡ true → slice_split is_space (before ++ space ∷ after) ≡ slice_split is_space before ++ slice_split is_space after
pieces-append [] after space is = slice_split-cons_yes is_space space after is
pieces-append (x ∷ xs) after space is =
    ap (λ ps. cond (is_space x) ([] ∷ ps) (onto_first x ps)) (pieces-append xs after space is)
    ∙ append-step x (slice_split is_space xs) (slice_split is_space after) (is_space x) (some-piece xs)

-- no piece is longer than the text
short-step : (n x : ℕ) (ps : List (List ℕ)) (bx : Bool) → All (λ p. length p ≤ n) ps → All (λ p. length p ≤ suc n) (cond bx ([] ∷ ps) (onto_first x ps))
short-step n x ps true short = All-cons (λ p. length p ≤ suc n) [] ps (omega arith) (All-weaker (λ p. length p ≤ n) (λ p. length p ≤ suc n) (λ p le. omega arith) ps short)
short-step n x [] false short = All-cons (λ p. length p ≤ suc n) (x ∷ []) [] (omega arith) (All-nil (λ p. length p ≤ suc n))
short-step n x (p ∷ ps) false short =
    let first = All-head (λ p. length p ≤ n) p ps short in
    All-cons (λ p. length p ≤ suc n) (x ∷ p) ps (omega arith) (All-weaker (λ p. length p ≤ n) (λ p. length p ≤ suc n) (λ p le. omega arith) ps (All-tail (λ p. length p ≤ n) p ps short))

pieces-short : (text : List ℕ) → All (λ p. length p ≤ length text) (slice_split is_space text)
pieces-short [] = All-cons (λ p. length p ≤ 0) [] [] (omega arith) (All-nil (λ p. length p ≤ 0))
pieces-short (x ∷ xs) = short-step (length xs) x (slice_split is_space xs) (is_space x) (pieces-short xs)

pub short-text : (text : List ℕ) → length text ≤ 4096 → All IsShort (slice_split is_space text)
short-text text short = All-weaker (λ p. length p ≤ length text) IsShort (λ p le. omega arith) (slice_split is_space text) (pieces-short text)

-- no piece is empty
some-tail : (x : ℕ) (ps : List (List ℕ)) → All IsSome (drop 1 ps) → All IsSome (onto_first x ps)
some-tail x [] rest = All-cons IsSome (x ∷ []) [] (omega arith) (All-nil IsSome)
some-tail x (p ∷ ps) rest = All-cons IsSome (x ∷ p) ps (omega arith) rest

other-tail : (x : ℕ) (ps : List (List ℕ)) → All IsSome (drop 1 ps) → All IsSome (drop 1 (onto_first x ps))
other-tail x [] rest = All-nil IsSome
other-tail x (p ∷ ps) rest = rest

some-step : (x : ℕ) (ps : List (List ℕ)) (bx : Bool) → All IsSome (drop 1 ps) → (bx ≡ true → All IsSome ps) → All IsSome (drop 1 (cond bx ([] ∷ ps) (onto_first x ps))) × (bx ≡ false → All IsSome (cond bx ([] ∷ ps) (onto_first x ps)))
some-step x ps true rest all = (all refl, λ no. absurd (both_ways true no refl))
some-step x ps false rest all = (other-tail x ps rest, λ no. some-tail x ps rest)

other-byte : (x : ℕ) → ¬ (x ≡ 32) → is_space x ≡ false
other-byte x other = ne_eqb x 32 other

-- what follows a space that is not the last byte
first-other : (x : ℕ) (xs : List ℕ) → NoDouble (x ∷ xs) → LastOther (x ∷ xs) → x ≡ 32 → FirstOther xs
first-other x [] double last is = absurd (last 0 (omega arith) is)
first-other x (y ∷ ys) double last is = (omega arith, double 0 (omega arith) is)

some-both : (text : List ℕ) → NoDouble text → LastOther text → All IsSome (drop 1 (slice_split is_space text)) × (FirstOther text → All IsSome (slice_split is_space text))
some-both [] double last = (All-nil IsSome, λ first. absurd (omega (arith, first.0)))
some-both (x ∷ xs) double last =
    let rest = some-both xs (λ k below one two. double (suc k) (omega arith) one two) (λ k at. last (suc k) (omega arith)) in
    let step = some-step x (slice_split is_space xs) (is_space x) rest.0 (λ is. rest.1 (first-other x xs double last (eqb-true x 32 is))) in
    (step.0, λ first. step.1 (other-byte x first.1))

pub pieces-some : (text : List ℕ) → NoDouble text → LastOther text → FirstOther text → All IsSome (slice_split is_space text)
pieces-some text double last first = (some-both text double last).1 first

-- pieces that are neither empty nor long are words
filter-all : (pieces : List (List ℕ)) → All IsSome pieces → All IsShort pieces → filter is_word pieces ≡ pieces
filter-all [] some short = refl
filter-all (p ∷ ps) some short =
    let is : is_word p ≡ true = ap₂ ◌&&◌ (le-leb 1 (length p) (All-head IsSome p ps some)) (le-leb (length p) 4096 (All-head IsShort p ps short)) in
    ap (λ b. cond b (p ∷ filter is_word ps) (filter is_word ps)) is ∙ ap (λ l. p ∷ l) (filter-all ps (All-tail IsSome p ps some) (All-tail IsShort p ps short))

pub words-plain : (text : List ℕ) → All IsSome (slice_split is_space text) → All IsShort (slice_split is_space text) → words text ≡ slice_split is_space text
unfolding words
words-plain text some short = filter-all (slice_split is_space text) some short

-- a space at an end of a text changes no word
pub words-first_space : (space : ℕ) (text : List ℕ) → is_space space ≡ true → words (space ∷ text) ≡ words text
unfolding words
words-first_space space text is = ap (filter is_word) (slice_split-cons_yes is_space space text is)

append-nil : (ps : List (List ℕ)) → ps ++ [] ≡ ps
append-nil [] = refl
append-nil (p ∷ ps) = ap (λ l. p ∷ l) (append-nil ps)

pub words-last_space : (text : List ℕ) (space : ℕ) → is_space space ≡ true → words (text ++ space ∷ []) ≡ words text
unfolding words
words-last_space text space is =
    ap (filter is_word) (pieces-append text [] space is)
    ∙ filter-append is_word (slice_split is_space text) ([] ∷ [])
    ∙ append-nil (filter is_word (slice_split is_space text))

pub words-without_first : (text : List ℕ) → 0 < length text → get_or text 0 0 ≡ 32 → words (drop 1 text) ≡ words text
words-without_first [] some is = absurd (omega arith)
words-without_first (x ∷ xs) some is = sym (words-first_space x xs (eq-eqb x 32 is))

pub words-without_last : (text : List ℕ) → 0 < length text → get_or text (length text - 1) 0 ≡ 32 → words (take (length text - 1) text) ≡ words text
words-without_last text some is =
    let n : ℕ = length text - 1 in
    let whole : n + 1 ≡ length text = omega arith in
    sym (words-last_space (take n text) (get_or text n 0) (eq-eqb (get_or text n 0) 32 is))
    ∙ ap words (sym (take_more text n 0 (omega arith)) ∙ ap (λ k. take k text) whole ∙ take_all (length text) text (omega arith))

append-one : (before : List ℕ) (x : ℕ) (after : List ℕ) → (before ++ x ∷ []) ++ after ≡ before ++ x ∷ after
append-one [] x after = refl
append-one (y ∷ ys) x after = ap (λ l. y ∷ l) (append-one ys x after)

-- the pieces before a space that is near, and those after it
pub short-more : (text : List ℕ) (at : ℕ) → at < length text → at ≤ 4096 → get_or text at 0 ≡ 32 → All IsShort (slice_split is_space (drop (at + 1) text)) → All IsShort (slice_split is_space text)
short-more text at within near is rest =
    let before : List ℕ = take at text in
    let size : length before ≡ at = length-take-le at text (omega arith) in
    let parts : text ≡ before ++ get_or text at 0 ∷ drop (at + 1) text =
    sym (take-append-drop (at + 1) text) ∙ ap (λ l. l ++ drop (at + 1) text) (take_more text at 0 within) ∙ append-one before (get_or text at 0) (drop (at + 1) text) in
    All-same IsShort (slice_split is_space text) (slice_split is_space before ++ slice_split is_space (drop (at + 1) text))
    (ap (slice_split is_space) parts ∙ pieces-append before (drop (at + 1) text) (get_or text at 0) (eq-eqb (get_or text at 0) 32 is))
    (All-append IsShort (slice_split is_space before) (slice_split is_space (drop (at + 1) text)) (short-text before (omega arith)) rest)

-- two spaces beside each other
double-reads : (text : List ℕ) (k : ℕ) → get_or text k 0 ≡ 32 → get_or text (suc k) 0 ≡ 32 → (j : ℕ) → j < 2 → get_or text (k + j) 0 ≡ get_or (32 ∷ 32 ∷ []) j 0
double-reads text k one two zero below = let at : k + 0 ≡ k = omega arith in ap (λ i. get_or text i 0) at ∙ one
double-reads text k one two (suc zero) below = let at : k + 1 ≡ suc k = omega arith in ap (λ i. get_or text i 0) at ∙ two
double-reads text k one two (suc (suc j)) below = absurd (omega arith)

pub double-occurs : (text : List ℕ) (k : ℕ) → suc k < length text → get_or text k 0 ≡ 32 → get_or text (suc k) 0 ≡ 32 → OccursAt text (32 ∷ 32 ∷ []) k
double-occurs text k within one two = record {
  fits = omega arith;
  reads = double-reads text k one two;
}

-- a space that a search among the first bytes finds
pub near-found : (text : List ℕ) → (found : Option ℕ) → IsLastByte (is_byte 32) (take 4097 text) found → IfSome found (λ at. (at < length text) × (at ≤ 4096) × (get_or text at 0 ≡ 32))
near-found text None none = tt
near-found text (Some at) last =
    let high = last.0.high in
    let size = length-take 4097 text in
    (omega (arith, high, size), omega (arith, high, size), sym (get_or-take 4097 text at 0 (omega (arith, high, size))) ∙ eqb-true (get_or (take 4097 text) at 0) 32 last.1)

-- a word is no piece that is none, and its places among pieces are those among words
module _ (word : List ℕ) (passes : is_word word ≡ true) where
  other-piece : (piece : List ℕ) → is_word piece ≡ false → (bytes_eq word piece && true) ≡ false
  other-piece piece fails =
      false_from_ne_true (bytes_eq word piece && true)
      (λ same. both_ways (is_word piece) fails (ap is_word (sym (same_text word piece (sym (both (bytes_eq word piece) true same).0))) ∙ passes))

  places-step : (piece : List ℕ) (kept pieces : List (List ℕ)) (b : Bool) → is_word piece ≡ b → places bytes_eq kept (word ∷ []) ≡ places bytes_eq pieces (word ∷ []) → places bytes_eq (cond b (piece ∷ kept) kept) (word ∷ []) ≡ places bytes_eq (piece ∷ pieces) (word ∷ [])
  unfolding places
  places-step piece kept pieces true is same = ap (λ n. cond (bytes_eq word piece && true) 1 0 + n) same
  places-step piece kept pieces false is same = let none = ap (λ b. cond b 1 0 + places bytes_eq pieces (word ∷ [])) (other-piece piece is) in omega (arith, same, none)

  one-word : (pieces : List (List ℕ)) → places bytes_eq (filter is_word pieces) (word ∷ []) ≡ places bytes_eq pieces (word ∷ [])
  one-word [] = refl
  one-word (piece ∷ pieces) = places-step piece (filter is_word pieces) pieces (is_word piece) refl (one-word pieces)

-- a piece that is kept is a word
kept-word : (piece : List ℕ) (b : Bool) → is_word piece ≡ b → filter is_word (piece ∷ []) ≡ piece ∷ [] → is_word piece ≡ true
kept-word piece true is kept = is
kept-word piece false is kept = let none = ap length (sym (ap (λ b. cond b (piece ∷ []) []) is) ∙ kept) in absurd (omega (arith, none))

-- the places of a phrase of one word
pub places-one_word : (text phrase : List ℕ) → words phrase ≡ slice_split is_space phrase → slice_split is_space phrase ≡ phrase ∷ [] → places bytes_eq (words text) (words phrase) ≡ places bytes_eq (slice_split is_space text) (slice_split is_space phrase)
unfolding words
places-one_word text phrase plain one =
    let kept : filter is_word (phrase ∷ []) ≡ phrase ∷ [] = ap (filter is_word) (sym one) ∙ plain ∙ one in
    ap (places bytes_eq (filter is_word (slice_split is_space text))) (plain ∙ one)
    ∙ one-word phrase (kept-word phrase (is_word phrase) refl kept) (slice_split is_space text)
    ∙ ap (places bytes_eq (slice_split is_space text)) (sym one)
