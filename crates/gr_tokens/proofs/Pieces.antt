-- The pieces of a text between spaces, and where those of a phrase stand among them.
use Rattle.std.proofs.Common.{ℕ, ◌≡◌, ◌<◌, ◌+◌, Bool, true, false, cond, ◌&&◌, List, [], ◌∷◌, length, drop, refl, sym, ap, ap₂, ◌∙◌, arith, nat_eq}
use Rattle.std.proofs.Math.Bool.{and_assoc}
use Rattle.std.proofs.lemmas.Bool.{eqb-true, eq-eqb, both_ways, false_from_ne_true}
use Rattle.std.proofs.lemmas.List.Splits.{length-slice_split}
use Rattle.std.specs.List.{starts_with, slice_split, onto_first}
use Rattle.std.specs.Str.{bytes_eq}
use Rattle.gr_tokens.specs.Inside.Alone.{closes, places_alone}
use Rattle.gr_tokens.specs.Places.{places}
use Rattle.gr_tokens.specs.Tokens.{is_space}
use Rattle.gr_tokens.proofs.PlaceSteps.{places-cons, places-empty}

-- a text has a piece
pub some-piece : (text : List ℕ) → 0 < length (slice_split is_space text)
some-piece text = omega (arith, length-slice_split is_space text)

-- two spaces are the same byte, and a space is no other byte
spaces-same : (c x : ℕ) → is_space c ≡ true → is_space x ≡ true → nat_eq c x ≡ true
spaces-same c x c_is x_is = eq-eqb c x (eqb-true c 32 c_is ∙ sym (eqb-true x 32 x_is))

space-other : (c x : ℕ) → is_space c ≡ true → is_space x ≡ false → nat_eq c x ≡ false
space-other c x c_is x_is = false_from_ne_true (nat_eq c x) (λ e. both_ways (is_space x) x_is (ap is_space (sym (eqb-true c x e)) ∙ c_is))

other-space : (c x : ℕ) → is_space c ≡ false → is_space x ≡ true → nat_eq c x ≡ false
other-space c x c_is x_is = false_from_ne_true (nat_eq c x) (λ e. both_ways (is_space c) c_is (ap is_space (eqb-true c x e) ∙ x_is))

-- the pieces of a text and a phrase that have one byte more before them
begin-step : (c x : ℕ) (qs ps : List (List ℕ)) (rest bc bx : Bool) → is_space c ≡ bc → is_space x ≡ bx → 0 < length qs → 0 < length ps → starts_with bytes_eq ps qs ≡ rest → starts_with bytes_eq (cond bx ([] ∷ ps) (onto_first x ps)) (cond bc ([] ∷ qs) (onto_first c qs)) ≡ (nat_eq c x && rest)
begin-step c x qs ps rest true true c_is x_is some_q some_p same = same ∙ sym (ap (λ b. b && rest) (spaces-same c x c_is x_is))
begin-step c x qs [] rest true false c_is x_is some_q some_p same = absurd (omega arith)
begin-step c x qs (p ∷ ps) rest true false c_is x_is some_q some_p same = sym (ap (λ b. b && rest) (space-other c x c_is x_is))
begin-step c x [] ps rest false true c_is x_is some_q some_p same = absurd (omega arith)
begin-step c x (q ∷ qs) ps rest false true c_is x_is some_q some_p same = sym (ap (λ b. b && rest) (other-space c x c_is x_is))
begin-step c x [] ps rest false false c_is x_is some_q some_p same = absurd (omega arith)
begin-step c x (q ∷ qs) [] rest false false c_is x_is some_q some_p same = absurd (omega arith)
begin-step c x (q ∷ qs) (p ∷ ps) rest false false c_is x_is some_q some_p same =
    and_assoc (nat_eq c x) (bytes_eq q p) (starts_with bytes_eq ps qs) ∙ ap (λ b. nat_eq c x && b) same

-- the first piece is empty where the text is at an end or goes on with a space
begin-none : (x : ℕ) (ps : List (List ℕ)) (bx : Bool) → 0 < length ps → starts_with bytes_eq (cond bx ([] ∷ ps) (onto_first x ps)) ([] ∷ []) ≡ bx
begin-none x ps true some = refl
begin-none x [] false some = absurd (omega arith)
begin-none x (p ∷ ps) false some = refl

-- an empty text has no piece of a phrase with a byte
begin-more : (c : ℕ) (qs : List (List ℕ)) (bc : Bool) → 0 < length qs → starts_with bytes_eq ([] ∷ []) (cond bc ([] ∷ qs) (onto_first c qs)) ≡ false
begin-more c [] bc some = absurd (omega arith)
begin-more c (q ∷ qs) true some = refl
begin-more c (q ∷ qs) false some = refl

-- the pieces of a text begin with those of a phrase where its bytes do, and a space or the end follows them
pub pieces-begin : (phrase text : List ℕ) → starts_with bytes_eq (slice_split is_space text) (slice_split is_space phrase) ≡ (starts_with nat_eq text phrase && closes (drop (length phrase) text))
pieces-begin [] [] = refl
pieces-begin [] (x ∷ xs) = begin-none x (slice_split is_space xs) (is_space x) (some-piece xs)
pieces-begin (c ∷ cs) [] = begin-more c (slice_split is_space cs) (is_space c) (some-piece cs)
pieces-begin (c ∷ cs) (x ∷ xs) =
    begin-step c x (slice_split is_space cs) (slice_split is_space xs) _ (is_space c) (is_space x) refl refl (some-piece cs) (some-piece xs) (pieces-begin cs xs)
    ∙ sym (and_assoc (nat_eq c x) (starts_with nat_eq xs cs) (closes (drop (length cs) xs)))

-- no bytes begin with a phrase that has one
no-bytes : (phrase : List ℕ) → 0 < length phrase → starts_with nat_eq [] phrase ≡ false
no-bytes [] more = absurd (omega arith)
no-bytes (c ∷ cs) more = refl

module _ (phrase : List ℕ) where
  some : 0 < length (slice_split is_space phrase)
  some = some-piece phrase

  -- a byte more before a text
  alone-step : (x : ℕ) (xs : List ℕ) (ps : List (List ℕ)) (here bx : Bool) (more : ℕ) → 0 < length ps → starts_with bytes_eq (cond bx ([] ∷ ps) (onto_first x ps)) (slice_split is_space phrase) ≡ here → more ≡ places bytes_eq (drop (cond bx 0 1) ps) (slice_split is_space phrase) → (cond here 1 0 + more ≡ places bytes_eq (cond bx ([] ∷ ps) (onto_first x ps)) (slice_split is_space phrase)) × (more ≡ places bytes_eq (drop 1 (cond bx ([] ∷ ps) (onto_first x ps))) (slice_split is_space phrase))
  alone-step x xs ps here true more least begins later = (
    ap₂ (λ b n. cond b 1 0 + n) (sym begins) later ∙ sym (places-cons bytes_eq [] ps (slice_split is_space phrase) some),
    later,
  )
  alone-step x xs [] here false more least begins later = absurd (omega arith)
  alone-step x xs (p ∷ ps) here false more least begins later = (
    ap₂ (λ b n. cond b 1 0 + n) (sym begins) later ∙ sym (places-cons bytes_eq (x ∷ p) ps (slice_split is_space phrase) some),
    later,
  )

  choose : (bx : Bool) (xs : List ℕ) → (places_alone true xs phrase ≡ places bytes_eq (slice_split is_space xs) (slice_split is_space phrase)) × (places_alone false xs phrase ≡ places bytes_eq (drop 1 (slice_split is_space xs)) (slice_split is_space phrase)) → places_alone bx xs phrase ≡ places bytes_eq (drop (cond bx 0 1) (slice_split is_space xs)) (slice_split is_space phrase)
  choose true xs both = both.0
  choose false xs both = both.1

  -- at the end
  none-begins : 0 < length phrase → places bytes_eq ([] ∷ []) (slice_split is_space phrase) ≡ 0
  none-begins more =
      let begins : starts_with bytes_eq ([] ∷ []) (slice_split is_space phrase) ≡ false = pieces-begin phrase [] ∙ ap (λ b. b && closes (drop (length phrase) [])) (no-bytes phrase more) in
      places-cons bytes_eq [] [] (slice_split is_space phrase) some ∙ ap₂ (λ b n. cond b 1 0 + n) begins (places-empty bytes_eq (slice_split is_space phrase))

  -- a phrase stands alone where its pieces stand among the pieces of the text
  alone-both : 0 < length phrase → (text : List ℕ) → (places_alone true text phrase ≡ places bytes_eq (slice_split is_space text) (slice_split is_space phrase)) × (places_alone false text phrase ≡ places bytes_eq (drop 1 (slice_split is_space text)) (slice_split is_space phrase))
  unfolding places_alone
  alone-both more [] = (sym (none-begins more), sym (places-empty bytes_eq (slice_split is_space phrase)))
  alone-both more (x ∷ xs) =
      let step = alone-step x xs (slice_split is_space xs) (starts_with nat_eq (x ∷ xs) phrase && closes (drop (length phrase) (x ∷ xs))) (is_space x) (places_alone (is_space x) xs phrase) (some-piece xs) (pieces-begin phrase (x ∷ xs)) (choose (is_space x) xs (alone-both more xs)) in
      (step.0, omega (arith, step.1))

  pub places_alone-pieces : 0 < length phrase → (text : List ℕ) → places_alone true text phrase ≡ places bytes_eq (slice_split is_space text) (slice_split is_space phrase)
  places_alone-pieces more text = (alone-both more text).0
