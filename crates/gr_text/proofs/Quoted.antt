-- How a string is read by pieces between its escapes.
use Rattle.std.proofs.Common.{◌≡◌, ℕ, ◌+◌, ◌-◌, ◌≢◌, ◌==◌, ◌||◌, not, cond, Bool, true, false, List, [], ◌∷◌, ◌++◌, Option, Some, None, length, take, drop, refl, sym, ap, ◌∙◌, arith, one-add, append_assoc, append-nil, length-drop}
use Rattle.std.proofs.lemmas.Bool.{ne_eqb}
use Rattle.std.proofs.lemmas.List.{nil_from_length}
use Rattle.std.proofs.lemmas.List.Sums.{prefix_len-le-length}
use Rattle.std.specs.List.{prefix_len}
use Rattle.gr_text.specs.Strings.{is_plain, string_from, with_byte}

-- a string with this text before it, for which so many more bytes were read
abbrev pub behind : List ℕ → ℕ → Option (List ℕ × ℕ) → Option (List ℕ × ℕ)
behind text read None = None
behind text read (Some (rest, len)) = Some (text ++ rest, read + len)

pub behind-nil : (string : Option (List ℕ × ℕ)) → behind [] 0 string ≡ string
behind-nil None = refl
behind-nil (Some (text, len)) = let zero_add : 0 + len ≡ len = omega arith in ap (λ n. Some (text, n)) zero_add

pub with_byte-behind : (c read more : ℕ) (text : List ℕ) (string : Option (List ℕ × ℕ)) → with_byte c read (behind text more string) ≡ behind (c ∷ text) (read + more) string
with_byte-behind c read more text None = refl
with_byte-behind c read more text (Some (rest, len)) = let sum : read + (more + len) ≡ read + more + len = omega arith in ap (λ n. Some (c ∷ (text ++ rest), n)) sum

behind-with_byte : (text : List ℕ) (read c more : ℕ) (string : Option (List ℕ × ℕ)) → behind text read (with_byte c more string) ≡ behind (text ++ c ∷ []) (read + more) string
behind-with_byte text read c more None = refl
behind-with_byte text read c more (Some (rest, len)) = let sum : read + (more + len) ≡ read + more + len = omega arith in rw append_assoc (ap (λ n. Some (text ++ (c ∷ rest), n)) sum)

behind-behind : (text : List ℕ) (read : ℕ) (more : List ℕ) (len : ℕ) (string : Option (List ℕ × ℕ)) → behind text read (behind more len string) ≡ behind (text ++ more) (read + len) string
behind-behind text read more len None = refl
behind-behind text read more len (Some (rest, n)) = let sum : read + (len + n) ≡ read + len + n = omega arith in rw append_assoc (ap (λ n. Some (text ++ (more ++ rest), n)) sum)

-- a byte is neither of the two marks
pub record IsPlain (c : ℕ) : Type 0 where
  pub quote : (c == 34) ≡ false
  pub backslash : (c == 92) ≡ false

pub is_plain-IsPlain : (c : ℕ) → is_plain c ≡ true → IsPlain c
is_plain-IsPlain c e = record { quote = first (c == 34) (c == 92) e; backslash = second (c == 34) (c == 92) e }
  where
    first : (a b : Bool) → not (a || b) ≡ true → a ≡ false
    first true b e = cc
    first false b e = refl

    second : (a b : Bool) → not (a || b) ≡ true → b ≡ false
    second true b e = cc
    second false true e = cc
    second false false e = refl

mark : (c : ℕ) → is_plain c ≡ false → (c == 34) ≡ false → (c == 92) ≡ true
mark c e quote = by (c == 34) (c == 92) e quote
  where
    by : (a b : Bool) → not (a || b) ≡ false → a ≡ false → b ≡ true
    by true b e quote = cc
    by false true e quote = refl
    by false false e quote = cc

-- a byte that is no mark stands for itself
pub string_from-plain : {c : ℕ} (cs : List ℕ) → IsPlain c → string_from (c ∷ cs) ≡ with_byte c 1 (string_from cs)
string_from-plain [] plain = rw plain.quote
string_from-plain (d ∷ rest) plain = rw (plain.quote, plain.backslash)

-- the bytes before the first mark stand for themselves
pub string_from-piece : (bytes : List ℕ) → string_from bytes ≡ behind (take (prefix_len is_plain bytes) bytes) (prefix_len is_plain bytes) (string_from (drop (prefix_len is_plain bytes) bytes))
string_from-piece [] = refl
string_from-piece (c ∷ cs) = by (prefix_len is_plain cs) (is_plain c) refl (string_from-piece cs)
  where
    by : (n : ℕ) (b : Bool) → is_plain c ≡ b → string_from cs ≡ behind (take n cs) n (string_from (drop n cs))
        → string_from (c ∷ cs) ≡ behind (take (cond b (1 + n) 0) (c ∷ cs)) (cond b (1 + n) 0) (string_from (drop (cond b (1 + n) 0) (c ∷ cs)))
    by n false e later = sym (behind-nil (string_from (c ∷ cs)))
    by n true e later =
        let whole : string_from (c ∷ cs) ≡ behind (c ∷ take n cs) (1 + n) (string_from (drop n cs)) =
        string_from-plain cs (is_plain-IsPlain c e) ∙ ap (with_byte c 1) later ∙ with_byte-behind c 1 n (take n cs) (string_from (drop n cs)) in
        rw one-add (rw one-add at whole)

-- so much of a string is read, this text is meant by it, and this is still to be read
pub record AreRead (bytes text rest : List ℕ) : Type 0 where
  pub read : ℕ
  pub counted : read + length rest ≡ length bytes
  pub whole : string_from bytes ≡ behind text read (string_from rest)

-- nothing is read yet
pub AreRead-none : (bytes : List ℕ) → AreRead bytes [] bytes
AreRead-none bytes = record { read = 0; counted = omega arith; whole = sym (behind-nil (string_from bytes)) }

-- a piece is read, up to the first mark
pub AreRead-piece : {bytes text rest : List ℕ} → AreRead bytes text rest → AreRead bytes (text ++ take (prefix_len is_plain rest) rest) (drop (prefix_len is_plain rest) rest)
AreRead-piece {bytes} {text} {rest} are =
    let n : ℕ = prefix_len is_plain rest in
    record {
      read = are.read + n;
      counted = omega (arith, are.counted, length-drop n rest, prefix_len-le-length is_plain rest);
      whole = are.whole ∙ ap (behind text are.read) (string_from-piece rest) ∙ behind-behind text are.read (take n rest) n (string_from (drop n rest));
    }

-- behind a piece stands a mark
pub mark-piece : (bytes : List ℕ) (c : ℕ) (others : List ℕ) → drop (prefix_len is_plain bytes) bytes ≡ c ∷ others → is_plain c ≡ false
mark-piece [] c others e = cc
mark-piece (x ∷ xs) c others e = by (is_plain x) refl (mark-piece xs c others) e
  where
    by : (b : Bool) → is_plain x ≡ b → (drop (prefix_len is_plain xs) xs ≡ c ∷ others → is_plain c ≡ false) → drop (cond b (1 + prefix_len is_plain xs) 0) (x ∷ xs) ≡ c ∷ others → is_plain c ≡ false
    by false plain later e = let same : x ≡ c = cc in rw (← same) plain
    by true plain later e = later (rw one-add at e)

-- an escaped byte is read
pub AreRead-escaped : {bytes text others : List ℕ} {c d : ℕ} → AreRead bytes text (c ∷ d ∷ others) → is_plain c ≡ false → c ≢ 34 → AreRead bytes (text ++ d ∷ []) others
AreRead-escaped {bytes} {text} {others} {c} {d} are plain quote =
    let escaped : string_from (c ∷ d ∷ others) ≡ with_byte d 2 (string_from others) = rw (ne_eqb c 34 quote, mark c plain (ne_eqb c 34 quote)) in
    record {
      read = are.read + 2;
      counted = omega (arith, are.counted);
      whole = are.whole ∙ ap (behind text are.read) escaped ∙ behind-with_byte text are.read d 2 (string_from others);
    }

-- a quote closes the string
pub string_from-closed : {bytes text others : List ℕ} {c : ℕ} → AreRead bytes text (c ∷ others) → c ≡ 34 → string_from bytes ≡ Some (text, length bytes - length others)
string_from-closed {bytes} {text} {others} {c} are quote =
    let closed : string_from (34 ∷ others) ≡ Some ([], 1) = at_quote others in
    let read : are.read + 1 ≡ length bytes - length others = omega (arith, are.counted) in
    are.whole ∙ ap (λ c. behind text are.read (string_from (c ∷ others))) quote ∙ ap (behind text are.read) closed ∙ rw append-nil (ap (λ n. Some (text, n)) read)
  where
    at_quote : (others : List ℕ) → string_from (34 ∷ others) ≡ Some ([], 1)
    at_quote [] = refl
    at_quote (d ∷ rest) = refl

-- nothing closes the string at the end of the bytes
pub string_from-ended : {bytes text rest : List ℕ} → AreRead bytes text rest → length rest ≡ 0 → string_from bytes ≡ None
string_from-ended {bytes} {text} {rest} are ended = are.whole ∙ ap (λ rest. behind text are.read (string_from rest)) (nil_from_length rest ended)

-- nor behind a mark that ends the bytes
pub string_from-mark_ended : {bytes text rest : List ℕ} {c : ℕ} → AreRead bytes text (c ∷ rest) → c ≢ 34 → length rest ≡ 0 → string_from bytes ≡ None
string_from-mark_ended {bytes} {text} {rest} {c} are quote ended =
    let alone : string_from (c ∷ []) ≡ None = rw (ne_eqb c 34 quote) in
    are.whole ∙ ap (λ rest. behind text are.read (string_from (c ∷ rest))) (nil_from_length rest ended) ∙ ap (behind text are.read) alone
