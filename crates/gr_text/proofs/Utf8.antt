-- A string of a text is a text, and so is what stands behind it.
use Rattle.std.proofs.Common.{◌≡◌, ℕ, suc, ◌+◌, ◌<◌, ◌≢◌, true, List, [], ◌∷◌, ◌++◌, Option, Some, None, IfSome, IsUtf8, length, drop, get_or, refl, sym, ap, subst, ◌∙◌, ◌⊎◌, inl, inr, arith, append-nil, one-add}
use Rattle.std.proofs.lemmas.Bool.{and_parts, cases_eq, ne_eqb}
use Rattle.std.proofs.lemmas.List.{drop-drop, drop_at}
use Rattle.std.proofs.lemmas.Str.{IsUtf8-append, IsUtf8-encode, IsUtf8-nil, inside_one, length-encode, len_utf8_ascii, len_utf8_bounds, encode_ascii}
use Rattle.std.proofs.Math.Utf8.{encode, encodes, scalar, scalars}
use Rattle.gr_text.specs.Strings.{string_from, with_byte}
use Rattle.gr_text.proofs.Quoted.{IsPlain, behind, behind-nil, string_from-plain, with_byte-behind}

-- no byte is a mark
abbrev ArePlain : List ℕ → Type 0
ArePlain [] = Unit {0}
ArePlain (c ∷ cs) = IsPlain c × ArePlain cs

ArePlain-each : (bytes : List ℕ) → ((k : ℕ) → k < length bytes → get_or bytes k 0 ≢ 34) → ((k : ℕ) → k < length bytes → get_or bytes k 0 ≢ 92) → ArePlain bytes
ArePlain-each [] quotes backslashes = tt
ArePlain-each (c ∷ cs) quotes backslashes = (
  record { quote = ne_eqb c 34 (quotes 0 (omega arith)); backslash = ne_eqb c 92 (backslashes 0 (omega arith)) },
  ArePlain-each cs (λ k within. quotes (suc k) (omega arith)) (λ k within. backslashes (suc k) (omega arith)),
)

-- bytes that are no marks stand for themselves
string_from-append : (bytes rest : List ℕ) → ArePlain bytes → string_from (bytes ++ rest) ≡ behind bytes (length bytes) (string_from rest)
string_from-append [] rest plain = sym (behind-nil (string_from rest))
string_from-append (c ∷ cs) rest plain =
    let further : string_from (c ∷ (cs ++ rest)) ≡ behind (c ∷ cs) (1 + length cs) (string_from rest) =
    string_from-plain (cs ++ rest) plain.0 ∙ ap (with_byte c 1) (string_from-append cs rest plain.1) ∙ with_byte-behind c 1 (length cs) cs (string_from rest) in
    rw one-add at further

-- a byte of ASCII within a character is that character
inside : (c k b : ℕ) → k < length (encode c) → get_or (encode c) k 0 ≡ b → b < 128 → c ≡ b
inside c k b within same ascii = inside_one c [] (encode c) k (sym (append-nil (encode c))) within (subst (λ n. n < 128) (sym same) ascii) ∙ same

ArePlain-encode : (c : ℕ) → c ≢ 34 → c ≢ 92 → ArePlain (encode c)
ArePlain-encode c quote backslash = ArePlain-each (encode c)
    (λ k within same. quote (inside c k 34 within same (omega arith)))
    (λ k within same. backslash (inside c k 92 within same (omega arith)))

-- the first byte of a character, and the further ones, which are no marks
record Parts (c : ℕ) : Type 0 where
  first : ℕ
  others : List ℕ
  whole : encode c ≡ first ∷ others
  plain : ArePlain others

parts : (c : ℕ) → Parts c
parts c = by (encode c) refl
  where
    alone : (b : ℕ) → c ≡ b → b < 128 → length (encode c) ≡ 1
    alone b same ascii = omega (arith, length-encode c, len_utf8_ascii c (omega arith))

    by : (bytes : List ℕ) → encode c ≡ bytes → Parts c
    by [] e = absurd (omega (arith, length-encode c, (len_utf8_bounds c).0, ap length e))
    by (first ∷ others) e =
        let not_mark : (b : ℕ) → b < 128 → (k : ℕ) → k < length others → get_or others k 0 ≢ b = λ b ascii k within same.
        let is : c ≡ b = inside c (suc k) b (omega (arith, ap length e)) (ap (λ bytes. get_or bytes (suc k) 0) e ∙ same) ascii in
        absurd (omega (arith, alone b is ascii, ap length e)) in
        record { first = first; others = others; whole = e; plain = ArePlain-each others (not_mark 34 (omega arith)) (not_mark 92 (omega arith)) }

-- the string and what stands behind it are texts
pub record ReadsText (bytes meant : List ℕ) (len : ℕ) : Type 0 where
  pub text : IsUtf8 meant
  pub rest : IsUtf8 (drop len bytes)

abbrev AreTexts : List ℕ → Option (List ℕ × ℕ) → Type 0
AreTexts bytes string = IfSome string (λ s. ReadsText bytes s.0 s.1)

AreTexts-behind : (front head rest : List ℕ) (read : ℕ) (string : Option (List ℕ × ℕ)) → IsUtf8 front → length head ≡ read → AreTexts rest string → AreTexts (head ++ rest) (behind front read string)
AreTexts-behind front head rest read None utf8 counted texts = tt
AreTexts-behind front head rest read (Some (text, len)) utf8 counted texts = record {
  text = IsUtf8-append front text utf8 texts.text;
  rest = rw (← drop-drop len read (head ++ rest), drop_at head rest read counted) texts.rest;
}

-- a character that is no mark
AreTexts-plain : (c : ℕ) (rest : List ℕ) → IsUtf8 (encode c) → c ≢ 34 → c ≢ 92 → AreTexts rest (string_from rest) → AreTexts (encode c ++ rest) (string_from (encode c ++ rest))
AreTexts-plain c rest utf8 quote backslash texts =
    rw (string_from-append (encode c) rest (ArePlain-encode c quote backslash)) (AreTexts-behind (encode c) (encode c) rest (length (encode c)) (string_from rest) utf8 refl texts)

-- an escaped character
AreTexts-escaped : (c : ℕ) (rest : List ℕ) → IsUtf8 (encode c) → AreTexts rest (string_from rest) → AreTexts (92 ∷ (encode c ++ rest)) (string_from (92 ∷ (encode c ++ rest)))
AreTexts-escaped c rest utf8 texts =
    let p = parts c in
    let read : string_from (92 ∷ (encode c ++ rest)) ≡ behind (encode c) (2 + length p.others) (string_from rest) =
    rw p.whole (ap (with_byte p.first 2) (string_from-append p.others rest p.plain) ∙ with_byte-behind p.first 2 (length p.others) p.others (string_from rest)) in
    let counted : length (92 ∷ encode c) ≡ 2 + length p.others = omega (arith, ap length p.whole) in
    rw read (AreTexts-behind (encode c) (92 ∷ encode c) rest (2 + length p.others) (string_from rest) utf8 counted texts)

-- a quote
AreTexts-quote : (rest : List ℕ) → IsUtf8 rest → AreTexts (34 ∷ rest) (string_from (34 ∷ rest))
AreTexts-quote [] utf8 = record { text = IsUtf8-nil; rest = utf8 }
AreTexts-quote (c ∷ cs) utf8 = record { text = IsUtf8-nil; rest = utf8 }

-- whether a character is a mark, and which
data Mark (c : ℕ) : Type 0 where
  quote : c ≡ 34 → Mark c
  backslash : c ≡ 92 → Mark c
  none : c ≢ 34 → c ≢ 92 → Mark c

mark : (c : ℕ) → Mark c
mark c = by (cases_eq c 34) (cases_eq c 92)
  where
    by : (c ≡ 34) ⊎ (c ≢ 34) → (c ≡ 92) ⊎ (c ≢ 92) → Mark c
    by (inl same) other = quote same
    by (inr differs) (inl same) = backslash same
    by (inr differs) (inr other) = none differs other

-- the first character and its string, given those of the characters behind it
step : (c : ℕ) (cs : List ℕ) → Mark c → scalar c ≡ true → scalars cs ≡ true → AreTexts (encodes cs) (string_from (encodes cs)) → AreTexts (92 ∷ encodes cs) (string_from (92 ∷ encodes cs)) → AreTexts (encode c ++ encodes cs) (string_from (encode c ++ encodes cs))
step c cs (quote same) valid others plain escaped = rw (same, encode_ascii 34 (omega arith)) (AreTexts-quote (encodes cs) (cs, (others, refl)))
step c cs (backslash same) valid others plain escaped = rw (same, encode_ascii 92 (omega arith)) escaped
step c cs (none differs other) valid others plain escaped = AreTexts-plain c (encodes cs) (IsUtf8-encode c valid) differs other plain

mutual
  texts : (cs : List ℕ) → scalars cs ≡ true → AreTexts (encodes cs) (string_from (encodes cs))
  texts [] valid = tt
  texts (c ∷ cs) valid = let e = and_parts (scalar c) (scalars cs) valid in step c cs (mark c) e.0 e.1 (texts cs e.1) (escaped cs e.1)

  escaped : (cs : List ℕ) → scalars cs ≡ true → AreTexts (92 ∷ encodes cs) (string_from (92 ∷ encodes cs))
  escaped [] valid = tt
  escaped (c ∷ cs) valid = let e = and_parts (scalar c) (scalars cs) valid in AreTexts-escaped c (encodes cs) (IsUtf8-encode c e.0) (texts cs e.1)

pub string_from-texts : (bytes : List ℕ) → IsUtf8 bytes → AreTexts bytes (string_from bytes)
string_from-texts bytes utf8 = subst (λ bytes. AreTexts bytes (string_from bytes)) utf8.1.1 (texts utf8.0 utf8.1.0)

-- the same of a string that was found
pub ReadsText-found : {bytes text : List ℕ} {len : ℕ} → Some (text, len) ≡ string_from bytes → IsUtf8 bytes → ReadsText bytes text len
ReadsText-found {bytes} {text} {len} found utf8 = subst (AreTexts bytes) (sym found) (string_from-texts bytes utf8)
