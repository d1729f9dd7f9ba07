-- Bytes that leave the count of brackets as it is.
use Rattle.std.proofs.Common.{◌≡◌, ◌==◌, ◌||◌, ◌+◌, ◌-◌, ℕ, Bool, false, cond, List, [], ◌∷◌, fold, nat_le, refl, ap, ◌∙◌}
use Rattle.std.proofs.lemmas.Bool.{or_parts}
use Rattle.std.proofs.lemmas.List.Elements.{All-head, All-tail}
use Rattle.memchr.specs.Find.{is_byte2, is_byte3}
use Rattle.gr_cmdline.proofs.Found.{IsClear}
use Rattle.gr_cmdline.specs.Inside.Brackets.{after_byte, after_data, after_in_string, at_depth}
use Rattle.gr_cmdline.specs.declared.brackets.Brackets.{Brackets}
use Rattle.gr_cmdline.specs.declared.brackets.Inside.TheVariants.{Backslash, Closed, Data, InString}

-- bytes that leave a count as it is one by one leave it together
still : (count : Brackets) (test : ℕ → Bool) (bytes : List ℕ) → ((c : ℕ) → test c ≡ false → after_byte count c ≡ count) → IsClear test bytes → fold after_byte count bytes ≡ count
still count test [] keeps clear = refl
still count test (c ∷ cs) keeps clear =
    ap (λ (next : Brackets). fold after_byte next cs) (keeps c (All-head (λ c. test c ≡ false) c cs clear))
    ∙ still count test cs keeps (All-tail (λ c. test c ≡ false) c cs clear)

-- outside strings only brackets and quotes count
pub still-data : (depth : ℕ) (bytes : List ℕ) → IsClear (is_byte3 91 93 34) bytes → fold after_byte (at_depth depth Data) bytes ≡ at_depth depth Data
still-data depth bytes clear = still (at_depth depth Data) (is_byte3 91 93 34) bytes keeps clear
  where
    keeps : (c : ℕ) → is_byte3 91 93 34 c ≡ false → after_data depth c ≡ at_depth depth Data
    keeps c other =
        let quote = or_parts (c == 91 || c == 93) (c == 34) other in
        let brackets = or_parts (c == 91) (c == 93) quote.0 in
        ap (λ (b : Bool). cond b (at_depth (depth + 1) Data) (cond (c == 93) (at_depth (depth - 1) (cond (nat_le depth 1) Closed Data)) (at_depth depth (cond (c == 34) InString Data)))) brackets.0
        ∙ ap (λ (b : Bool). cond b (at_depth (depth - 1) (cond (nat_le depth 1) Closed Data)) (at_depth depth (cond (c == 34) InString Data))) brackets.1
        ∙ ap (λ (b : Bool). at_depth depth (cond b InString Data)) quote.1

-- in a string only quotes and backslashes count
pub still-in_string : (depth : ℕ) (bytes : List ℕ) → IsClear (is_byte2 34 92) bytes → fold after_byte (at_depth depth InString) bytes ≡ at_depth depth InString
still-in_string depth bytes clear = still (at_depth depth InString) (is_byte2 34 92) bytes keeps clear
  where
    keeps : (c : ℕ) → is_byte2 34 92 c ≡ false → after_in_string depth c ≡ at_depth depth InString
    keeps c other =
        let both = or_parts (c == 34) (c == 92) other in
        ap (λ (b : Bool). at_depth depth (cond b Data (cond (c == 92) Backslash InString))) both.0
        ∙ ap (λ (b : Bool). at_depth depth (cond b Backslash InString)) both.1

-- behind the closing bracket nothing counts
pub still-closed : (depth : ℕ) (bytes : List ℕ) → fold after_byte (at_depth depth Closed) bytes ≡ at_depth depth Closed
still-closed depth [] = refl
still-closed depth (c ∷ cs) = still-closed depth cs
