-- How often a phrase stands in a text, by bytes, with a space or an end of the text on both its sides.
use Rattle.std.specs.Prelude.{ℕ, zero, suc, ◌≡◌, ◌+◌, ◌<◌, ◌≤◌, Bool, true, false, ◌&&◌, List, [], ◌∷◌, length, drop, nat_eq, if◌then◌else◌}
use Rattle.std.specs.List.{starts_with}
use Rattle.gr_tokens.specs.Tokens.{is_space}

-- whether a space stands before the byte at a place; before the first byte it is told
unfoldable pub opens : Bool → List ℕ → ℕ → Bool
opens before bytes zero = before
opens before [] (suc k) = before
opens before (x ∷ xs) (suc k) = opens (is_space x) xs k

-- whether a text is at its end or goes on with a space
abbrev pub closes : List ℕ → Bool
closes [] = true
closes (x ∷ xs) = is_space x

-- at how many places of a text a phrase stands alone; whether a space stands before the text is told
unfoldable pub places_alone : Bool → List ℕ → List ℕ → ℕ
places_alone before [] phrase = 0
places_alone before (x ∷ xs) phrase =
    (if before && (starts_with nat_eq (x ∷ xs) phrase && closes (drop (length phrase) (x ∷ xs))) then 1 else 0) + places_alone (is_space x) xs phrase

-- the phrase stands at none of the bytes from a place on, up to another
abbrev pub NoneStands : List ℕ → List ℕ → ℕ → ℕ → Type 0
NoneStands text phrase low high = (q : ℕ) → low ≤ q → q < high → starts_with nat_eq (drop q text) phrase ≡ false

-- what is left of a text from the first place of a phrase on, from this one on
pub record IsNext (text phrase : List ℕ) (begin : ℕ) (next : List ℕ) : Type 0 where
  pub at : ℕ
  pub low : begin ≤ at
  pub high : at ≤ length text
  pub is : next ≡ drop at text
  pub none : NoneStands text phrase begin at
  pub stands : starts_with nat_eq next phrase ≡ true
