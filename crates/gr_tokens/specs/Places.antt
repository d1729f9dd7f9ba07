-- How often a phrase stands in a text.
use Rattle.std.specs.Prelude.{ℕ, ◌+◌, Bool, List, [], ◌∷◌, nat_eq, if◌then◌else◌}
use Rattle.std.specs.List.{starts_with}
use Rattle.std.specs.Str.{bytes_eq, chars}
use Rattle.gr_tokens.specs.declared.phrase.How.{How}
use Rattle.gr_tokens.specs.declared.phrase.How.TheVariants.{Chars, Words}
use Rattle.gr_tokens.specs.Tokens.{words}

-- at how many places of a list the elements of a phrase stand one after the other; a phrase without elements has none
unfoldable pub places : {X : Type 0} → (X → X → Bool) → List X → List X → ℕ
places same [] phrase = 0
places same (x ∷ xs) [] = 0
places same (x ∷ xs) (first ∷ others) =
    (if starts_with same (x ∷ xs) (first ∷ others) then 1 else 0) + places same xs (first ∷ others)

-- how often the characters, or the words, of a phrase stand in a text, overlapping ones included
abbrev pub occurrences : How → List ℕ → List ℕ → ℕ
occurrences Chars text phrase = places nat_eq (chars text) (chars phrase)
occurrences Words text phrase = places bytes_eq (words text) (words phrase)
