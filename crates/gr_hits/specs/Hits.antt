-- Lists of hits, and what two of them make.
use Rattle.std.specs.Prelude.{ℕ, ◌≡◌, ◌+◌, ◌≤◌, ◌==◌, ◌||◌, min, find, if◌then◌else◌, List, map}
use Rattle.std.specs.List.{AllByRecursion}
use Rattle.std.specs.List.Sorted.{IsStrictlyIncreasing}
use Rattle.std.specs.Option.{option_map_or}
use Rattle.gr_base.specs.declared.limits.TheConstants.{MOST_SCORE}
use Rattle.gr_base.specs.declared.numbers.RecordId.{RecordId}

-- a record that was found, and its score
abbrev pub Hit : Type 0
Hit = RecordId × ℕ

-- a score of a hit
pub record IsScore (score : ℕ) : Type 0 where
  pub some : 1 ≤ score
  pub most : score ≤ MOST_SCORE

-- what always holds of a list of hits: the ids ascend, each once, and each hit has a score
pub record AreHits (hits : List Hit) : Type 0 where
  pub ascending : IsStrictlyIncreasing (map (λ hit. hit.0.0) hits)
  pub scores : AllByRecursion (λ hit. IsScore hit.1) hits

-- the score of a record; 0 where it was not found
abbrev pub score_of : List Hit → RecordId → ℕ
score_of hits id = option_map_or (λ hit. hit.1) (find (λ hit. hit.0.0 == id.0) hits) 0

-- two scores together; they stand still at the highest
abbrev pub sum : ℕ → ℕ → ℕ
sum left right = min (left + right) MOST_SCORE

-- the score where both were found
abbrev pub both_score : ℕ → ℕ → ℕ
both_score left right = if left == 0 || right == 0 then 0 else sum left right

-- the score where the right one was not found
abbrev pub without_score : ℕ → ℕ → ℕ
without_score left right = if right == 0 then left else 0

-- each record's score is made of its scores in two lists; a list of hits is known by the scores of all records
abbrev pub Scores : (ℕ → ℕ → ℕ) → List Hit → List Hit → List Hit → Type 0
Scores score left right made = (id : RecordId) → score_of made id ≡ score (score_of left id) (score_of right id)
