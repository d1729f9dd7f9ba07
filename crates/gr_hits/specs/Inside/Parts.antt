-- A list of hits around an id.
use Rattle.std.specs.Prelude.{ℕ, ◌≡◌, ◌<◌, ◌==◌, if◌then◌else◌, List, ◌∷◌, ◌++◌}
use Rattle.std.specs.List.{AllByRecursion}
use Rattle.gr_base.specs.declared.numbers.RecordId.{RecordId}
use Rattle.gr_hits.specs.Hits.{Hit, AreHits}

-- these hits, and before them the one of a record, if it has a score
abbrev pub kept : RecordId → ℕ → List Hit → List Hit
kept id score hits = if score == 0 then hits else (id, score) ∷ hits

-- all of these hits have ids below this one
abbrev pub AreBelow : RecordId → List Hit → Type 0
AreBelow id hits = AllByRecursion (λ hit. hit.0.0 < id.0) hits

-- all of these hits have ids above this one
abbrev pub AreAbove : RecordId → List Hit → Type 0
AreAbove id hits = AllByRecursion (λ hit. id.0 < hit.0.0) hits

-- what a list of hits has below an id, at it, and above it
pub record AreParts (hits : List Hit) (id : RecordId) (front : List Hit) (score : ℕ) (rest : List Hit) : Type 0 where
  pub whole : hits ≡ front ++ kept id score rest
  pub below : AreBelow id front
  pub above : AreAbove id rest
  pub sound : AreHits rest
