-- Hits that are counted.
use Rattle.std.specs.Prelude.{◌≡◌, ◌≤◌, ◌==◌, ◌&&◌, Bool, if◌then◌else◌, List}
use Rattle.std.specs.List.{AllByRecursion}
use Rattle.gr_base.specs.declared.numbers.RecordId.{RecordId}
use Rattle.gr_hits.specs.Hits.{Hit, score_of, sum}

-- no hit is after this record
abbrev pub AreUpTo : RecordId → List Hit → Type 0
AreUpTo id hits = AllByRecursion (λ hit. hit.0.0 ≤ id.0) hits

-- this record's score is one more, if this is one more, and each other one's is as before
abbrev pub Counts : RecordId → Bool → List Hit → List Hit → Type 0
Counts id more old new = (other : RecordId) → score_of new other ≡ (if more && other.0 == id.0 then sum (score_of old other) 1 else score_of old other)
