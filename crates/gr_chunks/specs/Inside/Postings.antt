-- Postings of one term in bytes: of each the difference of its record from the one before, that of its place from the least place, and its positions.
use Rattle.std.specs.Prelude.{ℕ, zero, suc, ◌+◌, ◌<◌, ◌^◌, List, [], ◌∷◌}
use Rattle.std.specs.List.{AllByRecursion}
use Rattle.gr_base.specs.declared.numbers.RecordId.{RecordId}
use Rattle.gr_postings.specs.Numbers.{number_at, after_number, positions_at, after_positions}
use Rattle.gr_postings.specs.Positions.{AreValid}
use Rattle.gr_postings.specs.declared.posting.Posting.{Posting}

-- the posting at the front of the bytes, after one of this record
abbrev pub posting_after : RecordId → ℕ → ℕ → List ℕ → Posting
posting_after term least before bytes =
    record { term = term; id = record { 0 = before + number_at bytes }; place = least + number_at (after_number bytes); positions = positions_at (after_number (after_number bytes)) }

-- the bytes after that posting
abbrev pub after_posting : List ℕ → List ℕ
after_posting bytes = after_positions (after_number (after_number bytes))

-- so many postings at the front of the bytes, after one of this record
abbrev pub postings_after : RecordId → ℕ → ℕ → ℕ → List ℕ → List Posting
postings_after term least before zero bytes = []
postings_after term least before (suc n) bytes =
    posting_after term least before bytes ∷ postings_after term least (before + number_at bytes) n (after_posting bytes)

-- a posting's numbers are those of their types, and its positions rise
pub record IsSound (p : Posting) : Type 0 where
  pub id : p.id.0 < 2 ^ 32
  pub place : p.place < 2 ^ 64
  pub positions : AreValid p.positions

-- each posting is sound
abbrev pub AreSound : List Posting → Type 0
AreSound = AllByRecursion IsSound
