-- What segments hold, and what of it a fold keeps.
use Rattle.std.specs.Prelude.{ℕ, Bool, List}
use Rattle.std.specs.Arc.{arc_value}
use Rattle.std.specs.List.{filter, flat_map}
use Rattle.gr_base.specs.declared.numbers.RecordId.{RecordId}
use Rattle.gr_postings.specs.declared.posting.Posting.{Posting}
use Rattle.gr_chunks.specs.declared.segment.Segment.{Segment}

-- the postings of a segment
abbrev pub postings_of : Segment → List Posting
postings_of (Segment.Buffer buffer) = arc_value buffer
postings_of (Segment.Chunk chunk) = arc_value chunk

-- the postings of all segments
abbrev pub all_of : List Segment → List Posting
all_of = flat_map postings_of

-- those postings that are alive
abbrev pub living : (RecordId → ℕ → Bool) → List Posting → List Posting
living lives = filter (λ p. lives p.id p.place)
