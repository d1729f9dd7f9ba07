-- How an index keeps its segments: their spans in one list, and what they hold in another.
use Rattle.std.specs.Prelude.{ℕ, Bool, true, false, nat_lt, List, [], ◌∷◌}
use Rattle.gr_chunks.specs.Segments.{postings_of}
use Rattle.gr_chunks.specs.declared.segment.Segment.{Segment}
use Rattle.gr_postings.specs.declared.posting.Posting.{Posting}
use Rattle.gr_index.specs.declared.parts.Span.{Span}
use Rattle.gr_index.specs.Levels.{Part}

-- what a segment holds: whether it is a chunk, and its postings
pub record Held : Type 0 where
  pub is_chunk : Bool
  pub postings : List Posting

-- whether a segment is a chunk
abbrev pub is_chunk_of : Segment → Bool
is_chunk_of (Segment.Buffer buffer) = false
is_chunk_of (Segment.Chunk chunk) = true

abbrev pub held_of : Segment → Held
held_of segment = record { is_chunk = is_chunk_of segment; postings = postings_of segment }

-- a span and what its segment holds
abbrev pub part_of : Span → Held → Part
part_of span held = record { level = span.level; from = span.from; to = span.to; is_chunk = held.is_chunk; postings = held.postings }

-- the span of a part
abbrev pub span_of : Part → Span
span_of p = record { level = p.level; from = p.from; to = p.to }

-- each span with what its segment holds
abbrev pub parts_of : List Span → List Held → List Part
parts_of [] hs = []
parts_of (s ∷ ss) [] = []
parts_of (s ∷ ss) (h ∷ hs) = part_of s h ∷ parts_of ss hs

-- whether a segment is of a higher level
abbrev pub is_above : ℕ → Part → Bool
is_above level p = nat_lt level p.level
