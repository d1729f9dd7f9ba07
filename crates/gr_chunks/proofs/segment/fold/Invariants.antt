use Rattle.std.proofs.Common.{◌≡◌, ◌++◌, map, drop}
use Rattle.gr_postings.specs.Postings.{posting_of}
use Rattle.gr_chunks.specs.Segments.{all_of, living}
use Rattle.gr_chunks.proofs.segment.fold.Given as goal

abbrev pub invariant-loop-segment : goal.invariant-loop-segment
invariant-loop-segment g l = map posting_of l.views.items ++ living (g.A.Alive.lives l.alive) (all_of (drop l.segment-index l.segments)) ≡ living (g.A.Alive.lives l.alive) (all_of l.segments)
