use Rattle.std.proofs.Common.{◌≡◌, ◌++◌, map, length}
use Rattle.gr_postings.specs.Postings.{posting_of}
use Rattle.gr_chunks.specs.Segments.{living}
use Rattle.gr_chunks.proofs.segment.push_walk.Given as goal

abbrev pub invariant-loop-view : goal.invariant-loop-view
invariant-loop-view g l = map posting_of l.views.items ++ living (g.A.Alive.lives l.alive) l.walk ≡ map posting_of l.fn.views.items ++ living (g.A.Alive.lives l.alive) l.fn.walk

abbrev pub decreases-loop-view : goal.decreases-loop-view
decreases-loop-view g l = length l.walk
