use Rattle.std.proofs.Common.{◌≡◌, ◌++◌, map, drop}
use Rattle.gr_postings.specs.Postings.{posting_of}
use Rattle.gr_chunks.specs.Segments.{living}
use Rattle.gr_chunks.specs.Inside.Runs.{postings_in}
use Rattle.gr_chunks.proofs.segment.push_runs.Given as goal

abbrev pub invariant-loop-run : goal.invariant-loop-run
invariant-loop-run g l = map posting_of l.views.items ++ living (g.A.Alive.lives l.alive) (postings_in l.least (drop l.run-index l.runs) l.bytes) ≡ map posting_of l.fn.views.items ++ living (g.A.Alive.lives l.alive) (postings_in l.least l.runs l.bytes)
