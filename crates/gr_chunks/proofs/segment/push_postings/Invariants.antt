use Rattle.std.proofs.Common.{◌≡◌, ◌++◌, map, drop}
use Rattle.gr_postings.specs.Postings.{posting_of}
use Rattle.gr_chunks.specs.Segments.{living}
use Rattle.gr_chunks.proofs.segment.push_postings.Given as goal

abbrev pub invariant-loop-posting : goal.invariant-loop-posting
invariant-loop-posting g l = map posting_of l.views.items ++ living (g.A.Alive.lives l.alive) (drop l.posting-index l.postings) ≡ map posting_of l.fn.views.items ++ living (g.A.Alive.lives l.alive) l.postings
