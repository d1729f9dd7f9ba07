use Rattle.std.proofs.Common.{◌≡◌, map, take}
use Rattle.gr_postings.specs.Postings.{posting_of}
use Rattle.gr_chunks.proofs.chunk.lent.Given as goal

abbrev pub invariant-loop-posting : goal.invariant-loop-posting
invariant-loop-posting l = map posting_of l.views.items ≡ take l.posting-index l.postings
