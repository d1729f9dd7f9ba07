use Rattle.std.proofs.Common.{map, take, drop}
use Rattle.gr_postings.specs.Postings.{posting_of}
use Rattle.gr_chunks.proofs.RunLemmas.{Pushed}
use Rattle.gr_chunks.proofs.coding.push_run.Given as goal

abbrev pub invariant-loop-view : goal.invariant-loop-view
invariant-loop-view l = Pushed l.fn.term l.least l.fn.bytes.items l.bytes.items (map posting_of (take l.view-index l.views)) (map posting_of (drop l.view-index l.views)) l.before
