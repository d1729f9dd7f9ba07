use Rattle.std.proofs.Common.{map, take, drop, ◌-◌, length}
use Rattle.gr_postings.specs.Postings.{posting_of}
use Rattle.gr_chunks.proofs.RunLemmas.{Built}
use Rattle.gr_chunks.proofs.coding.chunk_in_order.Given as goal

abbrev pub invariant-loop-at : goal.invariant-loop-at
invariant-loop-at l = Built l.least l.runs.items l.bytes.items (map posting_of (take l.at l.views)) (map posting_of (drop l.at l.views))

abbrev pub decreases-loop-at : goal.decreases-loop-at
decreases-loop-at l = length l.views - l.at
