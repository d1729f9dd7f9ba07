use Rattle.std.proofs.Common.{◌≤◌, map, take}
use Rattle.std.specs.List.{AllByRecursion}
use Rattle.gr_postings.specs.Postings.{posting_of}
use Rattle.gr_chunks.proofs.coding.least_place.Given as goal

abbrev pub invariant-loop-view : goal.invariant-loop-view
invariant-loop-view l = AllByRecursion (λ p. l.least ≤ p.place) (map posting_of (take l.view-index l.views))
