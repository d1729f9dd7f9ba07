use Rattle.std.proofs.Common.{◌≡◌, length}
use Rattle.gr_index.specs.Inside.Walks.{left_of}
use Rattle.gr_index.proofs.cursor.Left.next.Given as goal

abbrev pub invariant-loop-view : goal.invariant-loop-view
invariant-loop-view l = (left_of l.self ≡ left_of l.fn.self) × (l.steps ≡ l.fn.steps)

abbrev pub decreases-loop-view : goal.decreases-loop-view
decreases-loop-view l = length l.self.segments.now
