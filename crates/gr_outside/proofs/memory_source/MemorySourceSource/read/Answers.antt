use Rattle.std.proofs.Common.{◌≡◌, drop, true, false, arith}
use Rattle.std.proofs.Math.Seq.{drop-drop}
use Rattle.gr_outside.specs.Memory.{is_failing}
use Rattle.gr_outside.proofs.Reach.{moved_then_left, nothing_at_end, reach_after_failure, reach_after_given}
use Rattle.gr_outside.proofs.memory_source.MemorySourceSource.read.Goals as goal

pub returns-then-fails-clause-pairs : goal.returns-then-fails-clause-pairs
returns-then-fails-clause-pairs c bytes count after =
    let fails : is_failing c.self.inside.failing c.self.inside.call ≡ true = cc in
    rw (← c.self.view_is) (reach_after_failure _ bytes count fails (rw c.saturating_add-self-inside.ensures at after))

pub returns-clause-bytes : goal.returns-clause-bytes
returns-clause-bytes c =
    let left : c.rest.result.now ≡ drop c.self.inside.at c.self.inside.bytes = cc in
    rw (← c.self.view_is) (
      moved_then_left c.self.inside.bytes c.give-given.new.room c.self.inside.at c.give-given.result (rw left at c.give-given.ensures.moved),
      λ nothing has_room. nothing_at_end c.self.inside.bytes c.self.inside.at c.give-given.result _ c.self.inside.largest
          (rw left at c.give-given.ensures.amount) c.self.invariant.1 nothing (omega arith),
    )

pub returns-clause-pairs : goal.returns-clause-pairs
returns-clause-pairs c bytes count after =
    let goes : is_failing c.self.inside.failing c.self.inside.call ≡ false = cc in
    let left : c.rest.result.now ≡ drop c.self.inside.at c.self.inside.bytes = cc in
    let amount = rw left at c.give-given.ensures.amount in
    rw (← c.self.view_is) (reach_after_given _ c.give-given.result bytes count goes (omega arith) (omega arith)
    (rw (drop-drop, ← c.saturating_add-self-inside.ensures) after))
