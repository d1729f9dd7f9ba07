use Rattle.gr_key_tree.proofs.Exact.{nil_rising}
use Rattle.gr_key_tree.proofs.plain.PlainKeys.new.Goals as goal

pub invariant_of-result : goal.invariant_of-result
invariant_of-result c = rw c.new-entries.ensures.items (nil_rising (λ key. 0))
