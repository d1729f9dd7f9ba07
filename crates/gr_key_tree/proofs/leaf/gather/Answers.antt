use Rattle.std.proofs.Common.{arith}
use Rattle.std.proofs.lemmas.Grind.{common_steps}
use Rattle.gr_key_tree.proofs.Exact.{numbers_kept, numbers_dropped, numbers_nil}
use Rattle.gr_key_tree.proofs.leaf.gather.Goals as goal

pub loop-item-init : goal.loop-item-init
loop-item-init g c = grind (arith, common_steps, numbers_nil)

pub loop-item-preserved : goal.loop-item-preserved
loop-item-preserved g c = grind (arith, common_steps, numbers_kept, numbers_dropped)
