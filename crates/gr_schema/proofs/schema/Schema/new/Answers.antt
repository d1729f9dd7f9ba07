use Rattle.gr_schema.proofs.HeldLemmas.{held_empty}
use Rattle.gr_schema.proofs.schema.Schema.new.Goals as goal

pub invariant_of-result : goal.invariant_of-result
invariant_of-result c = rw (c.new.ensures, c.new-2.ensures) held_empty
