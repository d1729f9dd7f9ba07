use Rattle.std.proofs.Common.{arith}
use Rattle.gr_schema.proofs.NamesLemmas.{numbered_empty}
use Rattle.gr_schema.proofs.table.Table.new.Goals as goal

pub invariant_of-result : goal.invariant_of-result
invariant_of-result c = rw (c.requires, c.new.ensures) (numbered_empty (λ column. column.name), omega arith)
