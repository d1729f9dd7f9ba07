-- What is left to do leads from here to where all of it does.
use Rattle.std.proofs.Common.{◌≡◌, ◌++◌, drop}
use Rattle.gr_base.specs.Failure.{result_map}
use Rattle.gr_bind.specs.Columns.{columns_typed}
use Rattle.gr_bind.proofs.column.columns_typed.Given as goal

abbrev pub invariant-loop-of : goal.invariant-loop-of
invariant-loop-of l =
    columns_typed l.schema l.table l.columns ≡ result_map (λ others. l.all ++ others) (columns_typed l.schema l.table (drop l.of-index l.columns))
