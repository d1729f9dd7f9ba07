use Rattle.std.proofs.Common.{◌≡◌, ◌++◌, Some, drop, length}
use Rattle.gr_print.specs.Columns.{data_columns, data_columns_from}
use Rattle.gr_print.specs.Inside.Named.{ArePrintable}
use Rattle.gr_schema.specs.Schema.{table_at}
use Rattle.gr_schema.specs.declared.definition.TableDef.{TableDef}
use Rattle.gr_print.proofs.data.data_columns.Given as goal

-- the data columns so far and those among the columns that are left are those of the table
abbrev pub invariant-loop-def : goal.invariant-loop-def
invariant-loop-def l = record {
  exact : l.made.items ++ data_columns_from l.schema l.table (length l.yielded) l.def-iterator ≡ data_columns l.schema l.table;
  left : (home : TableDef) → table_at l.schema l.table ≡ Some home → drop (length l.yielded) home.columns ≡ l.def-iterator;
  fit : ArePrintable l.schema l.made.items;
}
