-- What can be shown: texts that are UTF-8.
use Rattle.std.specs.Prelude.{IfSome, IsUtf8, List, Option}
use Rattle.std.specs.List.{AllByRecursion}
use Rattle.gr_base.specs.declared.numbers.RecordId.{RecordId}
use Rattle.gr_base.specs.declared.numbers.TableNo.{TableNo}
use Rattle.gr_expr.specs.Tables.{Records}
use Rattle.gr_print.specs.Shown.{key_referred}
use Rattle.gr_print.specs.declared.out_column.OutColumn.{OutColumn}
use Rattle.gr_values.specs.Shown.{IsKeyText}
use Rattle.gr_values.specs.declared.value.Cell.{Cell}

-- the texts of a cell are UTF-8
abbrev pub IsLegible : Cell → Type 0
IsLegible (Cell.Bool truth) = Unit {0}
IsLegible (Cell.Int number) = Unit {0}
IsLegible (Cell.Text text) = IsUtf8 text
IsLegible (Cell.Ref id) = Unit {0}
IsLegible (Cell.RefList ids) = Unit {0}
IsLegible (Cell.IntList numbers) = Unit {0}
IsLegible (Cell.TextList texts) = AllByRecursion IsUtf8 texts

-- the keys of the table that is referred to are numbers or UTF-8
abbrev pub AreKeysLegible : List Records → Option TableNo → Type 0
AreKeysLegible tables to = (id : RecordId) → IfSome (key_referred tables to id) IsKeyText

-- a column's name is UTF-8
abbrev pub HasText : OutColumn → Type 0
HasText column = IsUtf8 column.name
