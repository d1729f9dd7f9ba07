-- What `select` shows of a table that is there.
use Rattle.std.specs.Prelude.{ℕ, ◌∷◌, [], ℤ, pos, Option, Result, Ok, List, length, map}
use Rattle.std.specs.Option.{ok_or, option_map_or}
use Rattle.gr_base.specs.Failure.{result_map, result_then}
use Rattle.gr_base.specs.Fault.{fault_named}
use Rattle.gr_base.specs.declared.fault.Fault.{Fault}
use Rattle.gr_base.specs.declared.fault.FaultKind.TheVariants.{BadNumber}
use Rattle.gr_base.specs.declared.limits.TheConstants.{SHOWN_ROWS}
use Rattle.gr_base.specs.declared.numbers.TableNo.{TableNo}
use Rattle.gr_cmdline.specs.Arguments.{value_of}
use Rattle.gr_cmdline.specs.Names.{param_name}
use Rattle.gr_cmdline.specs.declared.param.Param.{Param}
use Rattle.gr_cmdline.specs.declared.param.Param.TheVariants.{Drilldown as OfDrilldown, DrilldownLimit, DrilldownOffset, DrilldownOutputColumns, DrilldownSortKeys, Limit, Offset, OutputColumns, SortKeys}
use Rattle.gr_db.specs.Db.{Db}
use Rattle.gr_drill.specs.Block.{group_block}
use Rattle.gr_drill.specs.Drilldowns.{drilldowns}
use Rattle.gr_drill.specs.declared.drilldown.Drilldown.{Drilldown}
use Rattle.gr_expr.specs.Tables.{Records}
use Rattle.gr_expr.specs.declared.typed.Expr.{Expr}
use Rattle.gr_plan.specs.Scan.{scan}
use Rattle.gr_print.specs.Block.{Hit, block, hits_within, window}
use Rattle.gr_print.specs.Columns.{columns}
use Rattle.gr_print.specs.declared.out_column.OutColumn.{OutColumn}
use Rattle.gr_schema.specs.Schema.{SchemaDef}
use Rattle.gr_schema.specs.Wishes.{Home}
use Rattle.gr_select.specs.Condition.{condition}
use Rattle.gr_select.specs.Numbers.{number_of}
use Rattle.gr_select.specs.declared.layout.GroupLayout.{GroupLayout}
use Rattle.gr_select.specs.declared.layout.Layout.{Layout}
use Rattle.gr_select.specs.declared.layout.RowLayout.{RowLayout}
use Rattle.gr_select.specs.declared.texts.Texts.{Texts}
use Rattle.gr_sort.specs.Keys.{order}
use Rattle.gr_sort.specs.Order.{ordered}
use Rattle.gr_sort.specs.declared.keys.SortKey.{SortKey}
use Rattle.gr_values.specs.Shown.{bracketed}
use Rattle.gr_values.specs.declared.data_type.DataType.TheVariants.{Int64}

-- a database of this schema and these records
abbrev pub db_of : SchemaDef → List Records → Db
db_of schema tables = record { schema = schema; tables = tables }

-- how many hits there are, and those of the window in the columns, in the order of the keys
abbrev pub rows_shown : Db → RowLayout → List Hit → List ℕ
rows_shown db layout hits =
    let found = length hits in
    block db.schema db.tables layout.columns found (hits_within (window found layout.offset layout.limit) (ordered db.tables layout.keys hits))

-- the groups of each drilldown, made of hits in their order
abbrev pub groups_shown : Db → GroupLayout → List Hit → List (List ℕ)
groups_shown db layout hits = map (λ drilldown. group_block db.schema db.tables drilldown layout.offset layout.limit hits) layout.drilldowns

-- hits as they are shown: the rows, and then the groups
abbrev pub body : Db → Layout → List Hit → List ℕ
body db layout hits = bracketed (rows_shown db layout.rows hits ∷ groups_shown db layout.groups (ordered db.tables layout.rows.keys hits))

-- a number that a parameter gives, or this one where none is given
abbrev pub number_or : ℤ → List (Param × List ℕ) → Param → Result ℤ Fault
number_or usual given param =
    option_map_or (λ text. ok_or (number_of Int64 text) (fault_named BadNumber (param_name param))) (value_of given param) (Ok usual)

-- the sort keys, where they are given
abbrev pub keys_given : SchemaDef → TableNo → Option (List ℕ) → Result (List SortKey) Fault
keys_given schema table text = option_map_or (order schema table) text (Ok [])

-- how rows are shown
abbrev pub rows_by : List SortKey → List OutColumn → ℤ → ℤ → RowLayout
rows_by keys columns offset limit = record { keys = keys; columns = columns; offset = offset; limit = limit }

-- how rows are to be shown, or the first fault: of the sort keys, the output columns, the offset and the limit
abbrev pub rows_given : SchemaDef → Home → List (Param × List ℕ) → Result RowLayout Fault
rows_given schema home given =
    result_then
    (λ keys. result_then
    (λ columns. result_then
    (λ offset. result_map (rows_by keys columns offset) (number_or (pos SHOWN_ROWS) given Limit))
    (number_or (pos 0) given Offset))
    (columns schema home.number home.def (value_of given OutputColumns)))
    (keys_given schema home.number (value_of given SortKeys))

-- how groups are shown
abbrev pub groups_by : List Drilldown → ℤ → ℤ → GroupLayout
groups_by drilldowns offset limit = record { drilldowns = drilldowns; offset = offset; limit = limit }

-- how the groups of these keys are to be shown, or the first fault: of each key and its columns and sort keys, then of the offset and the limit
abbrev pub groups_of_keys : SchemaDef → TableNo → List (Param × List ℕ) → List ℕ → Result GroupLayout Fault
groups_of_keys schema table given keys =
    result_then
    (λ drilldowns. result_then
    (λ offset. result_map (groups_by drilldowns offset) (number_or (pos SHOWN_ROWS) given DrilldownLimit))
    (number_or (pos 0) given DrilldownOffset))
    (drilldowns schema table keys (value_of given DrilldownOutputColumns) (value_of given DrilldownSortKeys))

-- how groups are to be shown, where a drilldown is given; else none are, and nothing more is looked at
abbrev pub groups_given : SchemaDef → TableNo → List (Param × List ℕ) → Result GroupLayout Fault
groups_given schema table given = option_map_or (groups_of_keys schema table given) (value_of given OfDrilldown) (Ok (groups_by [] (pos 0) (pos 0)))

-- how hits are shown
abbrev pub layout_by : RowLayout → GroupLayout → Layout
layout_by rows groups = record { rows = rows; groups = groups }

-- how hits are to be shown, or the first fault: of the rows, then of the groups
abbrev pub layout_given : SchemaDef → Home → List (Param × List ℕ) → Result Layout Fault
layout_given schema home given =
    result_then (λ rows. result_map (layout_by rows) (groups_given schema home.number given)) (rows_given schema home given)

-- the records that a condition finds, as they are shown
abbrev pub shown : Db → TableNo → Expr → Layout → List ℕ
shown db table condition layout = body db layout (scan db.tables table condition)

-- the records that the condition finds, as they are shown, or the first fault: of the condition, then of how they are to be shown
abbrev pub select : Db → Home → List (Param × List ℕ) → Texts → Result (List ℕ) Fault
select db home given texts =
    result_then (λ condition. result_map (shown db home.number condition) (layout_given db.schema home given)) (condition db.schema home.number texts)
