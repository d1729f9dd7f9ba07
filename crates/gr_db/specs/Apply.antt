-- What an entry does to a database, and why one may be refused.
use Rattle.std.specs.Prelude.{ℕ, ◌==◌, nat_lt, ◌&&◌, Bool, false, true, if◌then◌else◌, Option, Some, None, is_some, unwrap_or, List, [], ◌∷◌, ◌++◌, length, map, filter, fold}
use Rattle.std.specs.Option.{option_and_then, option_map, option_map_or, option_or}
use Rattle.gr_base.specs.Fault.{fault_named}
use Rattle.gr_base.specs.declared.fault.Fault.{Fault}
use Rattle.gr_base.specs.declared.fault.FaultKind.TheVariants.{JournalFull, NoSuchRecord, TableFull}
use Rattle.gr_base.specs.declared.numbers.Limits.{Limits}
use Rattle.gr_base.specs.declared.numbers.RecordId.{RecordId}
use Rattle.gr_base.specs.declared.numbers.TableNo.{TableNo}
use Rattle.gr_db.specs.Db.{Db, changed_in, changed_table, empty, role_shape, with_cell, with_column_of, without}
use Rattle.gr_db.specs.Wants.{Setting, all_added, all_wanted, column_target, first_full, given_in, new_index_wants, put_wants, record_wants, token_wants}
use Rattle.gr_db.specs.declared.entry.Change.{Change}
use Rattle.gr_db.specs.declared.entry.Change.TheVariants.{CreateTable, CreateColumn, Put, Delete, DeleteIf, Merge}
use Rattle.gr_db.specs.declared.entry.Entry.{Entry}
use Rattle.gr_db.specs.declared.entry.Which.{Which}
use Rattle.gr_db.specs.declared.entry.Which.TheVariants.{Id, Key as ByKey}
use Rattle.gr_db.specs.declared.want.Want.{Want}
use Rattle.gr_expr.specs.Score.{score_of}
use Rattle.gr_expr.specs.Tables.{id_in, record_at, record_id, records_of}
use Rattle.gr_expr.specs.declared.typed.Expr.{Expr}
use Rattle.gr_schema.specs.Schema.{changed_at, column_count, column_no, table_at, with_column, with_table}
use Rattle.gr_schema.specs.Wishes.{column_fault, column_of, table_fault, table_of}
use Rattle.gr_schema.specs.declared.definition.ColumnDef.{ColumnDef}
use Rattle.gr_values.specs.Defaults.{default_of}
use Rattle.gr_values.specs.declared.value.Cell.{Cell}
use Rattle.gr_values.specs.declared.value.Given.{Given}
use Rattle.gr_values.specs.declared.value.Key.{Key}

-- Puts

-- the id of the record of a key, and 0 where there is none
abbrev pub id_of_key : Db → Option TableNo → Key → RecordId
id_of_key db to key = unwrap_or (option_and_then (λ table. id_in (records_of db.tables table) key) to) (record_id 0)

-- a value as it is kept: references to this table are kept by ids
abbrev pub kept : Db → Option TableNo → Given → Cell
kept db to (Given.Bool truth) = Cell.Bool truth
kept db to (Given.Int number) = Cell.Int number
kept db to (Given.Text text) = Cell.Text text
kept db to (Given.Ref None) = Cell.Ref (record_id 0)
kept db to (Given.Ref (Some key)) = Cell.Ref (id_of_key db to key)
kept db to (Given.RefList keys) = Cell.RefList (map (id_of_key db to) keys)
kept db to (Given.IntList numbers) = Cell.IntList numbers
kept db to (Given.TextList texts) = Cell.TextList texts

-- the database with one cell of a record set
abbrev pub with_setting : TableNo → RecordId → Db → Setting → Db
with_setting table id db setting =
    changed_table table (changed_in id.0 (with_cell setting.0 (kept db (column_target db.schema table setting.0) setting.1))) db

-- the record that a put is about, once it is there: the one of its key, or the one added last
abbrev pub own_id : Db → TableNo → Option Key → RecordId
own_id db table None = record_id (given_in db table)
own_id db table (Some key) = id_of_key db (Some table) key

-- the database after a put: its record and those that it refers to are found or added, its cells are set, and tokens are added to lexicons
abbrev pub put : Db → TableNo → Option Key → List Setting → Db
put db table key settings =
    let records = record_wants db.schema table key settings in
    let found = all_wanted db records in
    let set = fold (with_setting table (own_id found table key)) found settings in
    all_wanted set (token_wants db.schema table settings (all_added db records))

-- Creations

-- the database with one more column, which goes last and holds the default in each record
abbrev pub with_blank_column : Db → TableNo → ColumnDef → Db
with_blank_column db table column =
    let schema = with_column db.schema table column in
    record { schema = schema; tables = changed_at table.0 (with_column_of (option_map default_of (role_shape schema column.role))) db.tables }

-- what a new column wants, once it is there: an index on a lexicon wants the tokens of the records of its target
abbrev pub column_wants : Db → Db → TableNo → ColumnDef → List Want
column_wants before db table column = new_index_wants db (table, column_no (column_count before.schema table)) column.role

-- the database after a column was made
abbrev pub column_made : Db → TableNo → ColumnDef → Db
column_made db table column =
    let grown = with_blank_column db table column in
    all_wanted grown (column_wants db grown table column)

-- Deletions

-- the record that is to be deleted, where it is there
abbrev pub id_which : Db → TableNo → Which → Option RecordId
id_which db table (Id id) = if is_some (record_at db.tables table id) then Some id else None
id_which db table (ByKey key) = id_in (records_of db.tables table) key

-- the record, where it is there and a condition finds it
abbrev pub id_if : Db → TableNo → RecordId → Expr → Option RecordId
id_if db table id condition = if is_some (record_at db.tables table id) && nat_lt 0 (score_of db.tables id condition) then Some id else None

-- the database without a record, where there is one to remove
abbrev pub removed : TableNo → Option RecordId → Db → Db
removed table found db = option_map_or (λ id. changed_table table (without id.0) db) found db

-- All changes

-- the database after a change; a merge changes nothing
abbrev pub apply : Db → Change → Db
apply db (CreateTable wish) = record { schema = with_table db.schema (table_of wish); tables = db.tables ++ [] ∷ [] }
apply db (CreateColumn wish) = option_map_or (λ made. column_made db made.0 made.1) (column_of db.schema wish) db
apply db (Put table key settings) = put db table key settings
apply db (Delete table by) = removed table (id_which db table by) db
apply db (DeleteIf table id condition) = removed table (id_if db table id condition) db
apply db (Merge table column from to) = db

-- the database that a journal's entries make, from the one without tables
abbrev pub replay : List Entry → Db
replay journal = fold (λ db entry. apply db entry.change) empty journal

-- Faults

-- the fault that a table is full, by its name
abbrev pub full_fault : Limits → Db → List Want → Option Fault
full_fault limits db wants =
    option_map
    (λ table. fault_named TableFull (option_map_or (λ def. def.name) (table_at db.schema table) []))
    (first_full limits.records db wants)

-- the fault of a deletion whose record is not there
abbrev pub missing_fault : Option RecordId → Option Fault
missing_fault None = Some (fault_named NoSuchRecord [])
missing_fault (Some id) = None

-- the fault of a new index whose tokens a lexicon has no room for
abbrev pub index_fault : Limits → Db → TableNo → ColumnDef → Option Fault
index_fault limits db table column =
    let grown = with_blank_column db table column in
    full_fault limits grown (column_wants db grown table column)

-- the first fault of a change at a database, or none
abbrev pub change_fault : Limits → Db → Change → Option Fault
change_fault limits db (CreateTable wish) = table_fault db.schema wish
change_fault limits db (CreateColumn wish) =
    option_or (column_fault db.schema wish) (option_and_then (λ made. index_fault limits db made.0 made.1) (column_of db.schema wish))
change_fault limits db (Put table key settings) = full_fault limits db (put_wants db table key settings)
change_fault limits db (Delete table by) = missing_fault (id_which db table by)
change_fault limits db (DeleteIf table id condition) = None
change_fault limits db (Merge table column from to) = None

-- whether a change counts towards the limit of a journal: a merge does not
abbrev pub counts : Change → Bool
counts (CreateTable wish) = true
counts (CreateColumn wish) = true
counts (Put table key settings) = true
counts (Delete table by) = true
counts (DeleteIf table id condition) = true
counts (Merge table column from to) = false

-- how many entries of a journal count
abbrev pub counted : List Entry → ℕ
counted journal = length (filter (λ entry. counts entry.change) journal)

-- a journal of as many entries as may be takes no more
abbrev pub journal_fault : Limits → List Entry → Option Fault
journal_fault limits journal = if counted journal == limits.journal then Some (fault_named JournalFull []) else None

-- the first fault of a change after a journal, or none; that the journal is full comes last
abbrev pub fault_of : Limits → List Entry → Change → Option Fault
fault_of limits journal change = option_or (change_fault limits (replay journal) change) (journal_fault limits journal)
