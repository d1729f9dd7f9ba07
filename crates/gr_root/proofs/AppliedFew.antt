-- A journal makes no more tables, and no more columns in a table, than it has entries that count.
use Rattle.std.proofs.Common.{ℕ, zero, suc, ◌≡◌, ◌+◌, ◌≤◌, Bool, true, false, cond, Option, Some, None, List, [], ◌∷◌, ◌++◌, filter, fold, length, slice_get, refl, sym, ap, subst, ◌∙◌, arith, length-append}
use Rattle.std.specs.Option.{option_map_or}
use Rattle.gr_base.specs.declared.numbers.TableNo.{TableNo}
use Rattle.gr_db.specs.Apply.{apply, column_made, counted, counts, id_if, id_which, replay}
use Rattle.gr_db.specs.Db.{Db, changed_table, empty, without}
use Rattle.gr_db.specs.declared.entry.Change.{Change}
use Rattle.gr_db.specs.declared.entry.Change.TheVariants.{CreateTable, CreateColumn, Put, Delete, DeleteIf, Merge}
use Rattle.gr_db.specs.declared.entry.Entry.{Entry}
use Rattle.gr_schema.specs.Schema.{SchemaDef, changed_at, column_count, table_with, with_column, with_table}
use Rattle.gr_schema.specs.Wishes.{column_of, table_of}
use Rattle.gr_schema.specs.declared.definition.ColumnDef.{ColumnDef}
use Rattle.gr_schema.specs.declared.definition.TableDef.{TableDef}
use Rattle.gr_root.proofs.ChangeLemmas.{length-changed_at}
use Rattle.gr_db.proofs.Grows.{delete-schema, made-schema, put-schema}

-- what a change counts
abbrev weight : Change → ℕ
weight change = cond (counts change) 1 0

-- how many columns a table has that is there
abbrev width : Option TableDef → ℕ
width o = option_map_or (λ home. length home.columns) o 0

-- Tables

tables-with : (db : Db) (table : TableNo) (column : ColumnDef) → length (column_made db table column).schema.tables ≡ length db.schema.tables
tables-with db table column = ap (λ (schema : SchemaDef). length schema.tables) (made-schema db table column) ∙ length-changed_at (table_with column) table.0 db.schema.tables

tables-column : (db : Db) (o : Option (TableNo × ColumnDef)) → length (option_map_or (λ made. column_made db made.0 made.1) o db).schema.tables ≡ length db.schema.tables
tables-column db None = refl
tables-column db (Some made) = tables-with db made.0 made.1

apply-tables : (db : Db) (change : Change) → length (apply db change).schema.tables ≤ length db.schema.tables + weight change
apply-tables db (CreateTable wish) = omega (arith, length-append db.schema.tables (table_of wish ∷ []))
apply-tables db (CreateColumn wish) = omega (arith, tables-column db (column_of db.schema wish))
apply-tables db (Put table key settings) = omega (arith, ap (λ (schema : SchemaDef). length schema.tables) (put-schema db table key settings))
apply-tables db (Delete table by) = omega (arith, ap (λ (schema : SchemaDef). length schema.tables) (delete-schema db table (id_which db table by)))
apply-tables db (DeleteIf table id condition) = omega (arith, ap (λ (schema : SchemaDef). length schema.tables) (delete-schema db table (id_if db table id condition)))
apply-tables db (Merge table column from to) = omega arith

-- Columns

-- a table without columns has none
width-pushed : (tables : List TableDef) (def : TableDef) (n : ℕ) → length def.columns ≡ 0 → width (slice_get (tables ++ def ∷ []) n) ≡ width (slice_get tables n)
width-pushed [] def zero none = none
width-pushed [] def (suc n) none = refl
width-pushed (table ∷ tables) def zero none = refl
width-pushed (table ∷ tables) def (suc n) none = width-pushed tables def n none

width-changed : (column : ColumnDef) (k n : ℕ) (tables : List TableDef) → width (slice_get (changed_at k (table_with column) tables) n) ≤ width (slice_get tables n) + 1
width-changed column k n [] = omega arith
width-changed column zero zero (table ∷ tables) = omega (arith, length-append table.columns (column ∷ []))
width-changed column zero (suc n) (table ∷ tables) = omega arith
width-changed column (suc k) zero (table ∷ tables) = omega arith
width-changed column (suc k) (suc n) (table ∷ tables) = width-changed column k n tables

columns-with : (db : Db) (made : TableNo × ColumnDef) (table : TableNo) → column_count (column_made db made.0 made.1).schema table ≤ column_count db.schema table + 1
columns-with db made table =
    let same = ap (λ (schema : SchemaDef). column_count schema table) (made-schema db made.0 made.1) in
    omega (arith, same, width-changed made.1 made.0.0 table.0 db.schema.tables)

columns-column : (db : Db) (o : Option (TableNo × ColumnDef)) (table : TableNo) → column_count (option_map_or (λ made. column_made db made.0 made.1) o db).schema table ≤ column_count db.schema table + 1
columns-column db None table = omega arith
columns-column db (Some made) table = columns-with db made table

apply-columns : (db : Db) (change : Change) (table : TableNo) → column_count (apply db change).schema table ≤ column_count db.schema table + weight change
apply-columns db (CreateTable wish) table = omega (arith, width-pushed db.schema.tables (table_of wish) table.0 refl)
apply-columns db (CreateColumn wish) table = columns-column db (column_of db.schema wish) table
apply-columns db (Put home key settings) table = omega (arith, ap (λ (schema : SchemaDef). column_count schema table) (put-schema db home key settings))
apply-columns db (Delete home by) table = omega (arith, ap (λ (schema : SchemaDef). column_count schema table) (delete-schema db home (id_which db home by)))
apply-columns db (DeleteIf home id condition) table = omega (arith, ap (λ (schema : SchemaDef). column_count schema table) (delete-schema db home (id_if db home id condition)))
apply-columns db (Merge home column from to) table = omega arith

-- Journals

counted-first : (entry : Entry) (entries : List Entry) → counted (entry ∷ entries) ≡ weight entry.change + counted entries
counted-first entry entries =
    elim (counts entry.change) as (λ b. length (cond b (entry ∷ filter (λ (e : Entry). counts e.change) entries) (filter (λ (e : Entry). counts e.change) entries)) ≡ cond b 1 0 + counted entries) [
      | true ↦ omega arith
      | false ↦ omega arith
    ]

-- what each change lets grow by as much as it counts has grown by as much as the entries count
grown-by : (measure : Db → ℕ) → ((db : Db) (change : Change) → measure (apply db change) ≤ measure db + weight change)
    → (db : Db) (entries : List Entry) → measure (fold (λ (db : Db) (entry : Entry). apply db entry.change) db entries) ≤ measure db + counted entries
grown-by measure step db [] = omega arith
grown-by measure step db (entry ∷ entries) =
    let rest : measure (fold (λ (db : Db) (entry : Entry). apply db entry.change) (apply db entry.change) entries) ≤ measure (apply db entry.change) + counted entries = grown-by measure step (apply db entry.change) entries in
    let first : measure (apply db entry.change) ≤ measure db + weight entry.change = step db entry.change in
    let all : counted (entry ∷ entries) ≡ weight entry.change + counted entries = counted-first entry entries in
    omega (arith, rest, first, all)

pub few-tables : (journal : List Entry) → length (replay journal).schema.tables ≤ counted journal
few-tables journal = omega (arith, grown-by (λ (db : Db). length db.schema.tables) apply-tables empty journal)

pub few-columns : (journal : List Entry) (table : TableNo) → column_count (replay journal).schema table ≤ counted journal
few-columns journal table = omega (arith, grown-by (λ (db : Db). column_count db.schema table) (λ db change. apply-columns db change table) empty journal)
