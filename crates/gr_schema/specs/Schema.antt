-- A schema: its tables and its index columns, both in order of making, and what stands there under a name or a number.
use Rattle.std.specs.Prelude.{◌≡◌, ℕ, zero, suc, Bool, true, false, if◌then◌else◌, Option, Some, None, is_some, List, [], ◌∷◌, ◌++◌, length, slice_get}
use Rattle.std.specs.List.{position}
use Rattle.std.specs.Option.{option_and_then, option_map, option_map_or}
use Rattle.std.specs.Str.{bytes_eq}
use Rattle.gr_base.specs.declared.numbers.ColumnNo.{ColumnNo}
use Rattle.gr_base.specs.declared.numbers.TableNo.{TableNo}
use Rattle.gr_schema.specs.declared.definition.ColumnDef.{ColumnDef}
use Rattle.gr_schema.specs.declared.definition.Role.{Role}
use Rattle.gr_schema.specs.declared.definition.Role.TheVariants.{Scalar, Vector, Index}
use Rattle.gr_schema.specs.declared.definition.TableDef.{TableDef}

-- what a schema is: its tables and its index columns, both in order of making
pub record SchemaDef : Type 0 where
  pub tables : List TableDef
  pub indexes : List (TableNo × ColumnNo)

-- the schema without tables
abbrev pub no_tables : SchemaDef
no_tables = record { tables = []; indexes = [] }

-- the table of this number, counted from 0
abbrev pub table_no : ℕ → TableNo
table_no n = record { 0 = n }

-- the column of this number within its table, counted from 0
abbrev pub column_no : ℕ → ColumnNo
column_no n = record { 0 = n }

-- the number of the first table of this name
abbrev pub table_named : SchemaDef → List ℕ → Option TableNo
table_named schema name = option_map table_no (position (λ table. bytes_eq table.name name) schema.tables)

-- the definition of the table of this number
abbrev pub table_at : SchemaDef → TableNo → Option TableDef
table_at schema table = slice_get schema.tables table.0

-- the number of a table's first column of this name
abbrev pub column_named : TableDef → List ℕ → Option ColumnNo
column_named table name = option_map column_no (position (λ column. bytes_eq column.name name) table.columns)

-- the definition of a table's column of this number
abbrev pub column_in : TableDef → ColumnNo → Option ColumnDef
column_in table column = slice_get table.columns column.0

-- the definition of a column
abbrev pub column_at : SchemaDef → TableNo → ColumnNo → Option ColumnDef
column_at schema table column = option_and_then (λ home. column_in home column) (table_at schema table)

-- how many columns a table has
abbrev pub column_count : SchemaDef → TableNo → ℕ
column_count schema table = option_map_or (λ home. length home.columns) (table_at schema table) 0

-- whether records have keys
abbrev pub is_keyed : TableDef → Bool
is_keyed table = is_some table.key

-- whether records are the tokens of texts
abbrev pub is_lexicon : TableDef → Bool
is_lexicon table = is_some table.tokenizer

-- whether a column is an index
abbrev pub is_index : Role → Bool
is_index (Scalar kind) = false
is_index (Vector kind) = false
is_index (Index target sources position section) = true

-- the list with what stands at a place changed
abbrev pub changed_at : {X : Type 0} → ℕ → (X → X) → List X → List X
changed_at n change [] = []
changed_at zero change (x ∷ xs) = change x ∷ xs
changed_at (suc n) change (x ∷ xs) = x ∷ changed_at n change xs

-- a table with one more column, which goes last
abbrev pub table_with : ColumnDef → TableDef → TableDef
table_with column table = record table { columns = table.columns ++ column ∷ [] }

-- the schema with one more table, which goes last
abbrev pub with_table : SchemaDef → TableDef → SchemaDef
with_table schema table = record schema { tables = schema.tables ++ table ∷ [] }

-- the schema with one more column, which goes last in its table, and an index also last among the index columns
abbrev pub with_column : SchemaDef → TableNo → ColumnDef → SchemaDef
with_column schema table column = record {
  tables = changed_at table.0 (table_with column) schema.tables;
  indexes = schema.indexes ++ (if is_index column.role then (table, column_no (column_count schema table)) ∷ [] else []);
}

-- the second list begins with the first
pub record IsPrefix {X : Type 0} (first second : List X) : Type 0 where
  pub more : List X
  pub is : second ≡ first ++ more

-- the same table, maybe with more columns after its own
pub record ExtendsTable (new old : TableDef) : Type 0 where
  pub more : List ColumnDef
  pub is : new ≡ record old { columns = old.columns ++ more }

-- each table stands in the new schema at its number, and its columns and the index columns go on from the old ones
pub record Extends (new old : SchemaDef) : Type 0 where
  pub tables : (n : ℕ) (table : TableDef) → slice_get old.tables n ≡ Some table → (grown : TableDef) × (slice_get new.tables n ≡ Some grown) × ExtendsTable grown table
  pub indexes : IsPrefix old.indexes new.indexes
