-- A schema with one more table or column goes on from the one before.
use Rattle.std.proofs.Common.{ℕ, zero, suc, ◌≡◌, ◌≢◌, ◌⊎◌, inl, inr, Bool, true, false, cond, List, [], ◌∷◌, ◌++◌, length, refl, sym, ap, subst, ◌∙◌, arith}
use Rattle.std.specs.Prelude.{None, Some, Option, slice_get}
use Rattle.std.specs.Option.{option_map}
use Rattle.std.proofs.lemmas.Bool.{cases_order}
use Rattle.std.proofs.lemmas.List.{append-nil}
use Rattle.gr_base.specs.declared.numbers.ColumnNo.{ColumnNo}
use Rattle.gr_base.specs.declared.numbers.TableNo.{TableNo}
use Rattle.gr_schema.specs.Schema.{Extends, ExtendsTable, IsPrefix, SchemaDef, changed_at, column_count, column_no, is_index, table_with, with_column, with_table}
use Rattle.gr_schema.specs.declared.definition.ColumnDef.{ColumnDef}
use Rattle.gr_schema.specs.declared.definition.TableDef.{TableDef}
use Rattle.gr_schema.proofs.ItemsLemmas.{slice_get-changed_other, slice_get-changed_same, slice_get_left}

-- two numbers are one or not
pub one_or_not : (m n : ℕ) → (m ≡ n) ⊎ (m ≢ n)
one_or_not m n = elim (cases_order m n) [
  | inl same ↦ inl same
  | inr apart ↦ elim apart [
    | inl below ↦ inr (λ e. omega arith)
    | inr above ↦ inr (λ e. omega arith)
  ]
]

-- a table goes on from itself
pub table_itself : (table : TableDef) → ExtendsTable table table
table_itself table = record { more = []; is = ap (λ columns. record table { columns = columns }) (sym (append-nil table.columns)) }

pub extends_table : (schema : SchemaDef) (table : TableDef) → Extends (with_table schema table) schema
extends_table schema table = record {
  tables = λ n old there. (old, slice_get_left schema.tables (table ∷ []) n old there, table_itself old);
  indexes = record { more = []; is = sym (append-nil schema.indexes) };
}

pub extends_column : (schema : SchemaDef) (table : TableNo) (column : ColumnDef) → Extends (with_column schema table column) schema
extends_column schema table column = record {
  tables = λ n old there. at_number n old there (one_or_not n table.0);
  indexes = record { more = _; is = refl };
}
  where
    tables_new : List TableDef
    tables_new = changed_at table.0 (table_with column) schema.tables

    at_number : (n : ℕ) (old : TableDef) → slice_get schema.tables n ≡ Some old → (n ≡ table.0) ⊎ (n ≢ table.0)
        → (grown : TableDef) × (slice_get (changed_at table.0 (table_with column) schema.tables) n ≡ Some grown) × ExtendsTable grown old
    at_number n old there (inl same) = (
      table_with column old,
      subst (λ m. slice_get (changed_at m (table_with column) schema.tables) n ≡ Some (table_with column old)) same
          (slice_get-changed_same n (table_with column) schema.tables ∙ ap (option_map (table_with column)) there),
      record { more = column ∷ []; is = refl },
    )
    at_number n old there (inr apart) = (old, slice_get-changed_other table.0 n (table_with column) schema.tables apart ∙ there, table_itself old)
