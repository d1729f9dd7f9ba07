-- The places of an array, and their names.
use Rattle.std.specs.Prelude.{◌≡◌, ◌≤◌, ℕ, nat_eq, Some, List, length, map, IfSome, IsUtf8}
use Rattle.std.specs.HashSet.{contains}
use Rattle.std.specs.List.{AllByRecursion, IsDistinct, insert, list_any}
use Rattle.std.specs.Option.{option_map_or}
use Rattle.gr_schema.specs.Schema.{SchemaDef}
use Rattle.gr_schema.specs.declared.definition.TableDef.{TableDef}
use Rattle.gr_rows.specs.Names.{key_name, slot_named}
use Rattle.gr_rows.specs.declared.places.Named.{Named}
use Rattle.gr_rows.specs.declared.places.Places.{Places}
use Rattle.gr_rows.specs.declared.slot.Slot.{Slot}

-- the names of columns
abbrev pub column_names : List Named → List (List ℕ)
column_names columns = map (λ named. named.name) columns

-- the numbers of columns
abbrev pub column_numbers : List Named → List ℕ
column_numbers columns = map (λ named. named.column.0) columns

-- the names of the places of an array
abbrev pub names_in : Places → List (List ℕ)
names_in places =
    option_map_or (λ place. insert (column_names places.columns.items) place key_name) places.key (column_names places.columns.items)

-- a column under its name
pub record IsNamed (schema : SchemaDef) (home : TableDef) (named : Named) : Type 0 where
  pub slot : slot_named schema home named.name ≡ Some (Slot.Column named.column named.shape)
  pub utf8 : IsUtf8 named.name

-- each column stands under its name and no two are one, their numbers are those that are taken, and the key's place is among the places
pub record ArePlaces (schema : SchemaDef) (home : TableDef) (places : Places) : Type 0 where
  pub named : AllByRecursion (IsNamed schema home) places.columns.items
  pub different : IsDistinct nat_eq (column_numbers places.columns.items)
  pub taken : (number : ℕ) → contains nat_eq places.taken number ≡ list_any (nat_eq number) (column_numbers places.columns.items)
  pub key : IfSome places.key (λ place. place ≤ length places.columns.items)
