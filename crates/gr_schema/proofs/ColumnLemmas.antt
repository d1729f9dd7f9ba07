-- A column that a wish without a fault means is sound in the schema that has it last in its table.
use Rattle.std.proofs.Common.{ℕ, ◌≡◌, Bool, true, false, ◌&&◌, not, cond, List, [], ◌∷◌, ◌++◌, length, refl, sym, ap, subst, ◌∙◌}
use Rattle.std.specs.Prelude.{None, Some, Option, is_some, slice_get}
use Rattle.std.specs.List.{position}
use Rattle.std.specs.Option.{option_and_then, option_map, option_map_or}
use Rattle.std.specs.Str.{bytes_eq}
use Rattle.std.proofs.lemmas.Bool.{and_parts}
use Rattle.std.proofs.lemmas.Option.{none-some, same_Some, some_pair_parts}
use Rattle.gr_base.specs.Fault.{fault_named}
use Rattle.gr_base.specs.Name.{is_name}
use Rattle.gr_base.specs.declared.fault.FaultKind.TheVariants.{NoSuchTable}
use Rattle.gr_base.specs.declared.numbers.TableNo.{TableNo}
use Rattle.gr_schema.specs.Flags.{are_flags, fit_table, flags_of}
use Rattle.gr_schema.specs.Schema.{SchemaDef, column_named, column_no, table_with, with_column}
use Rattle.gr_schema.specs.Sound.{IsColumn, IsRole}
use Rattle.gr_schema.specs.Wishes.{Home, IsColumnFor, column_fault, column_of, column_rules, first_fault, fits_flags, fits_source, home_named, is_column_name, role_of}
use Rattle.gr_schema.specs.Words.{is_one_of, script_words}
use Rattle.gr_schema.specs.declared.definition.ColumnDef.{ColumnDef}
use Rattle.gr_schema.specs.declared.definition.Role.{Role}
use Rattle.gr_schema.specs.declared.definition.TableDef.{TableDef}
use Rattle.gr_schema.specs.declared.wish.ColumnWish.{ColumnWish}
use Rattle.gr_schema.proofs.ExtendsLemmas.{extends_column}
use Rattle.gr_schema.proofs.GrowsLemmas.{role_stays}
use Rattle.gr_schema.proofs.NameLemmas.{name_utf8}
use Rattle.gr_schema.proofs.NamesLemmas.{text_itself}
use Rattle.gr_schema.proofs.PlacesLemmas.{position_push}
use Rattle.gr_schema.proofs.RoleLemmas.{role_sound}
use Rattle.gr_schema.proofs.RuleLemmas.{home_there, none_from, not_false, unbroken}

-- what a column that may be made is: its table is there and has no column of its name, and its role is sound
pub record IsNew (schema : SchemaDef) (table : TableNo) (column : ColumnDef) : Type 0 where
  pub home : TableDef
  pub there : slice_get schema.tables table.0 ≡ Some home
  pub name : is_column_name column.name ≡ true
  pub free : position (λ other. bytes_eq other.name column.name) home.columns ≡ None
  pub role : IsRole schema table home column.role

-- where a wish for a column of this table breaks no rule
kept_new : (schema : SchemaDef) (home : Home) (wish : ColumnWish) (role : Role) → home_named schema wish.table ≡ Some home → first_fault (column_rules schema home wish) ≡ None → role_of schema home wish ≡ Some role
    → IsNew schema home.number (record { name = wish.name; role = role })
kept_new schema home wish role found faultless is =
    let kept = unbroken (column_rules schema home wish) faultless in
    let flags = and_parts (are_flags (flags_of wish.flags)) (fit_table home.def (flags_of wish.flags)) (not_false _ kept.1.1.0) in
    record {
      home = home.def;
      there = home_there schema wish.table home found;
      name = not_false (is_column_name wish.name) kept.0;
      free = none_by (position (λ other. bytes_eq other.name wish.name) home.def.columns) (none_from (column_named home.def wish.name) kept.1.0);
      role = role_sound schema home wish role flags.1 (not_false (fits_flags schema (flags_of wish.flags) wish.kind) kept.1.1.1.0) (not_false (fits_source schema home wish) kept.1.1.1.1.0) is;
    }
  where
    none_by : (o : Option ℕ) → option_map column_no o ≡ None → o ≡ None
    none_by None e = refl
    none_by (Some n) e = absurd (none-some (column_no n) (sym e))

pub column_new : (schema : SchemaDef) (table : TableNo) (column : ColumnDef) → IsColumnFor schema table column → IsNew schema table column
column_new schema table column for = by_home (home_named schema for.wish.table) refl for.faultless for.meant
  where
    by_role : (home : Home) → home_named schema for.wish.table ≡ Some home → first_fault (column_rules schema home for.wish) ≡ None → (o : Option Role) → role_of schema home for.wish ≡ o
        → option_map {U = TableNo × ColumnDef} (λ role. (home.number, record { name = for.wish.name; role = role })) o ≡ Some (table, column) → IsNew schema table column
    by_role home found faultless None is e = absurd (none-some (table, column) e)
    by_role home found faultless (Some role) is e =
        let parts = some_pair_parts home.number table (record { name = for.wish.name; role = role }) column e in
        let new = kept_new schema home for.wish role found faultless is in
        subst (λ t. IsNew schema t column) parts.0 (subst (IsNew schema home.number) parts.1 new)

    by_home : (o : Option Home) → home_named schema for.wish.table ≡ o → option_map_or (λ home. first_fault (column_rules schema home for.wish)) o (Some (fault_named NoSuchTable for.wish.table)) ≡ None
        → option_and_then (λ home. option_map {U = TableNo × ColumnDef} (λ role. (home.number, record { name = for.wish.name; role = role })) (role_of schema home for.wish)) o ≡ Some (table, column) → IsNew schema table column
    by_home None found faultless meant = absurd (none-some (table, column) meant)
    by_home (Some home) found faultless meant = by_role home found faultless (role_of schema home for.wish) refl meant

-- it is sound in the schema that has it last in its table
pub column_sound : (schema : SchemaDef) (table : TableNo) (column : ColumnDef) (new : IsNew schema table column) → IsColumn (with_column schema table column) table (table_with column new.home) (length new.home.columns) column
column_sound schema table column new = record {
  name = new.name;
  utf8 = name_utf8 column.name (and_parts (is_name column.name) (not (is_one_of script_words column.name)) new.name).0;
  first = ap (option_map column_no)
      (position_push (λ other. bytes_eq other.name column.name) new.home.columns column
      ∙ ap (λ o. cond (is_some o) o (cond (bytes_eq column.name column.name) (Some (length new.home.columns)) None)) new.free
      ∙ ap (λ b. cond b (Some (length new.home.columns)) None) (text_itself column.name));
  role = role_stays (with_column schema table column) schema (extends_column schema table column) table new.home (column ∷ []) column.role new.role;
}
