-- What holds of a table or a column holds in every schema that goes on from this one.
use Rattle.std.proofs.Common.{ℕ, zero, suc, ◌≡◌, ◌⊎◌, inl, inr, ◌≤◌, Bool, true, false, ◌&&◌, cond, List, [], ◌∷◌, ◌++◌, length, refl, sym, ap, subst, ◌∙◌, not}
use Rattle.std.specs.Prelude.{None, Some, Option, is_some, slice_get}
use Rattle.std.specs.Option.{option_map, option_map_or}
use Rattle.std.specs.List.{list_all, position}
use Rattle.std.specs.Str.{bytes_eq}
use Rattle.std.proofs.lemmas.Bool.{and_parts}
use Rattle.std.proofs.lemmas.Option.{none-some, same_Some}
use Rattle.gr_base.specs.declared.numbers.ColumnNo.{ColumnNo}
use Rattle.gr_base.specs.declared.numbers.TableNo.{TableNo}
use Rattle.gr_values.specs.declared.data_type.Kind.{Kind}
use Rattle.gr_values.specs.declared.data_type.Kind.TheVariants.{Plain, Reference}
use Rattle.gr_values.specs.declared.path.Field.{Field}
use Rattle.gr_values.specs.declared.path.Field.TheVariants.{Id, Key, Column}
use Rattle.gr_schema.specs.Fields.{holds_text, is_column_with, is_reference_field, is_text_field, refers_to}
use Rattle.gr_schema.specs.Schema.{Extends, ExtendsTable, SchemaDef, column_named, column_no, is_lexicon, table_at, table_named, table_no}
use Rattle.gr_schema.specs.Sound.{IsColumn, IsIndex, IsKind, IsRole, IsTable}
use Rattle.gr_schema.specs.Wishes.{can_be_referred_to}
use Rattle.gr_schema.specs.declared.definition.ColumnDef.{ColumnDef}
use Rattle.gr_schema.specs.declared.definition.Role.{Role}
use Rattle.gr_schema.specs.declared.definition.Role.TheVariants.{Scalar, Vector, Index}
use Rattle.gr_schema.specs.declared.definition.TableDef.{TableDef}
use Rattle.gr_schema.proofs.ItemsLemmas.{position_left, slice_get_left}

-- a table with more columns after its own
abbrev longer : TableDef → List ColumnDef → TableDef
longer table more = record table { columns = table.columns ++ more }

-- a column stays as it is
column_stays : (fits : Role → Bool) (table : TableDef) (more : List ColumnDef) (column : ColumnNo) → is_column_with fits table column ≡ true → is_column_with fits (longer table more) column ≡ true
column_stays fits table more column e = go (slice_get table.columns column.0) refl e
  where
    go : (o : Option ColumnDef) → slice_get table.columns column.0 ≡ o → option_map_or (λ def. fits def.role) o false ≡ true → is_column_with fits (longer table more) column ≡ true
    go None is e = absurd (cc)
    go (Some def) is e = ap (λ o. option_map_or (λ def. fits def.role) o false) (slice_get_left table.columns more column.0 def is) ∙ e

text_stays : (table : TableDef) (more : List ColumnDef) (field : Field) → is_text_field table field ≡ true → is_text_field (longer table more) field ≡ true
text_stays table more Id e = e
text_stays table more Key e = e
text_stays table more (Column column) e = column_stays holds_text table more column e

reference_stays : (number : TableNo) (table : TableDef) (more : List ColumnDef) (field : Field) → is_reference_field number table field ≡ true → is_reference_field number (longer table more) field ≡ true
reference_stays number table more Id e = e
reference_stays number table more Key e = e
reference_stays number table more (Column column) e = column_stays (refers_to number) table more column e

-- what each passes passes where it implies another test
list_all_weaker : {X : Type 0} (p q : X → Bool) (xs : List X) → ((x : X) → p x ≡ true → q x ≡ true) → list_all p xs ≡ true → list_all q xs ≡ true
list_all_weaker p q [] weaker e = refl
list_all_weaker p q (x ∷ xs) weaker e =
    let parts = and_parts (p x) (list_all p xs) e in
    rw (weaker x parts.0) (list_all_weaker p q xs weaker parts.1)

module _ (new old : SchemaDef) (grown : Extends new old) where
  kind_stays : (kind : Kind) → IsKind old kind → IsKind new kind
  kind_stays (Plain type) is = tt
  kind_stays (Reference to) is =
      let there = grown.tables to.0 is.0 is.1 in
      let same : there.0 ≡ longer is.0 there.2.more = there.2.is in
      (there.0, there.1, subst (λ def. can_be_referred_to def ≡ true) (sym same) is.2)

  index_stays : (number : TableNo) (home : TableDef) (later : List ColumnDef) (target : TableNo) (sources : List Field) (section : Bool) → IsIndex old number home target sources section → IsIndex new number (longer home later) target sources section
  index_stays number home later target sources section is =
      let there = grown.tables target.0 is.def is.target_there in
      let more = there.2.more in
      record {
        keyed = is.keyed;
        def = longer is.def more;
        target_there = there.1 ∙ ap Some there.2.is;
        target_plain = is.target_plain;
        some = is.some;
        few = is.few;
        one = is.one;
        lexicon = is.lexicon;
        different = is.different;
        texts = λ e. list_all_weaker (is_text_field is.def) (is_text_field (longer is.def more)) sources (text_stays is.def more) (is.texts e);
        references = λ e. list_all_weaker (is_reference_field number is.def) (is_reference_field number (longer is.def more)) sources (reference_stays number is.def more) (is.references e);
      }

  pub role_stays : (number : TableNo) (home : TableDef) (later : List ColumnDef) (role : Role) → IsRole old number home role → IsRole new number (longer home later) role
  role_stays number home later (Scalar kind) is = (is.0, kind_stays kind is.1)
  role_stays number home later (Vector kind) is = (is.0, is.1, kind_stays kind is.2)
  role_stays number home later (Index target sources position section) is = index_stays number home later target sources section is

  name_stays : (home : TableDef) (later : List ColumnDef) (name : List ℕ) (n : ℕ) → column_named home name ≡ Some (column_no n) → column_named (longer home later) name ≡ Some (column_no n)
  name_stays home later name n e = go (position (λ column. bytes_eq column.name name) home.columns) refl e
    where
      go : (o : Option ℕ) → position (λ column. bytes_eq column.name name) home.columns ≡ o → option_map column_no o ≡ Some (column_no n) → column_named (longer home later) name ≡ Some (column_no n)
      go None is e = absurd (none-some (column_no n) e)
      go (Some m) is e = ap (option_map column_no) (position_left (λ column. bytes_eq column.name name) home.columns later m is) ∙ e

  pub column_holds : (number : TableNo) (home : TableDef) (later : List ColumnDef) (n : ℕ) (column : ColumnDef) → IsColumn old number home n column → IsColumn new number (longer home later) n column
  column_holds number home later n column is = record {
    name = is.name;
    utf8 = is.utf8;
    first = name_stays home later column.name n is.first;
    role = role_stays number home later column.role is.role;
  }

  -- a table that is sound stays so with more sound columns, where its name leads to it
  pub table_holds : (n : ℕ) (table : TableDef) (later : List ColumnDef) → IsTable old n table → table_named new table.name ≡ Some (table_no n)
      → ((c : ℕ) (column : ColumnDef) → slice_get (table.columns ++ later) c ≡ Some column → (slice_get table.columns c ≡ Some column) ⊎ IsColumn new (table_no n) (longer table later) c column)
      → IsTable new n (longer table later)
  table_holds n table later is first columns = record {
    name = is.name;
    utf8 = is.utf8;
    free = is.free;
    first = first;
    keys = is.keys;
    key_type = is.key_type;
    lexicon = is.lexicon;
    columns = λ c column e. elim (columns c column e) [
      | inl before ↦ column_holds (table_no n) table later c column (is.columns c column before)
      | inr added ↦ added
    ];
  }
