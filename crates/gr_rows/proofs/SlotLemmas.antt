-- Columns as what names stand for.
use Rattle.std.proofs.Common.{◌≡◌, ℕ, Bool, true, false, not, cond, List, [], ◌∷◌, refl, sym, ap, subst, ◌∙◌}
use Rattle.std.specs.Prelude.{None, Some, Option, IfSome}
use Rattle.std.specs.List.{position}
use Rattle.std.specs.Option.{option_and_then, option_map}
use Rattle.std.specs.Str.{bytes_eq}
use Rattle.std.proofs.lemmas.List.Quantifiers.{position-Some}
use Rattle.std.proofs.lemmas.Option.{none-some, option_and_then_some, same_Some}
use Rattle.std.proofs.lemmas.Slice.Eq.{bytes_eq-Decides}
use Rattle.gr_base.specs.declared.numbers.ColumnNo.{ColumnNo}
use Rattle.gr_base.specs.declared.numbers.TableNo.{TableNo}
use Rattle.gr_db.specs.Db.{kind_shape, role_shape}
use Rattle.gr_schema.specs.Paths.{key_type}
use Rattle.gr_schema.specs.Schema.{SchemaDef, column_at, column_in, column_named, column_no, table_at}
use Rattle.gr_schema.specs.Sound.{IsKind, IsRole, IsSound}
use Rattle.gr_schema.specs.declared.definition.ColumnDef.{ColumnDef}
use Rattle.gr_schema.specs.declared.definition.Role.{Role}
use Rattle.gr_schema.specs.declared.definition.Role.TheVariants.{Scalar, Vector, Index}
use Rattle.gr_schema.specs.declared.definition.TableDef.{TableDef}
use Rattle.gr_values.specs.Types.{IsShape, is_bool, is_key_type}
use Rattle.gr_values.specs.declared.data_type.DataType.{DataType}
use Rattle.gr_values.specs.declared.data_type.DataType.TheVariants as type
use Rattle.gr_values.specs.declared.data_type.Kind.TheVariants.{Plain, Reference}
use Rattle.gr_values.specs.declared.data_type.Shape.{Shape}
use Rattle.gr_rows.specs.Names.{column_slot, is_key_name, key_name, slot_named}
use Rattle.gr_rows.specs.declared.slot.Slot.{Slot}

-- the name leads to this column, whose cells have this shape
pub record IsColumnSlot (schema : SchemaDef) (home : TableDef) (name : List ℕ) (column : ColumnNo) (shape : Shape) : Type 0 where
  pub plain : is_key_name name ≡ false
  pub number : column_named home name ≡ Some column
  pub shaped : option_and_then (λ def. role_shape schema def.role) (column_in home column) ≡ Some shape

-- what a name stands for that is a column
pub column_slot_named : (schema : SchemaDef) (home : TableDef) (name : List ℕ) (column : ColumnNo) (shape : Shape)
    → slot_named schema home name ≡ Some (Slot.Column column shape) → IsColumnSlot schema home name column shape
column_slot_named schema home name column shape e = by_name (is_key_name name) refl e
  where
    by_shape : (c : ColumnNo) (o : Option Shape) → option_and_then (λ (def : ColumnDef). role_shape schema def.role) (column_in home c) ≡ o
        → option_map (λ s. Slot.Column c s) o ≡ Some (Slot.Column column shape) → (c ≡ column) × (option_and_then (λ (def : ColumnDef). role_shape schema def.role) (column_in home c) ≡ Some shape)
    by_shape c None is e = absurd (none-some _ e)
    by_shape c (Some s) is e = let same : Slot.Column c s ≡ Slot.Column column shape = same_Some _ _ e in (cc, is ∙ cc)

    by_number : (o : Option ColumnNo) → is_key_name name ≡ false → column_named home name ≡ o → option_and_then (column_slot schema home) o ≡ Some (Slot.Column column shape) → IsColumnSlot schema home name column shape
    by_number None plain is e = absurd (none-some _ e)
    by_number (Some c) plain is e =
        let parts = by_shape c (option_and_then (λ (def : ColumnDef). role_shape schema def.role) (column_in home c)) refl e in
        record {
          plain = plain;
          number = is ∙ ap Some parts.0;
          shaped = subst (λ n. option_and_then (λ (def : ColumnDef). role_shape schema def.role) (column_in home n) ≡ Some shape) parts.0 parts.1;
        }

    by_name : (b : Bool) → is_key_name name ≡ b → cond b (Some Slot.Key) (option_and_then (column_slot schema home) (column_named home name)) ≡ Some (Slot.Column column shape) → IsColumnSlot schema home name column shape
    by_name true is e = let same : Slot.Key ≡ Slot.Column column shape = same_Some _ _ e in absurd (cc)
    by_name false is e = by_number (column_named home name) is refl e

alike_at : (columns : List ColumnDef) (one other : List ℕ) (n : ℕ) → position (λ column. bytes_eq column.name one) columns ≡ Some n → position (λ column. bytes_eq column.name other) columns ≡ Some n → one ≡ other
alike_at [] one other n e f = absurd (none-some n e)
alike_at (first ∷ columns) one other n e f =
    let here = position-Some (λ (column : ColumnDef). bytes_eq column.name one) (first ∷ columns) n first e in
    let there = position-Some (λ (column : ColumnDef). bytes_eq column.name other) (first ∷ columns) n first f in
    sym ((bytes_eq-Decides _ one).0 here.1) ∙ (bytes_eq-Decides _ other).0 there.1

numbered : (o : Option ℕ) (column : ColumnNo) → option_map column_no o ≡ Some column → o ≡ Some column.0
numbered None column e = absurd (none-some _ e)
numbered (Some n) column e = ap (λ (c : ColumnNo). Some c.0) (same_Some _ _ e)

-- names of one column are one name
pub alike : (home : TableDef) (one other : List ℕ) (column : ColumnNo) → column_named home one ≡ Some column → column_named home other ≡ Some column → one ≡ other
alike home one other column e f = alike_at home.columns one other column.0 (numbered _ column e) (numbered _ column f)

key_no_bool : (of : DataType) → is_key_type of ≡ true → is_bool of ≡ false
key_no_bool type.Bool e = absurd (cc)
key_no_bool _ e = refl

not_both : (b : Bool) → not b ≡ true → b ≡ false
not_both true e = absurd (cc)
not_both false e = refl

module _ (schema : SchemaDef) (sound : IsSound schema) where
  reference_shape : (list : Bool) (to : TableNo) (shape : Shape) → IsKind schema (Reference to) → kind_shape schema list (Reference to) ≡ Some shape → IsShape shape
  reference_shape list to shape kind e = by_key (key_type schema to) refl e
    where
      key_there : (of : DataType) → key_type schema to ≡ Some of → is_key_type of ≡ true
      key_there of is =
          let key : kind.0.key ≡ Some of = sym (ap (option_and_then (λ (def : TableDef). def.key)) kind.1) ∙ is in
          subst (λ (o : Option DataType). IfSome o (λ type. is_key_type type ≡ true)) key (sound.tables to.0 kind.0 kind.1).key_type

      by_key : (o : Option DataType) → key_type schema to ≡ o → option_map (λ key. record { list = list; of = key; reference = true }) o ≡ Some shape → IsShape shape
      by_key None is e = absurd (none-some shape e)
      by_key (Some of) is e = subst IsShape (same_Some _ shape e) (record { by_key = λ h. key_there of is; no_bools = λ h. key_no_bool of (key_there of is) })

  role_shaped : (number : TableNo) (home : TableDef) (role : Role) (shape : Shape) → IsRole schema number home role → role_shape schema role ≡ Some shape → IsShape shape
  role_shaped number home (Scalar (Plain of)) shape role e = subst IsShape (same_Some _ shape e) (record { by_key = λ h. absurd (cc); no_bools = λ h. absurd (cc) })
  role_shaped number home (Scalar (Reference to)) shape role e = reference_shape false to shape role.1 e
  role_shaped number home (Vector (Plain of)) shape role e = subst IsShape (same_Some _ shape e) (record { by_key = λ h. absurd (cc); no_bools = λ h. not_both (is_bool of) role.1 })
  role_shaped number home (Vector (Reference to)) shape role e = reference_shape true to shape role.2 e
  role_shaped number home (Index target sources position section) shape role e = absurd (none-some shape e)

  -- the shape of a data column is one that values can be read for
  pub shape_sound : (table : TableNo) (home : TableDef) (column : ColumnNo) (shape : Shape) → table_at schema table ≡ Some home
      → option_and_then (λ def. role_shape schema def.role) (column_in home column) ≡ Some shape → IsShape shape
  shape_sound table home column shape there e =
      option_and_then_some (λ (def : ColumnDef). role_shape schema def.role) (column_in home column) shape e
      (λ def is shaped. role_shaped table home def.role shape ((sound.tables table.0 home there).columns column.0 def is).role shaped)

-- the column of a slot, found by the table's number
pub shaped_at : (schema : SchemaDef) (table : TableNo) (home : TableDef) (column : ColumnNo) (shape : Shape) → table_at schema table ≡ Some home
    → option_and_then (λ def. role_shape schema def.role) (column_in home column) ≡ Some shape
    → option_and_then (λ def. role_shape schema def.role) (column_at schema table column) ≡ Some shape
shaped_at schema table home column shape there e =
    ap (λ (o : Option TableDef). option_and_then (λ (def : ColumnDef). role_shape schema def.role) (option_and_then (λ home. column_in home column) o)) there ∙ e

-- only the key's name stands for the key
pub key_slot_named : (schema : SchemaDef) (home : TableDef) (name : List ℕ) → slot_named schema home name ≡ Some Slot.Key → key_name ≡ name
key_slot_named schema home name e = by_name (is_key_name name) refl e
  where
    by_shape : (c : ColumnNo) (o : Option Shape) → option_map (λ s. Slot.Column c s) o ≡ Some Slot.Key → ⊥
    by_shape c None e = none-some _ e
    by_shape c (Some s) e = let same : Slot.Column c s ≡ Slot.Key = same_Some _ _ e in absurd (cc)

    by_number : (o : Option ColumnNo) → option_and_then (column_slot schema home) o ≡ Some Slot.Key → ⊥
    by_number None e = none-some _ e
    by_number (Some c) e = by_shape c (option_and_then (λ (def : ColumnDef). role_shape schema def.role) (column_in home c)) e

    by_name : (b : Bool) → is_key_name name ≡ b → cond b (Some Slot.Key) (option_and_then (column_slot schema home) (column_named home name)) ≡ Some Slot.Key → key_name ≡ name
    by_name true is e = (bytes_eq-Decides key_name name).0 is
    by_name false is e = absurd (by_number (column_named home name) e)
