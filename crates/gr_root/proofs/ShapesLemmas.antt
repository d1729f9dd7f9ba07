-- The shapes of columns in a schema with one more table or column: those that were there stay, and each is one that cells can have.
use Rattle.std.proofs.Common.{◌≡◌, ℕ, zero, suc, Bool, true, false, ◌&&◌, not, Option, Some, None, is_some, List, [], ◌∷◌, ◌++◌, length, map, slice_get, slice_set, refl, ap, sym, ◌∙◌, subst}
use Rattle.std.proofs.lemmas.Bool.{and_parts}
use Rattle.std.specs.Option.{option_and_then, option_map}
use Rattle.std.specs.Prelude.{IfSome}
use Rattle.gr_base.specs.declared.numbers.TableNo.{TableNo}
use Rattle.gr_db.specs.Db.{kind_shape, role_shape, shapes_of}
use Rattle.gr_root.specs.Inside.Sound.{AreFormed, Form, form_in, form_of}
use Rattle.gr_schema.specs.Paths.{key_type}
use Rattle.gr_schema.specs.Schema.{SchemaDef, changed_at, is_keyed, table_at, table_no, table_with, with_column, with_table}
use Rattle.gr_schema.specs.Sound.{IsColumn, IsKind, IsRole, IsSound, IsTable}
use Rattle.gr_schema.specs.Wishes.{fits_vector}
use Rattle.gr_schema.specs.declared.definition.ColumnDef.{ColumnDef}
use Rattle.gr_schema.specs.declared.definition.Role.{Role}
use Rattle.gr_schema.specs.declared.definition.Role.TheVariants.{Scalar, Vector, Index}
use Rattle.gr_schema.specs.declared.definition.TableDef.{TableDef}
use Rattle.gr_table.specs.Table.{TableOf}
use Rattle.gr_values.specs.Types.{IsShape, is_bool, is_key_type}
use Rattle.gr_values.specs.declared.data_type.DataType.{DataType}
use Rattle.gr_values.specs.declared.data_type.DataType.TheVariants.{Bool as Truth, Int8, Int16, Int32, Int64, UInt8, UInt16, UInt32, UInt64, ShortText, Text, LongText}
use Rattle.gr_values.specs.declared.data_type.Kind.{Kind}
use Rattle.gr_values.specs.declared.data_type.Kind.TheVariants.{Plain, Reference}
use Rattle.gr_values.specs.declared.data_type.Shape.{Shape}

-- Lists

-- functions that agree at each item of a list
pub map-alike : {X Y : Type 0} (f g : X → Y) (xs : List X) → ((n : ℕ) (x : X) → slice_get xs n ≡ Some x → f x ≡ g x) → map f xs ≡ map g xs
map-alike f g [] alike = refl
map-alike f g (x ∷ xs) alike = ap (λ y. y ∷ map f xs) (alike zero x refl) ∙ ap (λ ys. g x ∷ ys) (map-alike f g xs (λ n. alike (suc n)))

-- what stands in a list stands there with more after it
pub get-left : {X : Type 0} (xs ys : List X) (n : ℕ) (x : X) → slice_get xs n ≡ Some x → slice_get (xs ++ ys) n ≡ Some x
get-left [] ys n x there = absurd cc
get-left (first ∷ xs) ys zero x there = there
get-left (first ∷ xs) ys (suc n) x there = get-left xs ys n x there

-- the item after a list
pub get-end : {X : Type 0} (xs : List X) (y : X) → slice_get (xs ++ y ∷ []) (length xs) ≡ Some y
get-end [] y = refl
get-end (x ∷ xs) y = get-end xs y

-- what stands at the place that is changed
pub get-changed : {X : Type 0} (n : ℕ) (change : X → X) (xs : List X) → slice_get (changed_at n change xs) n ≡ option_map change (slice_get xs n)
get-changed n change [] = refl
get-changed zero change (x ∷ xs) = refl
get-changed (suc n) change (x ∷ xs) = get-changed n change xs

-- One more column

keys-changed : (column : ColumnDef) (tables : List TableDef) (n k : ℕ) → option_and_then (λ def. def.key) (slice_get (changed_at n (table_with column) tables) k) ≡ option_and_then (λ def. def.key) (slice_get tables k)
keys-changed column [] n k = refl
keys-changed column (def ∷ tables) zero zero = refl
keys-changed column (def ∷ tables) zero (suc k) = refl
keys-changed column (def ∷ tables) (suc n) zero = refl
keys-changed column (def ∷ tables) (suc n) (suc k) = keys-changed column tables n k

-- one more column leaves the types of keys
pub key-type-column : (schema : SchemaDef) (table : TableNo) (column : ColumnDef) (to : TableNo) → key_type (with_column schema table column) to ≡ key_type schema to
key-type-column schema table column to = keys-changed column schema.tables table.0 to.0

kind-shape-column : (schema : SchemaDef) (table : TableNo) (column : ColumnDef) (list : Bool) (kind : Kind) → kind_shape (with_column schema table column) list kind ≡ kind_shape schema list kind
kind-shape-column schema table column list (Plain type) = refl
kind-shape-column schema table column list (Reference to) =
    ap (option_map (λ (key : DataType). let shape : Shape = record { list = list; of = key; reference = true } in shape)) (key-type-column schema table column to)

-- one more column leaves the shapes of roles
pub role-shape-column : (schema : SchemaDef) (table : TableNo) (column : ColumnDef) (role : Role) → role_shape (with_column schema table column) role ≡ role_shape schema role
role-shape-column schema table column (Scalar kind) = kind-shape-column schema table column false kind
role-shape-column schema table column (Vector kind) = kind-shape-column schema table column true kind
role-shape-column schema table column (Index target sources position section) = refl

-- one more column leaves the forms of tables
form-column : (schema : SchemaDef) (table : TableNo) (column : ColumnDef) (def : TableDef) → form_in (with_column schema table column) def ≡ form_in schema def
form-column schema table column def =
    ap (λ (shapes : List (Option Shape)). let form : Form = (def.key, shapes) in form)
    (map-alike (λ (one : ColumnDef). role_shape (with_column schema table column) one.role) (λ one. role_shape schema one.role) def.columns (λ n one there. role-shape-column schema table column one.role))

-- One more table

key-at : (schema : SchemaDef) (table : TableDef) (to : TableNo) (def : TableDef) → table_at schema to ≡ Some def → key_type (with_table schema table) to ≡ key_type schema to
key-at schema table to def there =
    ap (option_and_then (λ (one : TableDef). one.key)) (get-left schema.tables (table ∷ []) to.0 def there) ∙ sym (ap (option_and_then (λ (one : TableDef). one.key)) there)

kind-shape-table : (schema : SchemaDef) (table : TableDef) (list : Bool) (kind : Kind) → IsKind schema kind → kind_shape (with_table schema table) list kind ≡ kind_shape schema list kind
kind-shape-table schema table list (Plain type) is = refl
kind-shape-table schema table list (Reference to) is =
    ap (option_map (λ (key : DataType). let shape : Shape = record { list = list; of = key; reference = true } in shape)) (key-at schema table to is.0 is.1)

-- one more table leaves the shape of a sound role
role-shape-table : (schema : SchemaDef) (table : TableDef) (number : TableNo) (home : TableDef) (role : Role) → IsRole schema number home role → role_shape (with_table schema table) role ≡ role_shape schema role
role-shape-table schema table number home (Scalar kind) is = kind-shape-table schema table false kind is.1
role-shape-table schema table number home (Vector kind) is = kind-shape-table schema table true kind is.2
role-shape-table schema table number home (Index target sources position section) is = refl

-- one more table leaves the form of a sound table
form-table : (schema : SchemaDef) (table : TableDef) (n : ℕ) (def : TableDef) → IsTable schema n def → form_in (with_table schema table) def ≡ form_in schema def
form-table schema table n def is =
    ap (λ (shapes : List (Option Shape)). let form : Form = (def.key, shapes) in form)
    (map-alike (λ (one : ColumnDef). role_shape (with_table schema table) one.role) (λ one. role_shape schema one.role) def.columns
    (λ c one there. role-shape-table schema table (table_no n) def one.role (is.columns c one there).role))

-- Shapes that cells can have

no-bool-key : (type : DataType) → is_key_type type ≡ true → is_bool type ≡ false
no-bool-key Truth is = absurd cc
no-bool-key Int8 is = refl
no-bool-key Int16 is = refl
no-bool-key Int32 is = refl
no-bool-key Int64 is = refl
no-bool-key UInt8 is = refl
no-bool-key UInt16 is = refl
no-bool-key UInt32 is = refl
no-bool-key UInt64 is = refl
no-bool-key ShortText is = refl
no-bool-key Text is = refl
no-bool-key LongText is = refl

reference-shape : (list : Bool) (key : Option DataType) → IfSome key (λ type. is_key_type type ≡ true) → IfSome (option_map (λ of. let shape : Shape = record { list = list; of = of; reference = true } in shape) key) IsShape
reference-shape list None is = tt
reference-shape list (Some of) is = record { by_key = λ by. is; no_bools = λ many. no-bool-key of is }

referred-shape : (schema : SchemaDef) (list : Bool) (to : TableNo) (def : TableDef) → IsSound schema → table_at schema to ≡ Some def → IfSome (kind_shape schema list (Reference to)) IsShape
referred-shape schema list to def sound there =
    let key : key_type schema to ≡ def.key = ap (option_and_then (λ (one : TableDef). one.key)) there in
    subst (λ (o : Option DataType). IfSome (option_map (λ of. let shape : Shape = record { list = list; of = of; reference = true } in shape) o) IsShape) (sym key)
    (reference-shape list def.key (sound.tables to.0 def there).key_type)

not-bool : (b : Bool) → not b ≡ true → b ≡ false
not-bool true is = absurd cc
not-bool false is = refl

vector-shape : (schema : SchemaDef) (kind : Kind) → IsSound schema → fits_vector kind ≡ true → IsKind schema kind → IfSome (kind_shape schema true kind) IsShape
vector-shape schema (Plain type) sound fits is = record { by_key = λ by. absurd cc; no_bools = λ many. not-bool (is_bool type) fits }
vector-shape schema (Reference to) sound fits is = referred-shape schema true to is.0 sound is.1

scalar-shape : (schema : SchemaDef) (kind : Kind) → IsSound schema → IsKind schema kind → IfSome (kind_shape schema false kind) IsShape
scalar-shape schema (Plain type) sound is = record { by_key = λ by. absurd cc; no_bools = λ many. absurd cc }
scalar-shape schema (Reference to) sound is = referred-shape schema false to is.0 sound is.1

-- a sound role has a shape that cells can have, where it holds data
pub role-is-shape : (schema : SchemaDef) (number : TableNo) (home : TableDef) (role : Role) → IsSound schema → IsRole schema number home role → IfSome (role_shape schema role) IsShape
role-is-shape schema number home (Scalar kind) sound is = scalar-shape schema kind sound is.1
role-is-shape schema number home (Vector kind) sound is = vector-shape schema kind sound is.1 is.2
role-is-shape schema number home (Index target sources position section) sound is = tt

-- Tables of these forms

pub append-map : {X Y : Type 0} (f : X → Y) (xs ys : List X) → map f (xs ++ ys) ≡ map f xs ++ map f ys
append-map f [] ys = refl
append-map f (x ∷ xs) ys = ap (λ zs. f x ∷ zs) (append-map f xs ys)

-- a table without columns and records in a schema that has it last
pub formed-table : (schema : SchemaDef) (tables : List TableOf) (def : TableDef) (added : TableOf) → IsSound schema → AreFormed schema tables → form_of added ≡ form_in (with_table schema def) def → AreFormed (with_table schema def) (tables ++ added ∷ [])
formed-table schema tables def added sound formed is =
    let new = with_table schema def in
    append-map form_of tables (added ∷ []) ∙ ap (λ fs. fs ++ form_of added ∷ []) formed
    ∙ ap (λ fs. fs ++ form_of added ∷ []) (sym (map-alike (form_in new) (form_in schema) schema.tables (λ n one there. form-table schema def n one (sound.tables n one there))))
    ∙ ap (λ (f : Form). map (form_in new) schema.tables ++ f ∷ []) is
    ∙ sym (append-map (form_in new) schema.tables (def ∷ []))

grown-forms : (schema : SchemaDef) (new : SchemaDef) (same : (def : TableDef) → form_in new def ≡ form_in schema def) (defs : List TableDef) → map (form_in schema) defs ≡ map (form_in new) defs
grown-forms schema new same defs = map-alike (form_in schema) (form_in new) defs (λ n def there. sym (same def))

head-form : (f g : Form) (fs gs : List Form) → f ∷ fs ≡ g ∷ gs → f ≡ g
head-form f g fs gs same = cc

tail-form : (f g : Form) (fs gs : List Form) → f ∷ fs ≡ g ∷ gs → fs ≡ gs
tail-form f g fs gs same = cc

none-form : {X : Type 0} (g : Form) (gs : List Form) → ◌≡◌ {A = List Form} [] (g ∷ gs) → X
none-form g gs same = absurd cc

-- tables of which one has one more column
changed-forms : (schema new : SchemaDef) (column : ColumnDef) (same : (def : TableDef) → form_in new def ≡ form_in schema def) (tables : List TableOf) (defs : List TableDef) (n : ℕ) (before after : TableOf)
    → map form_of tables ≡ map (form_in schema) defs → slice_get tables n ≡ Some before
    → (let form : Form = (before.key, before.shapes ++ role_shape new column.role ∷ []) in form_of after ≡ form)
    → map form_of (slice_set tables n after) ≡ map (form_in new) (changed_at n (table_with column) defs)
changed-forms schema new column same [] defs n before after formed there is = absurd cc
changed-forms schema new column same (table ∷ tables) [] n before after formed there is = none-form (form_of table) (map form_of tables) (sym formed)
changed-forms schema new column same (table ∷ tables) (def ∷ defs) zero before after formed there is =
    let first : form_of table ≡ form_in schema def = head-form (form_of table) (form_in schema def) (map form_of tables) (map (form_in schema) defs) formed in
    let rest : map form_of tables ≡ map (form_in schema) defs = tail-form (form_of table) (form_in schema def) (map form_of tables) (map (form_in schema) defs) formed in
    let it : table ≡ before = cc in
    let old : form_of before ≡ form_in new def = ap form_of (sym it) ∙ first ∙ sym (same def) in
    let grown : form_of after ≡ form_in new (table_with column def) =
    is ∙ ap (λ (f : Form). let form : Form = (f.0, f.1 ++ role_shape new column.role ∷ []) in form) old
    ∙ ap (λ (shapes : List (Option Shape)). let form : Form = (def.key, shapes) in form) (sym (append-map (λ (one : ColumnDef). role_shape new one.role) def.columns (column ∷ []))) in
    ap (λ (f : Form). f ∷ map form_of tables) grown ∙ ap (λ (fs : List Form). form_in new (table_with column def) ∷ fs) (rest ∙ grown-forms schema new same defs)
changed-forms schema new column same (table ∷ tables) (def ∷ defs) (suc n) before after formed there is =
    let first : form_of table ≡ form_in schema def = head-form (form_of table) (form_in schema def) (map form_of tables) (map (form_in schema) defs) formed in
    let rest : map form_of tables ≡ map (form_in schema) defs = tail-form (form_of table) (form_in schema def) (map form_of tables) (map (form_in schema) defs) formed in
    ap (λ (f : Form). f ∷ map form_of (slice_set tables n after)) (first ∙ sym (same def))
    ∙ ap (λ (fs : List Form). form_in new def ∷ fs) (changed-forms schema new column same tables defs n before after rest there is)

-- a table with one more column in a schema that has it last there
pub formed-column : (schema : SchemaDef) (tables : List TableOf) (table : TableNo) (column : ColumnDef) (before after : TableOf) → AreFormed schema tables → slice_get tables table.0 ≡ Some before
    → (let form : Form = (before.key, before.shapes ++ role_shape (with_column schema table column) column.role ∷ []) in form_of after ≡ form)
    → AreFormed (with_column schema table column) (slice_set tables table.0 after)
formed-column schema tables table column before after formed there is =
    changed-forms schema (with_column schema table column) column (form-column schema table column) tables schema.tables table.0 before after formed there is
