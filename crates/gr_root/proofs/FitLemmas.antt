-- What a valid put wants: each record's table is there, and its key is one of the table.
use Rattle.std.proofs.Common.{◌≡◌, ℕ, ◌≤◌, ◌+◌, Bool, true, false, cond, nat_lt, Option, Some, None, is_some, List, [], ◌∷◌, ◌++◌, length, map, slice_get, refl, ap, sym, ◌∙◌, subst}
use Rattle.std.specs.List.{AllByRecursion, flat_map}
use Rattle.std.specs.Option.{option_and_then, option_map, option_map_or}
use Rattle.std.specs.Prelude.{IfSome, IsUtf8, MatchOption}
use Rattle.gr_base.specs.declared.numbers.ColumnNo.{ColumnNo}
use Rattle.gr_base.specs.declared.numbers.TableNo.{TableNo}
use Rattle.gr_db.specs.Db.{Db, kind_shape, role_shape}
use Rattle.gr_db.specs.Entry.{IsPut, IsReadable, IsReadableGiven, IsReadableNew, IsReadableSetting, IsReadableWant, IsSetting}
use Rattle.gr_db.specs.Keys.{IsKeyFor}
use Rattle.gr_db.specs.Wants.{Setting, added, all_added, by_column, column_target, given_in, is_there, keys_in, placed, record_wants, reference_wants, role_target, target_of}
use Rattle.gr_db.specs.declared.want.Added.{Added}
use Rattle.gr_db.specs.declared.want.Want.{Want}
use Rattle.gr_expr.specs.Tables.{record_id}
use Rattle.gr_root.specs.Inside.Walk.{IsWantFor}
use Rattle.gr_schema.specs.Paths.{key_type}
use Rattle.gr_schema.specs.Schema.{SchemaDef, column_at, table_at}
use Rattle.gr_schema.specs.declared.definition.ColumnDef.{ColumnDef}
use Rattle.gr_schema.specs.declared.definition.Role.{Role}
use Rattle.gr_schema.specs.declared.definition.Role.TheVariants.{Scalar, Vector, Index}
use Rattle.gr_schema.specs.declared.definition.TableDef.{TableDef}
use Rattle.gr_values.specs.Fits.{Fits, IsKeyOf, IsTextWithin}
use Rattle.gr_values.specs.Types.{text_limit}
use Rattle.gr_values.specs.declared.data_type.DataType.{DataType}
use Rattle.gr_values.specs.declared.data_type.Kind.{Kind}
use Rattle.gr_values.specs.declared.data_type.Kind.TheVariants.{Plain, Reference}
use Rattle.gr_values.specs.declared.data_type.Shape.{Shape}
use Rattle.gr_values.specs.declared.value.Given.{Given}
use Rattle.gr_values.specs.declared.value.Key.{Key}

-- Lists of wants

pub all-append : {X : Type 0} (P : X → Type 0) (xs ys : List X) → AllByRecursion P xs → AllByRecursion P ys → AllByRecursion P (xs ++ ys)
all-append P [] ys one other = other
all-append P (x ∷ xs) ys one other = (one.0, all-append P xs ys one.1 other)

pub all-flat_map : {X Y : Type 0} (P : Y → Type 0) (Q : X → Type 0) (f : X → List Y) (step : (x : X) → Q x → AllByRecursion P (f x)) (xs : List X) → AllByRecursion Q xs → AllByRecursion P (flat_map f xs)
all-flat_map P Q f step [] all = tt
all-flat_map P Q f step (x ∷ xs) all = all-append P (f x) (flat_map f xs) (step x all.0) (all-flat_map P Q f step xs all.1)

all-placed : (P : Setting → Type 0) (one : Setting) (others : List Setting) → P one → AllByRecursion P others → AllByRecursion P (placed one others)
all-placed P one [] here all = (here, tt)
all-placed P one (other ∷ others) here all =
    elim (nat_lt one.0.0 other.0.0) as (λ b. AllByRecursion P (cond b (one ∷ other ∷ others) (other ∷ placed one others))) [
      | true ↦ (here, all)
      | false ↦ (all.0, all-placed P one others here all.1)
    ]

-- what holds of each setting holds of each by column
pub all-by_column : (P : Setting → Type 0) (settings : List Setting) → AllByRecursion P settings → AllByRecursion P (by_column settings)
all-by_column P [] all = tt
all-by_column P (setting ∷ settings) all = all-placed P setting (by_column settings) all.0 (all-by_column P settings all.1)

-- References

keyed-by : (schema : SchemaDef) (to : TableNo) (key : Key) (o : Option TableDef) (of : DataType) → option_and_then (λ def. def.key) o ≡ Some of → IsKeyOf of key → MatchOption o ⊥ (λ home. IsKeyFor home (Some key))
keyed-by schema to key None of typed fits = absurd cc
keyed-by schema to key (Some home) of typed fits = subst (λ (t : Option DataType). MatchOption t ⊥ (λ type. IsKeyOf type key)) (sym typed) fits

-- a key that a column of references takes is one of the table that it refers to
want-to : (schema : SchemaDef) (to : TableNo) (of : DataType) (key : Key) → key_type schema to ≡ Some of → IsKeyOf of key → (let want : Want = record { table = to; key = Some key } in IsWantFor schema want)
want-to schema to of key typed fits = keyed-by schema to key (table_at schema to) of typed fits

wants-to : (schema : SchemaDef) (to : TableNo) (of : DataType) (keys : List Key) → key_type schema to ≡ Some of → AllByRecursion (IsKeyOf of) keys
    → AllByRecursion (IsWantFor schema) (map (λ key. let want : Want = record { table = to; key = Some key } in want) keys)
wants-to schema to of [] typed all = tt
wants-to schema to of (key ∷ keys) typed all = (want-to schema to of key typed all.0, wants-to schema to of keys typed all.1)

given-keys : (shape : Shape) (given : Given) → Fits shape given → AllByRecursion (IsKeyOf shape.of) (keys_in given)
given-keys shape (Given.Bool truth) fits = tt
given-keys shape (Given.Int number) fits = tt
given-keys shape (Given.Text text) fits = tt
given-keys shape (Given.Ref None) fits = tt
given-keys shape (Given.Ref (Some key)) fits = (fits.1, tt)
given-keys shape (Given.RefList keys) fits = fits.1.each
given-keys shape (Given.IntList numbers) fits = tt
given-keys shape (Given.TextList texts) fits = tt

type-by : (list : Bool) (to : TableNo) (shape : Shape) (o : Option DataType) → option_map (λ key. let s : Shape = record { list = list; of = key; reference = true } in s) o ≡ Some shape → o ≡ Some shape.of
type-by list to shape None is = absurd cc
type-by list to shape (Some of) is = let same : (let s : Shape = record { list = list; of = of; reference = true } in s ≡ shape) = cc in ap (λ (s : Shape). Some s.of) same

kind-wants : (schema : SchemaDef) (list : Bool) (kind : Kind) (given : Given) (o : Option Shape) → kind_shape schema list kind ≡ o → MatchOption o ⊥ (λ shape. Fits shape given)
    → AllByRecursion (IsWantFor schema) (option_map_or (λ to. map (λ key. let want : Want = record { table = to; key = Some key } in want) (keys_in given)) (target_of kind) [])
kind-wants schema list (Plain type) given o is fits = tt
kind-wants schema list (Reference to) given None is fits = absurd fits
kind-wants schema list (Reference to) given (Some shape) is fits =
    wants-to schema to shape.of (keys_in given) (type-by list to shape (key_type schema to) is) (given-keys shape given fits)

role-wants : (schema : SchemaDef) (role : Role) (given : Given) → MatchOption (role_shape schema role) ⊥ (λ shape. Fits shape given)
    → AllByRecursion (IsWantFor schema) (option_map_or (λ to. map (λ key. let want : Want = record { table = to; key = Some key } in want) (keys_in given)) (role_target role) [])
role-wants schema (Scalar kind) given fits = kind-wants schema false kind given (kind_shape schema false kind) refl fits
role-wants schema (Vector kind) given fits = kind-wants schema true kind given (kind_shape schema true kind) refl fits
role-wants schema (Index target sources position section) given fits = absurd fits

column-wants : (schema : SchemaDef) (given : Given) (o : Option ColumnDef) → MatchOption (option_and_then (λ column. role_shape schema column.role) o) ⊥ (λ shape. Fits shape given)
    → AllByRecursion (IsWantFor schema) (option_map_or (λ to. map (λ key. let want : Want = record { table = to; key = Some key } in want) (keys_in given)) (option_and_then (λ def. role_target def.role) o) [])
column-wants schema given None fits = absurd fits
column-wants schema given (Some def) fits = role-wants schema def.role given fits

setting-fits : (schema : SchemaDef) (table : TableNo) (setting : Setting) → IsSetting schema table setting → AllByRecursion (IsWantFor schema) (reference_wants schema table setting)
setting-fits schema table setting fits = column-wants schema setting.1 (column_at schema table setting.0) fits

-- the records that a valid put wants
pub record-fits : (schema : SchemaDef) (table : TableNo) (key : Option Key) (settings : List Setting) → IsPut schema table key settings → AllByRecursion (IsWantFor schema) (record_wants schema table key settings)
record-fits schema table key settings put = (
  subst (λ (o : Option TableDef). MatchOption o ⊥ (λ home. IsKeyFor home key)) (sym put.there.there) put.keyed,
  all-flat_map (IsWantFor schema) (IsSetting schema table) (reference_wants schema table) (setting-fits schema table) (by_column settings) (all-by_column (IsSetting schema table) settings put.settings_fit),
)

-- Texts

key-readable : (of : DataType) (key : Key) → IsKeyOf of key → IsReadable key
key-readable of (Key.Number number) fits = tt
key-readable of (Key.Text text) fits = fits.utf8

text-by : (text : List ℕ) (o : Option ℕ) → MatchOption o ⊥ (λ limit. IsTextWithin limit text) → IsUtf8 text
text-by text None fits = absurd fits
text-by text (Some limit) fits = fits.utf8

given-readable : (shape : Shape) (given : Given) → Fits shape given → IsReadableGiven given
given-readable shape (Given.Bool truth) fits = tt
given-readable shape (Given.Int number) fits = tt
given-readable shape (Given.Text text) fits = text-by text (text_limit shape.of) fits.1
given-readable shape (Given.Ref key) fits = tt
given-readable shape (Given.RefList keys) fits = tt
given-readable shape (Given.IntList numbers) fits = tt
given-readable shape (Given.TextList texts) fits = tt

readable-by : (given : Given) (o : Option Shape) → MatchOption o ⊥ (λ shape. Fits shape given) → IsReadableGiven given
readable-by given None fits = absurd fits
readable-by given (Some shape) fits = given-readable shape given fits

all-weaker : {X : Type 0} (P Q : X → Type 0) (step : (x : X) → P x → Q x) (xs : List X) → AllByRecursion P xs → AllByRecursion Q xs
all-weaker P Q step [] all = tt
all-weaker P Q step (x ∷ xs) all = (step x all.0, all-weaker P Q step xs all.1)

-- the texts of a valid put are readable
pub settings-readable : (schema : SchemaDef) (table : TableNo) (settings : List Setting) → AllByRecursion (IsSetting schema table) settings → AllByRecursion IsReadableSetting settings
settings-readable schema table settings all =
    all-weaker (IsSetting schema table) IsReadableSetting (λ setting fits. readable-by setting.1 (option_and_then (λ column. role_shape schema column.role) (column_at schema table setting.0)) fits) settings all

readable-key : (home : TableDef) (key : Option Key) (of : Option DataType) → home.key ≡ of → IsKeyFor home key → IfSome key IsReadable
readable-key home None of is fits = tt
readable-key home (Some key) None is fits = absurd (rw is at fits)
readable-key home (Some key) (Some of) is fits = key-readable of key (rw is at fits)

readable-want : (want : Want) (o : Option TableDef) → MatchOption o ⊥ (λ home. IsKeyFor home want.key) → IsReadableWant want
readable-want want None fits = absurd fits
readable-want want (Some home) fits = readable-key home want.key home.key refl fits

-- the key of a wanted record that fits is readable
pub want-readable : (schema : SchemaDef) (want : Want) → IsWantFor schema want → IsReadableWant want
want-readable schema want fits = readable-want want (table_at schema want.table) fits

-- the records that are added are among those wanted
pub added-readable : (schema : SchemaDef) (db : Db) (wants : List Want) → AllByRecursion (IsWantFor schema) wants → AllByRecursion IsReadableNew (all_added db wants)
added-readable schema db [] all = tt
added-readable schema db (want ∷ wants) all =
    let rest = added-readable schema db wants all.1 in
    let more = added-readable schema (added db want) wants all.1 in
    let here = want-readable schema want all.0 in
    elim (is_there db want) as (λ b. AllByRecursion IsReadableNew (cond b (all_added db wants) (record { want = want; id = record_id (given_in db want.table + 1) } ∷ all_added (added db want) wants))) [
      | true ↦ rest
      | false ↦ (here, more)
    ]
