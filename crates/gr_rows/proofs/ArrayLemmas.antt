-- Rows that are arrays: the members by their places, with the key among them.
use Rattle.std.proofs.Common.{◌≡◌, ◌≤◌, ◌<◌, ◌≢◌, ◌⊎◌, inl, inr, ℕ, zero, suc, ◌+◌, true, false, cond, List, [], ◌∷◌, length, map, nat_eq, IfSome, Option, Some, None, Result, Ok, Err, refl, sym, ap, ◌∙◌, arith}
use Rattle.std.specs.List.{AllByRecursion, IsDistinct, insert, remove, slice_get, zip}
use Rattle.std.specs.Option.{option_and_then, option_map, option_map_or}
use Rattle.std.specs.Str.{bytes_eq}
use Rattle.std.proofs.lemmas.List.{length-map}
use Rattle.serde_json.specs.Data.{Data}
use Rattle.serde_json.specs.View.{items_view, view}
use Rattle.serde_json.specs.declared.value.Value.{Value}
use Rattle.gr_base.specs.Failure.{result_map, result_then}
use Rattle.gr_base.specs.declared.fault.Fault.{Fault}
use Rattle.gr_db.specs.Wants.{Setting}
use Rattle.gr_schema.specs.Schema.{SchemaDef}
use Rattle.gr_schema.specs.declared.definition.TableDef.{TableDef}
use Rattle.gr_rows.specs.Inside.Places.{ArePlaces, IsNamed, column_names, column_numbers, names_in}
use Rattle.gr_rows.specs.Members.{Member, before, key_value, member_setting, members_by, settings_of, value_given}
use Rattle.gr_rows.specs.Names.{is_key_name, key_name}
use Rattle.gr_rows.specs.declared.places.Named.{Named}
use Rattle.gr_rows.specs.declared.places.Places.{Places}
use Rattle.gr_rows.proofs.PlacesLemmas.{one_column, with_key_at}
use Rattle.gr_rows.proofs.SlotLemmas.{column_slot_named}

-- the members of columns and their values
abbrev pub column_members : List Named → List Value → List Member
column_members columns values = zip (column_names columns) (map view values)

-- as many names as values
same_count : (names : List (List ℕ)) (values : List Value) → length values ≡ length names → members_by names (items_view values) ≡ Some (zip names (map view values))
same_count [] [] same = refl
same_count [] (value ∷ values) same = absurd (omega arith)
same_count (name ∷ names) [] same = absurd (omega arith)
same_count (name ∷ names) (value ∷ values) same = ap (option_map (λ others. (name, view value) ∷ others)) (same_count names values (omega arith))

-- more or fewer names than values
pub other_count : (names : List (List ℕ)) (values : List Value) → length values ≢ length names → members_by names (items_view values) ≡ None
other_count [] [] other = absurd (other refl)
other_count [] (value ∷ values) other = refl
other_count (name ∷ names) [] other = refl
other_count (name ∷ names) (value ∷ values) other = ap (option_map (λ others. (name, view value) ∷ others)) (other_count names values (λ same. other (ap suc same)))

-- names with one more among them, and the value at its place
with_one : (names : List (List ℕ)) (i : ℕ) (name : List ℕ) (values : List Value) (value : Value) → slice_get values i ≡ Some value → i ≤ length names → length values ≡ length names + 1
    → members_by (insert names i name) (items_view values) ≡ Some (insert (zip names (map view (remove values i))) i (name, view value))
with_one names zero name [] value at within same = absurd (omega arith)
with_one names zero name (first ∷ values) value at within same =
    ap (option_map (λ others. (name, view first) ∷ others)) (same_count names values (omega arith))
    ∙ ap (λ v. Some ((name, view v) ∷ zip names (map view values))) (let same_value : first ≡ value = cc in same_value)
with_one [] (suc i) name values value at within same = absurd (omega arith)
with_one (other ∷ names) (suc i) name [] value at within same = absurd (omega arith)
with_one (other ∷ names) (suc i) name (first ∷ values) value at within same =
    ap (option_map (λ others. (other, view first) ∷ others)) (with_one names i name values value at (omega arith) (omega arith))

length_inserted : (names : List (List ℕ)) (i : ℕ) (name : List ℕ) → i ≤ length names → length (insert names i name) ≡ length names + 1
length_inserted names zero name within = omega arith
length_inserted [] (suc i) name within = absurd (omega arith)
length_inserted (first ∷ names) (suc i) name within = omega (arith, length_inserted names i name (omega arith))

-- there is an element at each place
slice_get-within : (values : List Value) (i : ℕ) → i < length values → (value : Value) × (slice_get values i ≡ Some value)
slice_get-within [] i within = absurd (omega arith)
slice_get-within (first ∷ values) zero within = (first, refl)
slice_get-within (first ∷ values) (suc i) within = slice_get-within values i (omega arith)

-- the value at the key's place, where it has one
abbrev pub key_at : Option ℕ → List Value → Option Value
key_at place values = option_and_then (λ place. slice_get values place) place

-- the values without the one at the key's place
abbrev pub without_key : Option ℕ → List Value → List Value
without_key place values = option_map_or (λ place. remove values place) place values

module _ (schema : SchemaDef) (home : TableDef) (row : ℕ) where
  -- no column has the key's name
  no_key : (columns : List Named) (values : List Value) → AllByRecursion (IsNamed schema home) columns → key_value (column_members columns values) ≡ None
  no_key [] values named = refl
  no_key (first ∷ columns) [] named = refl
  no_key (first ∷ columns) (value ∷ values) named =
      ap (λ b. cond b (value_given (view value)) (key_value (column_members columns values))) (column_slot_named schema home first.name first.column first.shape named.0.slot).plain
      ∙ no_key columns values named.1

  key_is : is_key_name key_name ≡ true
  key_is = refl

  key_inserted : (columns : List Named) (values : List Value) (i : ℕ) (d : Data) → AllByRecursion (IsNamed schema home) columns
      → key_value (insert (column_members columns values) i (key_name, d)) ≡ value_given d
  key_inserted columns values zero d named = refl
  key_inserted [] values (suc i) d named = refl
  key_inserted (first ∷ columns) [] (suc i) d named = refl
  key_inserted (first ∷ columns) (value ∷ values) (suc i) d named =
      ap (λ b. cond b (value_given (view value)) (key_value (insert (column_members columns values) i (key_name, d)))) (column_slot_named schema home first.name first.column first.shape named.0.slot).plain
      ∙ key_inserted columns values i d named.1

  same_result : (r : Result (List Setting) Fault) → result_map (before None) r ≡ r
  same_result (Ok settings) = refl
  same_result (Err fault) = refl

  -- the key sets nothing
  key_sets : (members : List Member) (i : ℕ) (d : Data) → settings_of schema home row (insert members i (key_name, d)) ≡ settings_of schema home row members
  key_sets members zero d = same_result (settings_of schema home row members)
  key_sets [] (suc i) d = same_result (Ok [])
  key_sets (first ∷ members) (suc i) d =
      ap (λ r. result_then (λ setting. result_map (before setting) r) (member_setting schema home row first)) (key_sets members i d)

  key_given : (place : ℕ) (columns : List Named) (values : List Value) (value : Value) → AllByRecursion (IsNamed schema home) columns → slice_get values place ≡ Some value
      → option_and_then value_given (option_map view (slice_get values place)) ≡ key_value (insert (column_members columns (remove values place)) place (key_name, view value))
  key_given place columns values value named at =
      ap (λ o. option_and_then value_given (option_map view o)) at ∙ sym (key_inserted columns (remove values place) place (view value) named)

  -- the members of an array that has as many elements as there are places: their key, and what they set
  pub record HasMembers (places : Places) (values : List Value) : Type 0 where
    pub members : List Member
    pub by : members_by (names_in places) (items_view values) ≡ Some members
    pub key : option_and_then value_given (option_map view (key_at places.key values)) ≡ key_value members
    pub sets : settings_of schema home row (column_members places.columns.items (without_key places.key values)) ≡ settings_of schema home row members

  abbrev Meant : List Named → List Value → Option ℕ → Type 0
  Meant columns values place =
      (members : List Member) × (members_by (with_key_at (column_names columns) place) (items_view values) ≡ Some members)
      × (option_and_then value_given (option_map view (key_at place values)) ≡ key_value members)
      × (settings_of schema home row (column_members columns (without_key place values)) ≡ settings_of schema home row members)

  by_place : (columns : List Named) (values : List Value) (place : Option ℕ) → AllByRecursion (IsNamed schema home) columns → IfSome place (λ place. place ≤ length columns)
      → length values ≡ length (with_key_at (column_names columns) place) → Meant columns values place
  by_place columns values None named within same = (column_members columns values, same_count (column_names columns) values same, sym (no_key columns values named), refl)
  by_place columns values (Some place) named within same =
      let names : length (column_names columns) ≡ length columns = length-map columns (λ (named : Named). named.name) in
      let count : length values ≡ length (column_names columns) + 1 = same ∙ length_inserted (column_names columns) place key_name (omega (arith, names, within)) in
      let at = slice_get-within values place (omega (arith, names, count, within)) in (
        insert (column_members columns (remove values place)) place (key_name, view at.0),
        with_one (column_names columns) place key_name values at.0 at.1 (omega (arith, names, within)) count,
        key_given place columns values at.0 named at.1,
        sym (key_sets (column_members columns (remove values place)) place (view at.0)),
      )

  -- the members of an array
  pub array_members : (places : Places) (values : List Value) → ArePlaces schema home places → length values ≡ length (names_in places) → HasMembers places values
  array_members places values sound same =
      let found = by_place places.columns.items values places.key sound.named sound.key same in
      record { members = found.0; by = found.1; key = found.2; sets = found.3 }

-- columns that differ have names that differ
apart_names : (schema : SchemaDef) (home : TableDef) (first : Named) (columns : List Named) (values : List Value) → IsNamed schema home first → AllByRecursion (IsNamed schema home) columns
    → AllByRecursion (λ number. nat_eq first.column.0 number ≡ false) (column_numbers columns) → AllByRecursion (λ name. bytes_eq first.name name ≡ false) (map (λ (member : Member). member.0) (column_members columns values))
apart_names schema home first [] values one named apart = tt
apart_names schema home first (other ∷ columns) [] one named apart = tt
apart_names schema home first (other ∷ columns) (value ∷ values) one named apart = (
  one_column schema home first.name other.name other.column first.column
      (column_slot_named schema home first.name first.column first.shape one.slot).number
      (column_slot_named schema home other.name other.column other.shape named.0.slot).number
      ∙ apart.0,
  apart_names schema home first columns values one named.1 apart.1,
)

-- each member has another name
pub members_once : (schema : SchemaDef) (home : TableDef) (columns : List Named) (values : List Value) → AllByRecursion (IsNamed schema home) columns
    → IsDistinct nat_eq (column_numbers columns) → IsDistinct bytes_eq (map (λ (member : Member). member.0) (column_members columns values))
unfolding IsDistinct
members_once schema home [] values named different = tt
members_once schema home (first ∷ columns) [] named different = tt
members_once schema home (first ∷ columns) (value ∷ values) named different =
    (apart_names schema home first columns values named.0 named.1 different.0, members_once schema home columns values named.1 different.1)

-- where either ends, no member is left
pub members_done : (columns : List Named) (values : List Value) → (length columns ≡ 0) ⊎ (length values ≡ 0) → column_members columns values ≡ []
members_done [] values done = refl
members_done (first ∷ columns) [] done = refl
members_done (first ∷ columns) (value ∷ values) (inl none) = absurd (omega arith)
members_done (first ∷ columns) (value ∷ values) (inr none) = absurd (omega arith)
