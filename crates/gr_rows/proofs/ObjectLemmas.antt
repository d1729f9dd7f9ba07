-- Rows that are objects: the key is taken out of the members.
use Rattle.std.proofs.Common.{◌≡◌, ℕ, Bool, true, false, cond, List, [], ◌∷◌, map, Option, Some, None, Result, Ok, Err, String, Global, Ordering, Less, Equal, Greater, string_bytes, string_cmp, codes, nat_cmp, is_eq, bytes_eq, refl, sym, ap, ◌∙◌}
use Rattle.std.specs.BTreeMap.{is_at}
use Rattle.std.specs.Cmp.Lexicographic.{slice_cmp}
use Rattle.std.specs.List.{AllByRecursion, IsDistinct}
use Rattle.std.specs.List.Sorted.{IsStrictlySortedBy}
use Rattle.std.specs.Map.{keys_of, remove_entry}
use Rattle.std.specs.Option.{option_and_then}
use Rattle.std.specs.Ordering.{eq_by_cmp, match_ordering}
use Rattle.std.proofs.lemmas.Map.Keys.{IsDistinct-from_sorted}
use Rattle.std.proofs.lemmas.Map.Text.{is_eq-slice_cmp}
use Rattle.serde_json.specs.Data.{Data}
use Rattle.serde_json.specs.Find.{get_member}
use Rattle.serde_json.specs.View.{members_view, view}
use Rattle.serde_json.specs.declared.value.Value.{Value}
use Rattle.gr_base.specs.Failure.{result_map, result_then}
use Rattle.gr_base.specs.declared.fault.Fault.{Fault}
use Rattle.gr_db.specs.Wants.{Setting}
use Rattle.gr_schema.specs.Schema.{SchemaDef}
use Rattle.gr_schema.specs.declared.definition.TableDef.{TableDef}
use Rattle.gr_rows.specs.Members.{Member, before, key_value, member_setting, members_in, settings_of, value_given}
use Rattle.gr_rows.specs.Names.{is_key_name, key_name}

abbrev pub Entry : Type 0
Entry = String Global × Value

-- the members that entries are
abbrev pub members_at : List Entry → List Member
members_at entries = members_in (members_view entries)

-- whether this is the key's name
abbrev pub is_key : String Global → Bool
is_key = is_at (λ k. slice_cmp nat_cmp (codes "_key") (string_bytes k))

same_test : (k : String Global) → is_key k ≡ is_key_name (string_bytes k)
same_test k = is_eq-slice_cmp (codes "_key") (string_bytes k)

by_order : (o : Ordering) (b : Bool) (d : Data) (rest : Option Data) → is_eq o ≡ b
    → cond b (value_given d) (option_and_then value_given rest) ≡ option_and_then value_given (match_ordering o rest (Some d) rest)
by_order Less true d rest e = absurd (cc)
by_order Less false d rest e = refl
by_order Equal true d rest e = refl
by_order Equal false d rest e = absurd (cc)
by_order Greater true d rest e = absurd (cc)
by_order Greater false d rest e = refl

-- the key's value among members
pub key_value-found : (entries : List Entry) → key_value (members_at entries) ≡ option_and_then value_given (get_member key_name (members_view entries))
key_value-found [] = refl
key_value-found (first ∷ entries) =
    ap (λ rest. cond (is_key_name (string_bytes first.0)) (value_given (view first.1)) rest) (key_value-found entries)
    ∙ by_order (slice_cmp nat_cmp key_name (string_bytes first.0)) (is_key_name (string_bytes first.0)) (view first.1) (get_member key_name (members_view entries)) (same_test first.0)

module _ (schema : SchemaDef) (home : TableDef) (row : ℕ) where
  abbrev set : List Entry → Result (List Setting) Fault
  set entries = settings_of schema home row (members_at entries)

  same_result : (r : Result (List Setting) Fault) → result_map (before None) r ≡ r
  same_result (Ok settings) = refl
  same_result (Err fault) = refl

  -- the key sets nothing
  key_sets : (name : List ℕ) (d : Data) → is_key_name name ≡ true → member_setting schema home row (name, d) ≡ Ok None
  key_sets name d is = rw is refl

  removed_by : (b : Bool) (first : Entry) (entries : List Entry) → is_key first.0 ≡ b → set entries ≡ set (remove_entry is_key entries)
      → set (first ∷ entries) ≡ set (cond b entries (first ∷ remove_entry is_key entries))
  removed_by true first entries is rest =
      ap (result_then (λ setting. result_map (before setting) (set entries))) (key_sets (string_bytes first.0) (view first.1) (sym (same_test first.0) ∙ is))
      ∙ same_result (set entries)
  removed_by false first entries is rest =
      ap (λ r. result_then (λ setting. result_map (before setting) r) (member_setting schema home row (string_bytes first.0, view first.1))) rest

  -- what members set does not hang on the key
  pub key_removed : (entries : List Entry) → settings_of schema home row (members_at entries) ≡ settings_of schema home row (members_at (remove_entry is_key entries))
  key_removed [] = refl
  key_removed (first ∷ entries) = removed_by (is_key first.0) first entries refl (key_removed entries)

names_apart : (key : String Global) (entries : List Entry) → AllByRecursion (λ other. eq_by_cmp string_cmp key other ≡ false) (keys_of entries)
    → AllByRecursion (λ other. bytes_eq (string_bytes key) other ≡ false) (map (λ (member : Member). member.0) (members_at entries))
names_apart key [] apart = tt
names_apart key (first ∷ entries) apart = (sym (is_eq-slice_cmp (string_bytes key) (string_bytes first.0)) ∙ apart.0, names_apart key entries apart.1)

names_distinct : (entries : List Entry) → IsDistinct (eq_by_cmp string_cmp) (keys_of entries) → IsDistinct bytes_eq (map (λ (member : Member). member.0) (members_at entries))
unfolding IsDistinct
names_distinct [] apart = tt
names_distinct (first ∷ entries) apart = (names_apart first.0 entries apart.0, names_distinct entries apart.1)

-- an object has each name once
pub names_once : (entries : List Entry) → IsStrictlySortedBy string_cmp (keys_of entries) → IsDistinct bytes_eq (map (λ (member : Member). member.0) (members_at entries))
names_once entries sorted = names_distinct entries (IsDistinct-from_sorted string_cmp (keys_of entries) sorted)
