-- Names and their numbers, after one more name.
use Rattle.std.proofs.Common.{ℕ, ◌≡◌, Bool, true, false, cond, List, [], ◌∷◌, ◌++◌, length, refl, sym, ap, subst, ◌∙◌}
use Rattle.std.specs.Cmp.{IsEquivalence}
use Rattle.std.proofs.lemmas.Cmp.{eq_by_cmp_equiv}
use Rattle.std.specs.Prelude.{None, Some, Option, is_some}
use Rattle.std.specs.Cmp.Lexicographic.{nat_list_cmp_total, same_text, slice_cmp, texts_ties}
use Rattle.std.specs.FinMap.{empty, get, get-empty, get-insert, insert}
use Rattle.std.specs.List.{position}
use Rattle.std.specs.Option.{option_map}
use Rattle.std.proofs.lemmas.Option.{none-some}
use Rattle.std.specs.Ordering.{eq_by_cmp, nat_cmp}
use Rattle.std.specs.Str.{bytes_eq}
use Rattle.gr_base.specs.Keys.{KeyMap}
use Rattle.gr_base.specs.declared.numbers.RecordId.{RecordId}
use Rattle.gr_schema.specs.Inside.Names.{IsNumbered, record_id}
use Rattle.gr_schema.proofs.PlacesLemmas.{position_push}

texts_equal : IsEquivalence (eq_by_cmp {K = List ℕ} (slice_cmp nat_cmp))
texts_equal = eq_by_cmp_equiv nat_list_cmp_total

-- two texts are one in either order
pub bytes_eq-sym : (text other : List ℕ) → bytes_eq text other ≡ bytes_eq other text
bytes_eq-sym text other = texts_ties text other ∙ texts_equal.symm text other ∙ sym (texts_ties other text)

-- a text is itself
pub text_itself : (text : List ℕ) → bytes_eq text text ≡ true
text_itself text = texts_ties text text ∙ texts_equal.refl text

-- no items have no names
pub numbered_empty : {X : Type 0} (name_of : X → List ℕ) → IsNumbered name_of empty []
numbered_empty name_of = record { found = λ name. get-empty (slice_cmp nat_cmp) name }

module _ {X : Type 0} (name_of : X → List ℕ) where
  place_of : List ℕ → List X → Option ℕ
  place_of name items = position (λ item. bytes_eq (name_of item) name) items

  -- what the map has of a name is the place of that name, after one more item
  found_by : (b : Bool) (n : ℕ) (o : Option ℕ) (found : Option RecordId) → (b ≡ true → o ≡ None) → found ≡ option_map record_id o
      → cond b (Some (record_id n)) found ≡ option_map record_id (cond (is_some o) o (cond b (Some n) None))
  found_by true n None found none is = refl
  found_by true n (Some m) found none is = let e : ◌≡◌ {A = Option ℕ} (Some m) None = none refl in absurd (cc)
  found_by false n None found none is = is
  found_by false n (Some m) found none is = is

  -- one more item of a name that none has
  pub numbered_push : (names : KeyMap) (items : List X) (item : X) → IsNumbered name_of names items → position (λ other. bytes_eq (name_of other) (name_of item)) items ≡ None
      → IsNumbered name_of (insert names (name_of item) (record_id (length items))) (items ++ item ∷ [])
  numbered_push names items item known free = record {
    found = λ name.
        get-insert nat_list_cmp_total names (name_of item) (record_id (length items)) name
        ∙ ap (λ b. cond b (Some (record_id (length items))) (get names name)) (sym (texts_ties name (name_of item)) ∙ bytes_eq-sym name (name_of item))
        ∙ found_by (bytes_eq (name_of item) name) (length items) (position (λ other. bytes_eq (name_of other) name) items) (get names name) (free_at name) (known.found name)
        ∙ ap (option_map record_id) (sym (position_push (λ other. bytes_eq (name_of other) name) items item));
  }
    where
      free_at : (name : List ℕ) → bytes_eq (name_of item) name ≡ true → position (λ other. bytes_eq (name_of other) name) items ≡ None
      free_at name is = subst (λ q. position (λ other. bytes_eq (name_of other) q) items ≡ None) (same_text (name_of item) name (sym is)) free

  -- a name that leads to no item has no number
  pub numbered_free : {U : Type 0} (number_of : ℕ → U) (names : KeyMap) (items : List X) (name : List ℕ) → IsNumbered name_of names items
      → option_map number_of (position (λ item. bytes_eq (name_of item) name) items) ≡ None → get names name ≡ None
  numbered_free number_of names items name known free = known.found name ∙ ap (option_map record_id) (none_by (position (λ item. bytes_eq (name_of item) name) items) free)
    where
      none_by : (o : Option ℕ) → option_map number_of o ≡ None → o ≡ None
      none_by None e = refl
      none_by (Some n) e = absurd (none-some (number_of n) (sym e))

  -- a name that has no number leads to no item
  pub free_numbered : (names : KeyMap) (items : List X) (name : List ℕ) → IsNumbered name_of names items → get names name ≡ None → position (λ item. bytes_eq (name_of item) name) items ≡ None
  free_numbered names items name known free = none_by (position (λ item. bytes_eq (name_of item) name) items) (sym (known.found name) ∙ free)
    where
      none_by : (o : Option ℕ) → option_map record_id o ≡ None → o ≡ None
      none_by None e = refl
      none_by (Some n) e = absurd (none-some (record_id n) (sym e))

  -- the names and the items after one more, as they were made
  pub numbered_made : (names made : KeyMap) (items more : List X) (item : X) (name : List ℕ) (n : ℕ) → IsNumbered name_of names items → get names name ≡ None
      → name ≡ name_of item → n ≡ length items → made ≡ insert names name (record_id n) → more ≡ items ++ item ∷ [] → IsNumbered name_of made more
  numbered_made names made items more item name n known free is at made_is more_is =
      rw (made_is, more_is, at, is)
      (numbered_push names items item known (free_numbered names items (name_of item) known (ap (get names) (sym is) ∙ free)))
