-- What the parts of a table keep of each other, after each change.
use Rattle.std.proofs.Common.{ℕ, zero, suc, ◌≡◌, ◌≢◌, ◌⊎◌, inl, inr, ◌+◌, Bool, true, false, List, [], ◌∷◌, ◌++◌, length, refl, sym, ap, subst, ◌∙◌, arith, set}
use Rattle.std.specs.Prelude.{None, Some, Option, slice_get}
use Rattle.std.specs.FinMap.{empty, get, get-empty}
use Rattle.std.specs.Cmp.Lexicographic.{slice_cmp}
use Rattle.std.specs.Ordering.{nat_cmp}
use Rattle.std.proofs.lemmas.Bool.{cases_eq}
use Rattle.std.proofs.lemmas.Option.{none-some, same_Some}
use Rattle.gr_base.specs.Keys.{KeyMap}
use Rattle.gr_base.specs.declared.numbers.RecordId.{RecordId}
use Rattle.gr_columns.specs.Cells.{ColumnOf, SetsCell, cell_at}
use Rattle.gr_values.specs.Fits.{IsCellOf}
use Rattle.gr_columns.specs.Places.{value_at}
use Rattle.gr_expr.specs.Tables.{record_id}
use Rattle.gr_table.proofs.Lists.{slice_get_push}
use Rattle.gr_values.specs.Defaults.{default_of}
use Rattle.gr_values.specs.Types.{IsShape}
use Rattle.gr_values.specs.declared.data_type.DataType.{DataType}
use Rattle.gr_values.specs.declared.data_type.Shape.{Shape}
use Rattle.gr_values.specs.declared.value.Cell.{Cell}
use Rattle.gr_values.specs.declared.value.Key.{Key}
use Rattle.gr_table.specs.Inside.Bytes.{key_bytes}
use Rattle.gr_table.specs.Inside.Held.{IsFilled, IsHeld, IsOfKey}
use Rattle.gr_table.specs.Table.{IsKeyIn}
use Rattle.gr_table.proofs.Defaults.{default_fits}
use Rattle.gr_table.proofs.KeyBytes.{same_key}

-- what stands in a list with another item at a place is that item or stood there before
set_get : {X : Type 0} (xs : List X) (c : ℕ) (y : X) (n : ℕ) (x : X) → slice_get (set xs c y) n ≡ Some x → (y ≡ x) ⊎ (slice_get xs n ≡ Some x)
set_get [] c y n x e = inr e
set_get (z ∷ xs) zero y zero x e = inl (same_Some y x e)
set_get (z ∷ xs) zero y (suc n) x e = inr e
set_get (z ∷ xs) (suc c) y zero x e = inr e
set_get (z ∷ xs) (suc c) y (suc n) x e = set_get xs c y n x e

true_false : true ≡ false → ⊥
true_false e = absurd cc

-- a table of nothing
pub held_new : (of : Option DataType) (tree : KeyMap) → tree ≡ empty → IsHeld of 0 (false, []) tree (None, []) []
held_new of tree is = record {
  from_one = λ n e. absurd (true_false (sym e));
  within = λ n e. absurd (true_false (sym e));
  keyed = λ n e. absurd (true_false (sym e));
  leads = λ n key e there. absurd (true_false (sym e));
  sound = λ bytes id there. absurd (none-some id (sym (ap (λ m. get m bytes) is ∙ get-empty (slice_cmp nat_cmp) bytes) ∙ there));
  keyless = λ none n. refl;
  filled = λ n column there. absurd (none-some (Some column) there);
}

module _ (of : Option DataType) (given : ℕ) (alive : Bool × List Bool) (tree : KeyMap) (keys : Option Key × List (Option Key)) (columns : List (Option ColumnOf)) (held : IsHeld of given alive tree keys columns) where
  -- keys of living ids with the same bytes are one
  pub keys_apart : (n : ℕ) (other key : Key) → IsKeyIn of (Some key) → value_at alive n ≡ true → value_at keys n ≡ Some other → key_bytes other ≡ key_bytes key → other ≡ key
  keys_apart n other key is living there same = go of is (subst (IsKeyIn of) there (held.keyed n living))
    where
      go : (o : Option DataType) → IsKeyIn o (Some key) → IsKeyIn o (Some other) → other ≡ key
      go None k l = absurd k
      go (Some type) k l = same_key type other key l k same

  -- a key that no living id has is not in the map
  pub not_led : (key : Key) → IsKeyIn of (Some key) → ((n : ℕ) → value_at alive n ≡ true → value_at keys n ≡ Some key → ⊥) → get tree (key_bytes key) ≡ None
  not_led key is none = go (get tree (key_bytes key)) refl
    where
      go : (o : Option RecordId) → get tree (key_bytes key) ≡ o → get tree (key_bytes key) ≡ None
      go None e = e
      go (Some id) e =
          let it = held.sound (key_bytes key) id e in
          let same : it.key ≡ key = keys_apart id.0 it.key key is it.living it.there it.same in
          absurd (none id.0 it.living (it.there ∙ ap Some same))

  -- another cell in a column
  pub held_set : (c : ℕ) (old new : ColumnOf) (id : RecordId) (cell : Cell) → slice_get columns c ≡ Some (Some old) → value_at alive id.0 ≡ true → IsCellOf old.shape cell → SetsCell old new id cell
      → IsFilled given new
  held_set c old new id cell there living fits sets =
      let before = held.filled c old there in
      record {
        fits = λ other. elim (cases_eq other.0 id.0) [
          | inl same ↦
              let is : other ≡ id = λ i. record { 0 = same i } in
              subst (λ (s : Shape). IsCellOf s (cell_at new other)) (sym sets.shape) (subst (IsCellOf old.shape) (sym (ap (cell_at new) is ∙ sets.here)) fits)
          | inr differ ↦
              let apart : other ≢ id = λ e. differ (ap (λ (r : RecordId). r.0) e) in
              subst (λ (s : Shape). IsCellOf s (cell_at new other)) (sym sets.shape) (subst (IsCellOf old.shape) (sym (sets.elsewhere other apart)) (before.fits other))
        ];
        blank = λ n past.
            let apart : record_id n ≢ id = λ e. let at : n ≡ id.0 = ap (λ (r : RecordId). r.0) e in absurd (omega (arith, at, past, held.within id.0 living)) in
            sets.elsewhere (record_id n) apart ∙ before.blank n past ∙ ap default_of (sym sets.shape);
      }

  -- columns of which one is filled anew
  pub held_columns : (c : ℕ) (old new : ColumnOf) → slice_get columns c ≡ Some (Some old) → IsFilled given new → IsHeld of given alive tree keys (set columns c (Some new))
  held_columns c old new there filled = record {
    from_one = held.from_one;
    within = held.within;
    keyed = held.keyed;
    leads = held.leads;
    sound = held.sound;
    keyless = held.keyless;
    filled = λ n column is. at n column (set_get columns c (Some new) n (Some column) is);
  }
    where
      at : (n : ℕ) (column : ColumnOf) → ((◌≡◌ {A = Option ColumnOf} (Some new) (Some column)) ⊎ (slice_get columns n ≡ Some (Some column))) → IsFilled given column
      at n column (inl same) = subst (IsFilled given) (same_Some new column same) filled
      at n column (inr before) = held.filled n column before

  -- one more column
  pub held_column : (column : Option ColumnOf) → ((new : ColumnOf) → column ≡ Some new → IsFilled given new) → IsHeld of given alive tree keys (columns ++ column ∷ [])
  held_column column filled = record {
    from_one = held.from_one;
    within = held.within;
    keyed = held.keyed;
    leads = held.leads;
    sound = held.sound;
    keyless = held.keyless;
    filled = λ n new is. at n new (slice_get_push columns column n (Some new) is);
  }
    where
      at : (n : ℕ) (new : ColumnOf) → ((slice_get columns n ≡ Some (Some new)) ⊎ ((n ≡ length columns) × (column ≡ Some new))) → IsFilled given new
      at n new (inl before) = held.filled n new before
      at n new (inr last) = filled new last.1

  -- another key at an id that is not alive
  pub held_keys : (keys' : Option Key × List (Option Key)) (i : ℕ) → of ≢ None → value_at alive i ≡ false → ((other : ℕ) → other ≢ i → value_at keys' other ≡ value_at keys other) → IsHeld of given alive tree keys' columns
  held_keys keys' i keyed dead elsewhere = record {
    from_one = held.from_one;
    within = held.within;
    keyed = λ n living. subst (IsKeyIn of) (sym (stays n living)) (held.keyed n living);
    leads = λ n key living there. held.leads n key living (sym (stays n living) ∙ there);
    sound = λ bytes id there.
        let it = held.sound bytes id there in
        record { living = it.living; key = it.key; there = stays id.0 it.living ∙ it.there; same = it.same };
    keyless = λ none. absurd (keyed none);
    filled = held.filled;
  }
    where
      stays : (n : ℕ) → value_at alive n ≡ true → value_at keys' n ≡ value_at keys n
      stays n living = elsewhere n (λ e. true_false (sym living ∙ ap (value_at alive) e ∙ dead))

  -- an id that is not alive any more, and whose key leads nowhere
  pub held_removed : (alive' : Bool × List Bool) (tree' : KeyMap) (i : ℕ) → value_at alive' i ≡ false → ((other : ℕ) → other ≢ i → value_at alive' other ≡ value_at alive other)
      → ((q : List ℕ) (id : RecordId) → get tree' q ≡ Some id → (get tree q ≡ Some id) × (id.0 ≢ i)) → ((n : ℕ) (key : Key) → n ≢ i → value_at alive n ≡ true → value_at keys n ≡ Some key → get tree' (key_bytes key) ≡ get tree (key_bytes key))
      → IsHeld of given alive' tree' keys columns
  held_removed alive' tree' i dead elsewhere left stays = record {
    from_one = λ n living. held.from_one n (before n living);
    within = λ n living. held.within n (before n living);
    keyed = λ n living. held.keyed n (before n living);
    leads = λ n key living there. stays n key (apart n living) (before n living) there ∙ held.leads n key (before n living) there;
    sound = λ bytes id there.
        let was = left bytes id there in
        let it = held.sound bytes id was.0 in
        record { living = elsewhere id.0 was.1 ∙ it.living; key = it.key; there = it.there; same = it.same };
    keyless = held.keyless;
    filled = held.filled;
  }
    where
      apart : (n : ℕ) → value_at alive' n ≡ true → n ≢ i
      apart n living e = true_false (sym living ∙ ap (value_at alive') e ∙ dead)

      before : (n : ℕ) → value_at alive' n ≡ true → value_at alive n ≡ true
      before n living = sym (elsewhere n (apart n living)) ∙ living

  -- one id more
  pub held_added : (alive' : Bool × List Bool) (tree' : KeyMap) → value_at alive' (given + 1) ≡ true → ((other : ℕ) → other ≢ given + 1 → value_at alive' other ≡ value_at alive other)
      → IsKeyIn of (value_at keys (given + 1)) → ((key : Key) → value_at keys (given + 1) ≡ Some key → get tree' (key_bytes key) ≡ Some (record_id (given + 1)))
      → ((q : List ℕ) (id : RecordId) → get tree q ≡ Some id → get tree' q ≡ Some id)
      → ((q : List ℕ) (id : RecordId) → get tree' q ≡ Some id → IsOfKey alive' keys q id ⊎ (get tree q ≡ Some id))
      → IsHeld of (given + 1) alive' tree' keys columns
  held_added alive' tree' living_here elsewhere keyed_here leads_here stays sound_here = record {
    from_one = λ n living. elim (cases_eq n (given + 1)) [ inl e ↦ omega (arith, e) | inr d ↦ held.from_one n (before n d living) ];
    within = λ n living. elim (cases_eq n (given + 1)) [ inl e ↦ omega (arith, e) | inr d ↦ omega (arith, held.within n (before n d living)) ];
    keyed = λ n living. elim (cases_eq n (given + 1)) [ inl e ↦ subst (λ m. IsKeyIn of (value_at keys m)) (sym e) keyed_here | inr d ↦ held.keyed n (before n d living) ];
    leads = λ n key living there. elim (cases_eq n (given + 1)) [
      | inl e ↦ leads_here key (ap (value_at keys) (sym e) ∙ there) ∙ ap (λ m. Some (record_id m)) (sym e)
      | inr d ↦ stays (key_bytes key) (record_id n) (held.leads n key (before n d living) there)
    ];
    sound = λ bytes id there. elim (sound_here bytes id there) [
      | inl it ↦ it
      | inr was ↦ let it = held.sound bytes id was in
          let d : id.0 ≢ given + 1 = λ e. absurd (omega (arith, e, held.within id.0 it.living)) in
          record { living = elsewhere id.0 d ∙ it.living; key = it.key; there = it.there; same = it.same }
    ];
    keyless = held.keyless;
    filled = λ n column there. let was = held.filled n column there in record { fits = was.fits; blank = λ m past. was.blank m (omega (arith, past)) };
  }
    where
      before : (n : ℕ) → n ≢ given + 1 → value_at alive' n ≡ true → value_at alive n ≡ true
      before n d living = sym (elsewhere n d) ∙ living

-- a new column is filled
pub filled_new : (given : ℕ) (shape : Shape) → IsShape shape → IsFilled given (record { shape = shape; cells = [] })
filled_new given shape is = record { fits = λ id. default_fits shape is; blank = λ n past. refl }
