-- The records that are seen, by id.
use Rattle.std.proofs.Common.{ℕ, zero, suc, ◌≡◌, inl, inr, ◌+◌, Bool, true, false, cond, List, refl, sym, ap, subst, ◌∙◌, arith}
use Rattle.std.specs.Prelude.{None, Some, Option, is_some, slice_get}
use Rattle.std.specs.Option.{option_flatten, option_map, option_map_or}
use Rattle.std.proofs.lemmas.Bool.{cases_lt}
use Rattle.std.proofs.lemmas.List.{length-map}
use Rattle.std.proofs.lemmas.Option.{none-some, same_Some, slice_get-map}
use Rattle.gr_base.specs.Keys.{KeyMap}
use Rattle.gr_base.specs.declared.numbers.RecordId.{RecordId}
use Rattle.gr_columns.specs.Cells.{ColumnOf, cell_at}
use Rattle.gr_columns.specs.Places.{value_at}
use Rattle.gr_expr.specs.Tables.{Record, has_key, id_in, record_id, record_in}
use Rattle.gr_values.specs.Same.{is_same_key}
use Rattle.gr_values.specs.declared.data_type.DataType.{DataType}
use Rattle.gr_values.specs.declared.data_type.Shape.{Shape}
use Rattle.gr_values.specs.declared.value.Cell.{Cell}
use Rattle.gr_values.specs.declared.value.Key.{Key}
use Rattle.gr_table.specs.Inside.Held.{IsHeld}
use Rattle.gr_table.specs.Inside.Seen.{cells_in, records_seen, seen, shapes_in}
use Rattle.gr_table.specs.Sound.{IsCellIn, IsRecord, IsTable}
use Rattle.gr_table.proofs.Keys.{itself, same_is}
use Rattle.gr_table.proofs.Lists.{first_at, first_past, position_first, position_none}

module _ (of : Option DataType) (given : ℕ) (alive : Bool × List Bool) (tree : KeyMap) (keys : Option Key × List (Option Key)) (columns : List (Option ColumnOf)) (held : IsHeld of given alive tree keys columns) where
  -- the record that stands for an id
  abbrev record_of : ℕ → Record
  record_of n = record { key = value_at keys n; cells = cells_in columns n }

  -- an id that is alive is seen
  pub seen_alive : (n : ℕ) → value_at alive n ≡ true → seen alive keys columns n ≡ Some (record_of n)
  seen_alive n is = ap (λ b. cond b (Some (record_of n)) None) is

  pub seen_dead : (n : ℕ) → value_at alive n ≡ false → seen alive keys columns n ≡ None
  seen_dead n is = ap (λ b. cond b (Some (record_of n)) None) is

  -- what is seen is alive
  pub alive_seen : (n : ℕ) (found : Record) → seen alive keys columns n ≡ Some found → (value_at alive n ≡ true) × (record_of n ≡ found)
  alive_seen n found there = go (value_at alive n) refl there
    where
      go : (b : Bool) → value_at alive n ≡ b → cond b (Some (record_of n)) None ≡ Some found → (value_at alive n ≡ true) × (record_of n ≡ found)
      go true is e = (is, same_Some (record_of n) found e)
      go false is e = absurd (none-some found e)

  -- no id past the last is alive, and 0 is not
  not_alive : (n : ℕ) → (value_at alive n ≡ true → ⊥) → None ≡ seen alive keys columns n
  not_alive n dead = go (value_at alive n) refl
    where
      go : (b : Bool) → value_at alive n ≡ b → None ≡ seen alive keys columns n
      go true is = absurd (dead is)
      go false is = sym (seen_dead n is)

  -- the record of an id
  pub record_seen : (n : ℕ) → record_in (records_seen given alive keys columns) n ≡ seen alive keys columns n
  record_seen zero = not_alive 0 (λ is. absurd (omega (arith, held.from_one 0 is)))
  record_seen (suc i) = elim (cases_lt i given) [
    | inl below ↦ ap option_flatten (first_at given (λ j. seen alive keys columns (suc j)) i below)
    | inr past ↦ ap option_flatten (first_past given (λ j. seen alive keys columns (suc j)) i past) ∙ not_alive (suc i) (λ is. absurd (omega (arith, held.within (suc i) is, past)))
  ]

  -- whether it is there
  pub is_seen : (n : ℕ) → value_at alive n ≡ is_some (record_in (records_seen given alive keys columns) n)
  is_seen n = sym (ap is_some (record_seen n) ∙ go (value_at alive n))
    where
      go : (b : Bool) → is_some (cond b (Some (record_of n)) None) ≡ b
      go true = refl
      go false = refl

  -- where it is there it is alive
  pub is_alive : (n : ℕ) → is_some (record_in (records_seen given alive keys columns) n) ≡ true → value_at alive n ≡ true
  is_alive n is = is_seen n ∙ is

  -- an id with a key
  pub has_seen : (key : Key) (n : ℕ) → has_key key (seen alive keys columns n) ≡ true → (value_at alive n ≡ true) × (value_at keys n ≡ Some key)
  has_seen key n has = go (value_at alive n) refl has
    where
      of_key : (o : Option Key) → option_map_or (is_same_key key) o false ≡ true → o ≡ Some key
      of_key None e = absurd cc
      of_key (Some other) e = ap Some (sym (same_is key other e))

      go : (b : Bool) → value_at alive n ≡ b → has_key key (cond b (Some (record_of n)) None) ≡ true → (value_at alive n ≡ true) × (value_at keys n ≡ Some key)
      go true is e = (is, of_key (value_at keys n) e)
      go false is e = absurd cc

  seen_has : (key : Key) (n : ℕ) → value_at alive n ≡ true → value_at keys n ≡ Some key → has_key key (seen alive keys columns n) ≡ true
  seen_has key n is there = ap (has_key key) (seen_alive n is) ∙ ap (λ o. option_map_or (is_same_key key) o false) there ∙ itself key

  same_id : (m n : ℕ) → ◌≡◌ {A = Option RecordId} (Some (record_id m)) (Some (record_id n)) → m ≡ n
  same_id m n e = ap (λ (id : RecordId). id.0) (same_Some (record_id m) (record_id n) e)

  -- a key that a living id has
  pub found_id : (key : Key) (n : ℕ) → value_at alive n ≡ true → value_at keys n ≡ Some key → id_in (records_seen given alive keys columns) key ≡ Some (record_id n)
  found_id key zero is there = absurd (omega (arith, held.from_one 0 is))
  found_id key (suc i) is there =
      ap (option_map (λ n. record_id (n + 1)))
      (position_first (has_key key) given (λ j. seen alive keys columns (suc j)) i (omega (arith, held.within (suc i) is)) (seen_has key (suc i) is there)
      (λ j below has. let other = has_seen key (suc j) has in
      let e : suc j ≡ suc i = same_id (suc j) (suc i) (sym (held.leads (suc j) key other.0 other.1) ∙ held.leads (suc i) key is there) in omega (arith, e)))
      ∙ ap (λ n. Some (record_id n)) (omega arith)

  -- a key that none has
  pub no_id : (key : Key) → ((n : ℕ) → value_at alive n ≡ true → value_at keys n ≡ Some key → ⊥) → id_in (records_seen given alive keys columns) key ≡ None
  no_id key none =
      ap (option_map (λ n. record_id (n + 1))) (position_none (has_key key) given (λ j. seen alive keys columns (suc j)) (λ j below. go j (has_key key (seen alive keys columns (suc j))) refl))
    where
      go : (j : ℕ) (b : Bool) → has_key key (seen alive keys columns (suc j)) ≡ b → has_key key (seen alive keys columns (suc j)) ≡ false
      go j true has = let it = has_seen key (suc j) has in absurd (none (suc j) it.0 it.1)
      go j false has = has

  -- the cell of a column, by the column
  cell_in : (n c : ℕ) (shape : Option Shape) (cell : Option Cell) → slice_get (shapes_in columns) c ≡ Some shape → slice_get (cells_in columns n) c ≡ Some cell → IsCellIn shape cell
  cell_in n c shape cell shaped there =
      go (slice_get columns c) refl (sym (slice_get-map (option_map (λ (column : ColumnOf). column.shape)) columns c) ∙ shaped) (sym (slice_get-map (option_map (λ (column : ColumnOf). cell_at column (record_id n))) columns c) ∙ there)
    where
      go : (o : Option (Option ColumnOf)) → slice_get columns c ≡ o → option_map (option_map (λ (column : ColumnOf). column.shape)) o ≡ Some shape → option_map (option_map (λ (column : ColumnOf). cell_at column (record_id n))) o ≡ Some cell → IsCellIn shape cell
      go None is s t = absurd (none-some shape s)
      go (Some None) is s t = subst (λ (x : Option Shape). IsCellIn x cell) (same_Some None shape s) (sym (same_Some None cell t))
      go (Some (Some column)) is s t =
          subst (λ (x : Option Shape). IsCellIn x cell) (same_Some (Some column.shape) shape s)
          (subst (λ (x : Option Cell). IsCellIn (Some column.shape) x) (same_Some (Some (cell_at column (record_id n))) cell t) ((held.filled c column is).fits (record_id n)))

  -- what holds of every table
  pub table_sound : IsTable (record { key = of; shapes = shapes_in columns; records = records_seen given alive keys columns })
  table_sound = record {
    records = λ id found there.
        let it = alive_seen id found (sym (record_seen id) ∙ there) in
        subst (IsRecord (record { key = of; shapes = shapes_in columns; records = records_seen given alive keys columns })) it.1
        (record {
          keyed = held.keyed id it.0;
          wide = length-map columns (option_map (λ (column : ColumnOf). cell_at column (record_id id))) ∙ sym (length-map columns (option_map (λ (column : ColumnOf). column.shape)));
          cells = cell_in id;
        });
    distinct = λ id found key there is.
        let it = alive_seen id found (sym (record_seen id) ∙ there) in
        found_id key id it.0 (ap (λ (r : Record). r.key) it.1 ∙ is);
  }
