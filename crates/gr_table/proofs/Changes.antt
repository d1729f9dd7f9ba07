-- The records that are seen after each change.
use Rattle.std.proofs.Common.{ℕ, zero, suc, ◌≡◌, ◌≢◌, ◌+◌, Bool, true, false, cond, List, [], ◌∷◌, ◌++◌, refl, sym, ap, ◌∙◌, arith, set}
use Rattle.std.specs.Prelude.{None, Some, Option, slice_get}
use Rattle.std.specs.Option.{option_map}
use Rattle.std.proofs.lemmas.List.{map-append, map-set}
use Rattle.std.proofs.lemmas.Option.{same_Some, slice_get-map}
use Rattle.gr_base.specs.Keys.{KeyMap}
use Rattle.gr_base.specs.declared.numbers.RecordId.{RecordId}
use Rattle.gr_columns.specs.Cells.{ColumnOf, SetsCell, cell_at}
use Rattle.gr_columns.specs.Places.{value_at}
use Rattle.gr_db.specs.Db.{blank, changed_in, new_record, with_cell, with_column_of, with_one_more, with_record, without}
use Rattle.gr_expr.specs.Tables.{Record, record_id}
use Rattle.gr_schema.specs.Schema.{changed_at}
use Rattle.gr_values.specs.Defaults.{default_of}
use Rattle.gr_values.specs.declared.data_type.DataType.{DataType}
use Rattle.gr_values.specs.declared.value.Cell.{Cell}
use Rattle.gr_values.specs.declared.value.Key.{Key}
use Rattle.gr_table.specs.Inside.Held.{IsHeld}
use Rattle.gr_table.specs.Inside.Seen.{cells_in, first, records_seen, seen, shapes_in}
use Rattle.gr_table.proofs.Lists.{changed_at_set, first-changed, first-more, first-same, map-first}

-- an item that is put where the same stands changes nothing
pub set_same : {X : Type 0} (xs : List X) (c : ℕ) (x : X) → slice_get xs c ≡ Some x → set xs c x ≡ xs
set_same [] c x e = refl
set_same (y ∷ xs) zero x e = ap (λ z. z ∷ xs) (sym (same_Some y x e))
set_same (y ∷ xs) (suc c) x e = ap (λ zs. y ∷ zs) (set_same xs c x e)

module _ (of : Option DataType) (given : ℕ) (alive : Bool × List Bool) (tree : KeyMap) (keys : Option Key × List (Option Key)) (columns : List (Option ColumnOf)) (held : IsHeld of given alive tree keys columns) where
  -- where an id is alive, the records of that id are those at its place
  changed_there : (n : ℕ) (change : Record → Record) (g : ℕ → Option Record) → value_at alive n ≡ true → g n ≡ option_map change (seen alive keys columns n)
      → ((other : ℕ) → other ≢ n → g other ≡ seen alive keys columns other) → first given (λ i. g (suc i)) ≡ changed_in n change (records_seen given alive keys columns)
  changed_there zero change g living here elsewhere = absurd (omega (arith, held.from_one 0 living))
  changed_there (suc k) change g living here elsewhere =
      first-changed given (λ i. seen alive keys columns (suc i)) (λ i. g (suc i)) k (option_map change) (λ below. here) (λ i below apart. elsewhere (suc i) (λ e. apart (omega (arith, e))))

  -- a column of which one cell is set
  module _ (c : ℕ) (old new : ColumnOf) (id : RecordId) (cell : Cell) (there : slice_get columns c ≡ Some (Some old)) (sets : SetsCell old new id cell) where
    pub shape_set : shapes_in (set columns c (Some new)) ≡ shapes_in columns
    shape_set =
        map-set (option_map (λ (column : ColumnOf). column.shape)) columns c (Some new)
        ∙ set_same (shapes_in columns) c (Some new.shape) (slice_get-map (option_map (λ (column : ColumnOf). column.shape)) columns c ∙ ap (option_map (option_map (λ (column : ColumnOf). column.shape))) there ∙ ap (λ s. Some (Some s)) (sym sets.shape))

    cells_elsewhere : (n : ℕ) → n ≢ id.0 → cells_in (set columns c (Some new)) n ≡ cells_in columns n
    cells_elsewhere n apart =
        map-set (option_map (λ (column : ColumnOf). cell_at column (record_id n))) columns c (Some new)
        ∙ set_same (cells_in columns n) c (Some (cell_at new (record_id n)))
        (slice_get-map (option_map (λ (column : ColumnOf). cell_at column (record_id n))) columns c ∙ ap (option_map (option_map (λ (column : ColumnOf). cell_at column (record_id n)))) there
        ∙ ap (λ x. Some (Some x)) (sym (sets.elsewhere (record_id n) (λ e. apart (ap (λ (r : RecordId). r.0) e)))))

    cells_here : cells_in (set columns c (Some new)) id.0 ≡ changed_at c (λ (o : Option Cell). Some cell) (cells_in columns id.0)
    cells_here =
        map-set (option_map (λ (column : ColumnOf). cell_at column (record_id id.0))) columns c (Some new)
        ∙ ap (λ x. set (cells_in columns id.0) c (Some x)) sets.here
        ∙ changed_at_set c (λ (o : Option Cell). Some cell) (cells_in columns id.0) (Some (cell_at old (record_id id.0)))
        (slice_get-map (option_map (λ (column : ColumnOf). cell_at column (record_id id.0))) columns c ∙ ap (option_map (option_map (λ (column : ColumnOf). cell_at column (record_id id.0)))) there)

    seen_elsewhere : (n : ℕ) → n ≢ id.0 → seen alive keys (set columns c (Some new)) n ≡ seen alive keys columns n
    seen_elsewhere n apart = ap (λ cells. cond (value_at alive n) (Some (record { key = value_at keys n; cells = cells })) None) (cells_elsewhere n apart)

    seen_here : value_at alive id.0 ≡ true → seen alive keys (set columns c (Some new)) id.0 ≡ option_map (with_cell (record { 0 = c }) cell) (seen alive keys columns id.0)
    seen_here living =
        ap (λ b. cond b (Some (record { key = value_at keys id.0; cells = cells_in (set columns c (Some new)) id.0 })) None) living
        ∙ ap (λ cells. Some (record { key = value_at keys id.0; cells = cells })) cells_here
        ∙ ap (λ b. option_map (with_cell (record { 0 = c }) cell) (cond b (Some (record { key = value_at keys id.0; cells = cells_in columns id.0 })) None)) (sym living)

    pub records_set : value_at alive id.0 ≡ true → records_seen given alive keys (set columns c (Some new)) ≡ changed_in id.0 (with_cell (record { 0 = c }) cell) (records_seen given alive keys columns)
    records_set living = changed_there id.0 (with_cell (record { 0 = c }) cell) (seen alive keys (set columns c (Some new))) living (seen_here living) seen_elsewhere

  -- a record that is not there any more
  pub records_removed : (alive' : Bool × List Bool) (n : ℕ) → value_at alive n ≡ true → value_at alive' n ≡ false → ((other : ℕ) → other ≢ n → value_at alive' other ≡ value_at alive other)
      → records_seen given alive' keys columns ≡ without n (records_seen given alive keys columns)
  records_removed alive' zero living dead elsewhere = absurd (omega (arith, held.from_one 0 living))
  records_removed alive' (suc k) living dead elsewhere =
      first-changed given (λ i. seen alive keys columns (suc i)) (λ i. seen alive' keys columns (suc i)) k (λ (o : Option Record). None)
      (λ below. ap (λ b. cond b (Some (record { key = value_at keys (suc k); cells = cells_in columns (suc k) })) None) dead)
      (λ i below apart. ap (λ b. cond b (Some (record { key = value_at keys (suc i); cells = cells_in columns (suc i) })) None) (elsewhere (suc i) (λ e. apart (omega (arith, e)))))

  -- records with one more column
  pub records_column : (column : Option ColumnOf) (cell : Option Cell) → ((n : ℕ) → option_map (λ (c : ColumnOf). cell_at c (record_id n)) column ≡ cell)
      → records_seen given alive keys (columns ++ column ∷ []) ≡ with_column_of cell (records_seen given alive keys columns)
  records_column column cell is =
      first-same given (λ i. seen alive keys (columns ++ column ∷ []) (suc i)) (λ i. option_map (with_one_more cell) (seen alive keys columns (suc i))) (λ i below. at (suc i) (value_at alive (suc i)))
      ∙ sym (map-first (option_map (with_one_more cell)) given (λ i. seen alive keys columns (suc i)))
    where
      cells : (n : ℕ) → cells_in (columns ++ column ∷ []) n ≡ cells_in columns n ++ cell ∷ []
      cells n = map-append (option_map (λ (c : ColumnOf). cell_at c (record_id n))) columns (column ∷ []) ∙ ap (λ x. cells_in columns n ++ x ∷ []) (is n)

      at : (n : ℕ) (b : Bool) → cond b (Some (record { key = value_at keys n; cells = cells_in (columns ++ column ∷ []) n })) None ≡ option_map (with_one_more cell) (cond b (Some (record { key = value_at keys n; cells = cells_in columns n })) None)
      at n true = ap (λ cs. Some (record { key = value_at keys n; cells = cs })) (cells n)
      at n false = refl

  -- records with one more
  pub records_added : (alive' : Bool × List Bool) (keys' : Option Key × List (Option Key)) (key : Option Key) → value_at alive' (given + 1) ≡ true → ((other : ℕ) → other ≢ given + 1 → value_at alive' other ≡ value_at alive other)
      → value_at keys' (given + 1) ≡ key → ((other : ℕ) → other ≢ given + 1 → value_at keys' other ≡ value_at keys other)
      → records_seen (given + 1) alive' keys' columns ≡ with_record (shapes_in columns) key (records_seen given alive keys columns)
  records_added alive' keys' key living elsewhere has key_elsewhere =
      ap (λ n. records_seen n alive' keys' columns) one_more
      ∙ first-more given (λ i. seen alive keys columns (suc i)) (λ i. seen alive' keys' columns (suc i)) (Some (new_record (shapes_in columns) key))
      (λ i below. let apart : suc i ≢ given + 1 = λ e. absurd (omega (arith, e, below)) in
      ap (λ b. cond b (Some (record { key = value_at keys' (suc i); cells = cells_in columns (suc i) })) None) (elsewhere (suc i) apart)
      ∙ ap (λ k. cond (value_at alive (suc i)) (Some (record { key = k; cells = cells_in columns (suc i) })) None) (key_elsewhere (suc i) apart))
      (let last : suc given ≡ given + 1 = omega arith in
      ap (λ b. cond b (Some (record { key = value_at keys' (suc given); cells = cells_in columns (suc given) })) None) (ap (value_at alive') last ∙ living)
      ∙ ap (λ k. Some (record { key = k; cells = cells_in columns (suc given) })) (ap (value_at keys') last ∙ has)
      ∙ ap (λ cs. Some (record { key = key; cells = cs })) (blanks columns (λ n column there. (held.filled n column there).blank (suc given) (omega arith))))
    where
      one_more : given + 1 ≡ suc given
      one_more = omega arith

      blanks : (cs : List (Option ColumnOf)) → ((n : ℕ) (column : ColumnOf) → slice_get cs n ≡ Some (Some column) → cell_at column (record_id (suc given)) ≡ default_of column.shape)
          → cells_in cs (suc given) ≡ blank (shapes_in cs)
      blanks [] is = refl
      blanks (None ∷ cs) is = ap (λ xs. None ∷ xs) (blanks cs (λ n column there. is (suc n) column there))
      blanks (Some column ∷ cs) is =
          ap (λ x. Some x ∷ cells_in cs (suc given)) (is 0 column refl) ∙ ap (λ xs. Some (default_of column.shape) ∷ xs) (blanks cs (λ n column there. is (suc n) column there))
