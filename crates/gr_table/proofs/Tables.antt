-- What each change of the parts does to the table that is seen.
use Rattle.std.proofs.Common.{ℕ, suc, ◌≡◌, ◌≢◌, inl, inr, ◌+◌, Bool, true, false, List, [], ◌∷◌, ◌++◌, length, refl, sym, ap, subst, ◌∙◌, arith, set, get_or}
use Rattle.std.specs.Prelude.{None, Some, Option, IfSome, MatchOption, is_some, slice_get}
use Rattle.std.specs.Option.{option_flatten, option_map}
use Rattle.std.proofs.lemmas.List.{map-append}
use Rattle.std.proofs.lemmas.Option.{get_or_from_slice_get, none-some, same_Some, slice_get-map}
use Rattle.gr_base.specs.Keys.{KeyMap}
use Rattle.gr_base.specs.declared.numbers.ColumnNo.{ColumnNo}
use Rattle.gr_base.specs.declared.numbers.RecordId.{RecordId}
use Rattle.gr_columns.specs.Cells.{ColumnOf, SetsCell, cell_at}
use Rattle.gr_values.specs.Fits.{IsCellOf}
use Rattle.gr_columns.specs.Places.{value_at}
use Rattle.gr_db.specs.Db.{changed_in, with_cell, with_column_of, with_record, without}
use Rattle.gr_expr.specs.Tables.{record_in}
use Rattle.gr_values.specs.Defaults.{default_of}
use Rattle.gr_values.specs.Types.{IsShape}
use Rattle.gr_values.specs.declared.data_type.DataType.{DataType}
use Rattle.gr_values.specs.declared.data_type.Shape.{Shape}
use Rattle.gr_values.specs.declared.value.Cell.{Cell}
use Rattle.gr_values.specs.declared.value.Key.{Key}
use Rattle.gr_table.specs.Inside.Held.{IsHeld}
use Rattle.gr_table.specs.Inside.Seen.{records_seen, seen, shapes_in}
use Rattle.gr_table.specs.Table.{TableOf}
use Rattle.gr_table.proofs.Changes.{records_added, records_column, records_removed, records_set, set_same, shape_set}
use Rattle.gr_table.specs.Inside.Bytes.{key_bytes}
use Rattle.gr_table.specs.Inside.Puts.{AddsRecord, LosesKey, PutsKey}
use Rattle.gr_table.specs.Inside.Held.{IsFilled}
use Rattle.gr_table.specs.Table.{IsKeyIn, id_found}
use Rattle.gr_table.proofs.Maps.{get_here, get_inserted, get_left, get_other, get_stays}
use Rattle.gr_columns.specs.Places.{SetsPlace}
use Rattle.std.specs.FinMap.{get, insert}
use Rattle.gr_expr.specs.Tables.{record_id}
use Rattle.gr_table.proofs.Lists.{length-first}
use Rattle.gr_table.proofs.Held.{filled_new, held_added, held_column, held_columns, held_keys, held_removed, held_set, not_led}
use Rattle.gr_table.proofs.Seen.{found_id, is_alive}

-- the table that its parts stand for
abbrev pub table_of : Option DataType → ℕ → Bool × List Bool → Option Key × List (Option Key) → List (Option ColumnOf) → TableOf
table_of of given alive keys columns = record { key = of; shapes = shapes_in columns; records = records_seen given alive keys columns }

-- a column with a shape is there, and is the one that was found
pub column_there : (columns : List (Option ColumnOf)) (c : ℕ) (P : Shape → Type 0) (d : Option ColumnOf) (found : ColumnOf) → MatchOption (option_flatten (slice_get (shapes_in columns) c)) ⊥ P → Some found ≡ get_or columns c d
    → (slice_get columns c ≡ Some (Some found)) × P found.shape
column_there columns c P d found fits is =
    go (slice_get columns c) refl (subst (λ (o : Option (Option Shape)). MatchOption (option_flatten o) ⊥ P) (slice_get-map (option_map (λ (column : ColumnOf). column.shape)) columns c) fits)
  where
    go : (o : Option (Option ColumnOf)) → slice_get columns c ≡ o → MatchOption (option_flatten (option_map (option_map (λ (column : ColumnOf). column.shape)) o)) ⊥ P → (slice_get columns c ≡ Some (Some found)) × P found.shape
    go None there never = absurd never
    go (Some None) there never = absurd never
    go (Some (Some column)) there p =
        let same : column ≡ found = same_Some column found (sym (is ∙ get_or_from_slice_get columns c (Some column) d there)) in
        (there ∙ ap (λ (x : ColumnOf). Some (Some x)) same, subst (λ (x : ColumnOf). P x.shape) same p)

module _ (of : Option DataType) (given : ℕ) (alive : Bool × List Bool) (tree : KeyMap) (keys : Option Key × List (Option Key)) (columns : List (Option ColumnOf)) (held : IsHeld of given alive tree keys columns) where
  -- another cell
  module _ (now : TableOf) (seen_is : table_of of given alive keys columns ≡ now) (column : ColumnNo) (id : RecordId) (cell : Cell) (living : is_some (record_in now.records id.0) ≡ true)
      (fits : MatchOption (option_flatten (slice_get now.shapes column.0)) ⊥ (λ shape. IsCellOf shape cell)) (d : Option ColumnOf) (old new : ColumnOf) (found : Some old ≡ get_or columns column.0 d) where
    there_fits : (slice_get columns column.0 ≡ Some (Some old)) × IsCellOf old.shape cell
    there_fits = column_there columns column.0 (λ shape. IsCellOf shape cell) d old (subst (λ (t : TableOf). MatchOption (option_flatten (slice_get t.shapes column.0)) ⊥ (λ shape. IsCellOf shape cell)) (sym seen_is) fits) found

    lives : value_at alive id.0 ≡ true
    lives = is_alive of given alive tree keys columns held id.0 (ap (λ (t : TableOf). is_some (record_in t.records id.0)) seen_is ∙ living)

    pub held_cell : SetsCell old new id cell → IsHeld of given alive tree keys (set columns column.0 (Some new))
    held_cell sets =
        let it = there_fits in
        held_columns of given alive tree keys columns held column.0 old new it.0 (held_set of given alive tree keys columns held column.0 old new id cell it.0 lives it.1 sets)

    pub held_same_cell : new ≡ old → IsHeld of given alive tree keys (set columns column.0 (Some new))
    held_same_cell same = subst (λ (cs : List (Option ColumnOf)). IsHeld of given alive tree keys cs) (sym (set_same columns column.0 (Some new) (there_fits.0 ∙ ap (λ (x : ColumnOf). Some (Some x)) (sym same)))) held

    pub table_cell : SetsCell old new id cell → table_of of given alive keys (set columns column.0 (Some new)) ≡ record now { records = changed_in id.0 (with_cell column cell) now.records }
    table_cell sets =
        let there = there_fits.0 in
        let shapes_are : shapes_in (set columns column.0 (Some new)) ≡ shapes_in columns = shape_set of given alive tree keys columns held column.0 old new id cell there sets in
        let records_are : records_seen given alive keys (set columns column.0 (Some new)) ≡ changed_in id.0 (with_cell column cell) (records_seen given alive keys columns) =
        records_set of given alive tree keys columns held column.0 old new id cell there sets lives in
        ap (λ (s : List (Option Shape)). record { key = of; shapes = s; records = records_seen given alive keys (set columns column.0 (Some new)) }) shapes_are
        ∙ ap (λ rs. record { key = of; shapes = shapes_in columns; records = rs }) records_are
        ∙ ap (λ (t : TableOf). record t { records = changed_in id.0 (with_cell column cell) t.records }) seen_is

  -- one more column
  module _ (now : TableOf) (seen_is : table_of of given alive keys columns ≡ now) (shape : Option Shape) (is : IfSome shape IsShape) where
    abbrev pub new_column : Option ColumnOf
    new_column = option_map (λ (s : Shape). record { shape = s; cells = [] }) shape

    pub held_more : IsHeld of given alive tree keys (columns ++ new_column ∷ [])
    held_more = held_column of given alive tree keys columns held new_column (λ new e. fills shape is new e)
      where
        fills : (o : Option Shape) → IfSome o IsShape → (new : ColumnOf) → ◌≡◌ {A = Option ColumnOf} (option_map (λ (s : Shape). record { shape = s; cells = [] }) o) (Some new) → IsFilled given new
        fills None sound new e = absurd (none-some new e)
        fills (Some s) sound new e = subst (IsFilled given) (same_Some (record { shape = s; cells = [] }) new e) (filled_new given s sound)

    pub table_more : table_of of given alive keys (columns ++ new_column ∷ []) ≡ record now { shapes = now.shapes ++ shape ∷ []; records = with_column_of (option_map default_of shape) now.records }
    table_more =
        ap (λ (ss : List (Option Shape)). record { key = of; shapes = ss; records = records_seen given alive keys (columns ++ new_column ∷ []) }) (map-append (option_map (λ (c : ColumnOf). c.shape)) columns (new_column ∷ []) ∙ ap (λ s. shapes_in columns ++ s ∷ []) (shape_is shape))
        ∙ ap (λ rs. record { key = of; shapes = shapes_in columns ++ shape ∷ []; records = rs }) (records_column of given alive tree keys columns held new_column (option_map default_of shape) (λ n. cell_is n shape))
        ∙ ap (λ (t : TableOf). record t { shapes = t.shapes ++ shape ∷ []; records = with_column_of (option_map default_of shape) t.records }) seen_is
      where
        shape_is : (o : Option Shape) → option_map (λ (c : ColumnOf). c.shape) (option_map (λ (s : Shape). record { shape = s; cells = [] }) o) ≡ o
        shape_is None = refl
        shape_is (Some s) = refl

        cell_is : (n : ℕ) (o : Option Shape) → option_map (λ (c : ColumnOf). cell_at c (record_id n)) (option_map (λ (s : Shape). record { shape = s; cells = [] }) o) ≡ option_map default_of o
        cell_is n None = refl
        cell_is n (Some s) = refl

  -- a record less
  module _ (now : TableOf) (seen_is : table_of of given alive keys columns ≡ now) (id : RecordId) (living : is_some (record_in now.records id.0) ≡ true) where
    lived : value_at alive id.0 ≡ true
    lived = is_alive of given alive tree keys columns held id.0 (ap (λ (t : TableOf). is_some (record_in t.records id.0)) seen_is ∙ living)

    pub key_leads : IfSome (value_at keys id.0) (λ asked. is_some (get tree (key_bytes asked)) ≡ true)
    key_leads = go (value_at keys id.0) refl
      where
        go : (o : Option Key) → value_at keys id.0 ≡ o → IfSome o (λ asked. is_some (get tree (key_bytes asked)) ≡ true)
        go None e = tt
        go (Some key) e = ap is_some (held.leads id.0 key lived e)

    pub held_less : (alive' : Bool × List Bool) (tree' : KeyMap) → LosesKey tree tree' (value_at keys id.0) → SetsPlace alive alive' id.0 false → IsHeld of given alive' tree' keys columns
    held_less alive' tree' loses sets = go (value_at keys id.0) refl loses
      where
        same_at : (m n : ℕ) → ◌≡◌ {A = Option RecordId} (Some (record_id m)) (Some (record_id n)) → m ≡ n
        same_at m n e = ap (λ (r : RecordId). r.0) (same_Some (record_id m) (record_id n) e)

        go : (o : Option Key) → value_at keys id.0 ≡ o → LosesKey tree tree' o → IsHeld of given alive' tree' keys columns
        go None e is = held_removed of given alive tree keys columns held alive' tree' id.0 sets.here sets.elsewhere
            (λ q other there.
            let was : get tree q ≡ Some other = ap (λ m. get m q) (sym is) ∙ there in
            let it = held.sound q other was in
            (was, λ at. none-some it.key (sym e ∙ ap (value_at keys) (sym at) ∙ it.there)))
            (λ n key apart l there. ap (λ m. get m (key_bytes key)) is)
        go (Some gone) e is = held_removed of given alive tree keys columns held alive' tree' id.0 sets.here sets.elsewhere
            (λ q other there.
            let was = get_left tree (key_bytes gone) other q (ap (λ m. get m q) (sym is) ∙ there) in
            let it = held.sound q other was.0 in
            (was.0, λ at. was.1 (sym it.same ∙ ap key_bytes (same_Some it.key gone (sym it.there ∙ ap (value_at keys) at ∙ e)))))
            (λ n key apart l there. ap (λ m. get m (key_bytes key)) is ∙ get_stays tree (key_bytes gone) (key_bytes key)
            (λ same. apart (same_at n id.0 (sym (held.leads n key l there) ∙ ap (get tree) same ∙ held.leads id.0 gone lived e))))

    pub table_less : (alive' : Bool × List Bool) → SetsPlace alive alive' id.0 false → table_of of given alive' keys columns ≡ record now { records = without id.0 now.records }
    table_less alive' sets =
        ap (λ rs. record { key = of; shapes = shapes_in columns; records = rs }) (records_removed of given alive tree keys columns held alive' id.0 lived sets.here sets.elsewhere)
        ∙ ap (λ (t : TableOf). record t { records = without id.0 t.records }) seen_is

  -- a record more
  module _ (now : TableOf) (seen_is : table_of of given alive keys columns ≡ now) (key : Option Key) (keyed : IsKeyIn now.key key) (missing : id_found now key ≡ None) where
    keyed_of : IsKeyIn of key
    keyed_of = subst (λ (t : TableOf). IsKeyIn t.key key) (sym seen_is) keyed

    pub key_free : IfSome key (λ asked. get tree (key_bytes asked) ≡ None)
    key_free = go key keyed_of (ap (λ (t : TableOf). id_found t key) seen_is ∙ missing)
      where
        go : (o : Option Key) → IsKeyIn of o → id_found (table_of of given alive keys columns) o ≡ None → IfSome o (λ asked. get tree (key_bytes asked) ≡ None)
        go None k m = tt
        go (Some asked) k m = not_led of given alive tree keys columns held asked k (λ n l there. none-some (record_id n) (sym m ∙ found_id of given alive tree keys columns held asked n l there))

    next_dead : value_at alive (given + 1) ≡ false
    next_dead = go (value_at alive (given + 1)) refl
      where
        go : (b : Bool) → value_at alive (given + 1) ≡ b → value_at alive (given + 1) ≡ false
        go true e = absurd (omega (arith, held.within (given + 1) e))
        go false e = e

    module _ (keys' : Option Key × List (Option Key)) (elsewhere : (other : ℕ) → other ≢ given + 1 → value_at keys' other ≡ value_at keys other) (unkeyed : key ≡ None → keys' ≡ keys) where
      pub held_torn : IsHeld of given alive tree keys' columns
      held_torn = go key refl keyed_of
        where
          go : (o : Option Key) → key ≡ o → IsKeyIn of o → IsHeld of given alive tree keys' columns
          go None e k = subst (λ (ks : Option Key × List (Option Key)). IsHeld of given alive tree ks columns) (sym (unkeyed e)) held
          go (Some asked) e k = held_keys of given alive tree keys columns held keys' (given + 1) (λ none. subst (λ (o : Option DataType). IsKeyIn o (Some asked)) none k) next_dead elsewhere

      module _ (alive' : Bool × List Bool) (tree' : KeyMap) (puts : PutsKey keys tree keys' tree' key (record_id (given + 1))) (sets : SetsPlace alive alive' (given + 1) true) where
        pub held_next : IsHeld of (given + 1) alive' tree' keys' columns
        held_next = go key keyed_of key_free puts
          where
            go : (o : Option Key) → IsKeyIn of o → IfSome o (λ asked. get tree (key_bytes asked) ≡ None) → PutsKey keys tree keys' tree' o (record_id (given + 1)) → IsHeld of (given + 1) alive' tree' keys' columns
            go None k free p =
                let no_key : value_at keys' (given + 1) ≡ None = ap (λ (ks : Option Key × List (Option Key)). value_at ks (given + 1)) p.0 ∙ held.keyless k (given + 1) in
                held_added of given alive tree keys' columns held_torn alive' tree' sets.here sets.elsewhere
                (subst (IsKeyIn of) (sym no_key) k)
                (λ other e. absurd (none-some other (sym no_key ∙ e)))
                (λ q id there. ap (λ (m : KeyMap). get m q) p.1 ∙ there)
                (λ q id there. inr (sym (ap (λ (m : KeyMap). get m q) p.1) ∙ there))
            go (Some asked) k free p =
                held_added of given alive tree keys' columns held_torn alive' tree' sets.here sets.elsewhere
                (subst (IsKeyIn of) (sym p.0.here) k)
                (λ other e. ap (λ (m : KeyMap). get m (key_bytes other)) p.1
                ∙ subst (λ (x : Key). get (insert tree (key_bytes asked) (record_id (given + 1))) (key_bytes x) ≡ Some (record_id (given + 1))) (same_Some asked other (sym p.0.here ∙ e)) (get_here tree (key_bytes asked) (record_id (given + 1))))
                (λ q id there. ap (λ (m : KeyMap). get m q) p.1 ∙ get_other tree (key_bytes asked) (record_id (given + 1)) id q free there)
                (λ q id there. elim (get_inserted tree (key_bytes asked) (record_id (given + 1)) id q (sym (ap (λ (m : KeyMap). get m q) p.1) ∙ there)) [
                  | inl it ↦
                      let at : id.0 ≡ given + 1 = sym (ap (λ (r : RecordId). r.0) it.1) in
                      inl (record { living = ap (value_at alive') at ∙ sets.here; key = asked; there = ap (value_at keys') at ∙ p.0.here; same = sym it.0 })
                  | inr was ↦ inr was
                ])

        pub table_next : AddsRecord now (table_of of (given + 1) alive' keys' columns) key (record_id (given + 1))
        table_next = record {
          next = ap (λ n. record_id (n + 1)) (sym (length-first given (λ i. seen alive keys columns (suc i))) ∙ ap (λ (t : TableOf). length t.records) seen_is);
          last =
              ap (λ rs. record { key = of; shapes = shapes_in columns; records = rs }) (records_added of given alive tree keys columns held alive' keys' key sets.here sets.elsewhere (key_there key keyed_of puts) elsewhere)
              ∙ ap (λ (t : TableOf). record t { records = with_record t.shapes key t.records }) seen_is;
        }
          where
            key_there : (o : Option Key) → IsKeyIn of o → PutsKey keys tree keys' tree' o (record_id (given + 1)) → value_at keys' (given + 1) ≡ o
            key_there None k p = ap (λ (ks : Option Key × List (Option Key)). value_at ks (given + 1)) p.0 ∙ held.keyless k (given + 1)
            key_there (Some asked) k p = p.0.here
