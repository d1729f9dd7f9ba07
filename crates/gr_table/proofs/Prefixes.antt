-- The records whose keys begin so.
use Rattle.std.proofs.Common.{ℕ, ◌≡◌, Bool, true, List, sym, ap, subst, ◌∙◌, ◌==◌}
use Rattle.std.specs.Prelude.{Some, Option}
use Rattle.std.specs.List.{starts_with}
use Rattle.gr_base.specs.Keys.{AreFound, IsFound, KeyMap}
use Rattle.gr_base.specs.declared.numbers.RecordId.{RecordId}
use Rattle.gr_columns.specs.Cells.{ColumnOf}
use Rattle.gr_columns.specs.Places.{value_at}
use Rattle.gr_expr.specs.Tables.{Record}
use Rattle.gr_values.specs.Fits.{IsKeyOf}
use Rattle.gr_values.specs.declared.data_type.DataType.{DataType}
use Rattle.gr_values.specs.declared.value.Key.{Key}
use Rattle.gr_table.specs.Inside.Bytes.{key_bytes}
use Rattle.gr_table.specs.Inside.Held.{IsHeld}
use Rattle.gr_table.specs.Inside.Seen.{cells_in, records_seen}
use Rattle.gr_table.specs.Masks.{AreWithPrefix, HasPrefix}
use Rattle.gr_table.specs.Table.{IsKeyIn}
use Rattle.gr_table.proofs.Seen.{alive_seen, record_seen, seen_alive}

module _ (of : Option DataType) (given : ℕ) (alive : Bool × List Bool) (tree : KeyMap) (keys : Option Key × List (Option Key)) (columns : List (Option ColumnOf)) (held : IsHeld of given alive tree keys columns) (texts : of ≡ Some DataType.ShortText) (prefix : List ℕ) where
  -- an id that the map finds
  to_record : (id : RecordId) → IsFound tree prefix id → HasPrefix (records_seen given alive keys columns) prefix id
  to_record id is = let it = held.sound is.key id is.has in
      go it.key it.living it.there it.same (subst (λ (o : Option DataType). IsKeyIn o (Some it.key)) texts (subst (IsKeyIn of) it.there (held.keyed id.0 it.living)))
    where
      go : (key : Key) → value_at alive id.0 ≡ true → value_at keys id.0 ≡ Some key → key_bytes key ≡ is.key → IsKeyOf DataType.ShortText key → HasPrefix (records_seen given alive keys columns) prefix id
      go (Key.Number number) living there same fits = absurd fits
      go (Key.Text text) living there same fits = record {
        found = record { key = value_at keys id.0; cells = cells_in columns id.0 };
        there = record_seen of given alive tree keys columns held id.0 ∙ seen_alive of given alive tree keys columns held id.0 living;
        text = text;
        key = there;
        begins = subst (λ bytes. starts_with ◌==◌ bytes prefix ≡ true) (sym same) is.begins;
      }

  -- a record whose key begins so
  to_key : (id : RecordId) → HasPrefix (records_seen given alive keys columns) prefix id → IsFound tree prefix id
  to_key id has =
      let it = alive_seen of given alive tree keys columns held id.0 has.found (sym (record_seen of given alive tree keys columns held id.0) ∙ has.there) in
      record { key = has.text; begins = has.begins; has = held.leads id.0 (Key.Text has.text) it.0 (ap (λ (r : Record). r.key) it.1 ∙ has.key) }

  -- all of them
  pub prefix_seen : (ids : List RecordId) → AreFound tree prefix ids → AreWithPrefix (records_seen given alive keys columns) prefix ids
  prefix_seen ids are = record {
    ascending = are.ascending;
    sound = λ id among. to_record id (are.sound id among);
    complete = λ id has. are.complete id (to_key id has);
  }
