-- What the map says of the records that are seen.
use Rattle.std.proofs.Common.{ℕ, ◌≡◌, Bool, true, false, List, sym, ap, ◌∙◌}
use Rattle.std.specs.Prelude.{None, Some, Option}
use Rattle.std.specs.FinMap.{get}
use Rattle.std.proofs.lemmas.Bool.{false≢true}
use Rattle.std.proofs.lemmas.Option.{none-some, same_Some}
use Rattle.gr_base.specs.Keys.{KeyMap}
use Rattle.gr_base.specs.declared.numbers.RecordId.{RecordId}
use Rattle.gr_columns.specs.Cells.{ColumnOf}
use Rattle.gr_columns.specs.Places.{value_at}
use Rattle.gr_expr.specs.Tables.{id_in, record_id}
use Rattle.gr_values.specs.Same.{is_same_key}
use Rattle.gr_values.specs.declared.data_type.DataType.{DataType}
use Rattle.gr_values.specs.declared.value.Key.{Key}
use Rattle.gr_table.specs.Inside.Bytes.{key_bytes}
use Rattle.gr_table.specs.Inside.Held.{IsHeld}
use Rattle.gr_table.specs.Inside.Seen.{records_seen}
use Rattle.gr_table.proofs.Keys.{itself, same_is}
use Rattle.gr_table.proofs.Seen.{found_id, no_id}

module _ (of : Option DataType) (given : ℕ) (alive : Bool × List Bool) (tree : KeyMap) (keys : Option Key × List (Option Key)) (columns : List (Option ColumnOf)) (held : IsHeld of given alive tree keys columns) where
  -- bytes that lead nowhere are of no key
  pub leads_nowhere : (key : Key) → None ≡ get tree (key_bytes key) → id_in (records_seen given alive keys columns) key ≡ None
  leads_nowhere key none = no_id of given alive tree keys columns held key (λ n l there. none-some (record_id n) (none ∙ held.leads n key l there))

  module _ (key : Key) (id : RecordId) (leads : Some id ≡ get tree (key_bytes key)) where
    -- to the same key
    pub leads_to : (other : Key) → value_at keys id.0 ≡ Some other → is_same_key key other ≡ true → id_in (records_seen given alive keys columns) key ≡ Some id
    leads_to other there same =
        found_id of given alive tree keys columns held key id.0 (held.sound (key_bytes key) id (sym leads)).living (there ∙ ap Some (sym (same_is key other same)))

    -- whichever has the key, the bytes lead to it
    led : (n : ℕ) → value_at alive n ≡ true → value_at keys n ≡ Some key → id.0 ≡ n
    led n l there = ap (λ (r : RecordId). r.0) (same_Some id (record_id n) (leads ∙ held.leads n key l there))

    -- to another key with the same bytes
    pub leads_astray : (other : Key) → value_at keys id.0 ≡ Some other → is_same_key key other ≡ false → id_in (records_seen given alive keys columns) key ≡ None
    leads_astray other there apart = no_id of given alive tree keys columns held key
        (λ n l is. let same : other ≡ key = same_Some other key (sym there ∙ ap (value_at keys) (led n l is) ∙ is) in
        false≢true (sym apart ∙ ap (is_same_key key) same ∙ itself key))

    -- to an id that has no key
    pub leads_keyless : value_at keys id.0 ≡ None → id_in (records_seen given alive keys columns) key ≡ None
    leads_keyless none = let it = held.sound (key_bytes key) id (sym leads) in absurd (none-some it.key (sym none ∙ it.there))
