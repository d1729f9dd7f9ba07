-- What is answered where a record is wanted.
use Rattle.std.proofs.Common.{ℕ, ◌≡◌, ◌<◌, ◌≤◌, length, refl, sym, arith}
use Rattle.std.specs.Prelude.{None, Some, Option}
use Rattle.gr_base.specs.declared.numbers.RecordId.{RecordId}
use Rattle.gr_values.specs.declared.value.Key.{Key}
use Rattle.gr_table.specs.Inside.Puts.{AddsRecord}
use Rattle.gr_table.specs.Table.{IsAdded, IsFound, IsFull, TableOf, id_found}

module _ (limit : ℕ) (now : TableOf) (key : Option Key) where
  -- the record is there
  pub is_found : (id : RecordId) → Some id ≡ id_found now key → IsFound now now key id
  is_found id there = record { there = sym there; same = refl }

  -- it is not there, and no id is left
  pub is_full : None ≡ id_found now key → length now.records ≤ limit → limit ≤ length now.records → IsFull limit now now key
  is_full missing most least = record { missing = sym missing; full = omega arith; same = refl }

  -- it is not there, and is added
  pub is_added : (new : TableOf) (id : RecordId) → None ≡ id_found now key → length now.records < limit → AddsRecord now new key id → IsAdded limit now new key id
  is_added new id missing room adds = record { missing = sym missing; room = room; next = adds.next; last = adds.last }
