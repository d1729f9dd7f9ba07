-- The cells of the records that are seen, and the masks and prefixes over them.
use Rattle.std.proofs.Common.{ℕ, ◌≡◌, ◌+◌, ◌*◌, ◌/◌, ◌<◌, ◌^◌, Bool, true, false, List, refl, sym, ap, subst, ◌∙◌, arith, ◌↔◌, ℤ}
use Rattle.std.specs.Prelude.{None, Some, Option, IsTrue, IsBitSet, slice_get, bit_and}
use Rattle.std.specs.Int.{bit_at}
use Rattle.std.specs.Prelude.{min}
use Rattle.std.specs.Option.{option_and_then, option_flatten, option_map, option_map_or}
use Rattle.std.proofs.lemmas.Bool.{false≢true}
use Rattle.std.proofs.lemmas.Nat.{and_le_l, and_mask, bit_set_by_shift}
use Rattle.std.proofs.lemmas.Nat.Bits.{bit_at-lt, bit_at_and}
use Rattle.std.proofs.lemmas.Option.{slice_get-map}
use Rattle.gr_base.specs.Keys.{KeyMap}
use Rattle.gr_base.specs.declared.compare.Cmp.{Cmp}
use Rattle.gr_base.specs.declared.numbers.ColumnNo.{ColumnNo}
use Rattle.gr_columns.specs.Cells.{ColumnOf, cell_at}
use Rattle.gr_columns.specs.Masks.{IsBlockMask, compares_cell}
use Rattle.gr_columns.specs.Places.{value_at}
use Rattle.gr_columns.specs.Truths.{IsWord}
use Rattle.gr_expr.specs.Tables.{record_id, record_in}
use Rattle.gr_values.specs.declared.data_type.DataType.{DataType}
use Rattle.gr_values.specs.declared.value.Cell.{Cell}
use Rattle.gr_values.specs.declared.value.Key.{Key}
use Rattle.gr_table.specs.Inside.Held.{IsHeld}
use Rattle.gr_table.specs.Inside.Seen.{records_seen}
use Rattle.gr_table.specs.Masks.{IsRecordMask, compares_in}
use Rattle.gr_table.proofs.Seen.{record_seen, seen_alive, seen_dead}
use Rattle.gr_table.proofs.Tables.{table_of}

min_one : (x y : ℕ) → x < 2 → y < 2 → min x y ≡ 1 → (x ≡ 1) × (y ≡ 1)
min_one x y a b e = (omega (arith, a, b, e), omega (arith, a, b, e))

set_is : (n k : ℕ) → (bit_at n k ≡ 1) ↔ IsBitSet n k
set_is n k = let e = and_mask (n / 2 ^ k) 1 in (λ b. (bit_set_by_shift n k).0 (e ∙ b), λ s. sym e ∙ (bit_set_by_shift n k).1 s)

-- a bit of two masks together
pub both_set : (a b k : ℕ) → IsBitSet (bit_and a b) k ↔ (IsBitSet a k × IsBitSet b k)
both_set a b k = (
  λ s. let it = min_one (bit_at a k) (bit_at b k) (bit_at-lt a k) (bit_at-lt b k) (sym (bit_at_and a b k) ∙ (set_is (bit_and a b) k).1 s) in ((set_is a k).0 it.0, (set_is b k).0 it.1),
  λ both. (set_is (bit_and a b) k).0 (bit_at_and a b k ∙ ap (λ x. min x (bit_at b k)) ((set_is a k).1 both.0) ∙ ap (min 1) ((set_is b k).1 both.1)),
)

module _ (of : Option DataType) (given : ℕ) (alive : Bool × List Bool) (tree : KeyMap) (keys : Option Key × List (Option Key)) (columns : List (Option ColumnOf)) (held : IsHeld of given alive tree keys columns) (column : ColumnNo) where
  -- what the record of an id holds in the column
  abbrev seen_in : ℕ → Option Cell
  seen_in n = option_and_then (λ found. option_flatten (slice_get found.cells column.0)) (record_in (records_seen given alive keys columns) n)

  -- nothing, where it is not alive
  pub cell_dead : (n : ℕ) → value_at alive n ≡ false → seen_in n ≡ None
  cell_dead n is = ap (option_and_then (λ found. option_flatten (slice_get found.cells column.0))) (record_seen of given alive tree keys columns held n ∙ seen_dead of given alive tree keys columns held n is)

  -- the column's cell, where it is alive
  pub cell_seen : (o : Option ColumnOf) → o ≡ option_flatten (slice_get columns column.0) → (n : ℕ) → value_at alive n ≡ true → seen_in n ≡ option_map (λ c. cell_at c (record_id n)) o
  cell_seen o there n is =
      ap (option_and_then (λ found. option_flatten (slice_get found.cells column.0))) (record_seen of given alive tree keys columns held n ∙ seen_alive of given alive tree keys columns held n is)
      ∙ ap option_flatten (slice_get-map (option_map (λ (c : ColumnOf). cell_at c (record_id n))) columns column.0)
      ∙ flat (slice_get columns column.0)
      ∙ ap (option_map (λ (c : ColumnOf). cell_at c (record_id n))) (sym there)
    where
      flat : (x : Option (Option ColumnOf)) → option_flatten (option_map (option_map (λ (c : ColumnOf). cell_at c (record_id n))) x) ≡ option_map (λ (c : ColumnOf). cell_at c (record_id n)) (option_flatten x)
      flat None = refl
      flat (Some None) = refl
      flat (Some (Some c)) = refl

  module _ (found : ColumnOf) (there : Some found ≡ option_flatten (slice_get columns column.0)) (block : ℕ) (cmp : Cmp) (against : ℤ) (mask word : ℕ) (masks : IsBlockMask found block cmp against mask) (marks : IsWord alive block word) where
    -- the records of a block that are alive and compare so
    pub mask_seen : IsRecordMask (table_of of given alive keys columns) column block cmp against (bit_and mask word)
    mask_seen = record {
      bits = λ place within. go place within (value_at alive (64 * block + place)) refl;
      higher = let low = and_le_l mask word in omega (arith, low, masks.higher);
    }
      where
        go : (place : ℕ) → place < 64 → (b : Bool) → value_at alive (64 * block + place) ≡ b → IsBitSet (bit_and mask word) place ↔ IsTrue (compares_in (records_seen given alive keys columns) column cmp against (64 * block + place))
        go place within true is =
            let same : compares_in (records_seen given alive keys columns) column cmp against (64 * block + place) ≡ compares_cell cmp against (cell_at found (record_id (64 * block + place))) =
            ap (λ o. option_map_or (compares_cell cmp against) o false) (cell_seen (Some found) there (64 * block + place) is) in (
              λ s. subst IsTrue (sym same) ((masks.bits place within).0 ((both_set mask word place).0 s).0),
              λ t. (both_set mask word place).1 ((masks.bits place within).1 (subst IsTrue same t), (marks place within).1 (subst IsTrue (sym is) refl)),
            )
        go place within false is =
            let same : compares_in (records_seen given alive keys columns) column cmp against (64 * block + place) ≡ false =
            ap (λ o. option_map_or (compares_cell cmp against) o false) (cell_dead (64 * block + place) is) in (
              λ s. absurd (false≢true (subst IsTrue is ((marks place within).0 ((both_set mask word place).0 s).1))),
              λ t. absurd (false≢true (subst IsTrue same t)),
            )
