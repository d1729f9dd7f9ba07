-- Changes of a node's parts, where the parts are seen behind their owners.
use Rattle.std.proofs.Common.{◌≡◌, ◌<◌, ◌≤◌, ◌+◌, ◌-◌, ◌/◌, ◌%◌, ℕ, List, [], ◌∷◌, ◌++◌, map, length, slice_set, get_or, ◌∙◌, arith, OnOk, OnErr, Result, Ok, Err}
use Rattle.std.proofs.lemmas.List.{length-map}
use Rattle.gr_pvec.specs.Inside.Packed.{span, leaf_at, changed_at, leaves_of, AreParts}
use Rattle.gr_pvec.proofs.Arcs.{seen_at, seen_set, seen_push}
use Rattle.gr_pvec.proofs.Packed.{set_back, all_get, place_below}
use Rattle.gr_pvec.proofs.Parts.{Seen, count_last, push_last, push_part, part_within, place_within, leaf_in_part, put_part}

module _ {A E P Q R : Type 0} where
  pub either : (r : Result A E) → OnOk r P → OnErr r Q → (P → R) → (Q → R) → R
  either (Ok x) p q f g = f p
  either (Err e) p q f g = g q

module _ {X Y : Type 0} (seen : Y → Seen X) (level : ℕ) (items : List Y) (parts : AreParts level (map seen items)) where
  -- a part stands one level below
  pub part_level : (q : ℕ) (y : Y) → q < length items → y ≡ get_or items q y → (seen y).1 + 1 ≡ level
  part_level q y lt is = all_get (λ (node : Seen X). node.1 + 1 ≡ level) (map seen items) q (seen y) parts.below (seen_at seen items q y lt is)

  pub part_unchanged : (q : ℕ) (y z : Y) → q < length items → y ≡ get_or items q y → seen z ≡ seen y → map seen (slice_set items q z) ≡ map seen items
  part_unchanged q y z lt is same = seen_set seen items q z ∙ set_back (map seen items) q (seen y) (seen z) (seen_at seen items q y lt is) same

  module _ (n : ℕ) (counted : n ≡ length (leaves_of (map seen items))) where
    pub part_count : (y : Y) → n / span level < length items → y ≡ get_or items (n / span level) y → n % span level ≡ length (seen y).0
    part_count y lt is = count_last level (map seen items) parts n (seen y) (seen_at seen items (n / span level) y lt is) counted

    pub part_room : (y : Y) → n / span level < length items → y ≡ get_or items (n / span level) y → n % span level < span ((seen y).1 + 1)
    part_room y lt is = rw (part_level (n / span level) y lt is) (place_below n level)

    pub part_pushed : (y z : Y) (leaf : List X) → n / span level < length items → y ≡ get_or items (n / span level) y → seen z ≡ ((seen y).0 ++ leaf ∷ [], (seen y).1) → AreParts level (map seen (slice_set items (n / span level) z)) × (leaves_of (map seen (slice_set items (n / span level) z)) ≡ leaves_of (map seen items) ++ leaf ∷ [])
    part_pushed y z leaf lt is made = rw (seen_set seen items (n / span level) z) (push_last level (map seen items) parts n (seen y) (seen z) leaf (seen_at seen items (n / span level) y lt is) counted made)

    pub part_added : (z : Y) (leaf : List X) → length items ≤ n / span level → n < span (level + 1) → seen z ≡ (leaf ∷ [], level - 1) → AreParts level (map seen (items ++ z ∷ [])) × (leaves_of (map seen (items ++ z ∷ [])) ≡ leaves_of (map seen items) ++ leaf ∷ [])
    part_added z leaf over room made = let size = length-map items seen in rw (seen_push seen items z) (push_part level (map seen items) parts n (seen z) leaf (omega (arith, over, size)) counted room made)

  module _ (k : ℕ) (lt : k < length (leaves_of (map seen items))) where
    pub part_there : k / span level < length items
    part_there = let size = length-map items seen in let within = part_within level (map seen items) parts k lt in omega (arith, within, size)

    pub part_place : (y : Y) → y ≡ get_or items (k / span level) y → k % span level < length (seen y).0
    part_place y is = place_within level (map seen items) parts k (seen y) (seen_at seen items (k / span level) y part_there is) lt

    pub part_leaf : (y : Y) → y ≡ get_or items (k / span level) y → leaf_at (seen y).0 (k % span level) ≡ leaf_at (leaves_of (map seen items)) k
    part_leaf y is = leaf_in_part level (map seen items) parts k (seen y) (seen_at seen items (k / span level) y part_there is)

    pub part_put : (j : ℕ) (y z : Y) (x : X) → y ≡ get_or items (k / span level) y → seen z ≡ (changed_at (seen y).0 (k % span level) j x, (seen y).1) → AreParts level (map seen (slice_set items (k / span level) z)) × (leaves_of (map seen (slice_set items (k / span level) z)) ≡ changed_at (leaves_of (map seen items)) k j x)
    part_put j y z x is made = rw (seen_set seen items (k / span level) z) (put_part level (map seen items) parts k j (seen y) (seen z) x (seen_at seen items (k / span level) y part_there is) lt made)
