-- Changes of a node's parts.
use Rattle.std.proofs.Common.{◌≡◌, ◌<◌, ◌≤◌, ◌+◌, ◌-◌, ◌*◌, ◌/◌, ◌%◌, ℕ, suc, List, [], ◌∷◌, ◌++◌, length, slice_get, slice_set, Some, None, sym, ap, ap₂, ◌∙◌, arith, length-append}
use Rattle.std.specs.Prelude.{unwrap_or}
use Rattle.std.proofs.Math.Nat.{mul-le-mul_right}
use Rattle.std.proofs.lemmas.List.{length-set}
use Rattle.gr_pvec.specs.Inside.Packed.{span, leaf_at, changed_at, leaves_of, AreParts}
use Rattle.gr_pvec.proofs.Packed.{below_unless, get_packed, past_packed, set_packed, last_packed, all_full, length_packed, flat_map_push, flat_map_last, ArePacked-set, ArePacked-push, within_same, within_packed, fits_packed, IsLast, all_get, all_set, all_push, place_split, place_below, span-suc, span_pos}

-- a node's leaves and its level
abbrev pub Seen : Type 0 → Type 0
Seen X = List (List X) × ℕ

module _ {X : Type 0} where
  module _ (level : ℕ) (nodes : List (Seen X)) (parts : AreParts level nodes) where
    -- the leaf at a place stands in the part that the place's upper bits name
    pub get_part : (k : ℕ) (y : Seen X) → slice_get nodes (k / span level) ≡ Some y → slice_get y.0 (k % span level) ≡ slice_get (leaves_of nodes) k
    get_part k y at =
        sym (ap (slice_get (leaves_of nodes)) (place_split k level) ∙ get_packed (λ (node : Seen X). node.0) (span level) nodes (k / span level) (k % span level) y parts.packed at (place_below k level))

    pub leaf_in_part : (k : ℕ) (y : Seen X) → slice_get nodes (k / span level) ≡ Some y → leaf_at y.0 (k % span level) ≡ leaf_at (leaves_of nodes) k
    leaf_in_part k y at = ap (λ o. unwrap_or o []) (get_part k y at)

    pub past_parts : (k : ℕ) → slice_get nodes (k / span level) ≡ None → slice_get (leaves_of nodes) k ≡ None
    past_parts k none = ap (slice_get (leaves_of nodes)) (place_split k level) ∙ past_packed (λ (node : Seen X). node.0) (span level) nodes (k / span level) (k % span level) parts.packed none

    -- a place that is there stands in a part that is there
    pub part_within : (k : ℕ) → k < length (leaves_of nodes) → k / span level < length nodes
    part_within k lt =
        let there : k / span level * span level + k % span level < length (leaves_of nodes) = let e = place_split k level in omega (arith, e, lt) in
        within_packed (λ (node : Seen X). node.0) (span level) nodes (k / span level) (k % span level) parts.packed there

    pub place_within : (k : ℕ) (y : Seen X) → slice_get nodes (k / span level) ≡ Some y → k < length (leaves_of nodes) → k % span level < length y.0
    place_within k y at lt = within_same y.0 (leaves_of nodes) (k % span level) k (get_part k y at) lt

    -- no more leaves than there is room for
    pub parts_few : length (leaves_of nodes) ≤ span (level + 1)
    parts_few =
        let short = length_packed (λ (node : Seen X). node.0) (span level) nodes parts.packed in
        let few = parts.few in
        let more : length nodes * span level ≤ 32 * span level = mul-le-mul_right (span level) few in
        omega (arith, short, more, span-suc level)

    -- a part that stands in the place of another
    replaced : (q : ℕ) (y z : Seen X) → slice_get nodes q ≡ Some y → z.1 ≡ y.1 → 0 < length z.0 → length z.0 ≤ span level → (suc q < length nodes → length z.0 ≡ span level) → AreParts level (slice_set nodes q z)
    replaced q y z at same given few full =
        let size = length-set nodes q z in
        record {
          given = let g = parts.given in omega (arith, size, g);
          few = let f = parts.few in omega (arith, size, f);
          above = parts.above;
          below = all_set (λ (node : Seen X). node.1 + 1 ≡ level) nodes q z parts.below (ap (λ l. l + 1) same ∙ all_get (λ (node : Seen X). node.1 + 1 ≡ level) nodes q y parts.below at);
          packed = ArePacked-set (λ (node : Seen X). node.0) (span level) nodes q z parts.packed given few full;
        }

    -- another element in one leaf of one part
    pub put_part : (k j : ℕ) (y z : Seen X) (x : X) → slice_get nodes (k / span level) ≡ Some y → k < length (leaves_of nodes) → z ≡ (changed_at y.0 (k % span level) j x, y.1) → AreParts level (slice_set nodes (k / span level) z) × (leaves_of (slice_set nodes (k / span level) z) ≡ changed_at (leaves_of nodes) k j x)
    put_part k j y z x at lt is =
        let q : ℕ = k / span level in
        let r : ℕ = k % span level in
        let fits = fits_packed (λ (node : Seen X). node.0) (span level) nodes q y parts.packed at in
        let leaves : z.0 ≡ changed_at y.0 r j x = ap (λ (s : Seen X). s.0) is in
        let same : length z.0 ≡ length y.0 = ap length leaves ∙ length-set y.0 r (slice_set (leaf_at y.0 r) j x) in
        let leaf : leaf_at y.0 r ≡ leaf_at (leaves_of nodes) k = leaf_in_part k y at in (
          replaced q y z at (ap (λ (s : Seen X). s.1) is) (let g = fits.given in omega (arith, same, g)) (let f = fits.few in omega (arith, same, f)) (λ more. same ∙ fits.full more),
          sym (set_packed (λ (node : Seen X). node.0) (span level) nodes q r y z (slice_set (leaf_at y.0 r) j x) parts.packed at (place_within k y at lt) leaves)
              ∙ ap₂ (λ i l. slice_set (leaves_of nodes) i (slice_set l j x)) (sym (place_split k level)) leaf,
        )

    last_part : (n : ℕ) (y : Seen X) → slice_get nodes (n / span level) ≡ Some y → n ≡ length (leaves_of nodes) → IsLast (λ (node : Seen X). node.0) (span level) nodes (n / span level) (n % span level) y
    last_part n y at counted =
        last_packed (λ (node : Seen X). node.0) (span level) nodes (n / span level) (n % span level) y parts.packed at (sym counted ∙ place_split n level) (place_below n level)

    -- how many leaves the last part has
    pub count_last : (n : ℕ) (y : Seen X) → slice_get nodes (n / span level) ≡ Some y → n ≡ length (leaves_of nodes) → n % span level ≡ length y.0
    count_last n y at counted = let is = last_part n y at counted in sym is.holds

    -- a leaf more in the last part
    pub push_last : (n : ℕ) (y z : Seen X) (leaf : List X) → slice_get nodes (n / span level) ≡ Some y → n ≡ length (leaves_of nodes) → z ≡ (y.0 ++ leaf ∷ [], y.1) → AreParts level (slice_set nodes (n / span level) z) × (leaves_of (slice_set nodes (n / span level) z) ≡ leaves_of nodes ++ leaf ∷ [])
    push_last n y z leaf at counted is =
        let last = last_part n y at counted in
        let end = last.last in
        let count = last.holds in
        let below = place_below n level in
        let leaves : z.0 ≡ y.0 ++ leaf ∷ [] = ap (λ (s : Seen X). s.0) is in
        let size : length z.0 ≡ length y.0 + 1 = ap length leaves ∙ length-append y.0 (leaf ∷ []) in (
          replaced (n / span level) y z at (ap (λ (s : Seen X). s.1) is) (omega (arith, size)) (omega (arith, size, count, below)) (λ more. absurd (omega (arith, more, end))),
          flat_map_last (λ (node : Seen X). node.0) (span level) nodes (n / span level) y z (leaf ∷ []) at end leaves,
        )

    -- a part more, with one leaf
    pub push_part : (n : ℕ) (z : Seen X) (leaf : List X) → length nodes ≤ n / span level → n ≡ length (leaves_of nodes) → n < span (level + 1) → z ≡ (leaf ∷ [], level - 1) → AreParts level (nodes ++ z ∷ []) × (leaves_of (nodes ++ z ∷ []) ≡ leaves_of nodes ++ leaf ∷ [])
    push_part n z leaf over counted room is =
        let full = all_full (λ (node : Seen X). node.0) (span level) nodes (n / span level) (n % span level) parts.packed over (sym counted ∙ place_split n level) in
        let size = length-append nodes (z ∷ []) in
        let wide = span-suc level in
        let few : length nodes < 32 = below_unless (length nodes) 32 (λ le. let many : 32 * span level ≤ length nodes * span level = mul-le-mul_right (span level) le in omega (arith, full, wide, many, counted, room)) in
        let leaves : z.0 ≡ leaf ∷ [] = ap (λ (s : Seen X). s.0) is in
        let one : length z.0 ≡ 1 = ap length leaves in
        let lower : z.1 ≡ level - 1 = ap (λ (s : Seen X). s.1) is in
        let above = parts.above in
        let some = span_pos level in (
          record {
            given = omega (arith, size);
            few = omega (arith, size, few);
            above = parts.above;
            below = all_push (λ (node : Seen X). node.1 + 1 ≡ level) nodes z parts.below (omega (arith, lower, above));
            packed = ArePacked-push (λ (node : Seen X). node.0) (span level) nodes z parts.packed full (omega (arith, one)) (omega (arith, one, some));
          },
          flat_map_push (λ (node : Seen X). node.0) (span level) nodes z ∙ ap (λ ls. leaves_of nodes ++ ls) leaves,
        )
