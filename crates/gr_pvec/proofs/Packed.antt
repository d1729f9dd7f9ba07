-- Look-ups, changes and growth of a list that stands in pieces.
use Rattle.std.proofs.Common.{◌≡◌, ◌<◌, ◌≤◌, ◌+◌, ◌*◌, ◌/◌, ◌%◌, ◌^◌, ℕ, zero, suc, List, [], ◌∷◌, ◌++◌, map, length, slice_get, slice_set, Some, None, refl, sym, ap, ◌∙◌, arith, length-append, append_assoc, subst, get_or, inl, inr}
use Rattle.std.specs.List.{flat_map, AllByRecursion}
use Rattle.std.proofs.Math.Nat.{div-eq_of_lt, mul-le-mul_right, pow-le-pow_right}
use Rattle.std.proofs.lemmas.List.{append-nil, length-set, map-set}
use Rattle.std.proofs.lemmas.List.Concat.{flat_map-append}
use Rattle.std.proofs.lemmas.Option.{slice_get_read}
use Rattle.std.proofs.lemmas.Bool.{cases_lt}
use Rattle.std.proofs.lemmas.Nat.{pow-add, pow_pos, shr_split}
use Rattle.gr_pvec.specs.Inside.Packed.{span, ArePacked, AreFull}

-- a number that is not at least another is below it
pub below_unless : (a b : ℕ) → (b ≤ a → ⊥) → a < b
below_unless a b never = grind arith

-- a number up to another that does not go below it
pub full_count : (n m : ℕ) → (n / m ≡ 0 → ⊥) → n ≤ m → n ≡ m
full_count n m many few = elim (cases_lt n m) as (λ _. n ≡ m) [ inl lt ↦ absurd (many (div-eq_of_lt lt)) | inr ge ↦ omega (arith, ge, few) ]

module _ {X : Type 0} where
  pub get_left : (xs ys : List X) (i : ℕ) → i < length xs → slice_get (xs ++ ys) i ≡ slice_get xs i
  get_left [] ys i lt = absurd (omega (arith, lt))
  get_left (x ∷ xs) ys zero lt = refl
  get_left (x ∷ xs) ys (suc i) lt = get_left xs ys i (omega (arith, lt))

  pub get_right : (xs ys : List X) (i n : ℕ) → i ≡ length xs + n → slice_get (xs ++ ys) i ≡ slice_get ys n
  get_right [] ys i n e = ap (slice_get ys) (omega (arith, e))
  get_right (x ∷ xs) ys zero n e = absurd (omega (arith, e))
  get_right (x ∷ xs) ys (suc i) n e = get_right xs ys i n (omega (arith, e))

  pub get_past : (xs : List X) (i : ℕ) → length xs ≤ i → slice_get xs i ≡ None
  get_past [] i le = refl
  get_past (x ∷ xs) zero le = absurd (omega (arith, le))
  get_past (x ∷ xs) (suc i) le = get_past xs i (omega (arith, le))

  pub get_within : (xs : List X) (i : ℕ) (x : X) → slice_get xs i ≡ Some x → i < length xs
  get_within [] i x e = cc
  get_within (y ∷ xs) zero x e = omega arith
  get_within (y ∷ xs) (suc i) x e = let lt = get_within xs i x e in omega (arith, lt)

  pub past_none : (xs : List X) (i : ℕ) → slice_get xs i ≡ None → length xs ≤ i
  past_none [] i e = omega arith
  past_none (y ∷ xs) zero e = cc
  past_none (y ∷ xs) (suc i) e = let le = past_none xs i e in omega (arith, le)

  pub within_same : (xs ys : List X) (i k : ℕ) → slice_get xs i ≡ slice_get ys k → k < length ys → i < length xs
  within_same xs ys i k e lt =
      below_unless i (length xs) (λ le. let past = past_none ys k (sym e ∙ get_past xs i le) in omega (arith, past, lt))

  pub length_set : (xs : List X) (i : ℕ) (v : X) → length (slice_set xs i v) ≡ length xs
  length_set xs i v = length-set xs i v

  pub set_left : (xs ys : List X) (i : ℕ) (v : X) → i < length xs → slice_set (xs ++ ys) i v ≡ slice_set xs i v ++ ys
  set_left [] ys i v lt = absurd (omega (arith, lt))
  set_left (x ∷ xs) ys zero v lt = refl
  set_left (x ∷ xs) ys (suc i) v lt = ap (λ zs. x ∷ zs) (set_left xs ys i v (omega (arith, lt)))

  pub set_right : (xs ys : List X) (i n : ℕ) (v : X) → i ≡ length xs + n → slice_set (xs ++ ys) i v ≡ xs ++ slice_set ys n v
  set_right [] ys i n v e = ap (λ k. slice_set ys k v) (omega (arith, e))
  set_right (x ∷ xs) ys zero n v e = absurd (omega (arith, e))
  set_right (x ∷ xs) ys (suc i) n v e = ap (λ zs. x ∷ zs) (set_right xs ys i n v (omega (arith, e)))

  pub map_set : {Y : Type 0} (f : Y → X) (ys : List Y) (i : ℕ) (v : Y) → map f (slice_set ys i v) ≡ slice_set (map f ys) i (f v)
  map_set f ys i v = map-set f ys i v

  pub set_same : (xs : List X) (i : ℕ) (x : X) → slice_get xs i ≡ Some x → slice_set xs i x ≡ xs
  set_same [] i x at = refl
  set_same (y ∷ xs) zero x at = let same : y ≡ x = cc in ap (λ z. z ∷ xs) (sym same)
  set_same (y ∷ xs) (suc i) x at = ap (λ zs. y ∷ zs) (set_same xs i x at)

  pub set_back : (xs : List X) (i : ℕ) (x y : X) → slice_get xs i ≡ Some x → y ≡ x → slice_set xs i y ≡ xs
  set_back xs i x y at is = ap (slice_set xs i) is ∙ set_same xs i x at

  pub get_there : (xs : List X) (i : ℕ) (x : X) → i < length xs → x ≡ get_or xs i x → slice_get xs i ≡ Some x
  get_there xs i x lt is = slice_get_read xs (length xs) i x refl lt is

module _ {X Y : Type 0} (pieces : Y → List X) (room : ℕ) where
  -- packed pieces hold no more than there is room for
  pub length_packed : (ys : List Y) → ArePacked pieces room ys → length (flat_map pieces ys) ≤ length ys * room
  length_packed [] p = omega arith
  length_packed (y ∷ ys) p = let rest = length_packed ys p.3 in let one = p.1 in omega (arith, rest, one, length-append (pieces y) (flat_map pieces ys))

  first_packed : (y : Y) (ys : List Y) (j : ℕ) → ArePacked pieces room (y ∷ ys) → j < room → slice_get (pieces y ++ flat_map pieces ys) j ≡ slice_get (pieces y) j
  first_packed y [] j p lt = ap (λ xs. slice_get xs j) (append-nil (pieces y))
  first_packed y (z ∷ ys) j p lt = get_left (pieces y) (flat_map pieces (z ∷ ys)) j (let full = p.2 (omega arith) in omega (arith, full))

  -- an element of a piece stands where all pieces before it are full
  pub get_packed : (ys : List Y) (k j : ℕ) (y : Y) → ArePacked pieces room ys → slice_get ys k ≡ Some y → j < room → slice_get (flat_map pieces ys) (k * room + j) ≡ slice_get (pieces y) j
  get_packed [] k j y p at lt = cc
  get_packed (z ∷ ys) zero j y p at lt =
      let same : z ≡ y = cc in
      ap (slice_get (pieces z ++ flat_map pieces ys)) (omega arith) ∙ first_packed z ys j p lt ∙ ap (λ w. slice_get (pieces w) j) same
  get_packed (z ∷ ys) (suc k) j y p at lt =
      let inside = get_within ys k y at in
      let full : length (pieces z) ≡ room = p.2 (omega (arith, inside)) in
      get_right (pieces z) (flat_map pieces ys) (suc k * room + j) (k * room + j) (omega (arith, full)) ∙ get_packed ys k j y p.3 at lt

  pub past_packed : (ys : List Y) (k j : ℕ) → ArePacked pieces room ys → slice_get ys k ≡ None → slice_get (flat_map pieces ys) (k * room + j) ≡ None
  past_packed ys k j p none =
      get_past (flat_map pieces ys) (k * room + j)
      (let over : length ys ≤ k = past_none ys k none in let short = length_packed ys p in let more : length ys * room ≤ k * room = mul-le-mul_right room over in omega (arith, short, more))

  -- a place that is there is in a piece that is there
  pub within_packed : (ys : List Y) (k j : ℕ) → ArePacked pieces room ys → k * room + j < length (flat_map pieces ys) → k < length ys
  within_packed ys k j p lt =
      let short = length_packed ys p in
      below_unless k (length ys) (λ le. let over : length ys * room ≤ k * room = mul-le-mul_right room le in omega (arith, short, over, lt))

  -- what is true of each piece
  pub record FitsAt (ys : List Y) (k : ℕ) (y : Y) : Type 0 where
    pub given : 0 < length (pieces y)
    pub few : length (pieces y) ≤ room
    pub full : suc k < length ys → length (pieces y) ≡ room

  pub fits_packed : (ys : List Y) (k : ℕ) (y : Y) → ArePacked pieces room ys → slice_get ys k ≡ Some y → FitsAt ys k y
  fits_packed [] k y p at = cc
  fits_packed (z ∷ ys) zero y p at =
      let same : z ≡ y = cc in
      rw (← same) (record { given = p.0; few = p.1; full = λ more. p.2 (omega (arith, more)) })
  fits_packed (z ∷ ys) (suc k) y p at = let rest = fits_packed ys k y p.3 at in record { given = rest.given; few = rest.few; full = λ more. rest.full (omega (arith, more)) }

  -- one piece, and what stands before and behind it
  pub record Stands (ys : List Y) (k : ℕ) (y : Y) : Type 0 where
    pub before : List X
    pub behind : List X
    pub split : flat_map pieces ys ≡ before ++ (pieces y ++ behind)
    pub at : length before ≡ k * room

  pub stands_packed : (ys : List Y) (k : ℕ) (y : Y) → ArePacked pieces room ys → slice_get ys k ≡ Some y → Stands ys k y
  stands_packed [] k y p at = cc
  stands_packed (z ∷ ys) zero y p at = let same : z ≡ y = cc in record { before = []; behind = flat_map pieces ys; split = ap (λ w. pieces w ++ flat_map pieces ys) same; at = omega arith }
  stands_packed (z ∷ ys) (suc k) y p at =
      let inside = get_within ys k y at in
      let full : length (pieces z) ≡ room = p.2 (omega (arith, inside)) in
      let rest = stands_packed ys k y p.3 at in
      record {
        before = pieces z ++ rest.before;
        behind = rest.behind;
        split = ap (λ xs. pieces z ++ xs) rest.split ∙ sym (append_assoc (pieces z) rest.before (pieces y ++ rest.behind));
        at = omega (arith, length-append (pieces z) rest.before, rest.at, full);
      }

  -- another element in one piece
  pub set_packed : (ys : List Y) (k j : ℕ) (y z : Y) (v : X) → ArePacked pieces room ys → slice_get ys k ≡ Some y → j < length (pieces y) → pieces z ≡ slice_set (pieces y) j v → slice_set (flat_map pieces ys) (k * room + j) v ≡ flat_map pieces (slice_set ys k z)
  set_packed [] k j y z v p at lt is = cc
  set_packed (w ∷ ys) zero j y z v p at lt is =
      let same : w ≡ y = cc in
      let within : j < length (pieces w) = rw same lt in
      ap (λ i. slice_set (pieces w ++ flat_map pieces ys) i v) (omega arith)
      ∙ set_left (pieces w) (flat_map pieces ys) j v within
      ∙ ap (λ xs. xs ++ flat_map pieces ys) (ap (λ u. slice_set (pieces u) j v) same ∙ sym is)
  set_packed (w ∷ ys) (suc k) j y z v p at lt is =
      let inside = get_within ys k y at in
      let full : length (pieces w) ≡ room = p.2 (omega (arith, inside)) in
      set_right (pieces w) (flat_map pieces ys) (suc k * room + j) (k * room + j) v (omega (arith, full)) ∙ ap (λ xs. pieces w ++ xs) (set_packed ys k j y z v p.3 at lt is)

  -- a piece that fits in the place of another
  pub ArePacked-set : (ys : List Y) (k : ℕ) (z : Y) → ArePacked pieces room ys → 0 < length (pieces z) → length (pieces z) ≤ room → (suc k < length ys → length (pieces z) ≡ room) → ArePacked pieces room (slice_set ys k z)
  ArePacked-set [] k z p given few full = p
  ArePacked-set (y ∷ ys) zero z p given few full = (given, few, (λ more. full (omega (arith, more))), p.3)
  ArePacked-set (y ∷ ys) (suc k) z p given few full = (p.0, p.1, (λ more. p.2 (omega (arith, more, length-set ys k z))), ArePacked-set ys k z p.3 given few (λ more. full (omega (arith, more))))

  -- a piece more, where all others are full
  pub ArePacked-push : (ys : List Y) (z : Y) → ArePacked pieces room ys → length (flat_map pieces ys) ≡ length ys * room → 0 < length (pieces z) → length (pieces z) ≤ room → ArePacked pieces room (ys ++ z ∷ [])
  ArePacked-push [] z p full given few = (given, few, (λ more. absurd (omega (arith, more))), tt)
  ArePacked-push (y ∷ ys) z p full given few =
      let rest = length_packed ys p.3 in
      let one = p.1 in
      let sum = length-append (pieces y) (flat_map pieces ys) in
      (p.0, p.1, (λ _. omega (arith, full, rest, one, sum)), ArePacked-push ys z p.3 (omega (arith, full, rest, one, sum)) given few)

  -- the pieces hold so many elements that the place behind them is in a piece: it is the last one
  pub record IsLast (ys : List Y) (k r : ℕ) (y : Y) : Type 0 where
    pub last : suc k ≡ length ys
    pub holds : length (pieces y) ≡ r

  pub last_packed : (ys : List Y) (k r : ℕ) (y : Y) → ArePacked pieces room ys → slice_get ys k ≡ Some y → length (flat_map pieces ys) ≡ k * room + r → r < room → IsLast ys k r y
  last_packed [] k r y p at total lt = cc
  last_packed (z ∷ []) zero r y p at total lt = let same : z ≡ y = cc in record { last = refl; holds = ap (λ w. length (pieces w)) (sym same) ∙ omega (arith, total, length-append (pieces z) []) }
  last_packed (z ∷ (w ∷ ys)) zero r y p at total lt =
      let full : length (pieces z) ≡ room = p.2 (omega arith) in
      let given = p.3.0 in
      absurd (omega (arith, full, given, total, lt, length-append (pieces z) (flat_map pieces (w ∷ ys)), length-append (pieces w) (flat_map pieces ys)))
  last_packed (z ∷ ys) (suc k) r y p at total lt =
      let inside = get_within ys k y at in
      let full : length (pieces z) ≡ room = p.2 (omega (arith, inside)) in
      let rest = last_packed ys k r y p.3 at (omega (arith, full, total, length-append (pieces z) (flat_map pieces ys))) lt in
      record { last = ap suc rest.last; holds = rest.holds }

  -- the place behind the elements is in no piece: all pieces are full
  pub all_full : (ys : List Y) (k r : ℕ) → ArePacked pieces room ys → length ys ≤ k → length (flat_map pieces ys) ≡ k * room + r → length (flat_map pieces ys) ≡ length ys * room
  all_full ys k r p over total =
      let short = length_packed ys p in
      let more : length ys * room ≤ k * room = mul-le-mul_right room over in
      omega (arith, short, more, total)

  pub flat_map_push : (ys : List Y) (z : Y) → flat_map pieces (ys ++ z ∷ []) ≡ flat_map pieces ys ++ pieces z
  flat_map_push ys z = flat_map-append pieces ys (z ∷ []) ∙ ap (λ xs. flat_map pieces ys ++ xs) (append-nil (pieces z))

  -- more at the end of the last piece
  pub flat_map_last : (ys : List Y) (k : ℕ) (y z : Y) (more : List X) → slice_get ys k ≡ Some y → suc k ≡ length ys → pieces z ≡ pieces y ++ more → flat_map pieces (slice_set ys k z) ≡ flat_map pieces ys ++ more
  flat_map_last [] k y z more at last is = cc
  flat_map_last (w ∷ []) zero y z more at last is =
      let same : w ≡ y = cc in
      append-nil (pieces z) ∙ is ∙ ap (λ u. pieces u ++ more) (sym same) ∙ ap (λ xs. xs ++ more) (sym (append-nil (pieces w)))
  flat_map_last (w ∷ (u ∷ ys)) zero y z more at last is = absurd (omega (arith, last))
  flat_map_last (w ∷ ys) (suc k) y z more at last is =
      ap (λ xs. pieces w ++ xs) (flat_map_last ys k y z more at (omega (arith, last)) is) ∙ sym (append_assoc (pieces w) (flat_map pieces ys) more)

module _ {X : Type 0} where
  pub AreFull-packed : (room : ℕ) (leaves : List (List X)) → 0 < room → AreFull room leaves → ArePacked (λ (leaf : List X). leaf) room leaves
  AreFull-packed room [] given full = tt
  AreFull-packed room (leaf ∷ leaves) given full = let one = full.0 in (omega (arith, one, given), omega (arith, one), (λ _. one), AreFull-packed room leaves given full.1)

  pub length_full : (room : ℕ) (leaves : List (List X)) → AreFull room leaves → length (flat_map (λ (leaf : List X). leaf) leaves) ≡ length leaves * room
  length_full room [] full = omega arith
  length_full room (leaf ∷ leaves) full = let one = full.0 in let rest = length_full room leaves full.1 in omega (arith, one, rest, length-append leaf (flat_map (λ (l : List X). l) leaves))

  pub AreFull-push : (room : ℕ) (leaves : List (List X)) (leaf : List X) → AreFull room leaves → length leaf ≡ room → AreFull room (leaves ++ leaf ∷ [])
  AreFull-push room [] leaf full one = (one, tt)
  AreFull-push room (l ∷ leaves) leaf full one = (full.0, AreFull-push room leaves leaf full.1 one)

  pub AreFull-set : (room : ℕ) (leaves : List (List X)) (k : ℕ) (leaf : List X) → AreFull room leaves → length leaf ≡ room → AreFull room (slice_set leaves k leaf)
  AreFull-set room [] k leaf full one = tt
  AreFull-set room (l ∷ leaves) zero leaf full one = (one, full.1)
  AreFull-set room (l ∷ leaves) (suc k) leaf full one = (full.0, AreFull-set room leaves k leaf full.1 one)

  pub AreFull-get : (room : ℕ) (leaves : List (List X)) (k : ℕ) (leaf : List X) → AreFull room leaves → slice_get leaves k ≡ Some leaf → length leaf ≡ room
  AreFull-get room [] k leaf full at = cc
  AreFull-get room (l ∷ leaves) zero leaf full at = let same : l ≡ leaf = cc in ap length (sym same) ∙ full.0
  AreFull-get room (l ∷ leaves) (suc k) leaf full at = AreFull-get room leaves k leaf full.1 at

module _ {Y : Type 0} (P : Y → Type 0) where
  pub all_push : (ys : List Y) (z : Y) → AllByRecursion P ys → P z → AllByRecursion P (ys ++ z ∷ [])
  all_push [] z all one = (one, tt)
  all_push (y ∷ ys) z all one = (all.0, all_push ys z all.1 one)

  pub all_set : (ys : List Y) (k : ℕ) (z : Y) → AllByRecursion P ys → P z → AllByRecursion P (slice_set ys k z)
  all_set [] k z all one = tt
  all_set (y ∷ ys) zero z all one = (one, all.1)
  all_set (y ∷ ys) (suc k) z all one = (all.0, all_set ys k z all.1 one)

  pub all_get : (ys : List Y) (k : ℕ) (y : Y) → AllByRecursion P ys → slice_get ys k ≡ Some y → P y
  all_get [] k y all at = cc
  all_get (z ∷ ys) zero y all at = let same : z ≡ y = cc in subst P same all.0
  all_get (z ∷ ys) (suc k) y all at = all_get ys k y all.1 at

-- spans of neighbouring levels
pub span-suc : (level : ℕ) → span (level + 1) ≡ 32 * span level
span-suc level = ap (λ n. 2 ^ n) (omega arith) ∙ pow-add 2 5 (5 * level)

pub span_pos : (level : ℕ) → 0 < span level
span_pos level = pow_pos (5 * level)

pub span-zero : span 0 ≡ 1
span-zero = refl

pub span_within : (level : ℕ) → level ≤ 11 → span level ≤ 2 ^ 55
span_within level low = pow-le-pow_right {n = 2} (omega arith) {i = 5 * level} {j = 55} (omega (arith, low))

-- a place as the part that it is in and the place in that part
pub place_split : (k level : ℕ) → k ≡ k / span level * span level + k % span level
place_split k level = sym (shr_split k (5 * level))

pub place_below : (k level : ℕ) → k % span level < span level
place_below k level = let given = span_pos level in omega (arith, given)
