-- Look-ups in values that stand in full blocks.
use Rattle.std.proofs.Common.{◌≡◌, ◌<◌, ◌≤◌, ◌+◌, ◌-◌, ◌*◌, ◌/◌, ◌%◌, ◌^◌, ℕ, zero, suc, List, [], ◌∷◌, ◌++◌, length, replicate, get_or, slice_get, Some, None, refl, sym, ap, ◌∙◌, subst, arith, inl, inr, length-append}
use Rattle.std.specs.Prelude.{◌≢◌}
use Rattle.std.proofs.Math.ListN.{set}
use Rattle.std.proofs.lemmas.Bool.{cases_lt, cases_eq}
use Rattle.std.proofs.lemmas.List.{get_or_append_left, get_or-append_right, get_or_default, get_or_past, get_or-set_same, get_or-set_other, length-set, length-replicate}
use Rattle.std.proofs.lemmas.List.Concat.{flat_map-append}
use Rattle.std.proofs.lemmas.Option.{get_or_from_slice_get, slice_get_within, slice_get-get_or}
use Rattle.gr_columns.specs.Inside.Places.{AreBlocks, ArePlaces, values_of, changed_at}
use Rattle.gr_columns.specs.Places.{SetsPlace}

-- two places of one block are apart in it
apart_in_block : (i other : ℕ) → other ≢ i → other / 64 ≡ i / 64 → other % 64 ≢ i % 64
apart_in_block i other differ same equal = differ (omega (arith, same, equal))

module _ {X : Type 0} where
  -- a block that is there is full
  pub full_at : (blocks : List (List X)) → AreBlocks blocks → (k : ℕ) → k < length blocks → length (get_or blocks k []) ≡ 64
  full_at [] full k there = absurd (omega (arith, there))
  full_at (block ∷ blocks) full zero there = full.0
  full_at (block ∷ blocks) full (suc k) there = full_at blocks full.1 k (omega (arith, there))

  -- a full block in the place of another
  pub full_set : (blocks : List (List X)) → AreBlocks blocks → (k : ℕ) (changed : List X) → length changed ≡ 64 → AreBlocks (set blocks k changed)
  full_set [] full k changed is = tt
  full_set (block ∷ blocks) full zero changed is = (is, full.1)
  full_set (block ∷ blocks) full (suc k) changed is = (full.0, full_set blocks full.1 k changed is)

  -- full blocks after full blocks
  pub full_append : (blocks others : List (List X)) → AreBlocks blocks → AreBlocks others → AreBlocks (blocks ++ others)
  full_append [] others full too = too
  full_append (block ∷ blocks) others full too = (full.0, full_append blocks others full.1 too)

  -- one full block, some times
  pub full_replicate : (n : ℕ) (block : List X) → length block ≡ 64 → AreBlocks (replicate n block)
  full_replicate zero block is = tt
  full_replicate (suc n) block is = (is, full_replicate n block is)

  -- a value that stands in the first block
  in_first : (block : List X) (blocks : List (List X)) (i k j : ℕ) (d : X) → length block ≡ 64 → i < 64 → k ≡ 0 → j ≡ i → get_or (block ++ values_of blocks) i d ≡ get_or (get_or (block ∷ blocks) k []) j d
  in_first block blocks i k j d is below first same =
      get_or_append_left block (values_of blocks) d i (omega (arith, is, below)) ∙ ap (λ n. get_or block n d) (sym same) ∙ ap (λ n. get_or (get_or (block ∷ blocks) n []) j d) (sym first)

  -- a value that stands in a later block
  in_later : (block : List X) (blocks : List (List X)) (i k j : ℕ) (d : X) → length block ≡ 64 → 64 ≤ i → k ≡ suc ((i - 64) / 64) → j ≡ (i - 64) % 64 → get_or (values_of blocks) (i - 64) d ≡ get_or (get_or blocks ((i - 64) / 64) []) ((i - 64) % 64) d → get_or (block ++ values_of blocks) i d ≡ get_or (get_or (block ∷ blocks) k []) j d
  in_later block blocks i k j d is above later same rest =
      get_or-append_right block (values_of blocks) 64 i d is above
      ∙ rest
      ∙ ap (λ n. get_or (get_or blocks ((i - 64) / 64) []) n d) (sym same)
      ∙ ap (λ n. get_or (get_or (block ∷ blocks) n []) j d) (sym later)

  -- a value is that of its block
  pub flat_at : (blocks : List (List X)) → AreBlocks blocks → (i : ℕ) (d : X) → get_or (values_of blocks) i d ≡ get_or (get_or blocks (i / 64) []) (i % 64) d
  flat_at [] full i d = refl
  flat_at (block ∷ blocks) full i d = elim (cases_lt i 64) as (λ _. get_or (block ++ values_of blocks) i d ≡ get_or (get_or (block ∷ blocks) (i / 64) []) (i % 64) d) [
    | inl below ↦ in_first block blocks i (i / 64) (i % 64) d full.0 below (omega (arith, below)) (omega (arith, below))
    | inr above ↦ in_later block blocks i (i / 64) (i % 64) d full.0 above (omega (arith, above)) (omega (arith, above)) (flat_at blocks full.1 (i - 64) d)
  ]

  -- a block that was found is full
  pub found_full : (blocks : List (List X)) → AreBlocks blocks → (k : ℕ) (block : List X) → slice_get blocks k ≡ Some block → length block ≡ 64
  found_full blocks full k block found = ap length (sym (get_or_from_slice_get blocks k block [] found)) ∙ full_at blocks full k (slice_get_within blocks k block found)

  -- a value of a block that was found
  pub found_at : (blocks : List (List X)) → AreBlocks blocks → (i : ℕ) (block : List X) (d : X) → slice_get blocks (i / 64) ≡ Some block → get_or (values_of blocks) i d ≡ get_or block (i % 64) d
  found_at blocks full i block d found = flat_at blocks full i d ∙ ap (λ b. get_or b (i % 64) d) (get_or_from_slice_get blocks (i / 64) block [] found)

  -- no block was found
  pub past_at : (blocks : List (List X)) → AreBlocks blocks → (i : ℕ) (d : X) → slice_get blocks (i / 64) ≡ None → get_or (values_of blocks) i d ≡ d
  past_at blocks full i d none = elim (cases_lt (i / 64) (length blocks)) as (λ _. get_or (values_of blocks) i d ≡ d) [
    | inl within ↦ let there = slice_get-get_or blocks (i / 64) [] within in absurd cc
    | inr past ↦ flat_at blocks full i d ∙ ap (λ b. get_or b (i % 64) d) (get_or_past blocks (i / 64) [] past)
  ]

  -- the blocks with another value are full
  pub full_changed : (blocks : List (List X)) → AreBlocks blocks → (i : ℕ) (value : X) → i / 64 < length blocks → AreBlocks (changed_at blocks i value)
  full_changed blocks full i value there = full_set blocks full (i / 64) _ (length-set (get_or blocks (i / 64) []) (i % 64) value ∙ full_at blocks full (i / 64) there)

  -- the value that was set
  pub changed_here : (blocks : List (List X)) → AreBlocks blocks → (i : ℕ) (value d : X) → i / 64 < length blocks → get_or (values_of (changed_at blocks i value)) i d ≡ value
  changed_here blocks full i value d there =
      let size = full_at blocks full (i / 64) there in
      let within : i % 64 < length (get_or blocks (i / 64) []) = omega (arith, size) in
      flat_at (changed_at blocks i value) (full_changed blocks full i value there) i d
      ∙ ap (λ b. get_or b (i % 64) d) (get_or-set_same blocks (i / 64) (set (get_or blocks (i / 64) []) (i % 64) value) [] there)
      ∙ get_or-set_same (get_or blocks (i / 64) []) (i % 64) value d within

  -- the block of a place, with another value at another place of it
  other_of_block : (blocks : List (List X)) (k j k' j' : ℕ) (value d : X) → k < length blocks → (k' ≡ k → j' ≢ j) → get_or (get_or (set blocks k (set (get_or blocks k []) j value)) k' []) j' d ≡ get_or (get_or blocks k' []) j' d
  other_of_block blocks k j k' j' value d there apart = elim (cases_eq k' k) as (λ _. get_or (get_or (set blocks k (set (get_or blocks k []) j value)) k' []) j' d ≡ get_or (get_or blocks k' []) j' d) [
    | inl same ↦
        ap (λ n. get_or (get_or (set blocks k (set (get_or blocks k []) j value)) n []) j' d) same
        ∙ ap (λ b. get_or b j' d) (get_or-set_same blocks k (set (get_or blocks k []) j value) [] there)
        ∙ get_or-set_other (get_or blocks k []) j j' value d (apart same)
        ∙ ap (λ n. get_or (get_or blocks n []) j' d) (sym same)
    | inr differ ↦ ap (λ b. get_or b j' d) (get_or-set_other blocks k k' (set (get_or blocks k []) j value) [] differ)
  ]

  -- a value at another place
  pub changed_elsewhere : (blocks : List (List X)) → AreBlocks blocks → (i : ℕ) (value d : X) → i / 64 < length blocks → (other : ℕ) → other ≢ i → get_or (values_of (changed_at blocks i value)) other d ≡ get_or (values_of blocks) other d
  changed_elsewhere blocks full i value d there other differ =
      flat_at (changed_at blocks i value) (full_changed blocks full i value there) other d
      ∙ other_of_block blocks (i / 64) (i % 64) (other / 64) (other % 64) value d there (apart_in_block i other differ)
      ∙ sym (flat_at blocks full other d)

  -- one value, some times
  same_at : (n j : ℕ) (d : X) → get_or (replicate n d) j d ≡ d
  same_at zero j d = refl
  same_at (suc n) zero d = refl
  same_at (suc n) (suc j) d = same_at n j d

  -- blocks of one value
  blank_at : (n k j : ℕ) (d : X) → get_or (get_or (replicate n (replicate 64 d)) k []) j d ≡ d
  blank_at zero k j d = refl
  blank_at (suc n) zero j d = same_at 64 j d
  blank_at (suc n) (suc k) j d = blank_at n k j d

  -- a value of blocks after which blocks of the default were put
  pub grown_at : (blocks : List (List X)) → AreBlocks blocks → (n i : ℕ) (d : X) → get_or (values_of (blocks ++ replicate n (replicate 64 d))) i d ≡ get_or (values_of blocks) i d
  grown_at blocks full n i d =
      let blanks = full_replicate n (replicate 64 d) (length-replicate 64 d) in
      ap (λ values. get_or values i d) (flat_map-append (λ block. block) blocks (replicate n (replicate 64 d)))
      ∙ elim (cases_lt i (length (values_of blocks))) as (λ _. get_or (values_of blocks ++ values_of (replicate n (replicate 64 d))) i d ≡ get_or (values_of blocks) i d) [
        | inl within ↦ get_or_append_left (values_of blocks) (values_of (replicate n (replicate 64 d))) d i within
        | inr past ↦
            get_or-append_right (values_of blocks) (values_of (replicate n (replicate 64 d))) (length (values_of blocks)) i d refl past
            ∙ flat_at (replicate n (replicate 64 d)) blanks (i - length (values_of blocks)) d
            ∙ blank_at n ((i - length (values_of blocks)) / 64) ((i - length (values_of blocks)) % 64) d
            ∙ sym (get_or_past (values_of blocks) i d past)
      ]

  -- a value that was read from its block
  pub found_is : (blocks : List (List X)) → AreBlocks blocks → (i k j : ℕ) (block values : List X) (x d : X) → k ≡ i / 64 → slice_get blocks k ≡ Some block → values ≡ block → j ≡ i % 64 → x ≡ get_or values j x → x ≡ get_or (values_of blocks) i d
  found_is blocks full i k j block values x d in_block found whole place is =
      let there : slice_get blocks (i / 64) ≡ Some block = ap (slice_get blocks) (sym in_block) ∙ found in
      let size = found_full blocks full k block found in
      let within : i % 64 < length block = omega (arith, size) in
      is
      ∙ ap (λ list. get_or list j x) whole
      ∙ ap (λ n. get_or block n x) place
      ∙ get_or_default block (i % 64) x d within
      ∙ sym (found_at blocks full i block d there)

  -- a default that was given where no block was found
  pub past_is : (blocks : List (List X)) → AreBlocks blocks → (i k : ℕ) (d : X) → k ≡ i / 64 → slice_get blocks k ≡ None → d ≡ get_or (values_of blocks) i d
  past_is blocks full i k d in_block none = sym (past_at blocks full i d (ap (slice_get blocks) (sym in_block) ∙ none))

  -- each value of a block that was found
  pub block_found : (blocks : List (List X)) → AreBlocks blocks → (k b : ℕ) (block values : List X) (d : X) → k ≡ b → slice_get blocks k ≡ Some block → values ≡ block → (place : ℕ) → place < 64 → slice_get values place ≡ Some (get_or (values_of blocks) (64 * b + place) d)
  block_found blocks full k b block values d is found whole place within =
      let size = found_full blocks full k block found in
      let there : place < length block = omega (arith, size, within) in
      let in_block : k ≡ (64 * b + place) / 64 = omega (arith, within, is) in
      let in_place : place ≡ (64 * b + place) % 64 = omega (arith, within) in
      let at = found_at blocks full (64 * b + place) block d (ap (slice_get blocks) (sym in_block) ∙ found) in
      ap (λ list. slice_get list place) whole
      ∙ slice_get-get_or block place d there
      ∙ ap Some (ap (λ n. get_or block n d) in_place ∙ sym at)

  -- each value of a block of the default, where none was found
  pub block_past : (blocks : List (List X)) → AreBlocks blocks → (k b : ℕ) (blank values : List X) (d : X) → k ≡ b → slice_get blocks k ≡ None → values ≡ blank → blank ≡ replicate 64 d → (place : ℕ) → place < 64 → slice_get values place ≡ Some (get_or (values_of blocks) (64 * b + place) d)
  block_past blocks full k b blank values d is none whole repeats place within =
      let in_block : k ≡ (64 * b + place) / 64 = omega (arith, within, is) in
      let there : place < length (replicate 64 d) = omega (arith, within, length-replicate 64 d) in
      ap (λ list. slice_get list place) (whole ∙ repeats)
      ∙ slice_get-get_or (replicate 64 d) place d there
      ∙ ap Some (same_at 64 place d ∙ past_is blocks full (64 * b + place) k d in_block none)

  -- a block that is there is found
  pub block_there : (blocks : List (List X)) (k : ℕ) → k < length blocks → slice_get blocks k ≡ None → ⊥
  block_there blocks k within none = let there = slice_get-get_or blocks k [] within in cc

  -- a block with another value in the place of the old one
  pub put_is : (blocks : List (List X)) (i k j : ℕ) (block values made kept : List X) (value : X) → k ≡ i / 64 → j ≡ i % 64 → slice_get blocks k ≡ Some block → values ≡ block → made ≡ set values j value → kept ≡ made → set blocks k kept ≡ changed_at blocks i value
  put_is blocks i k j block values made kept value in_block place found whole is owned =
      ap (set blocks k) (owned ∙ is ∙ ap (λ list. set list j value) (whole ∙ sym (get_or_from_slice_get blocks k block [] found)))
      ∙ ap (λ n. set blocks k (set (get_or blocks k []) n value)) place
      ∙ ap (λ n. set blocks n (set (get_or blocks n []) (i % 64) value)) in_block

  -- the blank block and the full ones, after a change
  pub places_changed : (d : X) (blank : List X) (blocks new : List (List X)) → ArePlaces d blank blocks → (i : ℕ) (value : X) → i / 64 < length blocks → new ≡ changed_at blocks i value → ArePlaces d blank new
  places_changed d blank blocks new are i value there is = record {
    repeats = are.repeats;
    full = subst AreBlocks (sym is) (full_changed blocks are.full i value there);
    few = let size = length-set blocks (i / 64) (set (get_or blocks (i / 64) []) (i % 64) value) in let same = ap length is in omega (arith, size, same, are.few);
  }

  -- the same, after growth
  pub places_grown : (d : X) (blank : List X) (blocks grown : List (List X)) → ArePlaces d blank blocks → (k : ℕ) → length blocks ≤ k → k < 2 ^ 32 → grown ≡ blocks ++ replicate (k + 1 - length blocks) blank → ArePlaces d blank grown
  places_grown d blank blocks grown are k past few is =
      let size : length blank ≡ 64 = ap length are.repeats ∙ length-replicate 64 d in
      record {
        repeats = are.repeats;
        full = subst AreBlocks (sym is) (full_append blocks (replicate (k + 1 - length blocks) blank) are.full (full_replicate (k + 1 - length blocks) blank size));
        few = let whole = ap length is ∙ length-append blocks (replicate (k + 1 - length blocks) blank) in let more = length-replicate (k + 1 - length blocks) blank in omega (arith, whole, more, past, few);
      }

  -- what a change of the blocks sets
  pub sets_changed : (old : X × List X) (d : X) (blocks new : List (List X)) → (d, values_of blocks) ≡ old → AreBlocks blocks → (i : ℕ) (value : X) → i / 64 < length blocks → new ≡ changed_at blocks i value → SetsPlace old (d, values_of new) i value
  sets_changed old d blocks new seen full i value there is = subst (λ (before : X × List X). SetsPlace before (d, values_of new) i value) seen (subst (λ list. SetsPlace (d, values_of blocks) (d, values_of list) i value) (sym is) (record {
    default = refl;
    here = changed_here blocks full i value d there;
    elsewhere = changed_elsewhere blocks full i value d there;
  }))

  -- what a change sets after growth
  pub sets_grown : (old : X × List X) (d : X) (blank : List X) (blocks grown new : List (List X)) → (d, values_of blocks) ≡ old → ArePlaces d blank blocks → AreBlocks grown → (n i : ℕ) (value : X) → grown ≡ blocks ++ replicate n blank → i / 64 < length grown → new ≡ changed_at grown i value → SetsPlace old (d, values_of new) i value
  sets_grown old d blank blocks grown new seen are full n i value more there is =
      let sets = sets_changed (d, values_of grown) d grown new refl full i value there is in
      let same : (other : ℕ) → get_or (values_of grown) other d ≡ get_or (values_of blocks) other d = λ other. ap (λ list. get_or (values_of list) other d) (more ∙ ap (λ b. blocks ++ replicate n b) are.repeats) ∙ grown_at blocks are.full n other d in
      subst (λ (before : X × List X). SetsPlace before (d, values_of new) i value) seen (record {
        default = refl;
        here = sets.here;
        elsewhere = λ other differ. sets.elsewhere other differ ∙ same other;
      })

  -- the blank block and the full ones, after no change
  pub places_same : (d : X) (blank : List X) (blocks new : List (List X)) → ArePlaces d blank blocks → new ≡ blocks → ArePlaces d blank new
  places_same d blank blocks new are same = subst (ArePlaces d blank) (sym same) are

  -- growth reaches to the block of a place
  pub grown_reaches : (blocks grown : List (List X)) (k i : ℕ) (blank : List X) → length blocks ≤ k → k ≡ i / 64 → grown ≡ blocks ++ replicate (k + 1 - length blocks) blank → i / 64 < length grown
  grown_reaches blocks grown k i blank past in_block is =
      let whole = ap length is ∙ length-append blocks (replicate (k + 1 - length blocks) blank) in
      let more = length-replicate (k + 1 - length blocks) blank in
      omega (arith, whole, more, past, in_block)
