-- The places of a phrase that stands alone, from one place of its bytes to the next.
use Rattle.std.proofs.Common.{ℕ, zero, suc, min, ◌≡◌, ◌<◌, ◌≤◌, ◌+◌, ◌-◌, Bool, true, false, cond, ◌&&◌, List, [], ◌∷◌, length, drop, get_or, refl, sym, ap, ap₂, ◌∙◌, arith, nat_eq}
use Rattle.std.proofs.lemmas.Bool.{both_ways}
use Rattle.std.proofs.lemmas.List.{drop_all, drop-drop, length-drop}
use Rattle.std.specs.List.{starts_with}
use Rattle.gr_tokens.specs.Inside.Alone.{opens, closes, places_alone, NoneStands, IsNext}
use Rattle.gr_tokens.specs.Tokens.{is_space}
use Rattle.gr_tokens.proofs.BytePlaces.{starts-fits}

-- what stands before a place, from a place before it on
pub opens-drop : (before : Bool) (text : List ℕ) (k j : ℕ) → opens (opens before text k) (drop k text) j ≡ opens before text (k + j)
unfolding opens
opens-drop before text zero j = let whole : j ≡ 0 + j = omega arith in ap (opens before text) whole
opens-drop before [] (suc k) zero = let whole : suc k ≡ suc k + 0 = omega arith in ap (opens before []) whole
opens-drop before [] (suc k) (suc j) = let whole : suc (k + suc j) ≡ suc k + suc j = omega arith in ap (opens before []) whole
opens-drop before (x ∷ xs) (suc k) j = let whole : suc (k + j) ≡ suc k + j = omega arith in opens-drop (is_space x) xs k j ∙ ap (opens before (x ∷ xs)) whole

-- the byte before a place
pub opens-byte : (before : Bool) (text : List ℕ) (k : ℕ) → k < length text → opens before text (suc k) ≡ is_space (get_or text k 0)
unfolding opens
opens-byte before [] k within = absurd (omega arith)
opens-byte before (x ∷ xs) zero within = refl
opens-byte before (x ∷ xs) (suc k) within = opens-byte (is_space x) xs k (omega arith)

pub opens-zero : (before : Bool) (text : List ℕ) (k : ℕ) → k ≡ 0 → opens before text k ≡ before
unfolding opens
opens-zero before text k none = ap (opens before text) none

pub opens-before : (before : Bool) (text : List ℕ) (k : ℕ) → 0 < k → k ≤ length text → opens before text k ≡ is_space (get_or text (k - 1) 0)
opens-before before text k some within =
    let next : k ≡ suc (k - 1) = omega arith in
    ap (opens before text) next ∙ opens-byte before text (k - 1) (omega arith)

module _ (phrase : List ℕ) where
  none-here : (before close begins : Bool) → begins ≡ false → ◌≡◌ {A = ℕ} (cond (before && (begins && close)) 1 0) 0
  none-here true close true none = absurd (both_ways true none refl)
  none-here true close false none = refl
  none-here false close begins none = refl

  -- no place is at the bytes that are passed over
  pub alone-skip : (s : ℕ) (before : Bool) (text : List ℕ) → NoneStands text phrase 0 s → places_alone before text phrase ≡ places_alone (opens before text s) (drop s text) phrase
  unfolding places_alone opens
  alone-skip zero before text none = refl
  alone-skip (suc s) before [] none = refl
  alone-skip (suc s) before (x ∷ xs) none =
      let here = none-here before (closes (drop (length phrase) (x ∷ xs))) (starts_with nat_eq (x ∷ xs) phrase) (none 0 (omega arith) (omega arith)) in
      let later = alone-skip s (is_space x) xs (λ q low high. none (suc q) (omega arith) (omega arith)) in
      omega (arith, here, later)

  -- the place here, and those from the next place of the bytes on
  pub alone-next : (s : ℕ) (before : Bool) (text : List ℕ) → 0 < s → 0 < length text → NoneStands text phrase 1 s → starts_with nat_eq text phrase ≡ true → places_alone before text phrase ≡ cond (before && closes (drop (length phrase) text)) 1 0 + places_alone (opens before text s) (drop s text) phrase
  unfolding places_alone opens
  alone-next zero before text least more none begins = absurd (omega arith)
  alone-next (suc s) before [] least more none begins = absurd (omega arith)
  alone-next (suc s) before (x ∷ xs) least more none begins =
      ap₂ (λ b n. cond (before && (b && closes (drop (length phrase) (x ∷ xs)))) 1 0 + n) begins
      (alone-skip s (is_space x) xs (λ q low high. none (suc q) (omega arith) (omega arith)))

  pub alone-end : (before : Bool) → places_alone before [] phrase ≡ 0
  unfolding places_alone
  alone-end before = refl

  -- the place here where no other is
  pub alone-last : (before : Bool) (text : List ℕ) → 0 < length text → NoneStands text phrase 1 (length text) → starts_with nat_eq text phrase ≡ true → places_alone before text phrase ≡ cond (before && closes (drop (length phrase) text)) 1 0
  alone-last before text more none begins =
      let split = alone-next (length text) before text more more none begins in
      let left = ap (λ t. places_alone (opens before text (length text)) t phrase) (drop_all (length text) text (omega arith)) ∙ alone-end (opens before text (length text)) in
      omega (arith, split, left)

  -- no place where the bytes stand nowhere
  pub alone-none : (before : Bool) (text : List ℕ) → NoneStands text phrase 0 (length text) → places_alone before text phrase ≡ 0
  alone-none before text none =
      alone-skip (length text) before text none
      ∙ ap (λ t. places_alone (opens before text (length text)) t phrase) (drop_all (length text) text (omega arith))
      ∙ alone-end (opens before text (length text))

module _ (text phrase : List ℕ) where
  -- the places from the last part of a text on
  pub alone_left : List ℕ → ℕ
  alone_left here = places_alone (opens true text (length text - length here)) here phrase

  -- the part from the next place on
  pub left-next : (here next : List ℕ) → here ≡ drop (length text - length here) text → length here ≤ length text → IsNext here phrase 1 next → next ≡ drop (length text - length next) text
  left-next here next is within found =
      let size = ap length found.is in
      let place : (length text - length here) + found.at ≡ length text - length next = omega (arith, size, length-drop found.at here, found.high) in
      found.is ∙ ap (drop found.at) is ∙ drop-drop found.at (length text - length here) text ∙ ap (λ k. drop k text) place

  pub alone_left-next : (here next : List ℕ) → here ≡ drop (length text - length here) text → length here ≤ length text → 0 < length phrase → starts_with nat_eq here phrase ≡ true → IsNext here phrase 1 next → alone_left here ≡ cond (opens true text (length text - length here) && closes (drop (length phrase) here)) 1 0 + alone_left next
  unfolding alone_left
  alone_left-next here next is within some begins found =
      let before = opens true text (length text - length here) in
      let fits = starts-fits here phrase begins in
      let size = ap length found.is in
      let place : (length text - length here) + found.at ≡ length text - length next = omega (arith, size, length-drop found.at here, found.high) in
      let opened : opens before here found.at ≡ opens true text (length text - length next) =
      ap (λ t. opens before t found.at) is ∙ opens-drop true text (length text - length here) found.at ∙ ap (opens true text) place in
      alone-next phrase found.at before here (omega (arith, found.low)) (omega arith) found.none begins
      ∙ ap₂ (λ b t. cond (before && closes (drop (length phrase) here)) 1 0 + places_alone b t phrase) opened (sym found.is)

  pub alone_left-last : (here : List ℕ) → 0 < length phrase → starts_with nat_eq here phrase ≡ true → NoneStands here phrase 1 (length here) → alone_left here ≡ cond (opens true text (length text - length here) && closes (drop (length phrase) here)) 1 0
  unfolding alone_left
  alone_left-last here some begins none =
      let fits = starts-fits here phrase begins in
      alone-last phrase (opens true text (length text - length here)) here (omega arith) none begins

  -- the first place
  pub left-first : (first : List ℕ) → IsNext text phrase 0 first → (first ≡ drop (length text - length first) text) × (length first ≤ length text)
  left-first first found =
      let size = ap length found.is in
      let place : found.at ≡ length text - length first = omega (arith, size, length-drop found.at text, found.high) in
      (found.is ∙ ap (λ k. drop k text) place, omega (arith, size, length-drop found.at text))

  pub alone_left-first : (first : List ℕ) → IsNext text phrase 0 first → places_alone true text phrase ≡ alone_left first
  unfolding alone_left
  alone_left-first first found =
      let size = ap length found.is in
      let place : found.at ≡ length text - length first = omega (arith, size, length-drop found.at text, found.high) in
      alone-skip phrase found.at true text found.none
      ∙ ap₂ (λ b t. places_alone b t phrase) (ap (opens true text) place) (sym found.is)

-- one more place is counted, if there is one here
pub count-step : (is : Bool) (count more here next total : ℕ) → count ≤ 2147483647 → more ≡ cond is (min (count + 1) 2147483647) count → here ≡ cond is 1 0 + next → min (count + here) 2147483647 ≡ total → (more ≤ 2147483647) × (min (more + next) 2147483647 ≡ total)
count-step true count more here next total most counted split all = (omega arith, omega arith)
count-step false count more here next total most counted split all = (omega arith, omega arith)
