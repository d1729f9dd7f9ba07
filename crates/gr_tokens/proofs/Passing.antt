-- What is passed over where a phrase goes on in a text by a shift.
use Rattle.std.proofs.Common.{ℕ, ◌≡◌, ◌≢◌, ◌<◌, ◌≤◌, ◌+◌, ◌-◌, Bool, true, false, cond, List, [], ◌∷◌, ◌++◌, length, take, drop, refl, sym, ap, ap₂, subst, ◌∙◌, arith, ⊎_elim}
use Rattle.std.proofs.Math.Nat.{eq-zero-or-pos}
use Rattle.std.proofs.Math.Seq.{take-add}
use Rattle.std.proofs.lemmas.Bool.{cases_Bool, cases_lt}
use Rattle.std.proofs.lemmas.List.{take-take, take_all, take-append-drop, drop-drop, length-drop, length-take, same_from_push}
use Rattle.std.specs.Bool.{Decides}
use Rattle.std.specs.List.{starts_with}
use Rattle.gr_tokens.specs.Inside.Periods.{IsPeriod, NoShorter}
use Rattle.gr_tokens.specs.Places.{places}
use Rattle.gr_tokens.proofs.PlaceSteps.{places-empty, places-cons_no}
use Rattle.gr_tokens.proofs.Shifts.{drop-beginning, take-shorter, period-from, starts-take, take-starts, places-here}

-- the next element of a list
pub record IsNext {X : Type 0} (xs : List X) (k : ℕ) (y : X) (ys : List X) : Type 0 where
  pub within : k < length xs
  pub front : take (k + 1) xs ≡ take k xs ++ y ∷ []
  pub rest : drop (k + 1) xs ≡ ys

pub IsNext-drop : {X : Type 0} (xs : List X) (k : ℕ) (y : X) (ys : List X) → drop k xs ≡ y ∷ ys → IsNext xs k y ys
IsNext-drop xs k y ys split =
    let left = ap length split in
    record {
      within = omega (arith, length-drop k xs, left);
      front = take-add k 1 xs ∙ ap (λ l. take k xs ++ take 1 l) split;
      rest = sym (drop-drop 1 k xs) ∙ ap (drop 1) split;
    }

-- no element is left
pub drop-none : {X : Type 0} (xs : List X) (k : ℕ) → k ≤ length xs → drop k xs ≡ [] → k ≡ length xs
drop-none xs k within none = let left = ap length none in omega (arith, length-drop k xs, left)

module _ {X : Type 0} (text phrase : List X) (k : ℕ) (same : take k text ≡ take k phrase) (x y : X) (text_left phrase_left : List X) (text_is : drop k text ≡ x ∷ text_left) (phrase_is : drop k phrase ≡ y ∷ phrase_left) where
  -- one more matches
  pub take-one_more : x ≡ y → take (k + 1) text ≡ take (k + 1) phrase
  take-one_more is =
      (IsNext-drop text k x text_left text_is).front
      ∙ ap₂ (λ l z. l ++ z ∷ []) same is
      ∙ sym (IsNext-drop phrase k y phrase_left phrase_is).front

  -- the next one differs
  pub take-differs : x ≢ y → ¬ (take (k + 1) text ≡ take (k + 1) phrase)
  take-differs apart more =
      apart (same_from_push (take k text) (take k phrase) x y (sym (IsNext-drop text k x text_left text_is).front ∙ more ∙ (IsNext-drop phrase k y phrase_left phrase_is).front)).1

module _ {X : Type 0} (text phrase : List X) (k : ℕ) (same : take k text ≡ take k phrase) where
  -- a shift that is no period
  pub passes-shorter : (s q : ℕ) → NoShorter phrase k s → 0 < q → q < s → q ≤ k → ¬ (take (k + 1 - q) (drop q text) ≡ take (k + 1 - q) phrase)
  passes-shorter s q none above below within more =
      none q above below (period-from k q text phrase within same (take-shorter (k - q) (k + 1 - q) (drop q text) phrase (omega arith) more))

  -- a shift by a period, after which the same elements differ again
  pub passes-period : (p : ℕ) → p ≤ k → IsPeriod phrase (k + 1) p → ¬ (take (k + 1) text ≡ take (k + 1) phrase) → ¬ (take (k + 1 - p) (drop p text) ≡ take (k + 1 - p) phrase)
  passes-period p within period longest more =
      let later : drop p (take (k + 1) text) ≡ drop p (take (k + 1) phrase) =
      drop-beginning (k + 1) p text (omega arith) ∙ more ∙ sym period.again ∙ sym (drop-beginning (k + 1) p phrase (omega arith)) in
      let before : take p text ≡ take p phrase = take-shorter p k text phrase within same in
      let earlier : take p (take (k + 1) text) ≡ take p (take (k + 1) phrase) = take-take p (k + 1) text (omega arith) ∙ before ∙ sym (take-take p (k + 1) phrase (omega arith)) in
      longest (sym (take-append-drop p (take (k + 1) text)) ∙ ap₂ ◌++◌ earlier later ∙ take-append-drop p (take (k + 1) phrase))

-- a list that is cut twice
pub take-drop-drop : {X : Type 0} (m a b c : ℕ) (xs : List X) → a + b ≡ c → take m (drop b (drop a xs)) ≡ take m (drop c xs)
take-drop-drop m a b c xs sum = ap (take m) (drop-drop b a xs ∙ ap (λ n. drop n xs) sum)

module _ {X : Type 0} (equal : X → X → Bool) (decides : (a b : X) → Decides (equal a b) (a ≡ b)) where
  -- a beginning that does not match is no place
  pub starts-no : (m : ℕ) (xs phrase : List X) → m ≤ length phrase → ¬ (take m xs ≡ take m phrase) → starts_with equal xs phrase ≡ false
  starts-no m xs phrase fits none =
      ⊎_elim
      (λ begins.
      let all : take (length phrase) xs ≡ take (length phrase) phrase = starts-take equal decides xs phrase begins ∙ sym (take_all (length phrase) phrase (omega arith)) in
      absurd (none (take-shorter m (length phrase) xs phrase fits all)))
      (λ differs. differs)
      (cases_Bool (starts_with equal xs phrase))

  -- the whole phrase matches
  pub starts-yes : (k : ℕ) (xs phrase : List X) → k ≡ length phrase → take k xs ≡ take k phrase → starts_with equal xs phrase ≡ true
  starts-yes k xs phrase whole same =
      take-starts equal decides xs phrase (ap (λ n. take n xs) (sym whole) ∙ same ∙ take_all k phrase (omega arith))

  -- the place here, if there is one, and those from a shift on
  pub places-passed : (phrase text : List X) (k s : ℕ) → 0 < length phrase → k ≤ length phrase → 0 < s → 0 < length text → ((q : ℕ) → 0 < q → q < s → ¬ (take (k + 1 - q) (drop q text) ≡ take (k + 1 - q) phrase)) → places equal text phrase ≡ cond (starts_with equal text phrase) 1 0 + places equal (drop s text) phrase
  places-passed phrase text k s some fits least more passed =
      places-here equal decides phrase some s text least more
      (λ q above below. starts-no (k + 1 - q) (drop q text) phrase (omega arith) (passed q above below))

  -- a phrase that is longer than the text has no place
  pub places-short : (phrase text : List X) → length text < length phrase → places equal text phrase ≡ 0
  places-short phrase [] short = places-empty equal phrase
  places-short phrase (x ∷ xs) short =
      places-cons_no equal x xs phrase (omega arith)
      (⊎_elim
      (λ begins. let all = ap length (starts-take equal decides (x ∷ xs) phrase begins) in absurd (omega (arith, length-take (length phrase) (x ∷ xs), all)))
      (λ differs. differs)
      (cases_Bool (starts_with equal (x ∷ xs) phrase)))
      ∙ places-short phrase xs (omega arith)

-- what is passed over by one more period, where the same elements differ before it and after it
pub passes-more : {X : Type 0} (text phrase : List X) (all shift k p : ℕ) → k + shift ≡ all → p ≤ k → take k (drop shift text) ≡ take k phrase → NoShorter phrase k p → ¬ (take (k + 1) (drop shift text) ≡ take (k + 1) phrase)
    → ((q : ℕ) → 0 < q → q < shift → ¬ (take (all + 1 - q) (drop q text) ≡ take (all + 1 - q) phrase))
    → (q : ℕ) → 0 < q → q < shift + p → ¬ (take (all + 1 - q) (drop q text) ≡ take (all + 1 - q) phrase)
passes-more text phrase all shift k p sum within same none longest passed q above below more =
    ⊎_elim
    (λ earlier. passed q above earlier more)
    (λ later.
    let left : all + 1 - q ≡ k + 1 - (q - shift) = omega arith in
    let on : shift + (q - shift) ≡ q = omega arith in
    let here : take (k + 1 - (q - shift)) (drop (q - shift) (drop shift text)) ≡ take (k + 1 - (q - shift)) phrase =
    take-drop-drop (k + 1 - (q - shift)) shift (q - shift) q text on ∙ subst (λ n. take n (drop q text) ≡ take n phrase) left more in
    ⊎_elim
    (λ at.
    let here_is : q ≡ shift = omega arith in
    let count : all + 1 - q ≡ k + 1 = omega arith in
    longest (subst (λ m. take (k + 1) (drop m text) ≡ take (k + 1) phrase) here_is (subst (λ n. take n (drop q text) ≡ take n phrase) count more)))
    (λ further. passes-shorter (drop shift text) phrase k same p (q - shift) none further (omega arith) (omega arith) here)
    (eq-zero-or-pos (q - shift)))
    (cases_lt q shift)

-- the same elements after a shift and one more
pub take-one_less : {X : Type 0} (text phrase : List X) (k p shift : ℕ) → p ≤ k → take (k - p + 1) (drop (shift + p) text) ≡ take (k - p + 1) phrase → take (k + 1 - p) (drop p (drop shift text)) ≡ take (k + 1 - p) phrase
take-one_less text phrase k p shift within more =
    let count : k - p + 1 ≡ k + 1 - p = omega arith in
    take-drop-drop (k + 1 - p) shift p (shift + p) text refl ∙ subst (λ n. take n (drop (shift + p) text) ≡ take n phrase) count more
