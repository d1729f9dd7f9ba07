-- Where a phrase may stand next in a list that begins as the phrase does.
use Rattle.std.proofs.Common.{ℕ, zero, suc, ◌≡◌, ◌<◌, ◌≤◌, ◌+◌, ◌-◌, Bool, true, false, cond, List, [], ◌∷◌, ◌++◌, length, take, drop, refl, sym, ap, ap₂, ◌∙◌, arith, ⊎_elim}
use Rattle.std.proofs.Math.Seq.{take-append_seam, take-add}
use Rattle.std.proofs.lemmas.Bool.{cases_Bool}
use Rattle.std.proofs.lemmas.List.{drop-take, take-take, take_all, take-append-drop, drop-drop, length-drop}
use Rattle.std.proofs.lemmas.Slice.Eq.{starts_is}
use Rattle.std.specs.Bool.{Decides}
use Rattle.std.specs.List.{starts_with}
use Rattle.gr_tokens.specs.Inside.Periods.{IsPeriod}
use Rattle.gr_tokens.specs.Places.{places}
use Rattle.gr_tokens.proofs.PlaceSteps.{places-cons, places-cons_no}

-- what is left of a beginning
pub drop-beginning : {X : Type 0} (k q : ℕ) (xs : List X) → q ≤ k → drop q (take k xs) ≡ take (k - q) (drop q xs)
drop-beginning k q xs within =
    let whole : k ≡ q + (k - q) = omega arith in
    ap (λ n. drop q (take n xs)) whole ∙ drop-take q (k - q) xs

-- a period on, the rest of a beginning that matches still does
pub take-period : {X : Type 0} (k q : ℕ) (xs phrase : List X) → q ≤ k → take k xs ≡ take k phrase → IsPeriod phrase k q → take (k - q) (drop q xs) ≡ take (k - q) phrase
take-period k q xs phrase within same period =
    sym (drop-beginning k q xs within) ∙ ap (drop q) same ∙ drop-beginning k q phrase within ∙ period.again

-- words that match so far on are a period of a beginning that matches
pub period-from : {X : Type 0} (k q : ℕ) (xs phrase : List X) → q ≤ k → take k xs ≡ take k phrase → take (k - q) (drop q xs) ≡ take (k - q) phrase → IsPeriod phrase k q
period-from k q xs phrase within same on =
    record { again = sym (drop-beginning k q phrase within) ∙ ap (drop q) (sym same) ∙ drop-beginning k q xs within ∙ on }

-- a shorter beginning
pub take-shorter : {X : Type 0} (m n : ℕ) (xs ys : List X) → m ≤ n → take n xs ≡ take n ys → take m xs ≡ take m ys
take-shorter m n xs ys shorter same = sym (take-take m n xs shorter) ∙ ap (take m) same ∙ take-take m n ys shorter

module _ {X : Type 0} (equal : X → X → Bool) (decides : (a b : X) → Decides (equal a b) (a ≡ b)) where
  -- a list begins with a phrase
  pub starts-take : (xs phrase : List X) → starts_with equal xs phrase ≡ true → take (length phrase) xs ≡ phrase
  starts-take xs phrase begins =
      ap (take (length phrase)) ((starts_is decides xs phrase (starts_with equal xs phrase) refl).0 begins) ∙ take-append_seam phrase (drop (length phrase) xs)

  pub take-starts : (xs phrase : List X) → take (length phrase) xs ≡ phrase → starts_with equal xs phrase ≡ true
  take-starts xs phrase same =
      (starts_is decides xs phrase (starts_with equal xs phrase) refl).1 (drop (length phrase) xs)
      (sym (take-append-drop (length phrase) xs) ∙ ap (λ l. l ++ drop (length phrase) xs) same)

  -- a place within the beginning that matches is a period of it
  pub place-period : (k q : ℕ) (xs phrase : List X) → q ≤ k → k ≤ length phrase → take k xs ≡ take k phrase → starts_with equal (drop q xs) phrase ≡ true → IsPeriod phrase k q
  place-period k q xs phrase within fits same begins =
      period-from k q xs phrase within same
      (take-shorter (k - q) (length phrase) (drop q xs) phrase (omega arith) (starts-take (drop q xs) phrase begins ∙ sym (take_all (length phrase) phrase (omega arith))))

  -- no place begins at the elements that are passed over
  pub places-skip : (phrase : List X) → 0 < length phrase → (s : ℕ) (xs : List X) → ((q : ℕ) → q < s → starts_with equal (drop q xs) phrase ≡ false) → places equal xs phrase ≡ places equal (drop s xs) phrase
  places-skip phrase some zero xs none = refl
  places-skip phrase some (suc s) [] none = refl
  places-skip phrase some (suc s) (x ∷ xs) none =
      places-cons_no equal x xs phrase some (none 0 (omega arith))
      ∙ places-skip phrase some s xs (λ q below. none (suc q) (omega arith))

  -- the place here, if there is one, and those from s elements on
  pub places-here : (phrase : List X) → 0 < length phrase → (s : ℕ) (xs : List X) → 0 < s → 0 < length xs → ((q : ℕ) → 0 < q → q < s → starts_with equal (drop q xs) phrase ≡ false) → places equal xs phrase ≡ cond (starts_with equal xs phrase) 1 0 + places equal (drop s xs) phrase
  places-here phrase some zero xs least more none = absurd (omega arith)
  places-here phrase some (suc s) [] least more none = absurd (omega arith)
  places-here phrase some (suc s) (x ∷ xs) least more none =
      places-cons equal x xs phrase some
      ∙ ap (λ n. cond (starts_with equal (x ∷ xs) phrase) 1 0 + n) (places-skip phrase some s xs (λ q below. none (suc q) (omega arith) (omega arith)))

  -- the same where no shorter shift is a period of the beginning that matches
  pub places-shift : (k s : ℕ) (xs phrase : List X) → 0 < length phrase → 0 < length xs → k ≤ length phrase → take k xs ≡ take k phrase → 0 < s → s ≤ k + 1 → ((q : ℕ) → 0 < q → q < s → ¬ IsPeriod phrase k q) → places equal xs phrase ≡ cond (starts_with equal xs phrase) 1 0 + places equal (drop s xs) phrase
  places-shift k s xs phrase some more fits same least within none =
      places-here phrase some s xs least more
      (λ q above below.
      ⊎_elim
      (λ begins. absurd (none q above below (place-period k q xs phrase (omega arith) fits same begins)))
      (λ differs. differs)
      (cases_Bool (starts_with equal (drop q xs) phrase)))

  -- a phrase whose period is followed by its last elements stands a period on
  pub starts-again : (q : ℕ) (xs phrase : List X) → q ≤ length phrase → starts_with equal xs phrase ≡ true → IsPeriod phrase (length phrase) q → starts_with equal (drop (length phrase) xs) (drop (length phrase - q) phrase) ≡ true → starts_with equal (drop q xs) phrase ≡ true
  starts-again q xs phrase within begins period follows =
      let n : ℕ = length phrase in
      let kept : take (n - q) (drop q xs) ≡ take (n - q) phrase = take-period n q xs phrase within (starts-take xs phrase begins ∙ sym (take_all n phrase (omega arith))) period in
      let tail_is : length (drop (n - q) phrase) ≡ q = omega (arith, length-drop (n - q) phrase) in
      let after : take q (drop n xs) ≡ drop (n - q) phrase = ap (λ k. take k (drop n xs)) (sym tail_is) ∙ starts-take (drop n xs) (drop (n - q) phrase) follows in
      let parts : n ≡ (n - q) + q = omega arith in
      let on : q + (n - q) ≡ n = omega arith in
      take-starts (drop q xs) phrase
      (ap (λ k. take k (drop q xs)) parts
      ∙ take-add (n - q) q (drop q xs)
      ∙ ap₂ ◌++◌ kept (ap (take q) (drop-drop (n - q) q xs ∙ ap (λ k. drop k xs) on) ∙ after)
      ∙ take-append-drop (n - q) phrase)
