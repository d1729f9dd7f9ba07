-- The periods of a phrase's beginnings that are kept.
use Rattle.std.proofs.Common.{ℕ, ◌≡◌, ◌<◌, ◌≤◌, ◌+◌, ◌-◌, ◌*◌, ◌/◌, true, List, [], ◌∷◌, ◌++◌, length, take, drop, max, sym, ap, subst, ◌∙◌, arith, ⊎_elim}
use Rattle.std.proofs.Math.Nat.{eq-zero-or-pos}
use Rattle.std.proofs.Math.Seq.{take-append_seam, drop-append_seam}
use Rattle.std.proofs.lemmas.Bool.{cases_lt}
use Rattle.std.proofs.lemmas.List.Elements.{All-push, All-take, All-drop, All-head}
use Rattle.std.specs.List.{All}
use Rattle.gr_tokens.specs.declared.periods.Period.{Period}
use Rattle.gr_tokens.specs.declared.periods.Periods.{Periods}
use Rattle.gr_tokens.specs.Inside.Kept.{ArePeriodsBelow, Covers, IsKept, NoneCovers}
use Rattle.gr_tokens.specs.Inside.Periods.{IsPeriod, NoShorter}
use Rattle.gr_tokens.specs.Tokens.{words}
use Rattle.gr_tokens.proofs.Passing.{take-drop-drop}
use Rattle.gr_tokens.proofs.Shifts.{take-shorter}

-- a period of a beginning is one of each shorter beginning
pub IsPeriod-shorter : {X : Type 0} (xs : List X) (k n p : ℕ) → k ≤ n → IsPeriod xs n p → IsPeriod xs k p
IsPeriod-shorter xs k n p shorter period = record { again = take-shorter (k - p) (n - p) (drop p xs) xs (omega arith) period.again }

-- words that match from a place on
pub IsPeriod-match : {X : Type 0} (xs : List X) (place matched : ℕ) → take matched (drop place xs) ≡ take matched xs → IsPeriod xs (place + matched) place
IsPeriod-match xs place matched same =
    let left : matched ≡ place + matched - place = omega arith in
    record { again = subst (λ n. take n (drop place xs) ≡ take n xs) left same }

module _ (P : Period → Type 0) (xs : List Period) (y : Period) where
  pub All-before : All P (xs ++ y ∷ []) → All P xs
  All-before all = subst (All P) (take-append_seam xs (y ∷ [])) (All-take P (length xs) (xs ++ y ∷ []) all)

  pub All-last : All P (xs ++ y ∷ []) → P y
  All-last all = All-head P y [] (subst (All P) (drop-append_seam xs (y ∷ [])) (All-drop P (length xs) (xs ++ y ∷ []) all))

module _ (phrase : List (List ℕ)) (old new : Periods) (period : Period) (place matched : ℕ)
    (some : 0 < place) (within : place + matched ≤ length phrase)
    (words_is : period.words ≡ place) (from_is : period.from ≡ max (3 * place) (old.reach + 1)) (reach_is : period.reach ≡ place + matched) (after_is : words period.after.now ≡ drop matched phrase)
    (again : IsPeriod phrase (place + matched) place) (below : ArePeriodsBelow phrase old place)
    (items_are : new.kept.items ≡ old.kept.items ++ period ∷ []) (reach_new : new.reach ≡ place + matched) (all_same : new.all ≡ old.all) (larger : old.reach < place + matched) where
  no_shorter : (count : ℕ) → old.reach < count → count ≤ length phrase → 3 * place ≤ count → NoShorter phrase count place
  no_shorter count above fits third q least less = below.others count q above fits least less (omega arith)

  is_kept : IsKept phrase period
  is_kept = record {
    some = omega arith;
    short = omega arith;
    reach = omega arith;
    after = let left : matched ≡ period.reach - period.words = omega arith in after_is ∙ ap (λ n. drop n phrase) left;
    again = λ count covers. subst (IsPeriod phrase count) (sym words_is) (IsPeriod-shorter phrase count (place + matched) place (omega (arith, covers.1)) again);
    least = λ count covers. subst (NoShorter phrase count) (sym words_is) (no_shorter count (omega (arith, covers.0)) (omega (arith, covers.1)) (omega (arith, covers.0)));
  }

  known : (count : ℕ) → count ≤ new.reach → new.all ≡ true → NoneCovers new.kept.items count → NoShorter phrase count (count / 3 + 1)
  known count fits all none q least less =
      let each : NoneCovers (old.kept.items ++ period ∷ []) count = subst (λ items. NoneCovers items count) items_are none in
      ⊎_elim
      (λ above.
      ⊎_elim
      (λ short. below.others count q above (omega arith) least (omega arith) (omega arith))
      (λ from. absurd (All-last (λ p. ¬ Covers p count) old.kept.items period each (from, omega arith)))
      (cases_lt count period.from))
      (λ within_old. below.known count within_old (sym all_same ∙ all) (All-before (λ p. ¬ Covers p count) old.kept.items period each) q least less)
      (cases_lt old.reach count)

  -- one more period is kept
  pub below-kept : ArePeriodsBelow phrase new place
  below-kept = record {
    kept = subst (All (IsKept phrase)) (sym items_are) (All-push (IsKept phrase) old.kept.items period below.kept is_kept);
    known = known;
    others = λ count q above. below.others count q (omega arith);
  }

-- no place up to the next one is a period that could be kept
pub below-on : (phrase : List (List ℕ)) (periods : Periods) (place matched shift : ℕ) → (2 * place ≤ matched → place + matched ≤ periods.reach) → ¬ (take (matched + 1) (drop place phrase) ≡ take (matched + 1) phrase)
    → ((q : ℕ) → 0 < q → q < shift → ¬ (take (matched + 1 - q) (drop q (drop place phrase)) ≡ take (matched + 1 - q) phrase))
    → ArePeriodsBelow phrase periods place → ArePeriodsBelow phrase periods (place + shift)
below-on phrase periods place matched shift reach longest passed below = record {
  kept = below.kept;
  known = below.known;
  others = λ count q above fits least less third period.
      ⊎_elim
      (λ earlier. below.others count q above fits least earlier third period)
      (λ later.
      ⊎_elim
      (λ long.
      let same : take (matched + 1 - (q - place)) (drop q phrase) ≡ take (matched + 1 - (q - place)) phrase = take-shorter (matched + 1 - (q - place)) (count - q) (drop q phrase) phrase (omega arith) period.again in
      ⊎_elim
      (λ none.
      let at : q ≡ place = omega arith in
      let all : matched + 1 - (q - place) ≡ matched + 1 = omega arith in
      longest (subst (λ n. take (matched + 1) (drop n phrase) ≡ take (matched + 1) phrase) at (subst (λ n. take n (drop q phrase) ≡ take n phrase) all same)))
      (λ some. passed (q - place) some (omega arith) (take-drop-drop (matched + 1 - (q - place)) place (q - place) q phrase (omega arith) ∙ same))
      (eq-zero-or-pos (q - place)))
      (λ short. let known = reach (omega arith) in absurd (omega arith))
      (cases_lt (place + matched) count))
      (cases_lt q place);
}
