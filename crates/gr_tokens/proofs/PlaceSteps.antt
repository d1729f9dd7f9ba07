-- The places of a phrase, one element of the list after the other.
use Rattle.std.proofs.Common.{◌≡◌, ◌<◌, ◌+◌, Bool, true, false, cond, List, [], ◌∷◌, length, refl, ap, ◌∙◌, arith}
use Rattle.std.specs.List.{starts_with}
use Rattle.gr_tokens.specs.Places.{places}

module _ {X : Type 0} (same : X → X → Bool) where
  -- a phrase without elements has no place
  pub places-nil : (xs : List X) → places same xs [] ≡ 0
  unfolding places
  places-nil [] = refl
  places-nil (x ∷ xs) = refl

  pub places-no_elements : (xs phrase : List X) → length phrase ≡ 0 → places same xs phrase ≡ 0
  places-no_elements xs [] none = places-nil xs
  places-no_elements xs (first ∷ others) none = absurd (omega arith)

  -- an empty list has no place
  pub places-empty : (phrase : List X) → places same [] phrase ≡ 0
  unfolding places
  places-empty phrase = refl

  -- the first element and the others
  pub places-cons : (x : X) (xs phrase : List X) → 0 < length phrase → places same (x ∷ xs) phrase ≡ cond (starts_with same (x ∷ xs) phrase) 1 0 + places same xs phrase
  unfolding places
  places-cons x xs [] some = absurd (omega arith)
  places-cons x xs (first ∷ others) some = refl

  -- the same where the list begins with the phrase
  pub places-cons_yes : (x : X) (xs phrase : List X) → 0 < length phrase → starts_with same (x ∷ xs) phrase ≡ true → places same (x ∷ xs) phrase ≡ 1 + places same xs phrase
  places-cons_yes x xs phrase some begins = places-cons x xs phrase some ∙ ap (λ b. cond b 1 0 + places same xs phrase) begins

  -- the same where it does not
  pub places-cons_no : (x : X) (xs phrase : List X) → 0 < length phrase → starts_with same (x ∷ xs) phrase ≡ false → places same (x ∷ xs) phrase ≡ places same xs phrase
  places-cons_no x xs phrase some differs =
      let split = places-cons x xs phrase some ∙ ap (λ b. cond b 1 0 + places same xs phrase) differs in
      omega (arith, split)
