-- Lists in which what passes a test stands first.
use Rattle.std.proofs.Common.{◌≡◌, ℕ, ◌+◌, ◌<◌, Bool, true, false, List, length, get_or, refl, sym, ap, ◌∙◌, arith}
use Rattle.std.specs.Bool.{OnFalse, OnTrue}
use Rattle.std.specs.List.{AllWithin}
use Rattle.std.specs.List.Sorted.{IsPartitionedBy}
use Rattle.std.proofs.lemmas.List.{get_or_read}

-- a fact for a test that holds, and for one that fails
pub on_true : (b : Bool) (P : Type 0) → (b ≡ true → P) → OnTrue b P
on_true true P h = h refl
on_true false P h = tt

pub on_false : (b : Bool) (P : Type 0) → (b ≡ false → P) → OnFalse b P
on_false true P h = tt
on_false false P h = h refl

-- what is not true is false
pub false_from : (b : Bool) → (b ≡ true → ⊥) → b ≡ false
false_from true h = absurd (h refl)
false_from false h = refl

-- where one passes, so do all before it
pub passes_to : {X : Type 0} (p : X → Bool) (xs : List X) (i : ℕ) (x : X) → IsPartitionedBy p xs → i < length xs → x ≡ get_or xs i x → p x ≡ true → AllWithin (λ y. p y ≡ true) xs 0 (i + 1)
passes_to p xs i x h lt is e = λ k d a b. h k i d (omega arith) lt (ap p (sym (get_or_read xs i x lt is d)) ∙ e)

-- where one fails, so do all after it
pub fails_from : {X : Type 0} (p : X → Bool) (xs : List X) (i : ℕ) (x : X) → IsPartitionedBy p xs → i < length xs → x ≡ get_or xs i x → p x ≡ false → AllWithin (λ y. p y ≡ false) xs i (length xs)
fails_from p xs i x h lt is e = λ k d a b. false_from (p (get_or xs k d)) (λ t.
    let passes : p (get_or xs i d) ≡ true = h i k d a b t in
    let fails : p (get_or xs i d) ≡ false = ap p (sym (get_or_read xs i x lt is d)) ∙ e in
    cc)
