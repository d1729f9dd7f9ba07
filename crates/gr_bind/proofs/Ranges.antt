-- Ends of ranges, one by one and two by two.
use Rattle.std.proofs.Common.{◌≡◌, ℕ, Bool, [], ◌∷◌, refl, subst, ◌∙◌}
use Rattle.std.specs.Prelude.{Result, Ok, Err}
use Rattle.gr_base.specs.Failure.{result_map, result_then}
use Rattle.gr_base.specs.declared.failure.Failure.{Failure}
use Rattle.gr_base.specs.declared.fault.Fault.{Fault}
use Rattle.gr_bind.specs.Inside.Bounds.{bound}
use Rattle.gr_bind.specs.Inside.Told.{Tells}
use Rattle.gr_bind.specs.Kinds.{is_ordered, is_same_kind}
use Rattle.gr_bind.specs.Typing.{Part, between, end_part, taken, term_where, value_where}
use Rattle.gr_bind.specs.declared.operand.Operand.{Operand}
use Rattle.gr_bind.specs.declared.operand.ValueKind.{ValueKind}
use Rattle.gr_expr.specs.declared.typed.Expr.TheVariants as expr
use Rattle.gr_expr.specs.declared.typed.Term.{Term}

module _ {A B C E : Type 0} where
  both_then : (l : Result A E) (w : Result B E) (k : A → B → Result C E)
      → result_then (λ (b : A × B). k b.0 b.1) (result_then (λ x. result_map (λ y. (x, y)) w) l) ≡ result_then (λ x. result_then (λ y. k x y) w) l
  both_then (Ok x) (Ok y) k = refl
  both_then (Ok x) (Err e) k = refl
  both_then (Err e) w k = refl

  both_map : (l : Result A E) (w : Result B E) (k : A → B → C)
      → result_map (λ (b : A × B). k b.0 b.1) (result_then (λ x. result_map (λ y. (x, y)) w) l) ≡ result_then (λ x. result_map (λ y. k x y) w) l
  both_map (Ok x) (Ok y) k = refl
  both_map (Ok x) (Err e) k = refl
  both_map (Err e) w k = refl

-- the same, where what goes on is the same
pub same_then : {A B E : Type 0} (f g : A → Result B E) (r : Result A E) → ((x : A) → f x ≡ g x) → result_then f r ≡ result_then g r
same_then f g (Ok x) h = h x
same_then f g (Err e) h = refl

-- what goes on with the value of a range
abbrev pub with_value : Part → Part → Part → Part → ValueKind × Term → Result Operand Fault
with_value low with_low high with_high v =
    result_then
    (λ (l : Term × Bool). result_map (λ (h : Term × Bool). Operand.Condition (expr.Between v.1 l.0 l.1 h.0 h.1)) (bound v.0 high with_high))
    (bound v.0 low with_low)

inner : (low with_low high with_high : Part) (v : ValueKind × Term)
    → with_value low with_low high with_high v
    ≡ result_then (λ l. result_then (λ wl. result_then (λ h. result_map (λ wh. Operand.Condition (expr.Between v.1 l wl h wh)) (end_part with_high)) (taken (term_where (is_same_kind v.0)) high)) (end_part with_low)) (taken (term_where (is_same_kind v.0)) low)
inner low with_low high with_high v =
    same_then
    (λ (l : Term × Bool). result_map (λ (h : Term × Bool). Operand.Condition (expr.Between v.1 l.0 l.1 h.0 h.1)) (bound v.0 high with_high))
    (λ (l : Term × Bool). result_then (λ h. result_map (λ wh. Operand.Condition (expr.Between v.1 l.0 l.1 h wh)) (end_part with_high)) (taken (term_where (is_same_kind v.0)) high))
    (bound v.0 low with_low)
    (λ l. both_map (taken (term_where (is_same_kind v.0)) high) (end_part with_high) (λ h wh. Operand.Condition (expr.Between v.1 l.0 l.1 h wh)))
    ∙ both_then (taken (term_where (is_same_kind v.0)) low) (end_part with_low)
    (λ l wl. result_then (λ h. result_map (λ wh. Operand.Condition (expr.Between v.1 l wl h wh)) (end_part with_high)) (taken (term_where (is_same_kind v.0)) high))

-- a range is its value, and then its ends
pub range_is : (at : ℕ) (value low with_low high with_high : Part) (r : Result Operand (Failure Fault))
    → Tells r (result_then (with_value low with_low high with_high) (taken (value_where is_ordered) value)) → Tells r (between at (value ∷ low ∷ with_low ∷ high ∷ with_high ∷ []))
range_is at value low with_low high with_high r told =
    subst (λ (m : Result Operand Fault). Tells r m)
    (same_then (with_value low with_low high with_high) _ (taken (value_where is_ordered) value) (inner low with_low high with_high))
    told
