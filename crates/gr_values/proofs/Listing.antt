-- Lists of values: the length decides first, and each element is of the type.
use Rattle.std.proofs.Common.{◌≡◌, ℕ, ℤ, ◌<◌, ◌≤◌, cond, ltb, List, length, Option, Some, Result, Err, true, refl, ap, sym, subst, ◌∙◌}
use Rattle.std.proofs.lemmas.Bool.{lt-ltb, le-ltb}
use Rattle.std.specs.Option.{MatchOption, is_some}
use Rattle.serde_json.specs.Data.{array}
use Rattle.serde_json.proofs.Views.{items_len-items_view}
use Rattle.serde_json.specs.View.{items_view}
use Rattle.serde_json.specs.declared.value.Value.{Value}
use Rattle.gr_base.specs.Failure.{Answers}
use Rattle.gr_base.specs.declared.fault.FaultKind.{FaultKind}
use Rattle.gr_base.specs.declared.fault.FaultKind.TheVariants.{TooLong}
use Rattle.gr_base.specs.declared.limits.TheConstants.{LONGEST_VECTOR}
use Rattle.gr_values.specs.declared.data_type.DataType.{DataType}
use Rattle.gr_values.specs.declared.data_type.Range.{Range}
use Rattle.gr_values.specs.declared.data_type.Shape.{Shape}
use Rattle.gr_base.specs.declared.failure.Failure.{Failure}
use Rattle.gr_base.specs.declared.failure.Failure.TheVariants.{Refused}
use Rattle.gr_values.specs.declared.value.Given.{Given}
use Rattle.gr_values.specs.Fits.{IsIn, IsListOf, IsTextOf, IsTextWithin, IsWhole}
use Rattle.gr_values.specs.Types.{range_of, text_limit}
use Rattle.gr_values.specs.Values.{elements_of, list_of}

-- numbers of the type's range
pub IsListOf-whole : (of : DataType) (range : Range) (zs : List ℤ) → Some range ≡ range_of of → IsListOf (IsIn range) zs → IsListOf (IsWhole of) zs
IsListOf-whole of range zs e h = subst (λ o. IsListOf (λ z. MatchOption o ⊥ (λ range. IsIn range z)) zs) e h

-- texts of the type's limit
pub IsListOf-text : (of : DataType) (limit : ℕ) (texts : List (List ℕ)) → Some limit ≡ text_limit of → IsListOf (IsTextWithin limit) texts → IsListOf (IsTextOf of) texts
IsListOf-text of limit texts e h = subst (λ o. IsListOf (λ s. MatchOption o ⊥ (λ limit. IsTextWithin limit s)) texts) e h

by_length : (shape : Shape) (values : List Value) → list_of shape (array (items_view values)) ≡ cond (ltb LONGEST_VECTOR (length values)) (Err TooLong) (elements_of shape (items_view values))
by_length shape values = ap (λ n. cond (ltb LONGEST_VECTOR n) (Err TooLong) (elements_of shape (items_view values))) (items_len-items_view values)

-- an array that is too long is refused
pub Answers-too_long : (shape : Shape) (values : List Value) → LONGEST_VECTOR < length values → Answers (Err (Refused TooLong)) (list_of shape (array (items_view values)))
Answers-too_long shape values long =
    let meant : list_of shape (array (items_view values)) ≡ Err TooLong =
    by_length shape values ∙ ap (λ b. cond b (Err TooLong) (elements_of shape (items_view values))) (lt-ltb LONGEST_VECTOR (length values) long) in
    record { found = λ value e. absurd (cc); refused = λ kind e. cc }

-- the elements decide where an array is not too long
pub Answers-elements : (shape : Shape) (values : List Value) (result : Result Given (Failure FaultKind)) → length values ≤ LONGEST_VECTOR
    → Answers result (elements_of shape (items_view values)) → Answers result (list_of shape (array (items_view values)))
Answers-elements shape values result short h =
    let meant : list_of shape (array (items_view values)) ≡ elements_of shape (items_view values) =
    by_length shape values ∙ ap (λ b. cond b (Err TooLong) (elements_of shape (items_view values))) (le-ltb LONGEST_VECTOR (length values) short) in
    subst (λ m. Answers result m) (sym meant) h

-- what is there, is some
pub is_some-of : {X : Type 0} (x : X) (o : Option X) → Some x ≡ o → is_some o ≡ true
is_some-of x o e = subst (λ found. is_some found ≡ true) e refl
