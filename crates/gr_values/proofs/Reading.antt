-- The elements of an array that have been read, and those that are still to come.
use Rattle.std.proofs.Common.{◌≡◌, List, [], ◌∷◌, ◌++◌, Result, Ok, Err, refl, ap, sym, ◌∙◌}
use Rattle.std.proofs.Common.{append_assoc}
use Rattle.serde_json.specs.Data.{Data, Items}
use Rattle.serde_json.specs.View.{items_view, view}
use Rattle.serde_json.specs.declared.value.Value.{Value}
use Rattle.gr_base.specs.Failure.{result_map, result_then}
use Rattle.gr_base.specs.declared.fault.FaultKind.{FaultKind}
use Rattle.gr_values.specs.Values.{items_of}

-- these elements were read, and all that is to be read is they and those of the values that are left
pub record AreRead {T : Type 0} (read : Data → Result T FaultKind) (all : Items) (taken : List T) (left : List Value) : Type 0 where
  pub ask : items_of read all ≡ result_map (λ more. taken ++ more) (items_of read (items_view left))

same_result : {T : Type 0} (r : Result (List T) FaultKind) → r ≡ result_map (λ more. [] ++ more) r
same_result (Ok xs) = refl
same_result (Err kind) = refl

-- before the first element
pub AreRead-none : {T : Type 0} (read : Data → Result T FaultKind) (values : List Value) → AreRead read (items_view values) [] values
AreRead-none read values = record { ask = same_result (items_of read (items_view values)) }

one_more : {T : Type 0} (taken : List T) (x : T) (r : Result (List T) FaultKind)
    → result_map (λ more. taken ++ more) (result_map (λ more. x ∷ more) r) ≡ result_map (λ more. (taken ++ x ∷ []) ++ more) r
one_more taken x (Ok xs) = ap Ok (sym (append_assoc taken (x ∷ []) xs))
one_more taken x (Err kind) = refl

-- one more element was read
pub AreRead-more : {T : Type 0} {read : Data → Result T FaultKind} {all : Items} {taken : List T} {value : Value} {left : List Value}
    (x : T) → read (view value) ≡ Ok x → AreRead read all taken (value ∷ left) → AreRead read all (taken ++ x ∷ []) left
AreRead-more {read = read} {taken = taken} {left = left} x found before = record {
  ask = before.ask
      ∙ ap (λ r. result_map (λ more. taken ++ more) (result_then (λ x. result_map (λ xs. x ∷ xs) (items_of read (items_view left))) r)) found
      ∙ one_more taken x (items_of read (items_view left));
}

-- the next element is refused
pub AreRead-refused : {T : Type 0} {read : Data → Result T FaultKind} {all : Items} {taken : List T} {value : Value} {left : List Value}
    (kind : FaultKind) → read (view value) ≡ Err kind → AreRead read all taken (value ∷ left) → items_of read all ≡ Err kind
AreRead-refused {read = read} {taken = taken} {left = left} kind found before =
    before.ask ∙ ap (λ r. result_map (λ more. taken ++ more) (result_then (λ x. result_map (λ xs. x ∷ xs) (items_of read (items_view left))) r)) found
