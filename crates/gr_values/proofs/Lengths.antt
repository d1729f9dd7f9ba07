-- How long lists are that were read.
use Rattle.std.proofs.Common.{◌≡◌, ℕ, suc, ◌+◌, ◌≤◌, Bool, true, false, not, cond, List, [], ◌∷◌, length, Result, Ok, Err, refl, ap, sym, subst, ◌∙◌, arith}
use Rattle.std.specs.List.{AllByRecursion}
use Rattle.serde_json.specs.Data.{Data, Items, no_items, item}
use Rattle.serde_json.specs.Events.{items_len}
use Rattle.serde_json.proofs.Views.{items_len-items_view}
use Rattle.serde_json.specs.View.{items_view}
use Rattle.serde_json.specs.declared.value.Value.{Value}
use Rattle.gr_base.specs.Failure.{result_map, result_then}
use Rattle.gr_base.specs.declared.fault.FaultKind.{FaultKind}
use Rattle.gr_base.specs.declared.limits.TheConstants.{LONGEST_VECTOR}
use Rattle.gr_values.specs.declared.value.Key.{Key}
use Rattle.gr_values.specs.Fits.{IsListOf}
use Rattle.gr_values.specs.Values.{is_empty_text, items_of, references}

length-joined : {T : Type 0} (x : T) (ds : Items) (r : Result (List T) FaultKind) → ((xs : List T) → r ≡ Ok xs → length xs ≡ items_len ds)
    → (ys : List T) → result_map (λ xs. x ∷ xs) r ≡ Ok ys → length ys ≡ suc (items_len ds)
length-joined x ds (Ok xs) same ys e = let l : x ∷ xs ≡ ys = cc in ap length (sym l) ∙ omega (arith, same xs refl)
length-joined x ds (Err kind) same ys e = absurd (cc)

length-then : {T : Type 0} (ds : Items) (found : Result T FaultKind) (r : Result (List T) FaultKind) → ((xs : List T) → r ≡ Ok xs → length xs ≡ items_len ds)
    → (ys : List T) → result_then (λ x. result_map (λ xs. x ∷ xs) r) found ≡ Ok ys → length ys ≡ suc (items_len ds)
length-then ds (Ok x) r same ys e = length-joined x ds r same ys e
length-then ds (Err kind) r same ys e = absurd (cc)

-- each element of an array gives one
pub length-items_of : {T : Type 0} (read : Data → Result T FaultKind) (ds : Items) (xs : List T) → items_of read ds ≡ Ok xs → length xs ≡ items_len ds
length-items_of read no_items xs e = let l : [] ≡ xs = cc in ap length (sym l)
length-items_of read (item d ds) xs e = length-then ds (read d) (items_of read ds) (length-items_of read ds) xs e

-- what was read of an array that is not too long
pub IsListOf-read : {T : Type 0} (P : T → Type 0) (read : Data → Result T FaultKind) (values : List Value) (xs : List T)
    → items_of read (items_view values) ≡ Ok xs → length values ≤ LONGEST_VECTOR → AllByRecursion P xs → IsListOf P xs
IsListOf-read P read values xs found short each = record {
  few = omega (arith, length-items_of read (items_view values) xs found, items_len-items_view values);
  each = each;
}

length-kept : (b : Bool) (key : Key) (kept : List Key) (n : ℕ) → length kept ≤ n → length (cond b (key ∷ kept) kept) ≤ n + 1
length-kept true key kept n few = omega arith
length-kept false key kept n few = omega arith

-- no reference is added
pub length-references : (keys : List Key) → length (references keys) ≤ length keys
length-references [] = omega arith
length-references (key ∷ keys) =
    let more = length-kept (not (is_empty_text key)) key (references keys) (length keys) (length-references keys) in omega arith

references_read : (P : Key → Type 0) (read : Data → Result Key FaultKind) (values : List Value) (kept : List Key) (r : Result (List Key) FaultKind)
    → items_of read (items_view values) ≡ r → result_map references r ≡ Ok kept → length values ≤ LONGEST_VECTOR → length kept ≤ LONGEST_VECTOR
references_read P read values kept (Ok keys) same found short =
    let few : length kept ≤ length keys = let l : references keys ≡ kept = cc in subst (λ ks. length ks ≤ length keys) l (length-references keys) in
    omega (arith, length-items_of read (items_view values) keys same, items_len-items_view values)
references_read P read values kept (Err kind) same found short = absurd (cc)

-- the references that were kept of an array that is not too long
pub IsListOf-references : (P : Key → Type 0) (read : Data → Result Key FaultKind) (values : List Value) (kept : List Key)
    → result_map references (items_of read (items_view values)) ≡ Ok kept → length values ≤ LONGEST_VECTOR → AllByRecursion P kept → IsListOf P kept
IsListOf-references P read values kept found short each = record {
  few = references_read P read values kept (items_of read (items_view values)) refl found short;
  each = each;
}
