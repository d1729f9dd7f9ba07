-- A table that is taken out to be changed, and calls that may find no memory.
use Rattle.std.proofs.Common.{◌≡◌, ℕ, ◌<◌, zero, suc, Option, Some, None, Result, Ok, Err, OnOk, List, [], ◌∷◌, length, slice_get, slice_set, refl, ap, sym, arith}
use Rattle.gr_root.specs.Inside.Working.{IsTaken, IsWithin, with_apart}
use Rattle.gr_root.specs.declared.working.Apart.{Apart}
use Rattle.gr_table.specs.Table.{TableOf}

-- what follows where the call succeeded
pub on_ok : {A E P Q : Type 0} → (r : Result A E) → (P → Q) → OnOk r P → OnOk r Q
on_ok (Ok x) f p = f p
on_ok (Err e) f p = p

get-set : (tables : List TableOf) (n : ℕ) (table : TableOf) → n < length tables → slice_get (slice_set tables n table) n ≡ Some table
get-set [] n table within = absurd (omega arith)
get-set (first ∷ tables) zero table within = refl
get-set (first ∷ tables) (suc n) table within = get-set tables n table (omega arith)

length-set : (tables : List TableOf) (n : ℕ) (table : TableOf) → length (slice_set tables n table) ≡ length tables
length-set [] n table = refl
length-set (first ∷ tables) zero table = refl
length-set (first ∷ tables) (suc n) table = ap suc (length-set tables n table)

set-set : (tables : List TableOf) (n : ℕ) (table other : TableOf) → slice_set (slice_set tables n table) n other ≡ slice_set tables n other
set-set [] n table other = refl
set-set (first ∷ tables) zero table other = refl
set-set (first ∷ tables) (suc n) table other = ap (λ ts. first ∷ ts) (set-set tables n table other)

apart-taken : (kept : List TableOf) (apart : Apart) → apart.at.0 < length kept → IsTaken (slice_set kept apart.at.0 apart.table) kept apart.at.0 apart.table
apart-taken kept apart within = record {
  was = get-set kept apart.at.0 apart.table within;
  long = sym (length-set kept apart.at.0 apart.table);
  others = λ other. sym (set-set kept apart.at.0 apart.table other);
}

-- the table that stood apart is taken, and none stands apart any more
pub taken-apart : (now kept : List TableOf) (before after : Option Apart) (apart : Apart) (n : ℕ) → now ≡ with_apart before kept → IsWithin before kept → before ≡ Some apart → after ≡ None
    → apart.at.0 ≡ n → IsTaken now (with_apart after kept) n apart.table
taken-apart now kept (Some found) None apart n view within is none at =
    let same : found ≡ apart = cc in
    rw (view, same, ← at) (apart-taken kept apart (rw same at within))
taken-apart now kept None after apart n view within is none at = absurd cc
taken-apart now kept (Some found) (Some other) apart n view within is none at = absurd cc
