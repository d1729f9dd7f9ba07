-- The changes that a command still holds, as it asks for them one by one.
use Rattle.std.proofs.Common.{◌≡◌, ℕ, ◌+◌, ◌<◌, ◌^◌, Some, List, [], ◌∷◌, ◌++◌, length, reverse, refl, sym, ap, ◌∙◌, arith, append_assoc, append-nil, length-append}
use Rattle.std.proofs.lemmas.List.{length-reverse, reverse-append}
use Rattle.std.specs.List.{AllByRecursion, slice_get}
use Rattle.gr_db.specs.declared.entry.Change.{Change}
use Rattle.gr_session.specs.Inside.Kept.{Holds}

-- at first all are held
pub Holds-all : (all held : List Change) → reverse held ≡ all → length held < 2 ^ 64 → Holds all held 0
Holds-all all held same few = record {
  before = [];
  whole = sym same;
  counted = refl;
  few = let count : length all ≡ length held = ap length (sym same) ∙ length-reverse held in omega arith;
}

reverse-push : (left : List Change) (change : Change) → reverse (left ++ change ∷ []) ≡ change ∷ reverse left
reverse-push left change = reverse-append left (change ∷ [])

-- the next one is where the count says
slice_get-seam : (before more : List Change) (change : Change) → slice_get (before ++ change ∷ more) (length before) ≡ Some change
slice_get-seam [] more change = refl
slice_get-seam (first ∷ before) more change = slice_get-seam before more change

all-seam : (P : Change → Type 0) (before more : List Change) (change : Change) → AllByRecursion P (before ++ change ∷ more) → P change
all-seam P [] more change all = all.0
all-seam P (first ∷ before) more change all = all-seam P before more change all.1

-- the next one and those behind it
split : (all held left : List Change) (change : Change) (count : ℕ) (holds : Holds all held count) → held ≡ left ++ change ∷ [] → all ≡ holds.before ++ change ∷ reverse left
split all held left change count holds taken =
    holds.whole ∙ ap (λ rest. holds.before ++ rest) (ap reverse taken ∙ reverse-push left change)

pub Holds-next : (all held left : List Change) (change : Change) (count : ℕ) → Holds all held count → held ≡ left ++ change ∷ [] → slice_get all count ≡ Some change
Holds-next all held left change count holds taken =
    rw (split all held left change count holds taken, ← holds.counted) (slice_get-seam holds.before (reverse left) change)

pub Holds-fit : (P : Change → Type 0) (all held left : List Change) (change : Change) (count : ℕ) → Holds all held count → held ≡ left ++ change ∷ [] → AllByRecursion P all → P change
Holds-fit P all held left change count holds taken fit =
    all-seam P holds.before (reverse left) change (rw (split all held left change count holds taken) at fit)

pub Holds-pop : (all held left : List Change) (change : Change) (count : ℕ) → Holds all held count → held ≡ left ++ change ∷ [] → Holds all left (count + 1)
Holds-pop all held left change count holds taken = record {
  before = holds.before ++ change ∷ [];
  whole = split all held left change count holds taken ∙ sym (append_assoc holds.before (change ∷ []) (reverse left));
  counted = length-append holds.before (change ∷ []) ∙ ap (λ n. n + 1) holds.counted;
  few = holds.few;
}

-- one that is held no more was counted among all
pub Holds-below : (all held : List Change) (count : ℕ) → Holds all held count → count < 2 ^ 64
Holds-below all held count holds = omega (arith, holds.counted, holds.few, ap length holds.whole, length-append holds.before (reverse held))

-- where none is held all were asked for
pub Holds-none : (all held : List Change) (count : ℕ) → Holds all held count → held ≡ [] → count ≡ length all
Holds-none all held count holds none =
    sym holds.counted ∙ sym (ap length (holds.whole ∙ ap (λ rest. holds.before ++ rest) (ap reverse none) ∙ append-nil holds.before))
