-- Look-ups and changes in leaves that are all full.
use Rattle.std.proofs.Common.{◌≡◌, ◌<◌, ◌+◌, ◌*◌, ◌/◌, ◌%◌, ℕ, List, [], ◌++◌, length, slice_get, slice_set, Some, None, refl, sym, ap, ◌∙◌, arith, subst}
use Rattle.std.specs.Prelude.{unwrap_or}
use Rattle.std.specs.List.{flat_map}
use Rattle.std.specs.declared.sync.Arc.{Arc}
use Rattle.std.proofs.lemmas.List.{length-set}
use Rattle.std.proofs.lemmas.Option.{slice_get-get_or}
use Rattle.gr_pvec.specs.Inside.Packed.{leaf_at, changed_at, AreFull}
use Rattle.gr_pvec.specs.Run.{IsRun}
use Rattle.gr_pvec.proofs.Packed.{get_packed, past_packed, within_packed, set_packed, stands_packed, AreFull-packed, AreFull-get, AreFull-set, length_full}
use Rattle.gr_pvec.proofs.Runs.{run_left, run_right}

at_leaf : (i : ℕ) → i ≡ i / 32 * 32 + i % 32
at_leaf i = omega arith

in_leaf : (i : ℕ) → i % 32 < 32
in_leaf i = omega arith

module _ {X : Type 0} (leaves : List (List X)) (full : AreFull 32 leaves) where
  pub get_full : (i : ℕ) (leaf : List X) → slice_get leaves (i / 32) ≡ Some leaf → slice_get leaf (i % 32) ≡ slice_get (flat_map (λ (l : List X). l) leaves) i
  get_full i leaf at =
      sym (ap (slice_get (flat_map (λ (l : List X). l) leaves)) (at_leaf i) ∙ get_packed (λ (l : List X). l) 32 leaves (i / 32) (i % 32) leaf (AreFull-packed 32 leaves (omega arith) full) at (in_leaf i))

  pub past_full : (i : ℕ) → slice_get leaves (i / 32) ≡ None → slice_get (flat_map (λ (l : List X). l) leaves) i ≡ None
  past_full i none = ap (slice_get (flat_map (λ (l : List X). l) leaves)) (at_leaf i) ∙ past_packed (λ (l : List X). l) 32 leaves (i / 32) (i % 32) (AreFull-packed 32 leaves (omega arith) full) none

  pub leaf_there : (i : ℕ) → i < length (flat_map (λ (l : List X). l) leaves) → i / 32 < length leaves
  leaf_there i lt = within_packed (λ (l : List X). l) 32 leaves (i / 32) (i % 32) (AreFull-packed 32 leaves (omega arith) full) (let e = at_leaf i in omega (arith, e, lt))

  pub leaf_is_full : (i : ℕ) (leaf : List X) → slice_get leaves i ≡ Some leaf → length leaf ≡ 32
  leaf_is_full i leaf at = AreFull-get 32 leaves i leaf full at

  found : (i : ℕ) → i < length leaves → slice_get leaves i ≡ Some (leaf_at leaves i)
  found i lt = let at = slice_get-get_or leaves i [] lt in at ∙ ap Some (sym (ap (λ o. unwrap_or o []) at))

  pub leaf_holds : (i : ℕ) → i < length (flat_map (λ (l : List X). l) leaves) → i % 32 < length (leaf_at leaves (i / 32))
  leaf_holds i lt = let size = leaf_is_full (i / 32) (leaf_at leaves (i / 32)) (found (i / 32) (leaf_there i lt)) in omega (arith, size)

  pub set_full : (i : ℕ) (x : X) → i < length (flat_map (λ (l : List X). l) leaves) → flat_map (λ (l : List X). l) (changed_at leaves (i / 32) (i % 32) x) ≡ slice_set (flat_map (λ (l : List X). l) leaves) i x
  set_full i x lt =
      sym (
      ap (λ k. slice_set (flat_map (λ (l : List X). l) leaves) k x) (at_leaf i)
      ∙ set_packed (λ (l : List X). l) 32 leaves (i / 32) (i % 32) (leaf_at leaves (i / 32)) (slice_set (leaf_at leaves (i / 32)) (i % 32) x) x (AreFull-packed 32 leaves (omega arith) full) (found (i / 32) (leaf_there i lt)) (leaf_holds i lt) refl
      )

  pub changed_full : (i : ℕ) (x : X) → i < length (flat_map (λ (l : List X). l) leaves) → AreFull 32 (changed_at leaves (i / 32) (i % 32) x)
  changed_full i x lt =
      AreFull-set 32 leaves (i / 32) (slice_set (leaf_at leaves (i / 32)) (i % 32) x) full
      (length-set (leaf_at leaves (i / 32)) (i % 32) x ∙ leaf_is_full (i / 32) (leaf_at leaves (i / 32)) (found (i / 32) (leaf_there i lt)))

  pub run_full : {Y : Type 0} (run : List (Arc X Y)) (i : ℕ) (leaf : List X) → slice_get leaves (i / 32) ≡ Some leaf → IsRun run (i % 32) leaf → IsRun run i (flat_map (λ (l : List X). l) leaves)
  run_full run i leaf at r =
      let part = stands_packed (λ (l : List X). l) 32 leaves (i / 32) leaf (AreFull-packed 32 leaves (omega arith) full) at in
      let before = part.at in
      let e = at_leaf i in
      subst (IsRun run i) (sym part.split) (run_right part.before (leaf ++ part.behind) run i (i % 32) (omega (arith, before, e)) (run_left leaf part.behind run (i % 32) r))

  pub count_full : (n : ℕ) → n ≡ length (flat_map (λ (l : List X). l) leaves) → n / 32 ≡ length leaves
  count_full n counted = let size = length_full 32 leaves full in omega (arith, counted, size)
