-- Owners in a list, seen as what they own.
use Rattle.std.proofs.Common.{◌≡◌, ◌<◌, ℕ, List, [], ◌∷◌, ◌++◌, map, length, slice_get, slice_set, get_or, Some, refl, sym, ap, ◌∙◌, OnOk, OnErr, Result, Ok, Err}
use Rattle.std.specs.Prelude.{unwrap_or, option_map}
use Rattle.std.proofs.lemmas.List.{map-set, map-append}
use Rattle.std.proofs.lemmas.Option.{slice_get_read, slice_get-map}
use Rattle.gr_pvec.specs.Inside.Packed.{changed_at}

module _ {A E : Type 0} {P Q : Type 0} where
  pub on_ok : (r : Result A E) → (P → Q) → OnOk r P → OnOk r Q
  on_ok (Ok x) f p = f p
  on_ok (Err e) f p = p

  pub on_err : (r : Result A E) → (P → Q) → OnErr r P → OnErr r Q
  on_err (Ok x) f p = p
  on_err (Err e) f p = f p

module _ {V Y : Type 0} (seen : Y → V) where
  -- an element that was read by its place
  pub seen_at : (items : List Y) (i : ℕ) (y : Y) → i < length items → y ≡ get_or items i y → slice_get (map seen items) i ≡ Some (seen y)
  seen_at items i y lt is = slice_get-map seen items i ∙ ap (option_map seen) (slice_get_read items (length items) i y refl lt is)

  pub seen_set : (items : List Y) (i : ℕ) (y : Y) → map seen (slice_set items i y) ≡ slice_set (map seen items) i (seen y)
  seen_set items i y = map-set seen items i y

  pub seen_push : (items : List Y) (y : Y) → map seen (items ++ y ∷ []) ≡ map seen items ++ seen y ∷ []
  seen_push items y = map-append seen items (y ∷ [])

module _ {X : Type 0} where
  pub leaf_changed : (leaves : List (List X)) (k j : ℕ) (y z : List X) (x : X) → slice_get leaves k ≡ Some y → z ≡ slice_set y j x → slice_set leaves k z ≡ changed_at leaves k j x
  leaf_changed leaves k j y z x at is = ap (slice_set leaves k) (is ∙ ap (λ o. slice_set (unwrap_or o []) j x) (sym at))
