-- Settings of which each sets another column.
use Rattle.std.proofs.Common.{◌≡◌, ℕ, ◌<◌, true≢false, false, List, length, get_or, map, nat_eq, Some, inl, inr, slice_get, sym, ap, ◌∙◌, eq-eqb}
use Rattle.std.specs.List.{IsDistinct}
use Rattle.std.proofs.lemmas.Bool.{cases_order}
use Rattle.std.proofs.lemmas.List.{get_or-map, length-map}
use Rattle.std.proofs.lemmas.Map.Keys.{apart_from_distinct}
use Rattle.std.proofs.lemmas.Option.{get_or_from_slice_get, slice_get_within}
use Rattle.gr_db.specs.Entry.{AreDistinct}
use Rattle.gr_db.specs.Wants.{Setting}

abbrev numbers : List Setting → List ℕ
numbers settings = map (λ setting. setting.0.0) settings

number_at : (settings : List Setting) (i : ℕ) (one : Setting) → slice_get settings i ≡ Some one → get_or (numbers settings) i 0 ≡ one.0.0
number_at settings i one e =
    get_or-map (λ (setting : Setting). setting.0.0) settings i one 0 (slice_get_within settings i one e)
    ∙ ap (λ (setting : Setting). setting.0.0) (get_or_from_slice_get settings i one one e)

below : (settings : List Setting) (i j : ℕ) (one other : Setting) → IsDistinct nat_eq (numbers settings) → i < j
    → slice_get settings i ≡ Some one → slice_get settings j ≡ Some other → one.0.0 ≡ other.0.0 → ⊥
below settings i j one other apart less e f same =
    let within : j < length (numbers settings) = rw (length-map settings (λ (setting : Setting). setting.0.0)) (slice_get_within settings j other f) in
    let differ : nat_eq (get_or (numbers settings) i 0) (get_or (numbers settings) j 0) ≡ false = apart_from_distinct nat_eq (numbers settings) i j 0 apart less within in
    let equal : get_or (numbers settings) i 0 ≡ get_or (numbers settings) j 0 = number_at settings i one e ∙ same ∙ sym (number_at settings j other f) in
    true≢false (sym (eq-eqb _ _ equal) ∙ differ)

-- no column is set twice where the numbers of the columns differ
pub AreDistinct-from_numbers : (settings : List Setting) → IsDistinct nat_eq (numbers settings) → AreDistinct settings
AreDistinct-from_numbers settings apart = λ i j one other e f same.
    elim (cases_order i j) [
      | inl equal ↦ equal
      | inr (inl less) ↦ absurd (below settings i j one other apart less e f same)
      | inr (inr more) ↦ absurd (below settings j i other one apart more f e (sym same))
    ]
