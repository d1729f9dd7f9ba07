-- What the next position that stands in bytes leaves.
use Rattle.std.specs.Prelude.{◌≡◌, ℕ, Option, None, Some, [], ◌∷◌}
use Rattle.gr_postings.specs.Inside.Kept.{positions_coded}
use Rattle.gr_postings.specs.declared.view.Coded.{Coded}

-- the first position was given, or none was left
abbrev pub NextCoded : Coded → Option ℕ → Coded → Type 0
NextCoded old None new = (positions_coded old ≡ []) × (positions_coded new ≡ [])
NextCoded old (Some p) new = positions_coded old ≡ p ∷ positions_coded new
