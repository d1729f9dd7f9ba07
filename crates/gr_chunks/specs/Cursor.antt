-- What one step of a cursor gives, and what it counts.
use Rattle.std.specs.Prelude.{◌≡◌, ℕ, ◌+◌, ◌-◌, ◌^◌, min, Option, Some, None, List, [], ◌∷◌}
use Rattle.gr_postings.specs.Postings.{posting_of}
use Rattle.gr_postings.specs.declared.posting.Posting.{Posting}
use Rattle.gr_postings.specs.declared.view.PostingView.{PostingView}

-- the first posting that was left is given and is one step; at the end nothing is given and nothing is counted
abbrev pub TakesStep : List Posting → Option PostingView → List Posting → ℕ → ℕ → Type 0
TakesStep old None new before after = (old ≡ []) × (new ≡ []) × (after ≡ before)
TakesStep old (Some view) new before after = (old ≡ posting_of view ∷ new) × (after ≡ min (before + 1) (2 ^ 64 - 1))
