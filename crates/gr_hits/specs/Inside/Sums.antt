-- A list of hits that two lists make.
use Rattle.std.specs.Prelude.{ℕ, List}
use Rattle.gr_hits.specs.Hits.{Hit, AreHits, Scores}

-- hits whose scores are made of the scores in two lists
pub record AreSums (score : ℕ → ℕ → ℕ) (left right made : List Hit) : Type 0 where
  pub hits : AreHits made
  pub scores : Scores score left right made
