use Rattle.std.proofs.Common.{refl, ◌∙◌}
use Rattle.gr_plan.proofs.FitsLemmas.{Fits-compare}
use Rattle.gr_plan.proofs.tests.after_the_first.Goals as goal

pub returns : goal.returns
returns c = λ tables. Fits-compare tables _ _ _ (c.from_vec.ensures ∙ c.new.ensures.items) refl refl refl
