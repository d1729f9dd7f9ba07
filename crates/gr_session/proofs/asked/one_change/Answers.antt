use Rattle.std.proofs.Common.{[], ◌∷◌, ◌++◌, ◌∙◌, ap, reverse}
use Rattle.gr_session.proofs.asked.one_change.Goals as goal

pub returns : goal.returns
returns c = λ db form fits. record {
  changes = ap reverse (c.in_ok-push.ensures.items ∙ ap (λ held. held ++ c.args.change ∷ []) c.new-changes.ensures.items);
  answer = c.in_ok-answer.ensures;
  fit = (fits, tt);
}
