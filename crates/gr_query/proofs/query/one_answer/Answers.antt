use Rattle.gr_query.proofs.Fitting.{fits}
use Rattle.gr_text.proofs.Grammar.{tree_is, fault_is, not_both}
use Rattle.gr_query.proofs.query.one_answer.Goals as goal

pub returns : goal.returns
returns c = record {
  tree = λ bytes x y. tree_is fits;
  fault = λ bytes kind other at place. fault_is fits;
  either = λ bytes x kind at. not_both fits;
}
