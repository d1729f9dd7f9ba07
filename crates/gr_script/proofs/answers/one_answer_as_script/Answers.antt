use Rattle.gr_text.proofs.Grammar.{tree_is, fault_is, not_both}
use Rattle.gr_script.proofs.Fitting.{script_fits}
use Rattle.gr_script.proofs.answers.one_answer_as_script.Goals as goal

pub returns : goal.returns
returns c = record {
  tree = λ bytes x y. tree_is script_fits;
  fault = λ bytes kind other at place. fault_is script_fits;
  either = λ bytes x kind at. not_both script_fits;
}
