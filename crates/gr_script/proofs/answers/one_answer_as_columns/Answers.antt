use Rattle.gr_text.proofs.Grammar.{tree_is, fault_is, not_both}
use Rattle.gr_script.proofs.Fitting.{columns_fit}
use Rattle.gr_script.proofs.answers.one_answer_as_columns.Goals as goal

pub returns : goal.returns
returns c = record {
  columns = λ bytes xs ys. tree_is columns_fit;
  fault = λ bytes kind other at place. fault_is columns_fit;
  either = λ bytes xs kind at. not_both columns_fit;
}
