-- The readers of scripts and of match columns fit their grammars.
use Rattle.std.proofs.Common.{refl}
use Rattle.gr_script.specs.Columns.{AreColumns}
use Rattle.gr_script.specs.Inside.ColumnSteps.{columns_step_of, columns_end_of, columns_begin}
use Rattle.gr_script.specs.Grammar.{Sentence}
use Rattle.gr_script.specs.Inside.Machine.{step_of, finished_of, begin}
use Rattle.gr_script.proofs.Levels.{raised_state, state_raised}
use Rattle.gr_script.proofs.Listing.{begin_to, begin_from, columns_end_to, columns_end_from, state_raised as columns_raised}
use Rattle.gr_script.proofs.Scripts.{begins_to, begins_from, sentence_to, sentence_from}
use Rattle.gr_text.proofs.Grammar.{Fits}

pub script_fits : Fits step_of finished_of begin raised_state Sentence
script_fits = record {
  begins_to = begins_to;
  begins_from = begins_from;
  sentence_to = sentence_to;
  sentence_from = sentence_from;
  begin_raised = λ levels. refl;
  step_raised = state_raised;
}

pub columns_fit : Fits columns_step_of columns_end_of columns_begin (λ s. s) AreColumns
columns_fit = record {
  begins_to = begin_to;
  begins_from = begin_from;
  sentence_to = columns_end_to;
  sentence_from = columns_end_from;
  begin_raised = λ levels. refl;
  step_raised = columns_raised;
}
