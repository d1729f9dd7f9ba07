-- What the two readers of texts tell of a text, by their grammars.
use Rattle.std.proofs.Common.{Result, Ok, Err, List}
use Rattle.std.specs.Prelude.{IfOk, IfErr}
use Rattle.gr_base.specs.declared.fault.FaultKind.TheVariants.{BadScript}
use Rattle.gr_ast.specs.declared.ast.Ast.{Ast}
use Rattle.gr_ast.specs.declared.columns.MatchColumn.{MatchColumn}
use Rattle.gr_script.specs.declared.token.Token.{Token}
use Rattle.gr_script.specs.Columns.{IsColumns, AreRefusal, is_no_weight}
use Rattle.gr_script.specs.Inside.ColumnSteps.{columns_step_of, columns_end_of, columns_begin}
use Rattle.gr_script.specs.Inside.Machine.{step_of, finished_of, begin}
use Rattle.gr_ast.specs.Columns.{AreMadeColumns}
use Rattle.gr_ast.specs.Made.{IsMade, IsOfScript}
use Rattle.gr_script.specs.Text.{IsScript, IsRefusal}
use Rattle.gr_script.specs.Token.{IsText}
use Rattle.gr_script.specs.Words.{is_large}
use Rattle.gr_script.proofs.ColumnsMade.{made_columns}
use Rattle.gr_script.proofs.Fitting.{script_fits, columns_fit}
use Rattle.gr_script.proofs.Making.{made_script, shaped_script}
use Rattle.gr_text.specs.Cut.{Cut}
use Rattle.gr_text.specs.Inside.Reading.{Tells, rules_by}
use Rattle.gr_base.specs.declared.limits.TheConstants.{MOST_LEVELS}
use Rattle.gr_text.specs.Fault.{TextFault}
use Rattle.gr_text.proofs.Grammar.{gives_read, tells_refusal}

module _ (cut : Cut Token) where
  abbrev TellsScript : Result Ast TextFault → Type 0
  TellsScript result = Tells (rules_by step_of finished_of is_large IsText BadScript (begin MOST_LEVELS)) cut result

  pub script_told : (result : Result Ast TextFault) → TellsScript result → IfOk result (IsScript cut)
  script_told (Ok tree) g = gives_read script_fits is_large IsText BadScript g
  script_told (Err fault) g = tt

  pub script_made : (result : Result Ast TextFault) → TellsScript result → IfOk result IsMade
  script_made (Ok tree) g = made_script (gives_read script_fits is_large IsText BadScript g).sentence g.texts
  script_made (Err fault) g = tt

  pub script_shaped : (result : Result Ast TextFault) → TellsScript result → IfOk result IsOfScript
  script_shaped (Ok tree) g = shaped_script (gives_read script_fits is_large IsText BadScript g).sentence g.texts
  script_shaped (Err fault) g = tt

  pub script_refused : (result : Result Ast TextFault) → TellsScript result → IfErr result (IsRefusal cut)
  script_refused (Ok tree) g = tt
  script_refused (Err fault) g = tells_refusal script_fits is_large IsText BadScript cut fault g

  abbrev TellsColumns : Result (List MatchColumn) TextFault → Type 0
  TellsColumns result = Tells (rules_by columns_step_of columns_end_of is_no_weight IsText BadScript (columns_begin MOST_LEVELS)) cut result

  pub columns_told : (result : Result (List MatchColumn) TextFault) → TellsColumns result → IfOk result (IsColumns cut)
  columns_told (Ok columns) g = gives_read columns_fit is_no_weight IsText BadScript g
  columns_told (Err fault) g = tt

  pub columns_made : (result : Result (List MatchColumn) TextFault) → TellsColumns result → IfOk result AreMadeColumns
  columns_made (Ok columns) g = made_columns (gives_read columns_fit is_no_weight IsText BadScript g).sentence g.texts g.fits
  columns_made (Err fault) g = tt

  pub columns_refused : (result : Result (List MatchColumn) TextFault) → TellsColumns result → IfErr result (AreRefusal cut)
  columns_refused (Ok columns) g = tt
  columns_refused (Err fault) g = tells_refusal columns_fit is_no_weight IsText BadScript cut fault g
