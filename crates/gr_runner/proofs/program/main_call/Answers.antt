use Rattle.gr_runner.proofs.Completing.{complete_main}
use Rattle.gr_runner.proofs.program.main_call.Goals as goal

pub returns-clause-complete : goal.returns-clause-complete
returns-clause-complete g c = complete_main _ _ _ _ _ _ _ _ _ c.run_words.ensures.run
