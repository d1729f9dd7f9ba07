use Rattle.std.proofs.Common.{◌≡◌, ◌++◌, ◌∙◌, ap, option_map, sym}
use Rattle.std.proofs.lemmas.Result.{IfOk-weaker}
use Rattle.gr_cmdline.specs.Words.{in_quotes, rest_from, with_text}
use Rattle.gr_cmdline.proofs.Runs.{quotes-run}
use Rattle.gr_cmdline.proofs.cursor.Cursor.run_in_quotes.Goals as goal

pub returns-clause-text : goal.returns-clause-text
returns-clause-text c =
    let run = c.up_to-run in
    let place = in_quotes c.args.quote in
    IfOk-weaker c.with_run.result (λ text. text ≡ c.args.text ++ run.result.now)
    (λ text. option_map (with_text c.args.text) (rest_from place c.args.self.now) ≡ option_map (with_text text) (rest_from place run.new.self))
    (λ text is. quotes-run c.args.quote c.args.text run.result.now c.args.self.now run.new.self run.utf8 run.ensures.read run.ensures.run ∙ ap (λ text. option_map (with_text text) (rest_from place run.new.self)) (sym is))
    c.with_run.ensures
