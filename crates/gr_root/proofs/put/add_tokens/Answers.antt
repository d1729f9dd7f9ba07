use Rattle.std.proofs.Common.{◌≡◌, ◌∙◌}
use Rattle.gr_db.specs.Wants.{token_wants}
use Rattle.gr_root.proofs.TokenLemmas.{token-fits}
use Rattle.gr_root.proofs.put.add_tokens.Goals as goal

pub walk-requires-clause-fit : goal.walk-requires-clause-fit
walk-requires-clause-fit c =
    let same : c.as_slice.result.now ≡ token_wants c.args.schema.now c.args.table c.args.settings.now c.args.news.now = c.as_slice.ensures.value ∙ c.in_ok-wants.ensures in
    rw same (token-fits c.args.schema.now c.args.table c.args.settings.now c.args.news.now c.requires.base.sound c.requires.texts c.requires.keys)
