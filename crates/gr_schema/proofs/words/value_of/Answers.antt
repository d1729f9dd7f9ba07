use Rattle.std.proofs.Common.{◌∙◌}
use Rattle.gr_schema.proofs.WordsLemmas.{named_rows}
use Rattle.gr_schema.proofs.words.value_of.Goals as goal

pub returns : goal.returns
returns g c = c.value_found.ensures ∙ named_rows c.args.rows.now c.args.name.now
