use Rattle.gr_rows.proofs.CommaLemmas.{parts_at_comma}
use Rattle.gr_rows.proofs.comma.around_last_comma.Goals as goal

pub returns : goal.returns
returns c = parts_at_comma c.args.text.now c.rsplit_once.result c.rsplit_once.ensures.cases
