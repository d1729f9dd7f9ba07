use Rattle.std.proofs.Common.{◌∙◌, sym}
use Rattle.gr_pat_keys.proofs.Prefixes.{none_before_cut, not_is}
use Rattle.gr_pat_keys.proofs.order.TextOrderKeyOrder.none_before.Goals as goal

pub returns : goal.returns
returns c sure = none_before_cut c.args.prefix.now c.args.cut.now (sym c.is_after.ensures ∙ not_is c.is_after.result sure)
