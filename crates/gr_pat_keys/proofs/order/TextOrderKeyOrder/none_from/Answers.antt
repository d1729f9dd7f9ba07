use Rattle.std.proofs.Common.{◌∙◌, sym}
use Rattle.gr_pat_keys.proofs.Prefixes.{none_from_cut, not_is}
use Rattle.gr_pat_keys.proofs.order.TextOrderKeyOrder.none_from.Goals as goal

pub returns-then-is_after : goal.returns-then-is_after
returns-then-is_after c sure = none_from_cut c.args.prefix.now c.args.cut.now (sym c.is_after.ensures ∙ c.if-is_after.true) (sym c.starts_with.ensures.value ∙ not_is c.starts_with.result sure)
