use Rattle.std.proofs.Common.{◌∙◌, slice_get, sym, ap}
use Rattle.std.specs.Option.{option_copied}
use Rattle.gr_pvec.proofs.Filled.{get_full, past_full}
use Rattle.gr_pvec.proofs.node.Node.get.Goals as goal

pub returns-in_err-leaf : goal.returns-in_err-leaf
returns-in_err-leaf g c = ap option_copied c.from_residual.ensures ∙ sym (past_full c.args.self.now.0 c.requires c.args.i (sym c.in_err-leaf.ensures))

pub returns : goal.returns
returns g c = c.get.ensures ∙ ap (slice_get c.in_ok-leaf.leaf.now) c.low_bits.ensures ∙ get_full c.args.self.now.0 c.requires c.args.i c.in_ok-leaf.leaf.now (sym c.in_ok-leaf.ensures)
