use Rattle.std.proofs.Common.{sym, ap, ◌∙◌}
use Rattle.std.specs.Prelude.{Some}
use Rattle.gr_key_tree.specs.Order.{key_cmp}
use Rattle.gr_key_tree.proofs.Rising.{key_total}
use Rattle.gr_key_tree.proofs.Places.{there_stands, gap_none}
use Rattle.gr_key_tree.proofs.Changes.{lookup_stands}
use Rattle.gr_key_tree.proofs.leaf.find.Goals as goal

pub returns-in-Ok : goal.returns-in-Ok
returns-in-Ok g c =
    let state_of = g.K.KeyOrder.state_of in
    ap Some c.id.ensures ∙ sym (lookup_stands (key_cmp state_of) (key_total state_of) c.args.items.now c.args.key.now c.index-items-at.result.1
    (there_stands state_of c.args.key.now c.args.items.now c.in-Ok.at c.in-Ok.ensures c.index-items-at.result c.index-items-at.is))

pub returns-in-Err : goal.returns-in-Err
returns-in-Err g c = sym (gap_none g.K.KeyOrder.state_of c.args.key.now c.args.items.now c.in-Err.field-0 c.in-Err.ensures)
