use Rattle.std.proofs.Common.{◌∙◌}
use Rattle.std.specs.Arc.{arc_value}
use Rattle.gr_pvec.proofs.Arcs.{on_ok, on_err, seen_at, seen_set, leaf_changed}
use Rattle.gr_pvec.proofs.Packed.{set_back}
use Rattle.gr_pvec.proofs.node.Node.put_leaf.Goals as goal

pub returns-clause-ok : goal.returns-clause-ok
returns-clause-ok g c =
    let items = c.args.leaves.now.items in
    let at = seen_at arc_value items c.args.k c.index_mut-leaf.result.now c.requires.place c.index_mut-leaf.ensures.value in
    on_ok c.put.result (λ e. seen_set arc_value items c.args.k c.put.new.leaf ∙ leaf_changed _ c.args.k c.args.j _ _ _ at e) c.put.ensures.ok

pub returns-clause-err : goal.returns-clause-err
returns-clause-err g c =
    let items = c.args.leaves.now.items in
    let at = seen_at arc_value items c.args.k c.index_mut-leaf.result.now c.requires.place c.index_mut-leaf.ensures.value in
    on_err c.put.result (λ e. seen_set arc_value items c.args.k c.put.new.leaf ∙ set_back _ c.args.k _ _ at e) c.put.ensures.err
