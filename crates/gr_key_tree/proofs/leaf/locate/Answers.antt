use Rattle.std.proofs.Common.{ℕ, List, arith, sym, ap, ◌∙◌}
use Rattle.std.specs.Ordering.{is_eq}
use Rattle.gr_key_tree.specs.Order.{key_cmp}
use Rattle.gr_key_tree.proofs.Places.{located_start, located_there, located_gap}
use Rattle.gr_key_tree.proofs.leaf.locate.Goals as goal

pub returns-then-count-eq0 : goal.returns-then-count-eq0
returns-then-count-eq0 g c = located_start g.K.KeyOrder.state_of c.args.key.now c.args.items.now c.reached-count.result c.reached-count.ensures c.if-count-eq0.true

pub returns-then-is : goal.returns-then-is
returns-then-is g c =
    let some = c.if-count-eq0.false in
    let within = c.reached-count.ensures.within in
    located_there g.K.KeyOrder.state_of c.args.key.now c.args.items.now c.reached-count.result _ c.index-items-count.result c.requires c.reached-count.ensures (omega arith) (omega arith) c.index-items-count.is
    (ap (λ (k : List ℕ). is_eq (key_cmp g.K.KeyOrder.state_of k c.args.key.now)) (sym c.key.ensures) ∙ sym c.is.ensures ∙ c.if-is.true)

pub returns-else-is : goal.returns-else-is
returns-else-is g c =
    let some = c.if-count-eq0.false in
    let within = c.reached-count.ensures.within in
    located_gap g.K.KeyOrder.state_of c.args.key.now c.args.items.now c.reached-count.result _ c.index-items-count.result c.requires c.reached-count.ensures (omega arith) (omega arith) c.index-items-count.is
    (ap (λ (k : List ℕ). is_eq (key_cmp g.K.KeyOrder.state_of k c.args.key.now)) (sym c.key.ensures) ∙ sym c.is.ensures ∙ c.if-is.false)
