use Rattle.std.proofs.Common.{◌≡◌, ◌+◌, ◌∙◌, ap, sym, arith}
use Rattle.std.specs.Prelude.{is_some}
use Rattle.gr_key_tree.specs.Order.{key_cmp}
use Rattle.gr_key_tree.specs.Pairs.{lookup}
use Rattle.gr_key_tree.specs.Inside.Less.{IsLess}
use Rattle.gr_key_tree.specs.Inside.Parts.{IsLeaf, IsInner, inner_of}
use Rattle.gr_key_tree.specs.Inside.Seen.{Seen}
use Rattle.gr_key_tree.proofs.Rising.{key_total}
use Rattle.gr_key_tree.proofs.Children.{child_at, lookup_at}
use Rattle.gr_key_tree.proofs.Removing.{leaf_less, less_set, removes_set, less_gone, removes_gone, removes_last, some_items}
use Rattle.gr_key_tree.proofs.Skipping.{tail_is}
use Rattle.gr_key_tree.proofs.+remove.Goals as goal

pub inner::removed-removed-requires : goal.inner::removed-removed-requires
inner::removed-removed-requires g t c κs within =
    let cmp = key_cmp g.K.KeyOrder.state_of in
    let o = key_total g.K.KeyOrder.state_of in
    let xs = c.args.children.now in
    let x = c.index-children-at.result in
    let place = c.place-at.ensures in
    let child = child_at cmp o xs c.place-at.result x place.within c.index-children-at.is c.args.height c.requires.inner.each in
    let level : c.args.height ≡ c.node.result.now.height + 1 = rw c.node.ensures child.level in
    let found = lookup_at cmp o xs c.place-at.result x place.within c.index-children-at.is c.args.key.now place in
    let d = c.decreases in
    (omega arith, (within, ap (λ (n : Seen). is_some (lookup n.pairs c.args.key.now)) c.node.ensures ∙ ap is_some found ∙ c.requires.there))

pub inner::removed-inner-requires : goal.inner::removed-inner-requires
inner::removed-inner-requires g t c =
    let cmp = key_cmp g.K.KeyOrder.state_of in
    let o = key_total g.K.KeyOrder.state_of in
    let less : IsLess (key_cmp g.K.KeyOrder.state_of) c.node.result.now c.args.key.now c.in_ok-less.field-0 = c.in_ok-less.ensures in
    rw c.in_ok-kept-in-Some.ensures
    (less_set cmp o c.args.height c.args.children.now c.place-at.result c.index-children-at.result c.args.key.now c.requires.inner c.place-at.ensures c.index-children-at.is c.in-Some.less c.in_ok-part-in-Some.part (rw (c.in-Some.is, c.node.ensures) at less) c.in_ok-part-in-Some.ensures)

pub inner::removed-returns-in_ok-kept-in-Some : goal.inner::removed-returns-in_ok-kept-in-Some
inner::removed-returns-in_ok-kept-in-Some g t c =
    let cmp = key_cmp g.K.KeyOrder.state_of in
    let o = key_total g.K.KeyOrder.state_of in
    let less : IsLess (key_cmp g.K.KeyOrder.state_of) c.node.result.now c.args.key.now c.in_ok-less.field-0 = c.in_ok-less.ensures in
    rw (c.inner.ensures, c.in_ok-kept-in-Some.ensures)
    (removes_set cmp o c.args.height c.args.children.now c.place-at.result c.index-children-at.result c.args.key.now c.requires.inner c.place-at.ensures c.index-children-at.is c.in-Some.less c.in_ok-part-in-Some.part (rw (c.in-Some.is, c.node.ensures) at less) c.in_ok-part-in-Some.ensures)

pub inner::removed-inner-requires-in-None : goal.inner::removed-inner-requires-in-None
inner::removed-inner-requires-in-None g t c =
    let cmp = key_cmp g.K.KeyOrder.state_of in
    let o = key_total g.K.KeyOrder.state_of in
    let less : IsLess (key_cmp g.K.KeyOrder.state_of) c.node.result.now c.args.key.now c.in_ok-less.field-0 = c.in_ok-less.ensures in
    let some = c.requires.inner.some in
    let more = c.if-children-eq1.false in
    rw (c.in_ok-kept-in-None.ensures, tail_is c.args.children.now (c.place-at.result + 1))
    (less_gone cmp o c.args.height c.args.children.now c.place-at.result c.index-children-at.result c.args.key.now c.requires.inner c.place-at.ensures c.index-children-at.is (rw (c.in-None.is, c.node.ensures) at less) (omega arith))

pub inner::removed-returns-in_ok-kept-in-None : goal.inner::removed-returns-in_ok-kept-in-None
inner::removed-returns-in_ok-kept-in-None g t c =
    let cmp = key_cmp g.K.KeyOrder.state_of in
    let o = key_total g.K.KeyOrder.state_of in
    let less : IsLess (key_cmp g.K.KeyOrder.state_of) c.node.result.now c.args.key.now c.in_ok-less.field-0 = c.in_ok-less.ensures in
    rw (c.inner-in-None.ensures, c.in_ok-kept-in-None.ensures, tail_is c.args.children.now (c.place-at.result + 1))
    (removes_gone cmp o c.args.height c.args.children.now c.place-at.result c.index-children-at.result c.args.key.now c.requires.inner c.place-at.ensures c.index-children-at.is (rw (c.in-None.is, c.node.ensures) at less))

pub inner::removed-returns-then-children-eq1 : goal.inner::removed-returns-then-children-eq1
inner::removed-returns-then-children-eq1 g t c =
    let cmp = key_cmp g.K.KeyOrder.state_of in
    let o = key_total g.K.KeyOrder.state_of in
    let less : IsLess (key_cmp g.K.KeyOrder.state_of) c.node.result.now c.args.key.now c.in_ok-less.field-0 = c.in_ok-less.ensures in
    removes_last cmp o c.args.height c.args.children.now c.place-at.result c.index-children-at.result c.args.key.now c.requires.inner c.place-at.ensures c.index-children-at.is (rw (c.in-None.is, c.node.ensures) at less) c.if-children-eq1.true

pub node::Node::removed-leaf-requires : goal.node::Node::removed-leaf-requires
node::Node::removed-leaf-requires g t c =
    let leaf : IsLeaf (key_cmp g.K.KeyOrder.state_of) c.in-Leaf.items.items = rw c.in-Leaf.is at c.self.invariant in
    leaf_less (key_cmp g.K.KeyOrder.state_of) (key_total g.K.KeyOrder.state_of) c.in-Leaf.items.items c.args.key.now c.in_ok-less-in-Leaf.less.items leaf (rw c.as_slice.ensures.value at c.in_ok-less-in-Leaf.ensures)
    (some_items c.in_ok-less-in-Leaf.less.items c.in_ok-less-in-Leaf.less.len c.in_ok-less-in-Leaf.less.ok.0 (sym c.is_empty.ensures ∙ c.if-is_empty.false))

pub node::Node::removed-removed-requires-in-Inner : goal.node::Node::removed-removed-requires-in-Inner
node::Node::removed-removed-requires-in-Inner g t c κs within =
    let inner : IsInner (key_cmp g.K.KeyOrder.state_of) c.in-Inner.height c.in-Inner.children.items = rw c.in-Inner.is at c.self.invariant in
    let is : inner_of c.in-Inner.height c.in-Inner.children.items ≡ c.args.self.now = rw c.in-Inner.is at c.self.view_is in
    let height : c.in-Inner.height ≡ c.args.self.now.height = ap (λ (n : Seen). n.height) is in
    let d = c.decreases in
    (omega arith, (within, (rw c.as_slice-in-Inner.ensures.value inner, rw (c.as_slice-in-Inner.ensures.value) (ap (λ (n : Seen). is_some (lookup n.pairs c.args.key.now)) is ∙ c.requires))))
