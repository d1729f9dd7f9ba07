use Rattle.std.proofs.Common.{◌≡◌, ◌∙◌, ap, subst}
use Rattle.gr_key_tree.specs.Order.{key_cmp}
use Rattle.gr_key_tree.specs.Pairs.{Pair, lookup}
use Rattle.gr_key_tree.specs.Inside.Parts.{IsInner, IsLeaf, inner_of, leaf_of}
use Rattle.gr_key_tree.specs.Inside.Rising.{Rising}
use Rattle.gr_key_tree.specs.Inside.Seen.{Seen}
use Rattle.gr_key_tree.proofs.Rising.{key_total}
use Rattle.gr_key_tree.proofs.Children.{lookup_at}
use Rattle.gr_key_tree.proofs.node.Node.+find.Goals as goal

pub returns-in-Inner-clause-exact : goal.returns-in-Inner-clause-exact
returns-in-Inner-clause-exact g t c =
    let cmp = key_cmp g.K.KeyOrder.state_of in
    let xs = c.in-Inner.children.items in
    let is : inner_of c.in-Inner.height xs ≡ c.args.self.now = rw c.in-Inner.is at c.self.view_is in
    let place = rw c.as_slice-in-Inner.ensures.value at c.place-at.ensures in
    c.find-in-Inner.ensures.exact ∙ ap (λ (n : Seen). lookup n.pairs c.args.key.now) c.node.ensures
    ∙ lookup_at cmp (key_total g.K.KeyOrder.state_of) xs c.place-at.result c.index.result.now place.within c.index.ensures c.args.key.now place
    ∙ ap (λ (n : Seen). lookup n.pairs c.args.key.now) is

pub returns-in-Inner-clause-rising : goal.returns-in-Inner-clause-rising
returns-in-Inner-clause-rising g t c =
    let is : inner_of c.in-Inner.height c.in-Inner.children.items ≡ c.args.self.now = rw c.in-Inner.is at c.self.view_is in
    let inner : IsInner (key_cmp g.K.KeyOrder.state_of) c.in-Inner.height c.in-Inner.children.items = rw c.in-Inner.is at c.self.invariant in
    subst (λ (n : Seen). Rising (key_cmp g.K.KeyOrder.state_of) (λ (p : Pair). p.0) n.pairs) is inner.rising

pub returns-in-Leaf-clause-rising : goal.returns-in-Leaf-clause-rising
returns-in-Leaf-clause-rising g t c =
    let is : leaf_of c.in-Leaf.items.items ≡ c.args.self.now = rw c.in-Leaf.is at c.self.view_is in
    let leaf : IsLeaf (key_cmp g.K.KeyOrder.state_of) c.in-Leaf.items.items = rw c.in-Leaf.is at c.self.invariant in
    subst (λ (n : Seen). Rising (key_cmp g.K.KeyOrder.state_of) (λ (p : Pair). p.0) n.pairs) is leaf.rising
