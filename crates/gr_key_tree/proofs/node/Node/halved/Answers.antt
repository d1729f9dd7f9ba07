use Rattle.std.proofs.Common.{◌≡◌, ap, refl, List, arith, length}
use Rattle.gr_key_tree.specs.Order.{key_cmp}
use Rattle.gr_key_tree.specs.Inside.Parts.{IsInner, IsLeaf, inner_of, leaf_of}
use Rattle.gr_key_tree.specs.Inside.Seen.{Seen, Part}
use Rattle.gr_key_tree.specs.Pairs.{Pair}
use Rattle.gr_key_tree.proofs.Rising.{key_total}
use Rattle.gr_key_tree.proofs.Adding.{leaf_front, leaf_back, inner_front, inner_back, split_is}
use Rattle.gr_key_tree.proofs.node.Node.halved.Goals as goal

pub part-requires : goal.part-requires
part-requires g c =
    let leaf : IsLeaf (key_cmp g.K.KeyOrder.state_of) c.in-Leaf.items.items = rw c.in-Leaf.is at c.self.invariant in
    let split = split_is c.in-Leaf.items.items c.as_slice.result.now c.split_at.result.0.now c.split_at.result.1.now 16 c.as_slice.ensures.value c.split_at.ensures.front c.split_at.ensures.back in
    leaf_front (key_cmp g.K.KeyOrder.state_of) (key_total g.K.KeyOrder.state_of) c.in-Leaf.items.items c.split_at.result.0.now c.split_at.result.1.now split (let len = c.split_at.ensures.front_len in omega arith) leaf

pub part-requires-in-Leaf : goal.part-requires-in-Leaf
part-requires-in-Leaf g c =
    let leaf : IsLeaf (key_cmp g.K.KeyOrder.state_of) c.in-Leaf.items.items = rw c.in-Leaf.is at c.self.invariant in
    let split = split_is c.in-Leaf.items.items c.as_slice.result.now c.split_at.result.0.now c.split_at.result.1.now 16 c.as_slice.ensures.value c.split_at.ensures.front c.split_at.ensures.back in
    let is : leaf_of c.in-Leaf.items.items ≡ c.args.self.now = rw c.in-Leaf.is at c.self.view_is in
    let count : length c.in-Leaf.items.items ≡ c.args.self.now.count = ap (λ (n : Seen). n.count) is in
    let full = c.requires in
    let size : length c.as_slice.result.now ≡ length c.in-Leaf.items.items = ap (λ (l : List Pair). length l) c.as_slice.ensures.value in
    let len = c.split_at.ensures.back_len in
    leaf_back (key_cmp g.K.KeyOrder.state_of) (key_total g.K.KeyOrder.state_of) c.in-Leaf.items.items c.split_at.result.0.now c.split_at.result.1.now split (omega arith) leaf

pub same-lower : goal.same-lower
same-lower g c = refl

pub part-requires-in-Inner : goal.part-requires-in-Inner
part-requires-in-Inner g c =
    let xs = c.in-Inner.children.items in
    let inner : IsInner (key_cmp g.K.KeyOrder.state_of) c.in-Inner.height xs = rw c.in-Inner.is at c.self.invariant in
    let split = split_is xs c.as_slice-in-Inner.result.now c.split_at-in-Inner.result.0.now c.split_at-in-Inner.result.1.now 16 c.as_slice-in-Inner.ensures.value c.split_at-in-Inner.ensures.front c.split_at-in-Inner.ensures.back in
    let len = c.split_at-in-Inner.ensures.front_len in
    inner_front (key_cmp g.K.KeyOrder.state_of) (key_total g.K.KeyOrder.state_of) c.in-Inner.height xs c.split_at-in-Inner.result.0.now c.split_at-in-Inner.result.1.now split (omega arith) inner

pub part-requires-in-Inner-2 : goal.part-requires-in-Inner-2
part-requires-in-Inner-2 g c =
    let xs = c.in-Inner.children.items in
    let inner : IsInner (key_cmp g.K.KeyOrder.state_of) c.in-Inner.height xs = rw c.in-Inner.is at c.self.invariant in
    let is : inner_of c.in-Inner.height xs ≡ c.args.self.now = rw c.in-Inner.is at c.self.view_is in
    let count : length xs ≡ c.args.self.now.count = ap (λ (n : Seen). n.count) is in
    let full = c.requires in
    let whole = c.as_slice-in-Inner.ensures.value in
    let size : length c.as_slice-in-Inner.result.now ≡ length xs = ap (λ (l : List Part). length l) whole in
    let split = split_is xs c.as_slice-in-Inner.result.now c.split_at-in-Inner.result.0.now c.split_at-in-Inner.result.1.now 16 whole c.split_at-in-Inner.ensures.front c.split_at-in-Inner.ensures.back in
    let len = c.split_at-in-Inner.ensures.back_len in
    inner_back (key_cmp g.K.KeyOrder.state_of) (key_total g.K.KeyOrder.state_of) c.in-Inner.height xs c.split_at-in-Inner.result.0.now c.split_at-in-Inner.result.1.now split (omega arith) inner

pub same-lower-in-Inner : goal.same-lower-in-Inner
same-lower-in-Inner g c = refl
