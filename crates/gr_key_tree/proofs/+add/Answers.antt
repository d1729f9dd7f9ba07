use Rattle.std.proofs.Common.{◌≡◌, ◌+◌, ◌∙◌, ap, sym, refl, arith, length}
use Rattle.std.specs.Ordering.{is_gt}
use Rattle.gr_key_tree.specs.Order.{key_cmp}
use Rattle.std.specs.Arc.{arc_value}
use Rattle.gr_key_tree.specs.Inside.Parts.{IsLeaf, IsInner, leaf_of, inner_of}
use Rattle.gr_key_tree.specs.Inside.Seen.{Seen}
use Rattle.gr_key_tree.proofs.Rising.{key_total}
use Rattle.gr_key_tree.proofs.Changes.{found_stands}
use Rattle.gr_key_tree.proofs.Adding.{child_after, parted_lower, parted_upper, inner_set, answers_set, inner_two, adds_two, leaf_answers, same_at}
use Rattle.gr_key_tree.proofs.Children.{child_at}
use Rattle.gr_key_tree.proofs.+add.Goals as goal
use Rattle.gr_key_tree.proofs.+add.Goals.{inner::add_parted-then-is_after+in_ok-found, inner::add_parted-else-is_after+in_ok-found-2, node::Node::find_or_add-in-Leaf, node::Node::find_or_add-in-Inner}

pub inner::add_parted-returns : goal.inner::add_parted-returns
inner::add_parted-returns g t c =
    let cmp = key_cmp g.K.KeyOrder.state_of in
    let o = key_total g.K.KeyOrder.state_of in
    let test = (λ i. is_gt (cmp (sym c.key.ensures i) (sym c.lent.ensures i))) ∙ sym c.is_after.ensures in
    elim c.if-is_after.branch [
      | inner::add_parted-then-is_after+in_ok-found w ↦
          rw (w.halves-is, w.found-is) (parted_lower cmp o c.args.node.now c.in_ok-halves.halves c.args.key.now c.args.id c.in_ok-halves.ensures w.add_child.new.child w.in_ok-found.found (test ∙ w.if-is_after.true) w.add_child.ensures.child w.in_ok-found.ensures.answers)
      | inner::add_parted-else-is_after+in_ok-found-2 w ↦
          rw (w.halves-is, w.found-is) (parted_upper cmp o c.args.node.now c.in_ok-halves.halves c.args.key.now c.args.id c.in_ok-halves.ensures w.add_child-else-is_after.new.child w.in_ok-found-2.found (test ∙ w.if-is_after.false) w.add_child-else-is_after.ensures.child w.in_ok-found-2.ensures.answers)
    ]

pub inner::add_shared-returns-in-Some-find-clause-answers : goal.inner::add_shared-returns-in-Some-find-clause-answers
inner::add_shared-returns-in-Some-find-clause-answers g t c =
    let cmp = key_cmp g.K.KeyOrder.state_of in
    let o = key_total g.K.KeyOrder.state_of in
    let stands = found_stands cmp o c.deref.result.now.pairs c.lent.result c.in-Some-find.found c.find.ensures.rising (sym c.find.ensures.exact ∙ c.in-Some-find.is) in
    (rw (c.deref.ensures, c.lent.ensures) at stands, refl)

pub inner::find_or_add-returns-in_ok-replace-clause-inner : goal.inner::find_or_add-returns-in_ok-replace-clause-inner
inner::find_or_add-returns-in_ok-replace-clause-inner g t c =
    let cmp = key_cmp g.K.KeyOrder.state_of in
    let o = key_total g.K.KeyOrder.state_of in
    let place = rw (c.as_slice.ensures.value, c.lent.ensures) at c.place-at.ensures in
    rw c.in_ok-replace.ensures
    (inner_two cmp o c.args.height c.args.children.now.items c.place-at.result c.index-then-is_full.result.now c.args.key.now c.args.id c.requires.inner c.requires.room place c.index-then-is_full.ensures c.in_ok-parted.parted (rw c.node-then-is_full.ensures at c.in_ok-parted.ensures))

pub inner::find_or_add-returns-in_ok-replace-clause-answers : goal.inner::find_or_add-returns-in_ok-replace-clause-answers
inner::find_or_add-returns-in_ok-replace-clause-answers g t c =
    let cmp = key_cmp g.K.KeyOrder.state_of in
    let o = key_total g.K.KeyOrder.state_of in
    let place = rw (c.as_slice.ensures.value, c.lent.ensures) at c.place-at.ensures in
    rw c.in_ok-replace.ensures
    (adds_two cmp o c.args.height c.args.children.now.items c.place-at.result c.index-then-is_full.result.now c.args.key.now c.args.id c.requires.inner c.requires.room place c.index-then-is_full.ensures c.in_ok-parted.parted (rw c.node-then-is_full.ensures at c.in_ok-parted.ensures))

pub inner::find_or_add-returns-else-is_full-clause-inner : goal.inner::find_or_add-returns-else-is_full-clause-inner
inner::find_or_add-returns-else-is_full-clause-inner g t c =
    let cmp = key_cmp g.K.KeyOrder.state_of in
    let o = key_total g.K.KeyOrder.state_of in
    let place = rw (c.as_slice.ensures.value, c.lent.ensures) at c.place-at.ensures in
    inner_set cmp o c.args.height c.args.children.now.items c.place-at.result c.index_mut.result.now c.args.key.now c.args.id c.requires.inner c.requires.room place c.index_mut.ensures.value c.add_child.new.child c.add_child.result c.add_child.ensures.child c.add_child.ensures.answers

pub inner::find_or_add-returns-else-is_full-clause-answers : goal.inner::find_or_add-returns-else-is_full-clause-answers
inner::find_or_add-returns-else-is_full-clause-answers g t c =
    let cmp = key_cmp g.K.KeyOrder.state_of in
    let o = key_total g.K.KeyOrder.state_of in
    let place = rw (c.as_slice.ensures.value, c.lent.ensures) at c.place-at.ensures in
    answers_set cmp o c.args.height c.args.children.now.items c.place-at.result c.index_mut.result.now c.args.key.now c.args.id c.requires.inner c.requires.room place c.index_mut.ensures.value c.add_child.new.child c.add_child.result c.add_child.ensures.child c.add_child.ensures.answers

pub node::Node::find_or_add-invariant_of-self : goal.node::Node::find_or_add-invariant_of-self
node::Node::find_or_add-invariant_of-self g t c =
    let cmp = key_cmp g.K.KeyOrder.state_of in
    let o = key_total g.K.KeyOrder.state_of in
    elim c.match-self.branch [
      | node::Node::find_or_add-in-Leaf w ↦
          let leaf : IsLeaf (key_cmp g.K.KeyOrder.state_of) w.in-Leaf.items.items = rw w.in-Leaf.is at c.self.invariant in
          let is : leaf_of w.in-Leaf.items.items ≡ c.args.self.now = rw w.in-Leaf.is at c.self.view_is in
          let count : length w.in-Leaf.items.items ≡ c.args.self.now.count = ap (λ (n : Seen). n.count) is in
          let room = c.requires in
          rw w.self-inside-is (leaf_answers cmp o w.in-Leaf.items.items c.args.key.now c.args.id w.find_or_add.new.items.items w.find_or_add.result leaf (omega arith) w.find_or_add.ensures.answers w.find_or_add.ensures.grows w.find_or_add.ensures.by_one)
      | node::Node::find_or_add-in-Inner w ↦ rw w.self-inside-is w.find_or_add-in-Inner.ensures.inner
    ]

pub inner::add_child-returns-clause-child : goal.inner::add_child-returns-clause-child
inner::add_child-returns-clause-child g t c =
    let cmp = key_cmp g.K.KeyOrder.state_of in
    let o = key_total g.K.KeyOrder.state_of in
    rw (c.lower.ensures, ← c.child.view_is)
    (child_after cmp o c.child.inside.cut (arc_value c.child.inside.node) c.args.key.now c.args.id (arc_value c.add_shared.new.node) c.in_ok-found.found c.in_ok-cut.cut (rw (← c.child.view_is) at c.requires.child) c.in_ok-found.ensures.stays c.in_ok-found.ensures.answers c.in_ok-cut.ensures)

pub inner::find_or_add-add_child-requires : goal.inner::find_or_add-add_child-requires
inner::find_or_add-add_child-requires g t c κs within =
    let cmp = key_cmp g.K.KeyOrder.state_of in
    let o = key_total g.K.KeyOrder.state_of in
    let xs = c.args.children.now.items in
    let x = c.index_mut.result.now in
    let place = rw (c.as_slice.ensures.value, c.lent.ensures) at c.place-at.ensures in
    let child = child_at cmp o xs c.place-at.result x place.within c.index_mut.ensures.value c.args.height c.requires.inner.each in
    let same : c.index.result.now ≡ x = same_at xs c.place-at.result c.index.result.now x place.within c.index.ensures c.index_mut.ensures.value in
    let room = rw (c.node.ensures, same) at (c.is_full.ensures.room c.if-is_full.false) in
    let level = child.level in
    let d = c.decreases in
    (omega arith, (within, (rw level at child, room)))

pub inner::find_or_add-add_parted-requires : goal.inner::find_or_add-add_parted-requires
inner::find_or_add-add_parted-requires g t c κs within =
    let cmp = key_cmp g.K.KeyOrder.state_of in
    let o = key_total g.K.KeyOrder.state_of in
    let xs = c.args.children.now.items in
    let x = c.index-then-is_full.result.now in
    let place = rw (c.as_slice.ensures.value, c.lent.ensures) at c.place-at.ensures in
    let child = child_at cmp o xs c.place-at.result x place.within c.index-then-is_full.ensures c.args.height c.requires.inner.each in
    let same : c.index.result.now ≡ x = same_at xs c.place-at.result c.index.result.now x place.within c.index.ensures c.index-then-is_full.ensures in
    let full = rw (c.node.ensures, same, ← c.node-then-is_full.ensures) at (c.is_full.ensures.full c.if-is_full.true) in
    let level : c.args.height ≡ c.node-then-is_full.result.now.height + 1 = rw c.node-then-is_full.ensures child.level in
    let d = c.decreases in
    (omega arith, (within, full))

pub node::Node::find_or_add-find_or_add-requires-in-Inner : goal.node::Node::find_or_add-find_or_add-requires-in-Inner
node::Node::find_or_add-find_or_add-requires-in-Inner g t c κs within =
    let inner : IsInner (key_cmp g.K.KeyOrder.state_of) c.in-Inner.height c.in-Inner.children.items = rw c.in-Inner.is at c.self.invariant in
    let is : inner_of c.in-Inner.height c.in-Inner.children.items ≡ c.args.self.now = rw c.in-Inner.is at c.self.view_is in
    let count : length c.in-Inner.children.items ≡ c.args.self.now.count = ap (λ (n : Seen). n.count) is in
    let height : c.in-Inner.height ≡ c.args.self.now.height = ap (λ (n : Seen). n.height) is in
    let room = c.requires in
    let d = c.decreases in
    (omega arith, (within, (inner, omega arith)))

pub inner::add_parted-add_child-requires : goal.inner::add_parted-add_child-requires
inner::add_parted-add_child-requires g t c κs within =
    let halved = c.in_ok-halves.ensures in
    let level = halved.fit.lower.level in
    let d = c.decreases in
    (omega arith, (within, (rw level at halved.fit.lower, halved.lower_room)))

pub inner::add_parted-add_child-requires-else-is_after : goal.inner::add_parted-add_child-requires-else-is_after
inner::add_parted-add_child-requires-else-is_after g t c κs within =
    let halved = c.in_ok-halves.ensures in
    let level = halved.fit.upper.level in
    let d = c.decreases in
    (omega arith, (within, (rw level at halved.fit.upper, halved.upper_room)))
