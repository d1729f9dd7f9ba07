use Rattle.std.proofs.Common.{◌≡◌, ◌∙◌, ◌++◌, sym, ap, List, length, take, arith, subst, get_or, ◌<◌}
use Rattle.std.proofs.lemmas.List.{append-nil}
use Rattle.gr_key_tree.specs.Order.{key_cmp}
use Rattle.gr_key_tree.specs.Inside.Held.{numbers_with}
use Rattle.gr_key_tree.specs.Inside.Parts.{IsInner, all_pairs, inner_of}
use Rattle.gr_key_tree.specs.Inside.Rising.{Rising}
use Rattle.gr_key_tree.specs.Pairs.{Pair}
use Rattle.gr_key_tree.specs.Inside.Seen.{Seen, Part}
use Rattle.gr_key_tree.proofs.Exact.{numbers_nil}
use Rattle.gr_key_tree.proofs.Skipping.{walked, skipped, all_taken, item_at}
use Rattle.gr_key_tree.proofs.node.Node.+gather.Goals as goal
use Rattle.gr_key_tree.proofs.node.Node.+gather.Goals.{then-not-is_skipped+in_ok-gather-in-Inner, else-not-is_skipped}

pub loop-at-init : goal.loop-at-init
loop-at-init g t c = sym (ap (λ l. c.args.numbers.now.items ++ l) (numbers_nil c.args.prefix.now) ∙ append-nil c.args.numbers.now.items)

pub returns-after-loop-at-clause-held : goal.returns-after-loop-at-clause-held
returns-after-loop-at-clause-held g t c =
    let is : inner_of c.in-Inner.height c.in-Inner.children.items ≡ c.args.self.now = rw c.in-Inner.is at c.self.view_is in
    let len = c.len-at-end.ensures in
    let past = c.loop-at-test.false in
    let whole : take c.loop-at.at c.in-Inner.children.items ≡ c.in-Inner.children.items = all_taken c.in-Inner.children.items c.loop-at.at (let ok = c.in-Inner.children.ok.0 in omega arith) in
    c.loop-at.invariant ∙ ap (λ (l : List Part). c.args.numbers.now.items ++ numbers_with c.args.prefix.now (all_pairs l)) whole ∙ ap (λ (n : Seen). c.args.numbers.now.items ++ numbers_with c.args.prefix.now n.pairs) is

pub loop-at-preserved : goal.loop-at-preserved
loop-at-preserved g t c =
    let inner : IsInner (key_cmp g.K.KeyOrder.state_of) c.in-Inner.height c.in-Inner.children.items = rw c.in-Inner.is at c.self.invariant in
    let xs = c.in-Inner.children.items in
    let ok = c.in-Inner.children.ok.0 in
    let lt = c.loop-at-test.true in
    let len = c.len-at-end.ensures in
    let within : c.loop-at.at < length xs = omega arith in
    elim c.if-not-is_skipped.branch [
      | then-not-is_skipped+in_ok-gather-in-Inner w ↦
          rw w.numbers-is (walked g.K.KeyOrder.state_of c.in-Inner.height xs c.loop-at.at w.index.result.now inner within w.index.ensures c.args.prefix.now c.args.numbers.now.items c.loop-at.numbers.items w.gather-then-not-is_skipped.new.numbers.items c.loop-at.invariant
          (rw w.node.ensures at w.in_ok-gather-in-Inner.ensures.held))
      | else-not-is_skipped w ↦
          let x = item_at xs c.loop-at.at within in
          rw w.numbers-is (skipped g.K.KeyOrder.state_of c.in-Inner.height xs c.loop-at.at x.0 inner within x.1 c.args.prefix.now c.args.numbers.now.items c.loop-at.numbers.items c.loop-at.invariant
          (c.is_skipped.ensures w.if-not-is_skipped.false x.0 (x.1 ∙ ap (λ (l : List Part). get_or l c.loop-at.at x.0) (sym c.as_slice-in-loop-at.ensures.value))))
    ]

pub returns-after-loop-at-clause-rising : goal.returns-after-loop-at-clause-rising
returns-after-loop-at-clause-rising g t c =
    let is : inner_of c.in-Inner.height c.in-Inner.children.items ≡ c.args.self.now = rw c.in-Inner.is at c.self.view_is in
    let inner : IsInner (key_cmp g.K.KeyOrder.state_of) c.in-Inner.height c.in-Inner.children.items = rw c.in-Inner.is at c.self.invariant in
    subst (λ (n : Seen). Rising (key_cmp g.K.KeyOrder.state_of) (λ (p : Pair). p.0) n.pairs) is inner.rising
