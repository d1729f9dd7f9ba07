use Rattle.std.proofs.Common.{◌≡◌, ◌∙◌, subst}
use Rattle.gr_key_tree.specs.Inside.Parts.{IsFirst, inner_of}
use Rattle.gr_key_tree.specs.Inside.Seen.{Seen}
use Rattle.gr_key_tree.proofs.Maps.{if_ok}
use Rattle.gr_key_tree.proofs.Children.{first_of}
use Rattle.gr_key_tree.proofs.node.Node.first.Goals as goal

pub returns-in-Inner : goal.returns-in-Inner
returns-in-Inner g c =
    let xs = c.in-Inner.children.items in
    let is : inner_of c.in-Inner.field-0 xs ≡ c.args.self.now = rw c.in-Inner.is at c.self.view_is in
    let inner = rw c.in-Inner.is at c.self.invariant in
    if_ok c.try_clone-in-Inner.result (λ cut copy. subst (λ (n : Seen). IsFirst cut n.pairs) is (first_of c.in-Inner.field-0 xs c.index-in-Inner.result.now cut inner.some c.index-in-Inner.ensures inner.each (copy ∙ c.key-in-Inner.ensures))) c.try_clone-in-Inner.ensures
