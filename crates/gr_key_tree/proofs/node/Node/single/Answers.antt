use Rattle.std.proofs.Common.{◌≡◌, ◌∙◌, ◌++◌, ◌∷◌, [], ap, List}
use Rattle.gr_key_tree.specs.Pairs.{Pair}
use Rattle.gr_key_tree.proofs.Skipping.{single_leaf}
use Rattle.gr_key_tree.proofs.node.Node.single.Goals as goal

pub leaf-requires : goal.leaf-requires
leaf-requires g c =
    let items : c.push.new.self.items ≡ c.new.result ∷ [] = c.in_ok-push.ensures.items ∙ ap (λ (l : List Pair). l ++ c.new.result ∷ []) c.in_ok-items.ensures.items in
    rw items (single_leaf g.K.KeyOrder.state_of c.new.result)
