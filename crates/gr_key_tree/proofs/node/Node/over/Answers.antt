use Rattle.std.proofs.Common.{◌≡◌, ◌∙◌, ◌++◌, ◌∷◌, [], ap, List}
use Rattle.gr_key_tree.specs.Inside.Seen.{Part}
use Rattle.gr_key_tree.proofs.Skipping.{over_halves}
use Rattle.gr_key_tree.proofs.node.Node.over.Goals as goal

pub inner-requires : goal.inner-requires
inner-requires g c =
    let items : c.push-2.new.self.items ≡ c.args.halves.lower ∷ c.args.halves.upper ∷ [] =
    c.in_ok-push-2.ensures.items ∙ ap (λ (l : List Part). l ++ c.args.halves.upper ∷ []) (c.in_ok-push.ensures.items ∙ ap (λ (l : List Part). l ++ c.args.halves.lower ∷ []) c.in_ok-children.ensures.items) in
    rw items (over_halves g.K.KeyOrder.state_of c.args.height c.args.halves c.requires.halves c.requires.rising)
