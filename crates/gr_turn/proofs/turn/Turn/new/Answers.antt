use Rattle.std.proofs.Common.{rules, ap, ◌∙◌, ◌++◌, ◌∷◌, [], Some}
use Rattle.gr_turn.proofs.EndLemmas.{opens}
use Rattle.gr_turn.proofs.turn.Turn.new.Goals as goal

pub new-requires : goal.new-requires
new-requires g c = opens g.T.Held.entries g.T.Held.fixed c.args.value _ _ _ c.of-key.ensures
    (c.push_reserved.ensures.items ∙ ap (λ xs. xs ++ Some c.args.value ∷ []) c.in_ok-slots.ensures.items) c.requires (search rules)
