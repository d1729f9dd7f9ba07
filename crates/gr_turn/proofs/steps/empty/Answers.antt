use Rattle.std.proofs.Common.{rules, Some, ap, sym, ◌∙◌, ◌∷◌}
use Rattle.atomic_table.specs.Table.{rest}
use Rattle.gr_turn.proofs.steps.empty.Goals as goal

pub exchange-requires : goal.exchange-requires
exchange-requires g c = let t = c.requires.full in (search rules, (Some t.0, t.1 ∙ ap (λ held. (0, Some t.0) ∷ rest held) (sym t.1)))
