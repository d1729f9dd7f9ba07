use Rattle.std.proofs.Common.{rules, arith, ap, length, length-append, ◌∷◌, []}
use Rattle.gr_turn.proofs.StepLemmas.{raises}
use Rattle.gr_turn.proofs.steps.raise.Goals as goal

pub compare_exchange_with-requires : goal.compare_exchange_with-requires
compare_exchange_with-requires g c = let t = c.requires.serves in let one = c.requires.grown in (
  search rules,
  search rules,
  raises g.T.Held.entries g.T.Held.fixed _ _ _ _ t.0 _ _ c.args.value t.1 one c.requires.short (search rules)
      (omega (arith, c.count-length.ensures, ap length one.is, length-append c.args.seat.now.me.0.seen (one.entry ∷ []))),
)
