use Rattle.std.proofs.Common.{sym, ◌∙◌}
use Rattle.gr_hits.proofs.GallopLemmas.{on_true, on_false, passes_to, fails_from}
use Rattle.gr_hits.proofs.gallop.is_before_at.Goals as goal

pub returns-then-place-items-clause-after : goal.returns-then-place-items-clause-after
returns-then-place-items-clause-after g c =
    on_false _ _ (λ e. fails_from (λ item. g.T.Keyed.is_before item c.args.key.now) c.args.items.now c.args.place c.index-items-place.result c.requires c.if-place-items.true c.index-items-place.is (sym c.is_before.ensures ∙ e))

pub returns-then-place-items-clause-before : goal.returns-then-place-items-clause-before
returns-then-place-items-clause-before g c =
    on_true _ _ (λ e. passes_to (λ item. g.T.Keyed.is_before item c.args.key.now) c.args.items.now c.args.place c.index-items-place.result c.requires c.if-place-items.true c.index-items-place.is (sym c.is_before.ensures ∙ e))
