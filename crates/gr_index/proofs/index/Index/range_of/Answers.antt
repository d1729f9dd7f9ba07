use Rattle.std.proofs.Common.{◌≡◌, ◌-◌, ◌≤◌, ◌<◌, take, drop, length, ap, sym, subst, refl, ◌∙◌, arith}
use Rattle.gr_index.specs.declared.parts.Span.{Span}
use Rattle.gr_index.specs.Levels.{Levels, end_of}
use Rattle.gr_index.proofs.IndexLemmas.{end_stop}
use Rattle.gr_index.proofs.LocatedLemmas.{no_part}
use Rattle.gr_index.proofs.TileLemmas.{end_from}
use Rattle.gr_index.proofs.index.Index.range_of.Goals as goal

pub returns-clause-from : goal.returns-clause-from
returns-clause-from c =
    let parts = c.self.inside.parts in
    let same = ap (λ (v : Levels). length v.parts) c.self.view_is in
    let order = c.requires.order in
    let bound = c.requires.bound in
    ap (λ (s : Span). s.from) (c.span-first.ensures no_part)
    ∙ (sym (end_from c.self.inside.place parts c.args.start no_part c.self.invariant.tile (omega (arith, same, order, bound)))
    ∙ ap (λ (v : Levels). end_of v.place (take c.args.start v.parts)) c.self.view_is)

pub returns-clause-to : goal.returns-clause-to
returns-clause-to c =
    let parts = c.self.inside.parts in
    let same = ap (λ (v : Levels). length v.parts) c.self.view_is in
    let order = c.requires.order in
    let bound = c.requires.bound in
    ap (λ (s : Span). s.to) (c.span-last.ensures no_part)
    ∙ (sym (end_stop c.self.inside.place parts c.args.stop no_part (omega (arith, order)) (omega (arith, same, bound)))
    ∙ ap (λ (v : Levels). end_of v.place (take c.args.stop v.parts)) c.self.view_is)
