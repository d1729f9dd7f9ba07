use Rattle.std.proofs.Common.{◌≡◌, ◌≤◌, ◌+◌, ◌∙◌, length, ap, sym, subst}
use Rattle.std.specs.Arc.{arc_value}
use Rattle.gr_pvec.proofs.Packed.{full_count}
use Rattle.gr_pvec.specs.Inside.Packed.{span}
use Rattle.gr_pvec.proofs.vector.push_leaf.Goals as goal

pub grown-requires-clause-full : goal.grown-requires-clause-full
grown-requires-clause-full g c =
    let value = c.deref.ensures in
    let few : length (arc_value c.args.node.now).0 ≤ span ((arc_value c.args.node.now).1 + 1) = subst (λ v. length v.0 ≤ span (v.1 + 1)) value c.level.ensures.few in
    let level : c.level.result ≡ (arc_value c.args.node.now).1 = c.level.ensures.exact ∙ ap (λ v. v.1) value in
    let full = full_count c.args.n (span (c.level.result + 1)) c.if-n-shift-eq0.false (subst (λ l. c.args.n ≤ span (l + 1)) (sym level) (subst (λ n. n ≤ span ((arc_value c.args.node.now).1 + 1)) (sym c.requires.counted) few)) in
    subst (λ v. length v.0 ≡ span (v.1 + 1)) (sym c.in_ok-below.ensures) (sym c.requires.counted ∙ full ∙ ap (λ l. span (l + 1)) level)
