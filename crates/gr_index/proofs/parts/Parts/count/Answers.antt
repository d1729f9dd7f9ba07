use Rattle.std.proofs.Common.{ap, sym, refl, subst, ◌∙◌, ◌≡◌, ◌+◌, ◌-◌, ◌<◌, ◌≤◌, [], ◌∷◌, ◌++◌, ℕ, length, map, take, drop, arith}
use Rattle.std.specs.List.{count_by}
use Rattle.std.specs.Prelude.{nat_eq}
use Rattle.gr_index.specs.Levels.{is_of_level}
use Rattle.gr_index.proofs.PartLemmas.{as_long, count-between}
use Rattle.gr_index.proofs.parts.Parts.count.Goals as goal

pub between-requires-clause-bound : goal.between-requires-clause-bound
between-requires-clause-bound c =
    let long = as_long c.self.inside.spans.items c.self.inside.segments.items c.args.self.now c.self.invariant c.self.view_is in
    let is = ap length c.as_slice.ensures.value in
    omega (arith, long, is)

pub returns : goal.returns
returns c =
    let n = c.args.end - c.args.start in
    c.count_of.ensures
    ∙ (ap (count_by (λ s. nat_eq s.level c.args.level)) (c.between.ensures ∙ ap (λ ss. take n (drop c.args.start ss)) c.as_slice.ensures.value)
    ∙ count-between (is_of_level c.args.level) (λ s. nat_eq s.level c.args.level) (λ s h. refl) c.self.inside.spans.items c.self.inside.segments.items c.args.self.now c.args.start n c.self.invariant c.self.view_is)
