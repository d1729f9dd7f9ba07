use Rattle.std.proofs.Common.{ap, sym, refl, subst, ◌∙◌, ◌≡◌, ◌+◌, ◌-◌, ◌<◌, ◌≤◌, [], ◌∷◌, ◌++◌, ℕ, length, map, take, drop, arith}
use Rattle.std.specs.List.{count_by}
use Rattle.std.specs.Prelude.{nat_lt}
use Rattle.gr_index.specs.Inside.Parts.{is_above}
use Rattle.gr_index.proofs.PartLemmas.{count-all}
use Rattle.gr_index.proofs.parts.Parts.count_above.Goals as goal

pub returns : goal.returns
returns c =
    c.count_above.ensures
    ∙ (ap (count_by (λ s. nat_lt c.args.level s.level)) c.as_slice.ensures.value
    ∙ count-all (is_above c.args.level) (λ s. nat_lt c.args.level s.level) (λ s h. refl) c.self.inside.spans.items c.self.inside.segments.items c.args.self.now c.self.invariant c.self.view_is)
