use Rattle.std.proofs.Common.{ap, sym, refl, subst, ◌∙◌, ◌≡◌, ◌+◌, ◌-◌, ◌<◌, ◌≤◌, [], ◌∷◌, ◌++◌, ℕ, length, map, take, drop, arith}
use Rattle.gr_index.proofs.PartLemmas.{as_long}
use Rattle.gr_index.proofs.parts.Parts.len.Goals as goal

pub returns : goal.returns
returns c =
    c.len.ensures ∙ (c.self.inside.spans.ok.0 ∙ sym (as_long c.self.inside.spans.items c.self.inside.segments.items c.args.self.now c.self.invariant c.self.view_is))
