use Rattle.std.proofs.Common.{ap, sym, refl, subst, ◌∙◌, ◌≡◌, ◌+◌, ◌-◌, ◌<◌, ◌≤◌, [], ◌∷◌, ◌++◌, ℕ, length, map, take, drop, arith}
use Rattle.std.proofs.lemmas.List.{map_push}
use Rattle.gr_index.specs.Inside.Parts.{held_of}
use Rattle.gr_index.proofs.PartLemmas.{parts-pushed}
use Rattle.gr_index.proofs.parts.Parts.pushed.Goals as goal

pub returns : goal.returns
returns c =
    let gs = c.self.inside.segments.items in
    parts-pushed c.self.inside.spans.items gs c.args.self c.push.new.self.items (map held_of c.push-2.new.self.items) c.args.span (held_of c.args.segment) c.self.invariant c.self.view_is c.in_ok-push.ensures.items (ap (map held_of) c.in_ok-push-2.ensures.items ∙ map_push held_of gs c.args.segment)
