use Rattle.std.proofs.Common.{ap, sym, refl, subst, ◌∙◌, ◌≡◌, ◌+◌, ◌-◌, ◌<◌, ◌≤◌, [], ◌∷◌, ◌++◌, ℕ, length, map, take, drop, arith}
use Rattle.gr_index.proofs.PartLemmas.{as_long, span-of}
use Rattle.gr_index.proofs.parts.Parts.span.Goals as goal

pub index-requires : goal.index-requires
index-requires c =
    let long = as_long c.self.inside.spans.items c.self.inside.segments.items c.args.self.now c.self.invariant c.self.view_is in
    let len = c.self.inside.spans.ok.0 in
    omega (arith, long, len)

pub returns : goal.returns
returns c = λ d.
    let ss = c.self.inside.spans.items in
    let long = as_long ss c.self.inside.segments.items c.args.self.now c.self.invariant c.self.view_is in
    let within : c.args.at < length ss = omega (arith, long) in
    span-of ss c.self.inside.segments.items c.args.self.now c.args.at d c.index.result.now c.self.invariant c.self.view_is within c.index.ensures
