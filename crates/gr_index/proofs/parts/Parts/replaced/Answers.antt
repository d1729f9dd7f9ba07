use Rattle.std.proofs.Common.{ap, sym, refl, subst, ◌∙◌, ◌≡◌, ◌+◌, ◌-◌, ◌<◌, ◌≤◌, [], ◌∷◌, ◌++◌, ℕ, length, map, take, drop, arith}
use Rattle.gr_index.specs.Inside.Parts.{held_of}
use Rattle.gr_index.proofs.PartLemmas.{as_long, parts-replaced}
use Rattle.gr_index.proofs.parts.Parts.replaced.Goals as goal

pub replaced_spans-requires-clause-start : goal.replaced_spans-requires-clause-start
replaced_spans-requires-clause-start c =
    let long = as_long c.self.inside.spans.items c.self.inside.segments.items c.args.self.now c.self.invariant c.self.view_is in
    let is = ap length c.as_slice.ensures.value in
    omega (arith, long, is)

pub replaced_spans-requires-clause-end : goal.replaced_spans-requires-clause-end
replaced_spans-requires-clause-end c =
    let long = as_long c.self.inside.spans.items c.self.inside.segments.items c.args.self.now c.self.invariant c.self.view_is in
    let is = ap length c.as_slice.ensures.value in
    omega (arith, long, is)

pub replaced_segments-requires-clause-start : goal.replaced_segments-requires-clause-start
replaced_segments-requires-clause-start c =
    let long = as_long c.self.inside.spans.items c.self.inside.segments.items c.args.self.now c.self.invariant c.self.view_is in
    let same = c.self.invariant in
    let is = ap length c.as_slice-2.ensures.value in
    omega (arith, long, same, is)

pub replaced_segments-requires-clause-end : goal.replaced_segments-requires-clause-end
replaced_segments-requires-clause-end c =
    let long = as_long c.self.inside.spans.items c.self.inside.segments.items c.args.self.now c.self.invariant c.self.view_is in
    let same = c.self.invariant in
    let is = ap length c.as_slice-2.ensures.value in
    omega (arith, long, same, is)

pub returns : goal.returns
returns c =
    let i = c.args.start in
    let j = c.args.end in
    parts-replaced c.self.inside.spans.items c.self.inside.segments.items c.args.self.now c.in_ok-spans.spans.items (map held_of c.in_ok-segments.segments.items) c.args.span (held_of c.args.segment) i j c.self.invariant c.self.view_is
    (c.in_ok-spans.ensures ∙ ap (λ ss. take i ss ++ c.args.span ∷ [] ++ drop j ss) c.as_slice.ensures.value)
    (c.in_ok-segments.ensures ∙ ap (λ gs. take i (map held_of gs) ++ held_of c.args.segment ∷ [] ++ drop j (map held_of gs)) c.as_slice-2.ensures.value)
