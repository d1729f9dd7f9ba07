use Rattle.std.proofs.Common.{ap, sym, refl, subst, ◌∙◌, ◌≡◌, ◌+◌, ◌-◌, ◌<◌, ◌≤◌, [], ◌∷◌, ◌++◌, ℕ, length, map, take, drop, arith}
use Rattle.gr_chunks.specs.Segments.{postings_of}
use Rattle.gr_index.proofs.PartLemmas.{as_long, postings-between}
use Rattle.gr_index.proofs.parts.Parts.between.Goals as goal

pub between-requires-clause-bound : goal.between-requires-clause-bound
between-requires-clause-bound c =
    let long = as_long c.self.inside.spans.items c.self.inside.segments.items c.args.self.now c.self.invariant c.self.view_is in
    let same = c.self.invariant in
    let is = ap length c.as_slice.ensures.value in
    omega (arith, long, same, is)

pub returns : goal.returns
returns c =
    let n = c.args.end - c.args.start in
    ap (map postings_of) (c.between.ensures ∙ ap (λ gs. take n (drop c.args.start gs)) c.as_slice.ensures.value)
    ∙ postings-between c.self.inside.spans.items c.self.inside.segments.items c.args.self.now c.args.start n c.self.invariant c.self.view_is
