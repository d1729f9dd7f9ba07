use Rattle.std.proofs.Common.{◌<◌, ◌^◌, length, sym, subst, arith}
use Rattle.gr_index.specs.Levels.{Levels}
use Rattle.gr_index.proofs.IndexLemmas.{bounded}
use Rattle.gr_index.proofs.index.Index.level_at.Goals as goal

pub returns-clause-bound : goal.returns-clause-bound
returns-clause-bound c =
    let to : c.span.result.to < 2 ^ 64 = omega arith in
    let within = subst (λ (v : Levels). c.args.at < length v.parts) (sym c.self.view_is) c.requires in
    bounded c.self.inside.parts c.args.at c.span.result c.self.invariant.wide within c.span.ensures to
