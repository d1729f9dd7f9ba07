use Rattle.std.proofs.Common.{◌≡◌, ◌+◌, below_more, subst, arith}
use Rattle.gr_index.specs.Levels.{AreLevels, Levels}
use Rattle.gr_index.proofs.IndexLemmas.{none_ripe, ripe_at, ripe_fits}
use Rattle.gr_index.proofs.index.Index.ripe.Goals as goal

pub returns-in-Some-clause-exact : goal.returns-in-Some-clause-exact
returns-in-Some-clause-exact c =
    let now = c.args.self.now in
    let levels = subst (λ (v : Levels). AreLevels v.place v.parts) c.self.view_is c.self.invariant in
    ripe_at now.place c.loop-level.level now.parts c.in-Some.start c.in-Some.stop c.range_of.result.0 c.range_of.result.1 levels c.in-Some.ensures c.range_of.ensures.from c.range_of.ensures.to c.loop-level.invariant

pub returns-in-Some-clause-fit : goal.returns-in-Some-clause-fit
returns-in-Some-clause-fit c =
    let now = c.args.self.now in
    let levels = subst (λ (v : Levels). AreLevels v.place v.parts) c.self.view_is c.self.invariant in
    ripe_fits now.place c.loop-level.level now.parts c.in-Some.start c.in-Some.stop c.range_of.result.0 c.range_of.result.1 levels c.in-Some.ensures c.range_of.ensures.from c.range_of.ensures.to

pub loop-level-preserved : goal.loop-level-preserved
loop-level-preserved c = below_more _ _ c.loop-level.invariant c.in-None.ensures

pub returns-clause-exact : goal.returns-clause-exact
returns-clause-exact c =
    let now = c.args.self.now in
    let levels = subst (λ (v : Levels). AreLevels v.place v.parts) c.self.view_is c.self.invariant in
    let end : c.loop-level.level ≡ c.level_at-level-end.result + 1 = omega arith in
    none_ripe now.parts c.loop-level.level c.level_at-level-end.result levels.older c.level_at-level-end.ensures.exact end c.loop-level.invariant
