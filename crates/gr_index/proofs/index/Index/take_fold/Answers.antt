use Rattle.std.proofs.Common.{◌≤◌, arith}
use Rattle.gr_index.proofs.FoldLemmas.{range_places}
use Rattle.gr_index.proofs.index.Index.take_fold.Goals as goal

pub returns-in-Ok-clause-places : goal.returns-in-Ok-clause-places
returns-in-Ok-clause-places c =
    let now = c.args.self.now in
    let at = c.in-Ok.ensures in
    let order = at.order in
    let before : c.in-Ok.start ≤ c.in-Ok.stop = omega (arith, order) in
    range_places now.place c.args.range.0 c.args.range.1 now.parts c.in-Ok.start c.in-Ok.stop c.between.result.now c.are_levels.ensures before at.begins at.ends c.between.ensures.postings
