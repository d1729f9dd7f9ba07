use Rattle.std.proofs.Common.{◌<◌, length, arith}
use Rattle.gr_index.proofs.LocatedLemmas.{none_begins_more}
use Rattle.gr_index.proofs.ranges.beginning.Goals as goal

pub loop-at-preserved : goal.loop-at-preserved
loop-at-preserved c =
    let within : c.loop-at.at < length c.args.parts.now = omega arith in
    none_begins_more c.args.place c.args.parts.now c.loop-at.at c.span.result within c.span.ensures c.if-span-place.false c.loop-at.invariant
