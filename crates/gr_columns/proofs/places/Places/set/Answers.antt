use Rattle.std.proofs.Common.{◌<◌, ◌≤◌, ◌/◌, ◌+◌, ◌-◌, ◌^◌, length, arith}
use Rattle.std.specs.Arc.{arc_value}
use Rattle.gr_columns.proofs.Blocks.{places_changed, places_same, places_grown, sets_changed, sets_grown, grown_reaches}
use Rattle.gr_columns.proofs.Outcomes.{either, on_ok}
use Rattle.gr_columns.proofs.places.Places.set.Goals as goal

pub invariant_of-self : goal.invariant_of-self
invariant_of-self g c =
    let there : c.args.i / 64 < length c.self.inside.blocks = omega (arith, c.block_of.ensures, c.len.ensures, c.if-block_of-len.true) in
    either c.put.result c.put.ensures.ok c.put.ensures.err
    (λ made. places_changed c.self.inside.default (arc_value c.self.inside.blank) c.self.inside.blocks c.put.new.blocks c.self.invariant c.args.i c.args.value there made)
    (λ same. places_same c.self.inside.default (arc_value c.self.inside.blank) c.self.inside.blocks c.put.new.blocks c.self.invariant same)

pub returns-then-block_of-len-clause-ok : goal.returns-then-block_of-len-clause-ok
returns-then-block_of-len-clause-ok g c =
    let there : c.args.i / 64 < length c.self.inside.blocks = omega (arith, c.block_of.ensures, c.len.ensures, c.if-block_of-len.true) in
    on_ok c.put.result (λ made. sets_changed c.args.self.now c.self.inside.default c.self.inside.blocks c.put.new.blocks c.self.view_is c.self.invariant.full c.args.i c.args.value there made) c.put.ensures.ok

pub put-requires-2-clause-full : goal.put-requires-2-clause-full
put-requires-2-clause-full g c =
    let past : length c.self.inside.blocks ≤ c.block_of-2.result = omega (arith, c.block_of.ensures, c.block_of-2.ensures, c.len.ensures, c.if-block_of-len.false) in
    let few : c.block_of-2.result < 2 ^ 32 = omega (arith, c.block_of-2.ensures, c.ranges.i) in
    (places_grown c.self.inside.default (arc_value c.self.inside.blank) c.self.inside.blocks c.in_ok-grown.grown c.self.invariant c.block_of-2.result past few c.in_ok-grown.ensures).full

pub invariant_of-self-2 : goal.invariant_of-self-2
invariant_of-self-2 g c =
    let past : length c.self.inside.blocks ≤ c.block_of-2.result = omega (arith, c.block_of.ensures, c.block_of-2.ensures, c.len.ensures, c.if-block_of-len.false) in
    let few : c.block_of-2.result < 2 ^ 32 = omega (arith, c.block_of-2.ensures, c.ranges.i) in
    let are = places_grown c.self.inside.default (arc_value c.self.inside.blank) c.self.inside.blocks c.in_ok-grown.grown c.self.invariant c.block_of-2.result past few c.in_ok-grown.ensures in
    let there = grown_reaches c.self.inside.blocks c.in_ok-grown.grown c.block_of-2.result c.args.i (arc_value c.self.inside.blank) past c.block_of-2.ensures c.in_ok-grown.ensures in
    places_changed c.self.inside.default (arc_value c.self.inside.blank) c.in_ok-grown.grown c.put-2.new.blocks are c.args.i c.args.value there c.in_ok-put.ensures.ok

pub returns-clause-ok : goal.returns-clause-ok
returns-clause-ok g c =
    let past : length c.self.inside.blocks ≤ c.block_of-2.result = omega (arith, c.block_of.ensures, c.block_of-2.ensures, c.len.ensures, c.if-block_of-len.false) in
    let few : c.block_of-2.result < 2 ^ 32 = omega (arith, c.block_of-2.ensures, c.ranges.i) in
    let are = places_grown c.self.inside.default (arc_value c.self.inside.blank) c.self.inside.blocks c.in_ok-grown.grown c.self.invariant c.block_of-2.result past few c.in_ok-grown.ensures in
    let there = grown_reaches c.self.inside.blocks c.in_ok-grown.grown c.block_of-2.result c.args.i (arc_value c.self.inside.blank) past c.block_of-2.ensures c.in_ok-grown.ensures in
    sets_grown c.args.self.now c.self.inside.default (arc_value c.self.inside.blank) c.self.inside.blocks c.in_ok-grown.grown c.put-2.new.blocks c.self.view_is c.self.invariant are.full (c.block_of-2.result + 1 - length c.self.inside.blocks) c.args.i c.args.value c.in_ok-grown.ensures there c.in_ok-put.ensures.ok
