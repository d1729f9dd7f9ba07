use Rattle.std.proofs.Common.{◌<◌, ◌≤◌, ◌/◌, ◌+◌, ◌-◌, ◌^◌, false, length, map, ap, arith}
use Rattle.std.proofs.lemmas.List.{length-map}
use Rattle.std.specs.Arc.{arc_value}
use Rattle.gr_columns.specs.Inside.Truths.{bits_of}
use Rattle.gr_columns.proofs.Blocks.{places_changed, places_same, places_grown, sets_changed, sets_grown, grown_reaches}
use Rattle.gr_columns.proofs.Outcomes.{either, on_ok}
use Rattle.gr_columns.proofs.Words.{words_grown}
use Rattle.gr_columns.proofs.truths.Truths.set.Goals as goal

pub invariant_of-self : goal.invariant_of-self
invariant_of-self c =
    let there : c.args.i / 64 < length (map bits_of c.self.inside.words) = omega (arith, c.block_of.ensures, c.len.ensures, c.if-block_of-len.true, length-map c.self.inside.words bits_of) in
    either c.put_bit.result c.put_bit.ensures.ok c.put_bit.ensures.err
    (λ made. places_changed false (bits_of (arc_value c.self.inside.blank)) (map bits_of c.self.inside.words) (map bits_of c.put_bit.new.words) c.self.invariant c.args.i c.args.value there made)
    (λ same. places_same false (bits_of (arc_value c.self.inside.blank)) (map bits_of c.self.inside.words) (map bits_of c.put_bit.new.words) c.self.invariant (ap (map bits_of) same))

pub returns-then-block_of-len-clause-ok : goal.returns-then-block_of-len-clause-ok
returns-then-block_of-len-clause-ok c =
    let there : c.args.i / 64 < length (map bits_of c.self.inside.words) = omega (arith, c.block_of.ensures, c.len.ensures, c.if-block_of-len.true, length-map c.self.inside.words bits_of) in
    on_ok c.put_bit.result (λ made. sets_changed c.args.self.now false (map bits_of c.self.inside.words) (map bits_of c.put_bit.new.words) c.self.view_is c.self.invariant.full c.args.i c.args.value there made) c.put_bit.ensures.ok

pub invariant_of-self-2 : goal.invariant_of-self-2
invariant_of-self-2 c =
    let past : length (map bits_of c.self.inside.words) ≤ c.block_of-2.result = omega (arith, c.block_of.ensures, c.block_of-2.ensures, c.len.ensures, c.if-block_of-len.false, length-map c.self.inside.words bits_of) in
    let few : c.block_of-2.result < 2 ^ 32 = omega (arith, c.block_of-2.ensures, c.ranges.i) in
    let more = words_grown c.self.inside.words c.in_ok-grown.grown (c.block_of-2.result + 1 - length c.self.inside.words) (arc_value c.self.inside.blank) c.in_ok-grown.ensures in
    let more_too = rw (← length-map c.self.inside.words bits_of) at more in
    let are = places_grown false (bits_of (arc_value c.self.inside.blank)) (map bits_of c.self.inside.words) (map bits_of c.in_ok-grown.grown) c.self.invariant c.block_of-2.result past few more_too in
    let there = grown_reaches (map bits_of c.self.inside.words) (map bits_of c.in_ok-grown.grown) c.block_of-2.result c.args.i (bits_of (arc_value c.self.inside.blank)) past c.block_of-2.ensures more_too in
    places_changed false (bits_of (arc_value c.self.inside.blank)) (map bits_of c.in_ok-grown.grown) (map bits_of c.put_bit-2.new.words) are c.args.i c.args.value there c.in_ok-put_bit.ensures.ok

pub returns-clause-ok : goal.returns-clause-ok
returns-clause-ok c =
    let past : length (map bits_of c.self.inside.words) ≤ c.block_of-2.result = omega (arith, c.block_of.ensures, c.block_of-2.ensures, c.len.ensures, c.if-block_of-len.false, length-map c.self.inside.words bits_of) in
    let few : c.block_of-2.result < 2 ^ 32 = omega (arith, c.block_of-2.ensures, c.ranges.i) in
    let more = words_grown c.self.inside.words c.in_ok-grown.grown (c.block_of-2.result + 1 - length c.self.inside.words) (arc_value c.self.inside.blank) c.in_ok-grown.ensures in
    let more_too = rw (← length-map c.self.inside.words bits_of) at more in
    let are = places_grown false (bits_of (arc_value c.self.inside.blank)) (map bits_of c.self.inside.words) (map bits_of c.in_ok-grown.grown) c.self.invariant c.block_of-2.result past few more_too in
    let there = grown_reaches (map bits_of c.self.inside.words) (map bits_of c.in_ok-grown.grown) c.block_of-2.result c.args.i (bits_of (arc_value c.self.inside.blank)) past c.block_of-2.ensures more_too in
    sets_grown c.args.self.now false (bits_of (arc_value c.self.inside.blank)) (map bits_of c.self.inside.words) (map bits_of c.in_ok-grown.grown) (map bits_of c.put_bit-2.new.words) c.self.view_is c.self.invariant are.full (c.block_of-2.result + 1 - length (map bits_of c.self.inside.words)) c.args.i c.args.value more_too there c.in_ok-put_bit.ensures.ok
