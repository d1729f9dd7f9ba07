-- The first half stands wherever the phrase stands over itself at less than half of it.
use Rattle.std.proofs.Common.{◌-◌, ◌/◌, length, arith}
use Rattle.std.proofs.lemmas.List.{length-drop, length-take-le, take_rest}
use Rattle.gr_tokens.proofs.BytePlaces.{IsPeriod-occurs}
use Rattle.gr_tokens.proofs.overlap.least_shift.Goals as goal

pub returns-in-Some-clause-none_nearer : goal.returns-in-Some-clause-none_nearer
returns-in-Some-clause-none_nearer c q above below period =
    let half = length c.args.phrase.now - length c.args.phrase.now / 2 in
    let found = rw (take_rest c.args.phrase.now 1) at c.in-Some.ensures in
    let fits = found.1.fits in
    found.0.before (q - 1) (omega arith) (omega arith) (IsPeriod-occurs c.args.phrase.now half q above (omega (arith, fits, length-drop 1 c.args.phrase.now, length-take-le half c.args.phrase.now (omega arith))) period)

pub returns-in-None-clause-none_nearer : goal.returns-in-None-clause-none_nearer
returns-in-None-clause-none_nearer c q above below period =
    let half = length c.args.phrase.now - length c.args.phrase.now / 2 in
    let none = rw (take_rest c.args.phrase.now 1) at c.in-None.ensures in
    none (q - 1) (omega arith) (omega (arith, length-drop 1 c.args.phrase.now)) (IsPeriod-occurs c.args.phrase.now half q above (omega arith) period)
