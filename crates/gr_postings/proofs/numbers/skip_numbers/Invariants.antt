use Rattle.std.proofs.Common.{◌≡◌}
use Rattle.gr_postings.specs.Numbers.{after_numbers}
use Rattle.gr_postings.proofs.numbers.skip_numbers.Given as goal

abbrev pub invariant-loop-left : goal.invariant-loop-left
invariant-loop-left l = after_numbers l.left l.rest ≡ after_numbers l.count l.bytes

abbrev pub decreases-loop-left : goal.decreases-loop-left
decreases-loop-left l = l.left
