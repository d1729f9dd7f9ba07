use Rattle.std.proofs.Common.{◌≡◌, length}
use Rattle.gr_postings.specs.Numbers.{after_number}
use Rattle.gr_postings.proofs.numbers.skip_number.Given as goal

abbrev pub invariant-loop-rest : goal.invariant-loop-rest
invariant-loop-rest l = after_number l.rest ≡ after_number l.bytes

abbrev pub decreases-loop-rest : goal.decreases-loop-rest
decreases-loop-rest l = length l.rest
