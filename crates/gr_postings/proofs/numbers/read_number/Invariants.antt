use Rattle.std.proofs.Common.{◌≡◌, length}
use Rattle.gr_postings.specs.Numbers.{number_after, number_at, after_number}
use Rattle.gr_postings.proofs.numbers.read_number.Given as goal

abbrev pub invariant-loop-rest : goal.invariant-loop-rest
invariant-loop-rest l = (number_after l.number l.rest ≡ number_at l.bytes) × (after_number l.rest ≡ after_number l.bytes)

abbrev pub decreases-loop-rest : goal.decreases-loop-rest
decreases-loop-rest l = length l.rest
