use Rattle.std.proofs.Common.{◌≡◌, replicate}
use Rattle.gr_columns.proofs.places.repeated.Given as goal

-- as many values so far as were counted
abbrev pub invariant-loop : goal.invariant-loop
invariant-loop g l = l.items.items ≡ replicate l.counter l.value
