use Rattle.std.proofs.Common.{◌≡◌, ◌++◌, take}
use Rattle.gr_root.specs.Inside.Touched.{numbers_in}
use Rattle.gr_root.proofs.readers.push_numbers.Given as goal

-- the numbers of the places so far
abbrev pub invariant-loop-place : goal.invariant-loop-place
invariant-loop-place l = l.numbers.items ≡ l.initial.numbers.items ++ numbers_in l.table (take l.place-index l.places)
