use Rattle.std.proofs.Common.{◌≡◌, drop, take}
use Rattle.std.specs.List.{flat_map}
use Rattle.gr_root.specs.Inside.Touched.{numbers_in}
use Rattle.gr_root.proofs.readers.numbers_touched.Given as goal

-- the numbers of the lists so far
abbrev pub invariant-loop-later : goal.invariant-loop-later
invariant-loop-later l = l.numbers.items ≡ flat_map (numbers_in l.table) (take l.later (drop l.from l.touched))
