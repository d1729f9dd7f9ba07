use Rattle.std.proofs.Common.{◌≡◌, ◌+◌, ◌++◌, take}
use Rattle.gr_hits.proofs.merge.write_hits.Given as goal

abbrev pub invariant-writes : goal.invariant-writes
invariant-writes l = record {
  place : l.at ≡ l.from + l.hit-index;
  exact : take l.at l.made ≡ take l.from l.fn.made ++ take l.hit-index l.more;
}
