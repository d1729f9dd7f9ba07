use Rattle.std.proofs.Common.{◌≡◌, ◌+◌, drop}
use Rattle.gr_hits.specs.Inside.Cursors.{AreBehind}
use Rattle.gr_hits.specs.Places.{stand_from}
use Rattle.gr_hits.proofs.cursors.follow.Given as goal

abbrev pub invariant-loop-i : goal.invariant-loop-i
invariant-loop-i l = record {
  behind : AreBehind l.cursors l.terms l.id (l.position + 1);
  exact : stand_from l.terms l.id (l.position + 1) ≡ stand_from (drop l.i l.terms) l.id (l.position + 1 + l.i);
}
