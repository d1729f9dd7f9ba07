use Rattle.std.proofs.Common.{◌≡◌, length}
use Rattle.std.specs.List.{slice_split}
use Rattle.gr_schema.specs.Flags.{has, is_bar}
use Rattle.gr_schema.proofs.flags.has.Given as goal

abbrev pub invariant-pieces : goal.invariant-pieces
invariant-pieces l = has l.flag (slice_split is_bar l.text) ≡ has l.flag (slice_split is_bar l.rest)

abbrev pub decreases-pieces : goal.decreases-pieces
decreases-pieces l = length l.rest
