use Rattle.std.proofs.Common.{◌≡◌, length}
use Rattle.std.specs.List.{list_all, slice_split}
use Rattle.gr_schema.specs.Flags.{is_bar}
use Rattle.gr_schema.specs.Inside.Flags.{is_flag_beside}
use Rattle.gr_schema.proofs.flags.each_is_flag.Given as goal

abbrev pub invariant-pieces : goal.invariant-pieces
invariant-pieces l = list_all (is_flag_beside l.index) (slice_split is_bar l.text) ≡ list_all (is_flag_beside l.index) (slice_split is_bar l.rest)

abbrev pub decreases-pieces : goal.decreases-pieces
decreases-pieces l = length l.rest
