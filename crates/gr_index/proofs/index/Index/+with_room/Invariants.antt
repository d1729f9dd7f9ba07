use Rattle.std.proofs.Common.{◌-◌}
use Rattle.gr_index.proofs.index.Index.+with_room.Given as goal

abbrev pub decreases-with_room : goal.decreases-with_room
decreases-with_room g l = 16 - l.level
