use Rattle.std.proofs.Common.{length}
use Rattle.gr_text.proofs.Quoted.{AreRead}
use Rattle.gr_text.proofs.strings.string_from.Given as goal

abbrev pub invariant-pieces : goal.invariant-pieces
invariant-pieces l = AreRead l.bytes l.text.items l.rest

abbrev pub decreases-pieces : goal.decreases-pieces
decreases-pieces l = length l.rest
