use Rattle.std.proofs.Common.{◌≡◌, ◌+◌, length}
use Rattle.gr_text.specs.Paths.{names_len, path_len}
use Rattle.gr_text.proofs.paths.path_len.Given as goal

abbrev pub invariant-names : goal.invariant-names
invariant-names l = path_len l.bytes + length l.rest ≡ length l.bytes + names_len 0 l.rest

abbrev pub decreases-names : goal.decreases-names
decreases-names l = length l.rest
