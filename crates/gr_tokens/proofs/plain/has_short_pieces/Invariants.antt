-- The pieces before the rest are short.
use Rattle.std.proofs.Common.{length}
use Rattle.std.specs.List.{All, slice_split}
use Rattle.gr_tokens.specs.Inside.Plain.{IsShort}
use Rattle.gr_tokens.specs.Tokens.{is_space}
use Rattle.gr_tokens.proofs.plain.has_short_pieces.Given as goal

abbrev pub invariant-loop-rest : goal.invariant-loop-rest
invariant-loop-rest l = All IsShort (slice_split is_space l.rest) → All IsShort (slice_split is_space l.text)

abbrev pub decreases-loop-rest : goal.decreases-loop-rest
decreases-loop-rest l = length l.rest
