use Rattle.std.proofs.Common.{arith}
use Rattle.gr_postings.specs.Numbers.{number_at, after_number}
use Rattle.gr_postings.proofs.PositionLemmas.{length_positions}
use Rattle.gr_postings.proofs.view.PositionsView.read.Goals as goal

pub read_number-count-requires : goal.read_number-count-requires
read_number-count-requires c =
    let bytes = c.args.bytes.now in
    omega (arith, c.requires.count, length_positions 0 (number_at bytes) (after_number bytes))
