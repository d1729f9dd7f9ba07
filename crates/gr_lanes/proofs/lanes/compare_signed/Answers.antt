use Rattle.std.proofs.Common.{eqb, not}
use mir.Syntax.{w64}
use mir.Val.{to_z, of_z}
use lib.Signed.{lt_z, le_z}
use Rattle.gr_lanes.proofs.Masks.{signed_with, signed_under}
use Rattle.gr_lanes.proofs.Signs.{equal_bits, other_bits, below_bits, up_to_bits, above_bits, from_bits}
use Rattle.gr_lanes.proofs.lanes.compare_signed.Goals as goal

pub returns-in-Eq : goal.returns-in-Eq
returns-in-Eq c =
    signed_with eqb _ c.args.values.now (of_z w64 c.args.against) c.requires c.each_fits.ensures (λ x fits. rw c.in-Eq.is (equal_bits x c.args.against fits c.ranges.against))

pub returns-in-Ne : goal.returns-in-Ne
returns-in-Ne c =
    signed_with (λ a b. not (eqb a b)) _ c.args.values.now (of_z w64 c.args.against) c.requires c.each_fits.ensures (λ x fits. rw c.in-Ne.is (other_bits x c.args.against fits c.ranges.against))

pub returns-in-Lt : goal.returns-in-Lt
returns-in-Lt c =
    signed_with (λ a b. lt_z (to_z w64 a) (to_z w64 b)) _ c.args.values.now (of_z w64 c.args.against) c.requires c.each_fits.ensures (λ x fits. rw c.in-Lt.is (below_bits x c.args.against fits c.ranges.against))

pub returns-in-Le : goal.returns-in-Le
returns-in-Le c =
    signed_with (λ a b. le_z (to_z w64 a) (to_z w64 b)) _ c.args.values.now (of_z w64 c.args.against) c.requires c.each_fits.ensures (λ x fits. rw c.in-Le.is (up_to_bits x c.args.against fits c.ranges.against))

pub returns-in-Gt : goal.returns-in-Gt
returns-in-Gt c =
    signed_under (λ a b. lt_z (to_z w64 a) (to_z w64 b)) _ c.args.values.now (of_z w64 c.args.against) c.requires c.each_fits.ensures (λ x fits. rw c.in-Gt.is (above_bits x c.args.against fits c.ranges.against))

pub returns-in-Ge : goal.returns-in-Ge
returns-in-Ge c =
    signed_under (λ a b. le_z (to_z w64 a) (to_z w64 b)) _ c.args.values.now (of_z w64 c.args.against) c.requires c.each_fits.ensures (λ x fits. rw c.in-Ge.is (from_bits x c.args.against fits c.ranges.against))
