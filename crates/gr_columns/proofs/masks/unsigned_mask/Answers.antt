use mir.Syntax.{w128}
use Rattle.std.proofs.lemmas.Int.{to_z-of_z}
use Rattle.gr_columns.proofs.Scans.{unsigned_err, unsigned_ok}
use Rattle.gr_columns.proofs.masks.unsigned_mask.Goals as goal

pub returns-in-Ok : goal.returns-in-Ok
returns-in-Ok c = unsigned_ok c.args.cmp c.args.against _ c.in-Ok.number c.args.values.now c.mask_u64.result (to_z-of_z w128 c.args.against c.ranges.against) c.in-Ok.ensures c.mask_u64.ensures

pub returns-in-Err : goal.returns-in-Err
returns-in-Err c = unsigned_err c.args.cmp c.args.against _ c.args.values.now c.everywhere.result (to_z-of_z w128 c.args.against c.ranges.against) c.in-Err.ensures c.each_unsigned.ensures c.requires c.everywhere.ensures
