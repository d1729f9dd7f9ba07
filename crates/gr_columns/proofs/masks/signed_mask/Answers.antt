use mir.Syntax.{w128}
use Rattle.std.proofs.lemmas.Int.{to_z-of_z}
use Rattle.gr_columns.proofs.Scans.{signed_err}
use Rattle.gr_columns.proofs.masks.signed_mask.Goals as goal

pub returns-in-Err : goal.returns-in-Err
returns-in-Err c = signed_err c.args.cmp c.args.against _ c.args.values.now c.everywhere.result (to_z-of_z w128 c.args.against c.ranges.against) c.in-Err.ensures c.each_signed.ensures c.requires c.everywhere.ensures
