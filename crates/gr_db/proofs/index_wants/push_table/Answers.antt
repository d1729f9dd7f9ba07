use Rattle.std.proofs.Common.{◌≡◌, ◌<◌, arith, length}
use Rattle.std.specs.List.{flat_map}
use Rattle.gr_db.specs.Wants.{source_wants}
use Rattle.gr_expr.specs.Tables.{Record, records_of}
use Rattle.gr_db.proofs.NewIndexLemmas.{records-more}
use Rattle.gr_db.proofs.index_wants.push_table.Goals as goal

pub loop-place-preserved : goal.loop-place-preserved
loop-place-preserved g c =
    let records = records_of (g.R.Rows.tables c.args.rows.now) c.args.target in
    let given : c.last_id-given.result.0 ≡ length records = c.last_id-given.ensures in
    let below : c.loop-place.place < c.last_id-given.result.0 = c.loop-place-test.true in
    let within : c.loop-place.place < length records = omega arith in
    records-more (λ (found : Record). flat_map (source_wants c.args.schema.now c.args.index found) c.args.sources.now) c.args.wants.now.items c.loop-place.wants.items c.push_record.new.wants.items records c.loop-place.place within c.loop-place.invariant c.in_ok-push_record.ensures
