use Rattle.gr_root.proofs.SetLemmas.{set-more}
use Rattle.gr_root.proofs.put.set_all.Goals as goal

pub loop-setting-preserved : goal.loop-setting-preserved
loop-setting-preserved c =
    set-more c.args.schema.now c.args.tables.now c.loop-setting.tables c.set_cell.new.tables c.args.table c.args.id c.args.settings.now c.loop-setting.setting-index c.setting-item.result c.loop-setting-test.true
    c.loop-setting.invariant (rw c.setting-item.is at c.in_ok-set_cell.ensures)
