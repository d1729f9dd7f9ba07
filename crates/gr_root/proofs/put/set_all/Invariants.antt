use Rattle.std.proofs.Common.{take}
use Rattle.gr_root.specs.Inside.Put.{IsSetAll}
use Rattle.gr_root.proofs.put.set_all.Given as goal

-- the settings so far were set
abbrev pub invariant-loop-setting : goal.invariant-loop-setting
invariant-loop-setting l = IsSetAll l.schema l.initial.tables l.tables l.table l.id (take l.setting-index l.settings)
