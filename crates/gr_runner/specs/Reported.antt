-- The journal of a report.
use Rattle.std.specs.Prelude.{Option, Some, None, List, []}
use Rattle.std.specs.Arc.{arc_value}
use Rattle.std.specs.Global.{Global}
use Rattle.std.specs.declared.sync.Arc.{Arc}
use Rattle.gr_db.specs.declared.entry.Entry.{Entry}
use Rattle.gr_root.specs.Root.{Rooted}
use Rattle.gr_runner.specs.declared.report.Report.{Report}

-- the journal of a state, and none where there is no state
abbrev pub journal_at : Option (Arc Rooted Global) → List Entry
journal_at None = []
journal_at (Some root) = (arc_value root).journal

-- the journal of a report is that of its last state
abbrev pub journal_of : Report → List Entry
journal_of report = journal_at report.root
