-- What applying an entry to a shared state does.
use Rattle.std.specs.Prelude.{Result, Ok, Err}
use Rattle.std.specs.Global.{Global}
use Rattle.std.specs.Arc.{arc_value}
use Rattle.std.specs.declared.sync.Arc.{Arc}
use Rattle.gr_base.specs.declared.failure.Failure.{Failure}
use Rattle.gr_base.specs.declared.failure.Failure.TheVariants.{Refused, NoMemory}
use Rattle.gr_base.specs.declared.fault.Fault.{Fault}
use Rattle.gr_db.specs.declared.entry.Entry.{Entry}
use Rattle.gr_root.specs.Root.{IsApplied, IsRefused, Rooted}

-- the shared state after an entry, or its first fault, or no memory was found
abbrev pub AppliesShared : Rooted → Entry → Result (Arc Rooted Global) (Failure Fault) → Type 0
AppliesShared root entry (Ok new) = IsApplied root (arc_value new) entry
AppliesShared root entry (Err (Refused fault)) = IsRefused root entry fault
AppliesShared root entry (Err NoMemory) = Unit {0}
