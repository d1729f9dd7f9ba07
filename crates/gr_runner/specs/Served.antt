-- What running one source's session does to the journal.
use Rattle.std.specs.Prelude.{ℕ, ◌≡◌, ◌<◌, ◌++◌, List, length}
use Rattle.std.specs.List.{AllByRecursion}
use Rattle.gr_base.specs.declared.numbers.Limits.{Limits}
use Rattle.gr_db.specs.Accepted.{IsAccepted}
use Rattle.gr_db.specs.declared.entry.Entry.{Entry}
use Rattle.gr_outside.specs.Outside.{Told}
use Rattle.gr_runner.specs.Sessions.{Holds}
use Rattle.gr_runner.specs.declared.report.SessionLog.{SessionLog}

-- an entry of this session, of one of its first commands
pub record IsOfSession (number commands : ℕ) (entry : Entry) : Type 0 where
  pub session : entry.session.0 ≡ number
  pub command : entry.command < commands

-- the journal grew by this session's entries alone, of commands that have their replies, and its log holds there
pub record Serves (limits : Limits) (told : Told) (number phase : ℕ) (old new : List Entry) (log : SessionLog) : Type 0 where
  pub added : List Entry
  pub grows : new ≡ old ++ added
  pub owned : AllByRecursion (IsOfSession number (length log.done)) added
  pub accepted : IsAccepted limits old → IsAccepted limits new
  pub number_is : log.number.0 ≡ number
  pub phase_is : log.phase ≡ phase
  pub opened_is : log.opened ≡ length old
  pub holds : Holds limits told new log
