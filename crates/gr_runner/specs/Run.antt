-- What a run is: the phases that ran, why it ended, and what was written.
use Rattle.std.specs.Prelude.{ℕ, ◌≡◌, ◌≢◌, ◌<◌, ◌≤◌, ◌⊎◌, ◌++◌, Option, Some, None, List, [], ◌∷◌, length, take, Contains}
use Rattle.std.specs.Io.KnownBytes.{Appends}
use Rattle.std.specs.List.{AllByRecursion, flat_map}
use Rattle.gr_base.specs.declared.numbers.Limits.{Limits}
use Rattle.gr_outside.specs.Outside.{Taken, Told}
use Rattle.gr_runner.specs.History.{History}
use Rattle.gr_runner.specs.Reported.{journal_of}
use Rattle.gr_runner.specs.Written.{HasFailed}
use Rattle.gr_runner.specs.declared.report.End.{End}
use Rattle.gr_runner.specs.declared.report.End.TheVariants.{Finished, Read, SourceTooLong, NoMemory as NoMemoryEnd}
use Rattle.gr_runner.specs.declared.report.Report.{Report}
use Rattle.gr_runner.specs.declared.report.SessionLog.{SessionLog}
use Rattle.gr_runner.specs.declared.status.Status.{Status}
use Rattle.gr_runner.specs.declared.status.Status.TheVariants.{Ok, Usage, Open, Read as ReadFailed, Write, NoMemory, SourceTooLong as TooLong}

-- an end that is not Finished counts before those that follow
abbrev pub end_or : End → Option End → Option End
end_or Finished others = others
end_or (Read faults) others = Some (Read faults)
end_or (SourceTooLong bytes) others = Some (SourceTooLong bytes)
end_or NoMemoryEnd others = Some NoMemoryEnd

-- the first end, in file order, that is not Finished
abbrev pub first_unfinished : List SessionLog → Option End
first_unfinished [] = None
first_unfinished (log ∷ logs) = end_or log.end (first_unfinished logs)

-- all phases ran to their ends, and each text was written
pub record IsComplete {S : Type 0} (phases : List (List S)) (started : ℕ) (logs : List SessionLog) (write_failed : Type 0) : Type 0 where
  pub all : started ≡ length phases
  pub finished : first_unfinished logs ≡ None
  pub written : ¬ write_failed

-- no write failed, and this is the first end that is not Finished
pub record IsEndedBy (logs : List SessionLog) (end : End) (write_failed : Type 0) : Type 0 where
  pub first : first_unfinished logs ≡ Some end
  pub written : ¬ write_failed

-- no write failed, and no session ended otherwise than for want of memory
pub record IsOutOfMemory (logs : List SessionLog) (write_failed : Type 0) : Type 0 where
  pub first : (first_unfinished logs ≡ Some NoMemoryEnd) ⊎ (first_unfinished logs ≡ None)
  pub written : ¬ write_failed

-- why a run answers this status
abbrev pub IsCause : {S : Type 0} → List (List S) → ℕ → List SessionLog → Type 0 → Status → Type 0
IsCause phases started logs write_failed Ok = IsComplete phases started logs write_failed
IsCause phases started logs write_failed Usage = ⊥
IsCause phases started logs write_failed Open = ⊥
IsCause phases started logs write_failed ReadFailed = (faults : ℕ) × IsEndedBy logs (Read faults) write_failed
IsCause phases started logs write_failed Write = write_failed
IsCause phases started logs write_failed NoMemory = IsOutOfMemory logs write_failed
IsCause phases started logs write_failed TooLong = (bytes : ℕ) × IsEndedBy logs (SourceTooLong bytes) write_failed

-- the texts of some sessions, in order
abbrev pub texts_of : List SessionLog → List ℕ
texts_of logs = flat_map (λ log. flat_map (λ done. done.text) log.done) logs

-- a write failed in the last phase that started: the texts of the phases before it were taken whole, and a first part of its own
pub record IsWrittenInPart (started : ℕ) (logs : List SessionLog) (before after : Taken) : Type 0 where
  pub earlier : List SessionLog
  pub last : List SessionLog
  pub split : logs ≡ earlier ++ last
  pub earlier_phases : AllByRecursion (λ log. log.phase < started) earlier
  pub last_phase : AllByRecursion (λ log. log.phase ≡ started) last
  pub piece : List ℕ
  pub rest : List ℕ
  pub text : texts_of last ≡ piece ++ rest
  pub taken : Appends before.bytes after.bytes (texts_of earlier ++ piece)

-- what the sink took: all texts, or where a write failed a first part of them
abbrev pub IsWritten : Status → ℕ → List SessionLog → Taken → Taken → Type 0
IsWritten Write started logs before after = IsWrittenInPart started logs before after
IsWritten Ok started logs before after = Appends before.bytes after.bytes (texts_of logs)
IsWritten Usage started logs before after = Appends before.bytes after.bytes (texts_of logs)
IsWritten Open started logs before after = Appends before.bytes after.bytes (texts_of logs)
IsWritten ReadFailed started logs before after = Appends before.bytes after.bytes (texts_of logs)
IsWritten NoMemory started logs before after = Appends before.bytes after.bytes (texts_of logs)
IsWritten TooLong started logs before after = Appends before.bytes after.bytes (texts_of logs)

-- a run: the first phases ran, whole; where a session is not Finished its phase is the last that ran; and the status and what was written say so
pub record Run {S : Type 0} (told : S → Told) (limits : Limits) (phases : List (List S)) (report : Report) (before after : Taken) : Type 0 where
  pub started : ℕ
  pub among : started ≤ length phases
  pub history : History told limits (take started phases) (journal_of report) report.sessions
  pub last : (log : SessionLog) → Contains report.sessions log → log.end ≢ Finished → log.phase ≡ started
  pub cause : IsCause phases started report.sessions (HasFailed before after) report.status
  pub written : IsWritten report.status started report.sessions before after
