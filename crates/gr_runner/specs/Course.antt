-- How a run stands between two sessions, and what the sessions of one phase add.
use Rattle.std.specs.Prelude.{ℕ, ◌≡◌, ◌+◌, ◌≤◌, ◌⊎◌, ◌++◌, Option, Some, None, List, [], ◌∷◌, length, Contains}
use Rattle.std.specs.List.{AllByRecursion}
use Rattle.gr_base.specs.declared.numbers.Limits.{Limits}
use Rattle.gr_db.specs.declared.entry.Entry.{Entry}
use Rattle.gr_outside.specs.Outside.{Taken, Told}
use Rattle.gr_runner.specs.History.{History}
use Rattle.gr_runner.specs.Run.{first_unfinished, texts_of}
use Rattle.gr_runner.specs.Written.{IsCutOff, IsWrittenWhole}
use Rattle.gr_runner.specs.declared.report.End.{End}
use Rattle.gr_runner.specs.declared.report.End.TheVariants.{Finished, Read, SourceTooLong, NoMemory as NoMemoryEnd}
use Rattle.gr_runner.specs.declared.report.SessionLog.{SessionLog}
use Rattle.gr_runner.specs.declared.status.Status.{Status}
use Rattle.gr_runner.specs.declared.status.Status.TheVariants.{Ok, Read as ReadFailed, Write, NoMemory, SourceTooLong as TooLong}

-- a session is among so many sessions and phases, and its marks are within so many entries
pub record IsAmong (sessions phases entries : ℕ) (log : SessionLog) : Type 0 where
  pub number : log.number.0 ≤ sessions
  pub phase : log.phase ≤ phases
  pub marks : AllByRecursion (λ done. done.mark ≤ entries) log.done

-- where a run stands: what its phases did so far, and each session is among them
pub record Course {S : Type 0} (told : S → Told) (limits : Limits) (phases : List (List S)) (journal : List Entry) (logs : List SessionLog) : Type 0 where
  pub history : History told limits phases journal logs
  pub sessions : (log : SessionLog) → Contains logs log → IsAmong (length logs) (length phases) (length journal) log

-- what the sessions of a phase do: each source has one more log, and whatever phases came before go on by this one
pub record RunsPhase {S : Type 0} (told : S → Told) (limits : Limits) (phase : ℕ) (sources : List S) (old new : List Entry) (before after : List SessionLog) : Type 0 where
  pub added : List SessionLog
  pub logs : after ≡ before ++ added
  pub count : length added ≡ length sources
  pub phase_is : AllByRecursion (λ log. log.phase ≡ phase) added
  pub goes_on : (phases : List (List S)) → phase ≡ length phases + 1 → Course told limits phases old before
      → Course told limits (phases ++ sources ∷ []) new after

-- the status of a run whose first end that is not Finished is this
abbrev pub status_of_end : Option End → Status
status_of_end None = Ok
status_of_end (Some Finished) = Ok
status_of_end (Some (Read faults)) = ReadFailed
status_of_end (Some (SourceTooLong bytes)) = TooLong
status_of_end (Some NoMemoryEnd) = NoMemory

-- the texts of a phase were written whole, and its status is that of its ends; or a write failed
abbrev pub IsEnding : Taken → Taken → List SessionLog → Status → Type 0
IsEnding before after added status =
    (IsWrittenWhole before after (texts_of added) × (status ≡ status_of_end (first_unfinished added)))
    ⊎ (IsCutOff before after (texts_of added) × (status ≡ Write))

-- a phase ran, and its texts were written, whole or in part
pub record EndsPhase {S : Type 0} (told : S → Told) (limits : Limits) (phase : ℕ) (sources : List S) (old new : List Entry) (logs logs_after : List SessionLog) (before after : Taken) (status : Status) : Type 0 where
  pub runs : RunsPhase told limits phase sources old new logs logs_after
  pub ending : IsEnding before after runs.added status
