-- What is promised where nothing outside can fail.
use Rattle.std.specs.Prelude.{ℕ, ◌≡◌, ◌+◌, ◌≤◌, ◌⊎◌, Some, List, [], ◌∷◌, length, true}
use Rattle.std.specs.List.{AllByRecursion}
use Rattle.gr_base.specs.declared.numbers.Limits.{Limits}
use Rattle.gr_db.specs.declared.entry.Entry.{Entry}
use Rattle.gr_outside.specs.Outside.{FilesTold, Taken, Told, as_opened}
use Rattle.gr_cmdline.specs.Commands.{commands}
use Rattle.gr_session.specs.Reply.{Reply}
use Rattle.gr_cmdline.specs.declared.command.Item.{Item}
use Rattle.gr_session.specs.declared.session.Done.{Done}
use Rattle.gr_runner.specs.History.{sources_of}
use Rattle.gr_runner.specs.Reported.{journal_of}
use Rattle.gr_runner.specs.Written.{HasFailed}
use Rattle.gr_runner.specs.declared.report.Report.{Report}
use Rattle.gr_runner.specs.declared.report.SessionLog.{SessionLog}
use Rattle.gr_runner.specs.declared.status.Status.TheVariants.{Ok, NoMemory}

-- a source that told its bytes, which are within the limit, and that can reach no count of faults above the one it began with
pub record IsSteady (limit : ℕ) (told : Told) : Type 0 where
  pub bytes : List ℕ
  pub source : told.left ≡ Some bytes
  pub within : length bytes ≤ limit
  pub unfailing : (given count : ℕ) → told.reaches given count → count ≤ told.faults

-- each item has its reply, and no other reply stands
abbrev pub AllReply : Limits → List Entry → ℕ → ℕ → List Item → List Done → Type 0
AllReply limits journal session command [] [] = Unit {0}
AllReply limits journal session command [] (done ∷ more) = ⊥
AllReply limits journal session command (item ∷ items) [] = ⊥
AllReply limits journal session command (item ∷ items) (done ∷ more) =
    Reply limits journal session command item done × AllReply limits journal session (command + 1) items more

-- each command of a source has its reply
pub record IsAnswered (limits : Limits) (told : Told) (journal : List Entry) (log : SessionLog) : Type 0 where
  pub bytes : List ℕ
  pub source : told.left ≡ Some bytes
  pub replies : AllReply limits journal log.number.0 0 (commands limits.line bytes true) log.done

-- each command of each source has its reply
abbrev pub AreAnswered : {S : Type 0} → (S → Told) → Limits → List Entry → List S → List SessionLog → Type 0
AreAnswered told limits journal [] [] = Unit {0}
AreAnswered told limits journal [] (log ∷ logs) = ⊥
AreAnswered told limits journal (source ∷ sources) [] = ⊥
AreAnswered told limits journal (source ∷ sources) (log ∷ logs) =
    IsAnswered limits (told source) journal log × AreAnswered told limits journal sources logs

-- where no source and no write can fail, a run is Ok or found no memory; and where it is Ok, each command of each source has its reply, none of them want of memory
pub record Completes {S : Type 0} (told : S → Told) (limits : Limits) (phases : List (List S)) (report : Report) : Type 0 where
  pub status : (report.status ≡ Ok) ⊎ (report.status ≡ NoMemory)
  pub answered : report.status ≡ Ok → AreAnswered told limits (journal_of report) (sources_of phases) report.sessions

-- the same, under its premises
abbrev pub IsCompleteRun : {S : Type 0} → (S → Told) → Limits → List (List S) → Report → Taken → Taken → Type 0
IsCompleteRun told limits phases report before after =
    AllByRecursion (λ source. IsSteady limits.source (told source)) (sources_of phases)
    → ¬ (HasFailed before after) → Completes told limits phases report

-- where moreover no open of a file that the words name can fail, the same holds of their run
abbrev pub IsCompleteMain : FilesTold → Limits → Report → Taken → Taken → List (List (List ℕ)) → Type 0
IsCompleteMain files limits report before after phases =
    AllByRecursion (λ name. ¬ (files.named name).can_fail) (sources_of phases)
    → IsCompleteRun (λ name. as_opened (files.named name)) limits phases report before after
