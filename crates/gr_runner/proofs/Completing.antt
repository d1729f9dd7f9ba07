-- Where nothing outside can fail, a run that is not Ok found no memory.
use Rattle.std.proofs.Common.{◌≡◌, ℕ, ◌+◌, ◌⊎◌, Option, Some, None, IfSome, List, [], ◌∷◌, length, take, zero, suc, inl, inr, refl, sym, subst, ap, ◌∙◌, arith, true}
use Rattle.std.proofs.lemmas.List.{take_all}
use Rattle.std.specs.List.{AllByRecursion}
use Rattle.gr_base.specs.declared.numbers.Limits.{Limits}
use Rattle.gr_db.specs.declared.entry.Entry.{Entry}
use Rattle.gr_outside.specs.Outside.{FilesTold, Taken, Told, as_opened}
use Rattle.gr_cmdline.specs.Commands.{commands}
use Rattle.gr_cmdline.specs.declared.command.Item.{Item}
use Rattle.gr_session.specs.declared.session.Done.{Done}
use Rattle.gr_runner.specs.Complete.{AllReply, AreAnswered, IsAnswered, IsCompleteMain, IsCompleteRun, IsSteady}
use Rattle.gr_runner.proofs.Lists.{all_append, all_at, all_split}
use Rattle.gr_runner.specs.History.{AllHold, sources_of}
use Rattle.gr_runner.specs.Main.{IsNotOpened, IsRun}
use Rattle.gr_runner.specs.Reported.{journal_of}
use Rattle.gr_runner.specs.Run.{IsCause, Run, first_unfinished}
use Rattle.gr_runner.specs.Sessions.{Holds, Replies}
use Rattle.gr_runner.specs.Sources.{IsTold, ReadTo}
use Rattle.gr_runner.specs.Written.{HasFailed}
use Rattle.gr_runner.specs.declared.report.End.{End}
use Rattle.gr_runner.specs.declared.report.End.TheVariants.{Finished, Read, SourceTooLong, NoMemory as NoMemoryEnd}
use Rattle.gr_runner.specs.declared.report.Report.{Report}
use Rattle.gr_runner.specs.declared.report.SessionLog.{SessionLog}
use Rattle.gr_runner.specs.declared.status.Status.{Status}
use Rattle.gr_runner.specs.declared.status.Status.TheVariants.{Ok, Usage, Open, Read as ReadFailed, Write, NoMemory, SourceTooLong as TooLong}

module _ (limits : Limits) (told : Told) (steady : IsSteady limits.source told) where
  -- the bytes that are said to be told are those of the steady source
  told_bytes : (bytes : List ℕ) → IsTold told.left bytes → steady.bytes ≡ bytes
  told_bytes bytes is = let P : Option (List ℕ) → Type 0 = λ known. IsTold known bytes in subst P steady.source is

  -- a steady source is read to its end, or no memory is found
  pub ends_well : (end : End) (items : List Item) → ReadTo limits told end items → (end ≡ Finished) ⊎ (end ≡ NoMemoryEnd)
  ends_well Finished items read = inl refl
  ends_well (Read count) items read = let most = steady.unfailing (length read.given) count read.reached in absurd (omega (arith, most, read.risen))
  ends_well (SourceTooLong given) items read =
      let same = ap length (told_bytes read.bytes read.source) in
      absurd (omega (arith, same, read.within, read.above, steady.within))
  ends_well NoMemoryEnd items read = inr refl

-- where a session is finished each item has its reply
pub AllReply-finished : (limits : Limits) (journal : List Entry) (session command : ℕ) (items : List Item) (dones : List Done) → Replies limits journal session command items dones Finished → AllReply limits journal session command items dones
AllReply-finished limits journal session command [] [] replies = tt
AllReply-finished limits journal session command (item ∷ items) [] replies = cc
AllReply-finished limits journal session command [] (done ∷ more) replies = absurd replies
AllReply-finished limits journal session command (item ∷ items) (done ∷ more) (inl reply) =
    (reply.0, AllReply-finished limits journal session (command + 1) items more reply.1)
AllReply-finished limits journal session command (item ∷ items) (done ∷ more) (inr starved) = let not : Finished ≡ NoMemoryEnd = starved.2 in cc

module _ {S : Type 0} (told : S → Told) (limits : Limits) where
  abbrev AreSteady : List S → Type 0
  AreSteady sources = AllByRecursion (λ source. IsSteady limits.source (told source)) sources

  -- each end is Finished, or the first other one found no memory
  first_end : (journal : List Entry) (sources : List S) (logs : List SessionLog) → AreSteady sources → AllHold told limits journal sources logs → (first_unfinished logs ≡ None) ⊎ (first_unfinished logs ≡ Some NoMemoryEnd)
  first_end journal [] [] steady hold = inl refl
  first_end journal [] (log ∷ logs) steady hold = absurd hold
  first_end journal (source ∷ sources) [] steady hold = absurd hold
  first_end journal (source ∷ sources) (log ∷ logs) steady hold =
      elim (ends_well limits (told source) steady.0 log.end hold.0.items hold.0.read) [
        | inl finished ↦ rw finished (first_end journal sources logs steady.1 hold.1)
        | inr starved ↦ inr (rw starved refl)
      ]

  answered_one : (journal : List Entry) (source : S) (log : SessionLog) → IsSteady limits.source (told source) → Holds limits (told source) journal log → log.end ≡ Finished → IsAnswered limits (told source) journal log
  answered_one journal source log steady holds finished =
      let read = subst (λ end. ReadTo limits (told source) end holds.items) finished holds.read in
      let replies = subst (λ end. Replies limits journal log.number.0 0 holds.items log.done end) finished holds.replies in
      let same = told_bytes limits (told source) steady read.bytes read.source in
      let items_are : holds.items ≡ commands limits.line steady.bytes true = read.items_are ∙ ap (λ bytes. commands limits.line bytes true) (sym same) in
      record {
        bytes = steady.bytes;
        source = steady.source;
        replies = subst (λ items. AllReply limits journal log.number.0 0 items log.done) items_are (AllReply-finished limits journal log.number.0 0 holds.items log.done replies);
      }

  answered_all : (journal : List Entry) (sources : List S) (logs : List SessionLog) → AreSteady sources → AllHold told limits journal sources logs → first_unfinished logs ≡ None → AreAnswered told limits journal sources logs
  answered_all journal [] [] steady hold finished = tt
  answered_all journal [] (log ∷ logs) steady hold finished = absurd hold
  answered_all journal (source ∷ sources) [] steady hold finished = absurd hold
  answered_all journal (source ∷ sources) (log ∷ logs) steady hold finished =
      elim (ends_well limits (told source) steady.0 log.end hold.0.items hold.0.read) [
        | inl here ↦ (answered_one journal source log steady.0 hold.0 here, answered_all journal sources logs steady.1 hold.1 (rw here at finished))
        | inr starved ↦ absurd (some_none (rw starved at finished))
      ]
    where
      some_none : Some NoMemoryEnd ≡ None → ⊥
      some_none same = cc

  steady_first : (started : ℕ) (phases : List (List S)) → AreSteady (sources_of phases) → AreSteady (sources_of (take started phases))
  steady_first zero phases steady = tt
  steady_first (suc started) [] steady = tt
  steady_first (suc started) (sources ∷ phases) steady =
      let parts = all_split (λ source. IsSteady limits.source (told source)) sources (sources_of phases) steady in
      all_append (λ source. IsSteady limits.source (told source)) sources (sources_of (take started phases)) parts.0 (steady_first started phases parts.1)

  status_is : (phases : List (List S)) (started : ℕ) (logs : List SessionLog) (write_failed : Type 0) (status : Status) → (first_unfinished logs ≡ None) ⊎ (first_unfinished logs ≡ Some NoMemoryEnd) → ¬ write_failed → IsCause phases started logs write_failed status → (status ≡ Ok) ⊎ (status ≡ NoMemory)
  status_is phases started logs write_failed Ok ends written cause = inl refl
  status_is phases started logs write_failed Usage ends written cause = absurd cause
  status_is phases started logs write_failed Open ends written cause = absurd cause
  status_is phases started logs write_failed ReadFailed (inl none) written cause = let first = cause.1.first in cc
  status_is phases started logs write_failed ReadFailed (inr starved) written cause = let first = cause.1.first in cc
  status_is phases started logs write_failed Write ends written cause = absurd (written cause)
  status_is phases started logs write_failed NoMemory ends written cause = inr refl
  status_is phases started logs write_failed TooLong (inl none) written cause = let first = cause.1.first in cc
  status_is phases started logs write_failed TooLong (inr starved) written cause = let first = cause.1.first in cc

  answered_where : (phases : List (List S)) (started : ℕ) (journal : List Entry) (logs : List SessionLog) (write_failed : Type 0) (status : Status) → AreSteady (sources_of phases) → AllHold told limits journal (sources_of (take started phases)) logs → IsCause phases started logs write_failed status → status ≡ Ok → AreAnswered told limits journal (sources_of phases) logs
  answered_where phases started journal logs write_failed status steady hold cause is =
      let done = subst (IsCause phases started logs write_failed) is cause in
      let all : take started phases ≡ phases = take_all started phases (omega (arith, done.all)) in
      answered_all journal (sources_of phases) logs steady (subst (λ some. AllHold told limits journal (sources_of some) logs) all hold) done.finished

  -- each run is complete
  pub complete_run : (phases : List (List S)) (report : Report) (before after : Taken) → Run told limits phases report before after → IsCompleteRun told limits phases report before after
  complete_run phases report before after run steady written =
      let hold = run.history.sessions in
      record {
        status = status_is phases run.started report.sessions (HasFailed before after) report.status (first_end (journal_of report) (sources_of (take run.started phases)) report.sessions (steady_first run.started phases steady) hold) written run.cause;
        answered = answered_where phases run.started (journal_of report) report.sessions (HasFailed before after) report.status steady hold run.cause;
      }

-- what the words name was not opened, or is a run, which is complete
pub complete_main : {K : Type 0} (files files_after : FilesTold) (limits : Limits) (named : Option (List (List (List ℕ)))) (report : Report) (sink sink_after : K) (before after : Taken)
    → IfSome named (λ phases. IsNotOpened files files_after phases report sink sink_after ⊎ IsRun files files_after limits phases report before after)
    → IfSome named (IsCompleteMain files limits report before after)
complete_main files files_after limits None report sink sink_after before after ran = tt
complete_main files files_after limits (Some phases) report sink sink_after before after (inl not_opened) =
    λ can_open. absurd (all_at (λ name. ¬ (files.named name).can_fail) (sources_of phases) not_opened.name can_open not_opened.named not_opened.failing)
complete_main files files_after limits (Some phases) report sink sink_after before after (inr ran) =
    λ can_open. complete_run (λ name. as_opened (files.named name)) limits phases report before after ran.run
