-- A run over an opened file is a run over its name.
use Rattle.std.proofs.Common.{ℕ, ◌<◌, ◌++◌, List, [], ◌∷◌, zero, suc, subst, take}
use Rattle.gr_base.specs.declared.numbers.Limits.{Limits}
use Rattle.gr_db.specs.declared.entry.Entry.{Entry}
use Rattle.gr_outside.specs.Outside.{IsAsTold, Taken, Told}
use Rattle.gr_cmdline.specs.declared.command.Item.{Item}
use Rattle.gr_runner.specs.History.{AllHold, History}
use Rattle.gr_runner.specs.Reported.{journal_of}
use Rattle.gr_runner.specs.Run.{IsCause, Run}
use Rattle.gr_runner.specs.Sessions.{Holds}
use Rattle.gr_runner.specs.Sources.{IsTold, ReadTo}
use Rattle.gr_runner.specs.Written.{HasFailed}
use Rattle.gr_runner.specs.declared.report.End.{End}
use Rattle.gr_runner.specs.declared.report.End.TheVariants.{Finished, Read, SourceTooLong, NoMemory}
use Rattle.gr_runner.specs.declared.report.Report.{Report}
use Rattle.gr_runner.specs.declared.report.SessionLog.{SessionLog}
use Rattle.gr_runner.specs.declared.status.Status.{Status}
use Rattle.gr_runner.specs.declared.status.Status.TheVariants.{Ok, Usage, Open, Read as ReadFailed, Write, NoMemory as OutOfMemory, SourceTooLong as TooLong}

module _ (limits : Limits) (told source : Told) (opened : IsAsTold told source) where
  -- what was read of an opened file was read of what its name tells
  ReadTo-opened : (end : End) (items : List Item) → ReadTo limits source end items → ReadTo limits told end items
  ReadTo-opened Finished items read = record {
    bytes = read.bytes;
    source = subst (λ known. IsTold known read.bytes) opened.left read.source;
    within = read.within;
    items_are = read.items_are;
  }
  ReadTo-opened (Read count) items read = record {
    given = read.given;
    rest = read.rest;
    source = subst (λ known. IsTold known (read.given ++ read.rest)) opened.left read.source;
    within = read.within;
    risen = subst (λ (began : ℕ). began < count) opened.faults read.risen;
    reached = opened.within _ _ read.reached;
    items_are = read.items_are;
  }
  ReadTo-opened (SourceTooLong given) items read = record {
    bytes = read.bytes;
    source = subst (λ known. IsTold known read.bytes) opened.left read.source;
    above = read.above;
    within = read.within;
    items_are = read.items_are;
  }
  ReadTo-opened NoMemory items read = record {
    bytes = read.bytes;
    source = subst (λ known. IsTold known read.bytes) opened.left read.source;
    items_are = read.items_are;
  }

  -- so a session's log holds of the name
  Holds-opened : (journal : List Entry) (log : SessionLog) → Holds limits source journal log → Holds limits told journal log
  Holds-opened journal log holds = record {
    items = holds.items;
    read = ReadTo-opened log.end holds.items holds.read;
    replies = holds.replies;
    climbs = holds.climbs;
  }

module _ {S : Type 0} (limits : Limits) (told_file : S → Told) (told : List ℕ → Told) (file : S) (name : List ℕ) (opened : IsAsTold (told name) (told_file file)) where
  AllHold-none : (journal : List Entry) (logs : List SessionLog) → AllHold told_file limits journal [] logs → AllHold told limits journal [] logs
  AllHold-none journal [] holds = tt
  AllHold-none journal (log ∷ logs) holds = absurd holds

  AllHold-opened : (journal : List Entry) (logs : List SessionLog) → AllHold told_file limits journal (file ∷ []) logs → AllHold told limits journal (name ∷ []) logs
  AllHold-opened journal [] holds = absurd holds
  AllHold-opened journal (log ∷ logs) holds = (
    Holds-opened limits (told name) (told_file file) opened journal log holds.0,
    AllHold-none journal logs holds.1,
  )

  History-opened : (started : ℕ) (journal : List Entry) (logs : List SessionLog) → History told_file limits (take started ((file ∷ []) ∷ [])) journal logs → History told limits (take started ((name ∷ []) ∷ [])) journal logs
  History-opened zero journal logs history = record {
    accepted = history.accepted;
    labels = history.labels;
    owners = history.owners;
    in_phases = history.in_phases;
    sessions = AllHold-none journal logs history.sessions;
  }
  History-opened (suc zero) journal logs history = record {
    accepted = history.accepted;
    labels = history.labels;
    owners = history.owners;
    in_phases = history.in_phases;
    sessions = AllHold-opened journal logs history.sessions;
  }
  History-opened (suc (suc more)) journal logs history = record {
    accepted = history.accepted;
    labels = history.labels;
    owners = history.owners;
    in_phases = history.in_phases;
    sessions = AllHold-opened journal logs history.sessions;
  }

  IsCause-opened : (started : ℕ) (logs : List SessionLog) (write_failed : Type 0) (status : Status) → IsCause ((file ∷ []) ∷ []) started logs write_failed status → IsCause ((name ∷ []) ∷ []) started logs write_failed status
  IsCause-opened started logs write_failed Ok cause = record { all = cause.all; finished = cause.finished; written = cause.written }
  IsCause-opened started logs write_failed Usage cause = cause
  IsCause-opened started logs write_failed Open cause = cause
  IsCause-opened started logs write_failed ReadFailed cause = cause
  IsCause-opened started logs write_failed Write cause = cause
  IsCause-opened started logs write_failed OutOfMemory cause = cause
  IsCause-opened started logs write_failed TooLong cause = cause

  -- a run over an opened file is a run over its name
  pub Run-opened : (report : Report) (before after : Taken) → Run told_file limits ((file ∷ []) ∷ []) report before after → Run told limits ((name ∷ []) ∷ []) report before after
  Run-opened report before after run = record {
    started = run.started;
    among = run.among;
    history = History-opened run.started (journal_of report) report.sessions run.history;
    last = run.last;
    cause = IsCause-opened run.started report.sessions (HasFailed before after) report.status run.cause;
    written = run.written;
  }
