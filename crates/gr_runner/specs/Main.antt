-- What the top call does with its words.
use Rattle.std.specs.Prelude.{ℕ, ◌≡◌, ◌==◌, ◌<◌, if◌then◌else◌, Option, Some, None, List, [], ◌∷◌, Contains}
use Rattle.gr_base.specs.declared.numbers.Limits.{Limits}
use Rattle.gr_outside.specs.Outside.{FilesTold, Taken, as_opened}
use Rattle.gr_runner.specs.History.{sources_of}
use Rattle.gr_runner.specs.Reported.{journal_of}
use Rattle.gr_runner.specs.Run.{Run}
use Rattle.gr_runner.specs.declared.report.Report.{Report}
use Rattle.gr_runner.specs.declared.status.Status.TheVariants.{Open, Usage}

-- the phases of files that words name: one file, whose name does not begin with `-`
abbrev pub phases_named : List (List ℕ) → Option (List (List (List ℕ)))
phases_named [] = None
phases_named ([] ∷ []) = Some (([] ∷ []) ∷ [])
phases_named ((c ∷ cs) ∷ []) = if c == 45 then None else Some (((c ∷ cs) ∷ []) ∷ [])
phases_named (first ∷ second ∷ others) = None

-- nothing ran: no session, and no entry
pub record IsNothingRun (report : Report) : Type 0 where
  pub sessions : report.sessions ≡ []
  pub journal : journal_of report ≡ []

-- the words are refused: nothing was opened, run or written
pub record IsUsage {F K : Type 0} (report : Report) (files files_after : F) (sink sink_after : K) : Type 0 where
  pub status : report.status ≡ Usage
  pub nothing : IsNothingRun report
  pub files_same : files_after ≡ files
  pub sink_same : sink_after ≡ sink

-- an open of a name that can fail has failed: nothing was run or written
pub record IsNotOpened {K : Type 0} (files files_after : FilesTold) (phases : List (List (List ℕ))) (report : Report) (sink sink_after : K) : Type 0 where
  pub status : report.status ≡ Open
  pub nothing : IsNothingRun report
  pub risen : files.faults < files_after.faults
  pub name : List ℕ
  pub named : Contains (sources_of phases) name
  pub failing : (files.named name).can_fail
  pub sink_same : sink_after ≡ sink

-- each file was opened, and they were run as the names tell of them
pub record IsRun (files files_after : FilesTold) (limits : Limits) (phases : List (List (List ℕ))) (report : Report) (before after : Taken) : Type 0 where
  pub opened : files_after.faults ≡ files.faults
  pub run : Run (λ name. as_opened (files.named name)) limits phases report before after
