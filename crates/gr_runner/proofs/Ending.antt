-- The first end that is not Finished, and what it means for a run.
use Rattle.std.proofs.Common.{◌≡◌, ℕ, Option, Some, None, List, [], ◌∷◌, ◌++◌, inl, refl, ap, ◌∙◌}
use Rattle.std.specs.Io.KnownBytes.{Appends}
use Rattle.std.specs.List.{AllByRecursion}
use Rattle.gr_outside.specs.Outside.{Taken}
use Rattle.gr_runner.specs.Course.{status_of_end}
use Rattle.gr_runner.specs.Run.{IsCause, IsWritten, end_or, first_unfinished, texts_of}
use Rattle.gr_runner.specs.declared.report.End.{End}
use Rattle.gr_runner.specs.declared.report.End.TheVariants.{Finished, Read, SourceTooLong, NoMemory as NoMemoryEnd}
use Rattle.gr_runner.specs.declared.report.SessionLog.{SessionLog}
use Rattle.gr_runner.specs.declared.status.Status.TheVariants.{Ok}

end_or-none : (end : End) (others : Option End) → end_or end others ≡ None → (end ≡ Finished) × (others ≡ None)
end_or-none Finished others none = (refl, none)
end_or-none (Read faults) others none = cc
end_or-none (SourceTooLong bytes) others none = cc
end_or-none NoMemoryEnd others none = cc

end_or-unfinished : (end : End) (others : Option End) → (others ≡ Some Finished → ⊥) → end_or end others ≡ Some Finished → ⊥
end_or-unfinished Finished others not others_is = not others_is
end_or-unfinished (Read faults) others not others_is = cc
end_or-unfinished (SourceTooLong bytes) others not others_is = cc
end_or-unfinished NoMemoryEnd others not others_is = cc

first_unfinished-not : (logs : List SessionLog) → first_unfinished logs ≡ Some Finished → ⊥
first_unfinished-not [] is = cc
first_unfinished-not (log ∷ logs) is = end_or-unfinished log.end (first_unfinished logs) (first_unfinished-not logs) is

pub all_finished : (logs : List SessionLog) → first_unfinished logs ≡ None → AllByRecursion (λ log. log.end ≡ Finished) logs
all_finished [] none = tt
all_finished (log ∷ logs) none = let both = end_or-none log.end (first_unfinished logs) none in (both.0, all_finished logs both.1)

pub first_unfinished-append : (logs more : List SessionLog) → first_unfinished logs ≡ None → first_unfinished (logs ++ more) ≡ first_unfinished more
first_unfinished-append [] more none = refl
first_unfinished-append (log ∷ logs) more none =
    let both = end_or-none log.end (first_unfinished logs) none in
    ap (λ end. end_or end (first_unfinished (logs ++ more))) both.0 ∙ first_unfinished-append logs more both.1

status_of_end-ok : (end : Option End) → (end ≡ Some Finished → ⊥) → Ok ≡ status_of_end end → end ≡ None
status_of_end-ok None not is = refl
status_of_end-ok (Some Finished) not is = absurd (not refl)
status_of_end-ok (Some (Read faults)) not is = cc
status_of_end-ok (Some (SourceTooLong bytes)) not is = cc
status_of_end-ok (Some NoMemoryEnd) not is = cc

-- where the status is Ok all are finished
pub finished_where_ok : (logs : List SessionLog) → Ok ≡ status_of_end (first_unfinished logs) → first_unfinished logs ≡ None
finished_where_ok logs is = status_of_end-ok (first_unfinished logs) (first_unfinished-not logs) is

-- why a run that was written answers as it ended
pub cause_of_end : {S : Type 0} (phases : List (List S)) (started : ℕ) (logs : List SessionLog) (write_failed : Type 0) (end : Option End) → first_unfinished logs ≡ end → ¬ write_failed → (status_of_end end ≡ Ok → ⊥) → IsCause phases started logs write_failed (status_of_end end)
cause_of_end phases started logs write_failed None first written not_ok = absurd (not_ok refl)
cause_of_end phases started logs write_failed (Some Finished) first written not_ok = absurd (not_ok refl)
cause_of_end phases started logs write_failed (Some (Read faults)) first written not_ok = (faults, record { first = first; written = written })
cause_of_end phases started logs write_failed (Some (SourceTooLong bytes)) first written not_ok = (bytes, record { first = first; written = written })
cause_of_end phases started logs write_failed (Some NoMemoryEnd) first written not_ok = record { first = inl first; written = written }

pub written_of_end : (end : Option End) (started : ℕ) (logs : List SessionLog) (before after : Taken) → Appends before.bytes after.bytes (texts_of logs) → IsWritten (status_of_end end) started logs before after
written_of_end None started logs before after taken = taken
written_of_end (Some Finished) started logs before after taken = taken
written_of_end (Some (Read faults)) started logs before after taken = taken
written_of_end (Some (SourceTooLong bytes)) started logs before after taken = taken
written_of_end (Some NoMemoryEnd) started logs before after taken = taken
