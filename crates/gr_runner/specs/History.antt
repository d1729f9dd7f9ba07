-- The sessions of the phases that ran, and their one journal.
use Rattle.std.specs.Prelude.{ℕ, ◌≡◌, ◌+◌, ◌<◌, ◌≤◌, ◌++◌, Some, List, [], ◌∷◌, length, map, slice_get, Contains}
use Rattle.std.specs.List.{AllByRecursion, flat_map}
use Rattle.gr_base.specs.declared.numbers.Limits.{Limits}
use Rattle.gr_db.specs.Accepted.{IsAccepted}
use Rattle.gr_db.specs.declared.entry.Entry.{Entry}
use Rattle.gr_outside.specs.Outside.{Told}
use Rattle.gr_runner.specs.Sessions.{Holds}
use Rattle.gr_runner.specs.declared.report.SessionLog.{SessionLog}

-- a session's number, and that of its phase
abbrev pub label_of : SessionLog → ℕ × ℕ
label_of log = (log.number.0, log.phase)

-- the sources of one phase, numbered on from here
abbrev pub labels_in : {S : Type 0} → ℕ → ℕ → List S → List (ℕ × ℕ)
labels_in number phase [] = []
labels_in number phase (source ∷ sources) = (number, phase) ∷ labels_in (number + 1) phase sources

-- the sources of all phases, numbered on from here, each with its phase
abbrev pub labels_of : {S : Type 0} → ℕ → ℕ → List (List S) → List (ℕ × ℕ)
labels_of number phase [] = []
labels_of number phase (sources ∷ phases) =
    labels_in number phase sources ++ labels_of (number + length sources) (phase + 1) phases

-- the sources of all phases, in order
abbrev pub sources_of : {S : Type 0} → List (List S) → List S
sources_of phases = flat_map (λ sources. sources) phases

-- an entry is of one of these sessions, and of a command that has its reply
pub record IsOwned (logs : List SessionLog) (entry : Entry) : Type 0 where
  pub log : SessionLog
  pub among : Contains logs log
  pub session : entry.session.0 ≡ log.number.0
  pub command : entry.command < length log.done

-- a session stood whole before another opened: its marks, and each of its entries
pub record IsBefore (journal : List Entry) (earlier later : SessionLog) : Type 0 where
  pub marks : AllByRecursion (λ done. done.mark ≤ later.opened) earlier.done
  pub entries : (place : ℕ) (entry : Entry) → slice_get journal place ≡ Some entry → entry.session.0 ≡ earlier.number.0 → place < later.opened

-- sessions of an earlier phase stood whole before those of a later one opened
abbrev pub AreInPhases : List Entry → List SessionLog → Type 0
AreInPhases journal logs = (earlier later : SessionLog) → Contains logs earlier → Contains logs later
    → earlier.phase < later.phase → IsBefore journal earlier later

-- each source's session holds
abbrev pub AllHold : {S : Type 0} → (S → Told) → Limits → List Entry → List S → List SessionLog → Type 0
AllHold told limits journal [] [] = Unit {0}
AllHold told limits journal [] (log ∷ logs) = ⊥
AllHold told limits journal (source ∷ sources) [] = ⊥
AllHold told limits journal (source ∷ sources) (log ∷ logs) =
    Holds limits (told source) journal log × AllHold told limits journal sources logs

-- the phases that ran: each source as it told of itself when the run began
pub record History {S : Type 0} (told : S → Told) (limits : Limits) (phases : List (List S)) (journal : List Entry) (logs : List SessionLog) : Type 0 where
  pub accepted : IsAccepted limits journal
  pub labels : map label_of logs ≡ labels_of 1 1 phases
  pub owners : AllByRecursion (IsOwned logs) journal
  pub in_phases : AreInPhases journal logs
  pub sessions : AllHold told limits journal (sources_of phases) logs
