-- The sources of one phase, served one after the other.
use Rattle.std.proofs.Common.{◌≡◌, ℕ, ◌+◌, ◌-◌, ◌^◌, ◌≤◌, ◌<◌, List, [], ◌∷◌, ◌++◌, length, sym, ap, ◌∙◌, arith, append_assoc}
use Rattle.std.proofs.lemmas.List.{length_push}
use Rattle.std.specs.List.{AllByRecursion}
use Rattle.gr_base.specs.declared.numbers.Limits.{Limits}
use Rattle.gr_db.specs.declared.entry.Entry.{Entry}
use Rattle.gr_outside.specs.Outside.{Told}
use Rattle.gr_runner.specs.Course.{RunsPhase}
use Rattle.gr_runner.specs.Served.{IsOfSession, Serves}
use Rattle.gr_runner.specs.declared.report.SessionLog.{SessionLog}
use Rattle.gr_runner.proofs.Coursing.{RunsPhase-begun, RunsPhase-next}
use Rattle.gr_runner.proofs.Lists.{all_append, all_weaker}

-- each entry is of one of the first sessions
abbrev pub AreOfFirst : ℕ → List Entry → Type 0
AreOfFirst sessions journal = AllByRecursion (λ entry. entry.session.0 ≤ sessions) journal

-- so a later session is none of theirs
pub below_next : (sessions count : ℕ) (journal : List Entry) → count ≡ sessions → AreOfFirst sessions journal → AllByRecursion (λ entry. entry.session.0 < count + 1) journal
below_next sessions count journal same first = all_weaker (λ entry. entry.session.0 ≤ sessions) (λ entry. entry.session.0 < count + 1) journal (λ entry among. omega (arith, among, same)) first

-- some sources of a phase are served, and there is room for the logs of the rest
pub record IsServing {S : Type 0} (told : S → Told) (limits : Limits) (phase : ℕ) (sources seen rest : List S) (old now : List Entry) (before logs : List SessionLog) (room_before room : ℕ) : Type 0 where
  pub all : sources ≡ seen ++ rest
  pub runs : RunsPhase told limits phase seen old now before logs
  pub entries : AreOfFirst (length logs) now
  pub countable : AllByRecursion (λ source. (told source).faults < 2 ^ 64 - 1) rest
  pub numbers : length logs + length rest < 2 ^ 31
  pub places : length logs + length rest ≤ room
  pub grown : room_before ≤ room

module _ {S : Type 0} (told : S → Told) (limits : Limits) (phase : ℕ) (sources : List S) where
  pub begun : (rest : List S) (journal : List Entry) (logs : List SessionLog) (room : ℕ) → rest ≡ sources → AreOfFirst (length logs) journal → AllByRecursion (λ source. (told source).faults < 2 ^ 64 - 1) sources → length logs + length sources < 2 ^ 31 → length logs + length sources ≤ room → IsServing told limits phase sources [] rest journal journal logs logs room room
  begun rest journal logs room same entries countable numbers places = record {
    all = sym same;
    runs = RunsPhase-begun told limits phase journal logs;
    entries = entries;
    countable = rw same countable;
    numbers = rw same numbers;
    places = rw same places;
    grown = omega arith;
  }

  pub served : (seen rest rest_after : List S) (source : S) (old now new : List Entry) (before logs logs_after : List SessionLog) (log : SessionLog) (number room_before room room_after : ℕ) → rest ≡ source ∷ rest_after → logs_after ≡ logs ++ log ∷ [] → number ≡ length logs + 1 → room ≤ room_after → IsServing told limits phase sources seen rest old now before logs room_before room → Serves limits (told source) number phase now new log → IsServing told limits phase sources (seen ++ source ∷ []) rest_after old new before logs_after room_before room_after
  served seen rest rest_after source old now new before logs logs_after log number room_before room room_after rest_is logs_are number_is roomier serving serves =
      let count : length logs_after ≡ length logs + 1 = ap length logs_are ∙ length_push logs log in
      let left : length rest ≡ length rest_after + 1 = ap length rest_is ∙ omega arith in
      let countable = rw rest_is at serving.countable in
      let earlier = all_weaker (λ entry. entry.session.0 ≤ length logs) (λ entry. entry.session.0 ≤ length logs_after) now (λ entry first. omega (arith, first, count)) serving.entries in
      let later = all_weaker (IsOfSession number (length log.done)) (λ entry. entry.session.0 ≤ length logs_after) serves.added (λ entry of_session. omega (arith, of_session.session, number_is, count)) serves.owned in
      record {
        all = serving.all ∙ ap (λ other. seen ++ other) rest_is ∙ sym (append_assoc seen (source ∷ []) rest_after);
        runs = rw logs_are (RunsPhase-next told limits phase number seen source old now new before logs log number_is serving.runs serves);
        entries = rw serves.grows (all_append (λ entry. entry.session.0 ≤ length logs_after) now serves.added earlier later);
        countable = countable.1;
        numbers = omega (arith, serving.numbers, count, left);
        places = omega (arith, serving.places, count, left, roomier);
        grown = omega (arith, serving.grown, roomier);
      }
