-- How a run goes on by one session, and by one phase.
use Rattle.std.proofs.Common.{◌≡◌, ℕ, suc, ◌+◌, ◌≤◌, ◌<◌, ◌⊎◌, List, [], ◌∷◌, ◌++◌, length, inl, inr, refl, sym, ap, ◌∙◌, arith, add-zero, append-nil, append_assoc, length-append}
use Rattle.std.proofs.lemmas.Grind.{flat_map-append}
use Rattle.std.proofs.lemmas.List.{length_push, map-append}
use Rattle.std.proofs.lemmas.List.Elements.{Contains-push_cases}
use Rattle.std.specs.List.{AllByRecursion, Contains}
use Rattle.gr_base.specs.declared.numbers.Limits.{Limits}
use Rattle.gr_db.specs.declared.entry.Entry.{Entry}
use Rattle.gr_outside.specs.Outside.{Told}
use Rattle.gr_runner.specs.Course.{Course, IsAmong, RunsPhase}
use Rattle.gr_runner.specs.History.{IsBefore, label_of, labels_in, labels_of, sources_of}
use Rattle.gr_runner.specs.Served.{IsOfSession, Serves}
use Rattle.gr_runner.specs.declared.report.SessionLog.{SessionLog}
use Rattle.gr_runner.proofs.Growing.{AllHold-length, AllHold-more, Climbs-marks, IsBefore-more, IsBefore-opened, owners-more}
use Rattle.gr_runner.proofs.Lists.{all_append, all_of, all_weaker}

-- ---- sources and their labels

pub sources_of-begun : {S : Type 0} (phases : List (List S)) → sources_of (phases ++ [] ∷ []) ≡ sources_of phases
sources_of-begun {S = S} phases = flat_map-append (λ (sources : List S). sources) phases ([] ∷ []) ∙ append-nil (sources_of phases)

pub sources_of-more : {S : Type 0} (phases : List (List S)) (sources : List S) → sources_of (phases ++ sources ∷ []) ≡ sources_of phases ++ sources
sources_of-more {S = S} phases sources = flat_map-append (λ (sources : List S). sources) phases (sources ∷ []) ∙ ap (λ rest. sources_of phases ++ rest) (append-nil sources)

sources_of-next : {S : Type 0} (phases : List (List S)) (sources : List S) (source : S) → sources_of (phases ++ (sources ++ source ∷ []) ∷ []) ≡ sources_of (phases ++ sources ∷ []) ++ source ∷ []
sources_of-next phases sources source =
    sources_of-more phases (sources ++ source ∷ []) ∙ sym (append_assoc (sources_of phases) sources (source ∷ [])) ∙ ap (λ front. front ++ source ∷ []) (sym (sources_of-more phases sources))

labels_in-next : {S : Type 0} (number phase : ℕ) (sources : List S) (source : S) → labels_in number phase (sources ++ source ∷ []) ≡ labels_in number phase sources ++ (number + length sources, phase) ∷ []
labels_in-next number phase [] source = ap (λ at. (at, phase) ∷ []) (sym (add-zero number))
labels_in-next number phase (first ∷ sources) source =
    let further : number + 1 + length sources ≡ number + suc (length sources) = omega arith in
    ap (λ rest. (number, phase) ∷ rest) (labels_in-next (number + 1) phase sources source) ∙ ap (λ at. (number, phase) ∷ (labels_in (number + 1) phase sources ++ (at, phase) ∷ [])) further

labels_of-begun : {S : Type 0} (number phase : ℕ) (phases : List (List S)) → labels_of number phase (phases ++ [] ∷ []) ≡ labels_of number phase phases
labels_of-begun number phase [] = refl
labels_of-begun number phase (sources ∷ phases) = ap (λ rest. labels_in number phase sources ++ rest) (labels_of-begun (number + length sources) (phase + 1) phases)

labels_of-next : {S : Type 0} (number phase : ℕ) (phases : List (List S)) (sources : List S) (source : S) → labels_of number phase (phases ++ (sources ++ source ∷ []) ∷ []) ≡ labels_of number phase (phases ++ sources ∷ []) ++ (number + length (sources_of (phases ++ sources ∷ [])), phase + length phases) ∷ []
labels_of-next number phase [] sources source = simp (append-nil, add-zero) (labels_in-next number phase sources source)
labels_of-next number phase (first ∷ phases) sources source =
    let all = phases ++ sources ∷ [] in
    let front = labels_in number phase first in
    let later = labels_of (number + length first) (phase + 1) all in
    let number_is : number + length first + length (sources_of all) ≡ number + length (first ++ sources_of all) = omega (arith, length-append first (sources_of all)) in
    let phase_is : phase + 1 + length phases ≡ phase + suc (length phases) = omega arith in
    ap (λ rest. front ++ rest) (labels_of-next (number + length first) (phase + 1) phases sources source)
    ∙ sym (append_assoc front later ((number + length first + length (sources_of all), phase + 1 + length phases) ∷ []))
    ∙ ap (λ at. (front ++ later) ++ (at, phase + 1 + length phases) ∷ []) number_is
    ∙ ap (λ at. (front ++ later) ++ (number + length (first ++ sources_of all), at) ∷ []) phase_is

-- ---- one session more

IsAmong-more : (sessions phases entries more_sessions more_phases more_entries : ℕ) (log : SessionLog) → sessions ≤ more_sessions → phases ≤ more_phases → entries ≤ more_entries → IsAmong sessions phases entries log → IsAmong more_sessions more_phases more_entries log
IsAmong-more sessions phases entries more_sessions more_phases more_entries log in_sessions in_phases in_entries among = record {
  number = omega (arith, among.number, in_sessions);
  phase = omega (arith, among.phase, in_phases);
  marks = all_weaker (λ reply. reply.mark ≤ entries) (λ reply. reply.mark ≤ more_entries) log.done (λ reply within. omega (arith, within, in_entries)) among.marks;
}

module _ {S : Type 0} (told : S → Told) (limits : Limits) where
  -- before the first phase
  pub Course-none : Course told limits [] [] []
  Course-none = record {
    history = record {
      accepted = λ place entry is. cc;
      labels = refl;
      owners = tt;
      in_phases = λ earlier later among _ _. absurd (omega (arith, among.1));
      sessions = tt;
    };
    sessions = λ log among. absurd (omega (arith, among.1));
  }

  -- a phase begins
  pub Course-begun : (phases : List (List S)) (journal : List Entry) (logs : List SessionLog) → Course told limits phases journal logs → Course told limits (phases ++ [] ∷ []) journal logs
  Course-begun phases journal logs course = record {
    history = record {
      accepted = course.history.accepted;
      labels = course.history.labels ∙ sym (labels_of-begun 1 1 phases);
      owners = course.history.owners;
      in_phases = course.history.in_phases;
      sessions = rw (sources_of-begun phases) course.history.sessions;
    };
    sessions = λ log among. IsAmong-more (length logs) (length phases) (length journal) (length logs) (length (phases ++ [] ∷ [])) (length journal) log (omega arith) (omega (arith, length_push phases [])) (omega arith) (course.sessions log among);
  }

  module _ (phases : List (List S)) (sources : List S) (source : S) (old added : List Entry) (logs : List SessionLog) (log : SessionLog) (number phase : ℕ) (number_is : number ≡ length logs + 1) (phase_is : phase ≡ length phases + 1) (course : Course told limits (phases ++ sources ∷ []) old logs) (serves : Serves limits (told source) number phase old (old ++ added) log) (owned : AllByRecursion (IsOfSession number (length log.done)) added) where
    earlier_number : (other : SessionLog) → Contains logs other → other.number.0 < number
    earlier_number other among = let within = (course.sessions other among).number in omega (arith, within, number_is)

    in_phases-next : (earlier later : SessionLog) → Contains logs earlier ⊎ (log ≡ earlier) → Contains logs later ⊎ (log ≡ later) → earlier.phase < later.phase → IsBefore (old ++ added) earlier later
    in_phases-next earlier later (inl first) (inl second) below =
        IsBefore-more old added number (length log.done) earlier later (earlier_number earlier first) owned (course.history.in_phases earlier later first second below)
    in_phases-next earlier later (inl first) (inr same) below =
        rw (← same) (IsBefore-opened old added number (length log.done) earlier log (earlier_number earlier first) serves.opened_is owned (course.sessions earlier first).marks)
    in_phases-next earlier later (inr same) (inl second) below =
        let within = (course.sessions later second).phase in
        absurd (omega (arith, below, ap (λ (other : SessionLog). other.phase) same, within, serves.phase_is, phase_is, length_push phases sources))
    in_phases-next earlier later (inr same) (inr other) below =
        absurd (omega (arith, below, ap (λ (other : SessionLog). other.phase) same, ap (λ (other : SessionLog). other.phase) other))

    sessions-next : (other : SessionLog) → Contains logs other ⊎ (log ≡ other) → IsAmong (length (logs ++ log ∷ [])) (length (phases ++ (sources ++ source ∷ []) ∷ [])) (length (old ++ added)) other
    sessions-next other (inl among) =
        IsAmong-more (length logs) (length (phases ++ sources ∷ [])) (length old) (length (logs ++ log ∷ [])) (length (phases ++ (sources ++ source ∷ []) ∷ [])) (length (old ++ added)) other
        (omega (arith, length_push logs log)) (omega (arith, length_push phases sources, length_push phases (sources ++ source ∷ []))) (omega (arith, length-append old added)) (course.sessions other among)
    sessions-next other (inr same) = rw (← same) (record {
      number = omega (arith, serves.number_is, number_is, length_push logs log);
      phase = omega (arith, serves.phase_is, phase_is, length_push phases (sources ++ source ∷ []));
      marks = Climbs-marks log.opened (length (old ++ added)) log.done serves.holds.climbs;
    })

    label_is : label_of log ∷ [] ≡ (1 + length (sources_of (phases ++ sources ∷ [])), 1 + length phases) ∷ []
    label_is =
        let count = AllHold-length told limits old (sources_of (phases ++ sources ∷ [])) logs course.history.sessions in
        let number_there : log.number.0 ≡ 1 + length (sources_of (phases ++ sources ∷ [])) = omega (arith, serves.number_is, number_is, count) in
        let phase_there : log.phase ≡ 1 + length phases = omega (arith, serves.phase_is, phase_is) in
        ap (λ at. (at, log.phase) ∷ []) number_there ∙ ap (λ at. (1 + length (sources_of (phases ++ sources ∷ [])), at) ∷ []) phase_there

    Course-grown : Course told limits (phases ++ (sources ++ source ∷ []) ∷ []) (old ++ added) (logs ++ log ∷ [])
    Course-grown = record {
      history = record {
        accepted = serves.accepted course.history.accepted;
        labels = map-append label_of logs (log ∷ []) ∙ ap (λ labels. labels ++ label_of log ∷ []) course.history.labels ∙ ap (λ label. labels_of 1 1 (phases ++ sources ∷ []) ++ label) label_is ∙ sym (labels_of-next 1 1 phases sources source);
        owners = owners-more logs log number old added serves.number_is course.history.owners owned;
        in_phases = λ earlier later first second below. in_phases-next earlier later (Contains-push_cases logs log earlier first) (Contains-push_cases logs log later second) below;
        sessions = rw (sources_of-next phases sources source) (AllHold-more limits old added number (length log.done) owned told (sources_of (phases ++ sources ∷ [])) logs source log (all_of (λ other. other.number.0 < number) logs earlier_number) course.history.sessions serves.holds);
      };
      sessions = λ other among. sessions-next other (Contains-push_cases logs log other among);
    }

  -- a phase goes on by one session
  pub Course-next : (phases : List (List S)) (sources : List S) (source : S) (old new : List Entry) (logs : List SessionLog) (log : SessionLog) (number phase : ℕ) → number ≡ length logs + 1 → phase ≡ length phases + 1 → Course told limits (phases ++ sources ∷ []) old logs → Serves limits (told source) number phase old new log → Course told limits (phases ++ (sources ++ source ∷ []) ∷ []) new (logs ++ log ∷ [])
  Course-next phases sources source old new logs log number phase number_is phase_is course serves =
      let there : Serves limits (told source) number phase old (old ++ serves.added) log = rw (← serves.grows) serves in
      rw serves.grows (Course-grown phases sources source old serves.added logs log number phase number_is phase_is course there serves.owned)

  -- a phase of no sources so far
  pub RunsPhase-begun : (phase : ℕ) (journal : List Entry) (logs : List SessionLog) → RunsPhase told limits phase [] journal journal logs logs
  RunsPhase-begun phase journal logs = record {
    added = [];
    logs = sym (append-nil logs);
    count = refl;
    phase_is = tt;
    goes_on = λ phases _ course. Course-begun phases journal logs course;
  }

  -- its next source is served
  pub RunsPhase-next : (phase number : ℕ) (sources : List S) (source : S) (old now new : List Entry) (before logs : List SessionLog) (log : SessionLog) → number ≡ length logs + 1 → RunsPhase told limits phase sources old now before logs → Serves limits (told source) number phase now new log → RunsPhase told limits phase (sources ++ source ∷ []) old new before (logs ++ log ∷ [])
  RunsPhase-next phase number sources source old now new before logs log number_is runs serves = record {
    added = runs.added ++ log ∷ [];
    logs = ap (λ front. front ++ log ∷ []) runs.logs ∙ append_assoc before runs.added (log ∷ []);
    count = omega (arith, length_push runs.added log, length_push sources source, runs.count);
    phase_is = all_append (λ other. other.phase ≡ phase) runs.added (log ∷ []) runs.phase_is (serves.phase_is, tt);
    goes_on = λ phases is course. Course-next phases sources source now new logs log number phase number_is is (runs.goes_on phases is course) serves;
  }
