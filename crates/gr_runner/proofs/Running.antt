-- Phases that run one after the other, and the run that they make.
use Rattle.std.proofs.Common.{◌≡◌, ℕ, ◌+◌, ◌-◌, ◌^◌, ◌≤◌, ◌<◌, ◌⊎◌, Some, None, List, [], ◌∷◌, ◌++◌, length, map, take, drop, Vec, Global, refl, sym, ap, ◌∙◌, inl, inr, arith, append-nil, append_assoc, length-append}
use Rattle.std.proofs.KnownBytes.{Appends-nil, Appends-trans}
use Rattle.std.proofs.lemmas.Grind.{flat_map-append}
use Rattle.std.proofs.lemmas.List.{drop_at, length_push, map-append, take_all, take_at, take_rest}
use Rattle.std.proofs.lemmas.List.Elements.{Contains-append_cases}
use Rattle.std.specs.Arc.{arc_value}
use Rattle.std.specs.Io.KnownBytes.{Appends}
use Rattle.std.specs.List.{AllByRecursion, Contains, flat_map}
use Rattle.std.specs.declared.sync.Arc.{Arc}
use Rattle.gr_base.specs.declared.numbers.Limits.{Limits}
use Rattle.gr_db.specs.declared.entry.Entry.{Entry}
use Rattle.gr_outside.specs.Outside.{Taken, Told}
use Rattle.gr_root.specs.Root.{Rooted}
use Rattle.gr_runner.specs.Course.{Course, EndsPhase, IsEnding, RunsPhase, status_of_end}
use Rattle.gr_runner.specs.History.{IsOwned, sources_of}
use Rattle.gr_runner.specs.Run.{Run, first_unfinished, texts_of}
use Rattle.gr_runner.specs.Written.{HasFailed, IsCutOff, IsWrittenWhole}
use Rattle.gr_runner.specs.declared.report.End.TheVariants.{Finished}
use Rattle.gr_runner.specs.declared.report.SessionLog.{SessionLog}
use Rattle.gr_runner.specs.declared.status.Status.{Status}
use Rattle.gr_runner.specs.declared.status.Status.TheVariants.{Ok, Write}
use Rattle.gr_runner.proofs.Coursing.{Course-none}
use Rattle.gr_runner.proofs.Ending.{all_finished, cause_of_end, finished_where_ok, first_unfinished-append, written_of_end}
use Rattle.gr_runner.proofs.Lists.{all_at, all_of, all_split, all_weaker}
use Rattle.gr_runner.proofs.Serving.{AreOfFirst}

texts_of-append : (logs more : List SessionLog) → texts_of (logs ++ more) ≡ texts_of logs ++ texts_of more
texts_of-append logs more = flat_map-append (λ (log : SessionLog). flat_map (λ done. done.text) log.done) logs more

-- what was added stands after what was there
pub added_from : {X : Type 0} (all before added : List X) (count : ℕ) → all ≡ before ++ added → count ≡ length before → take (length all - count) (drop count all) ≡ added
added_from all before added count is same = take_rest all count ∙ ap (drop count) is ∙ drop_at before added count (sym same)

-- ---- the lists in vectors

pub lists_next : {S : Type 0} (rest later : List (Vec S Global)) (sources : Vec S Global) → rest ≡ sources ∷ later → map (λ (phase : Vec S Global). phase.items) rest ≡ sources.items ∷ map (λ (phase : Vec S Global). phase.items) later
lists_next {S = S} rest later sources is = ap (map (λ (phase : Vec S Global). phase.items)) is

pub lists_more : {S : Type 0} (seen : List (Vec S Global)) (sources : Vec S Global) → map (λ (phase : Vec S Global). phase.items) (seen ++ sources ∷ []) ≡ map (λ (phase : Vec S Global). phase.items) seen ++ sources.items ∷ []
lists_more {S = S} seen sources = map-append (λ (phase : Vec S Global). phase.items) seen (sources ∷ [])

pub lists_none : {S : Type 0} (rest : List (Vec S Global)) → length rest ≡ 0 → map (λ (phase : Vec S Global). phase.items) rest ≡ []
lists_none [] none = refl
lists_none (sources ∷ rest) none = absurd (omega (arith, none))

module _ {S : Type 0} (told : S → Told) (limits : Limits) where
  module _ (phase : ℕ) (sources : List S) (old new : List Entry) (logs logs_after : List SessionLog) (before after : Taken) (written : List SessionLog) (runs : RunsPhase told limits phase sources old new logs logs_after) (all : written ≡ runs.added) where
    -- a phase ran and all its texts were written
    pub ends_whole : (status : Status) → IsWrittenWhole before after (texts_of written) → status ≡ status_of_end (first_unfinished written) → EndsPhase told limits phase sources old new logs logs_after before after status
    ends_whole status whole is = record { runs = runs; ending = inl (rw (← all) whole, is ∙ ap (λ added. status_of_end (first_unfinished added)) all) }

    -- a phase ran and a write failed
    pub ends_cut : IsCutOff before after (texts_of written) → EndsPhase told limits phase sources old new logs logs_after before after Write
    ends_cut off = record { runs = runs; ending = inr (rw (← all) off, refl) }

  -- each entry of a course is of one of its sessions
  entries_of_first : (phases : List (List S)) (journal : List Entry) (logs : List SessionLog) → Course told limits phases journal logs → AreOfFirst (length logs) journal
  entries_of_first phases journal logs course =
      all_weaker (IsOwned logs) (λ entry. entry.session.0 ≤ length logs) journal (λ entry owned. let among = (course.sessions owned.log owned.among).number in omega (arith, among, owned.session)) course.history.owners

  -- some phases ran to their ends, and there is room for the logs of the rest
  pub record HasRun (phases seen rest : List (List S)) (phase : ℕ) (journal : List Entry) (logs : List SessionLog) (before now : Taken) (room : ℕ) : Type 0 where
    pub all : phases ≡ seen ++ rest
    pub count : phase ≡ length seen
    pub few : length phases < 2 ^ 31
    pub course : Course told limits seen journal logs
    pub finished : first_unfinished logs ≡ None
    pub taken : Appends before.bytes now.bytes (texts_of logs)
    pub same : now.faults ≡ before.faults
    pub countable : AllByRecursion (λ source. (told source).faults < 2 ^ 64 - 1) (sources_of rest)
    pub numbers : length logs + length (sources_of rest) < 2 ^ 31
    pub places : length logs + length (sources_of rest) ≤ room

  pub has_begun : (phases rest : List (List S)) (journal : List Entry) (logs : List SessionLog) (before : Taken) (room : ℕ) → rest ≡ phases → journal ≡ [] → logs ≡ [] → length phases < 2 ^ 31 → AllByRecursion (λ source. (told source).faults < 2 ^ 64 - 1) (sources_of phases) → length (sources_of phases) < 2 ^ 31 → length (sources_of phases) ≤ room → HasRun phases [] rest 0 journal logs before before room
  has_begun phases rest journal logs before room same no_entries no_logs few countable numbers places = record {
    all = sym same;
    count = refl;
    few = few;
    course = rw (no_entries, no_logs) (Course-none told limits);
    finished = rw no_logs refl;
    taken = rw no_logs (Appends-nil before.bytes);
    same = refl;
    countable = rw same countable;
    numbers = rw (same, no_logs) (omega (arith, numbers));
    places = rw (same, no_logs) (omega (arith, places));
  }

  module _ (phases seen rest later : List (List S)) (sources : List S) (phase : ℕ) (old : List Entry) (logs : List SessionLog) (before now : Taken) (room : ℕ) (rest_is : rest ≡ sources ∷ later) (ran : HasRun phases seen rest phase old logs before now room) where
    sources_are : sources_of rest ≡ sources ++ sources_of later
    sources_are = ap sources_of rest_is

    left : length (sources_of rest) ≡ length sources + length (sources_of later)
    left = ap length sources_are ∙ length-append sources (sources_of later)

    countable_are : AllByRecursion (λ source. (told source).faults < 2 ^ 64 - 1) sources × AllByRecursion (λ source. (told source).faults < 2 ^ 64 - 1) (sources_of later)
    countable_are = all_split (λ source. (told source).faults < 2 ^ 64 - 1) sources (sources_of later) (rw sources_are at ran.countable)

    -- what the next phase requires
    pub next_countable : AllByRecursion (λ source. (told source).faults < 2 ^ 64 - 1) sources
    next_countable = countable_are.0

    pub next_numbers : length logs + length sources < 2 ^ 31
    next_numbers = omega (arith, left, ran.numbers)

    pub next_places : length logs + length sources ≤ room
    next_places = omega (arith, left, ran.places)

    pub next_entries : AreOfFirst (length logs) old
    next_entries = entries_of_first seen old logs ran.course

    phases_are : phases ≡ (seen ++ sources ∷ []) ++ later
    phases_are = ran.all ∙ ap (λ other. seen ++ other) rest_is ∙ sym (append_assoc seen (sources ∷ []) later)

    among_all : phase + 1 ≤ length phases
    among_all = omega (arith, ran.count, ap length phases_are, length-append (seen ++ sources ∷ []) later, length_push seen sources)

    taken_phases : take (phase + 1) phases ≡ seen ++ sources ∷ []
    taken_phases = ap (take (phase + 1)) phases_are ∙ take_at (seen ++ sources ∷ []) later (phase + 1) (omega (arith, length_push seen sources, ran.count))

    module _ (new : List Entry) (logs_after : List SessionLog) (runs : RunsPhase told limits (phase + 1) sources old new logs logs_after) where
      course_after : Course told limits (seen ++ sources ∷ []) new logs_after
      course_after = runs.goes_on seen (ap (λ count. count + 1) ran.count) ran.course

      unfinished_after : first_unfinished logs_after ≡ first_unfinished runs.added
      unfinished_after = ap first_unfinished runs.logs ∙ first_unfinished-append logs runs.added ran.finished

      taken_after : (next : Taken) (piece : List ℕ) → Appends now.bytes next.bytes piece → Appends before.bytes next.bytes (texts_of logs ++ piece)
      taken_after next piece appends = Appends-trans before.bytes now.bytes next.bytes (texts_of logs) piece ran.taken appends

      texts_after : texts_of logs_after ≡ texts_of logs ++ texts_of runs.added
      texts_after = ap texts_of runs.logs ∙ texts_of-append logs runs.added

      last_after : (log : SessionLog) → Contains logs log ⊎ Contains runs.added log → (log.end ≡ Finished → ⊥) → log.phase ≡ phase + 1
      last_after log (inl earlier) not = absurd (not (all_at (λ other. other.end ≡ Finished) logs log (all_finished logs ran.finished) earlier))
      last_after log (inr here) not = all_at (λ other. other.phase ≡ phase + 1) runs.added log runs.phase_is here

      among_after : (log : SessionLog) → Contains logs_after log → Contains logs log ⊎ Contains runs.added log
      among_after log among = Contains-append_cases logs runs.added log (rw runs.logs at among)

      earlier_phases : AllByRecursion (λ log. log.phase < phase + 1) logs
      earlier_phases = all_of (λ log. log.phase < phase + 1) logs (λ log among. let within = (ran.course.sessions log among).phase in omega (arith, within, ran.count))

      has_run : (next : Taken) (room_after : ℕ) (seen_after : List (List S)) → seen_after ≡ seen ++ sources ∷ [] → room ≤ room_after → IsWrittenWhole now next (texts_of runs.added) → first_unfinished runs.added ≡ None → HasRun phases seen_after later (phase + 1) new logs_after before next room_after
      has_run next room_after seen_after seen_is roomier whole none =
          let count : length logs_after ≡ length logs + length sources = ap length runs.logs ∙ length-append logs runs.added ∙ ap (λ more. length logs + more) runs.count in
          record {
            all = rw seen_is phases_are;
            count = rw seen_is (omega (arith, length_push seen sources, ran.count));
            few = ran.few;
            course = rw seen_is course_after;
            finished = unfinished_after ∙ none;
            taken = rw texts_after (taken_after next (texts_of runs.added) whole.taken);
            same = whole.same ∙ ran.same;
            countable = countable_are.1;
            numbers = omega (arith, count, left, ran.numbers);
            places = omega (arith, count, left, ran.places, roomier);
          }

      run_of : (next : Taken) (status : Status) → IsEnding now next runs.added status → (status ≡ Ok → ⊥) → (root : Arc Rooted Global) → (arc_value root).journal ≡ new → Run told limits phases (record { status = status; root = Some root; sessions = logs_after }) before next
      run_of next status (inl both) not_ok root is_root = record {
        started = phase + 1;
        among = among_all;
        history = rw (is_root, taken_phases) course_after.history;
        last = λ log among not. last_after log (among_after log among) not;
        cause = rw both.1 (cause_of_end phases (phase + 1) logs_after (HasFailed before next) (first_unfinished runs.added) unfinished_after (λ risen. omega (arith, risen, both.0.same, ran.same)) (λ is. not_ok (both.1 ∙ is)));
        written = rw both.1 (written_of_end (first_unfinished runs.added) (phase + 1) logs_after before next (rw texts_after (taken_after next (texts_of runs.added) both.0.taken)));
      }
      run_of next status (inr both) not_ok root is_root =
          let risen : HasFailed before next = omega (arith, both.0.risen, ran.same) in
          record {
            started = phase + 1;
            among = among_all;
            history = rw (is_root, taken_phases) course_after.history;
            last = λ log among not. last_after log (among_after log among) not;
            cause = rw both.1 risen;
            written = rw both.1 (record {
              earlier = logs;
              last = runs.added;
              split = runs.logs;
              earlier_phases = earlier_phases;
              last_phase = runs.phase_is;
              piece = both.0.piece;
              rest = both.0.rest;
              text = both.0.text_is;
              taken = taken_after next both.0.piece both.0.taken;
            });
          }

      ran_on-by : (next : Taken) (room_after : ℕ) (seen_after : List (List S)) → seen_after ≡ seen ++ sources ∷ [] → room ≤ room_after → IsEnding now next runs.added Ok → HasRun phases seen_after later (phase + 1) new logs_after before next room_after
      ran_on-by next room_after seen_after seen_is roomier (inl both) = has_run next room_after seen_after seen_is roomier both.0 (finished_where_ok runs.added both.1)
      ran_on-by next room_after seen_after seen_is roomier (inr both) = cc

    -- a phase more ran to its end
    pub ran_on : (new : List Entry) (logs_after : List SessionLog) (next : Taken) (room_after : ℕ) (seen_after : List (List S)) → seen_after ≡ seen ++ sources ∷ [] → room ≤ room_after → EndsPhase told limits (phase + 1) sources old new logs logs_after now next Ok → HasRun phases seen_after later (phase + 1) new logs_after before next room_after
    ran_on new logs_after next room_after seen_after seen_is roomier ends = ran_on-by new logs_after ends.runs next room_after seen_after seen_is roomier ends.ending

    -- a phase ended otherwise, and with it the run
    pub ended : (new : List Entry) (logs_after : List SessionLog) (next : Taken) (status : Status) → EndsPhase told limits (phase + 1) sources old new logs logs_after now next status → (status ≡ Ok → ⊥) → (root : Arc Rooted Global) → (arc_value root).journal ≡ new → Run told limits phases (record { status = status; root = Some root; sessions = logs_after }) before next
    ended new logs_after next status ends not_ok root is_root = run_of new logs_after ends.runs next status ends.ending not_ok root is_root

  -- all phases ran to their ends
  pub completed : (phases seen rest : List (List S)) (phase : ℕ) (journal : List Entry) (logs : List SessionLog) (before now : Taken) (room : ℕ) → rest ≡ [] → HasRun phases seen rest phase journal logs before now room → (root : Arc Rooted Global) → (arc_value root).journal ≡ journal → Run told limits phases (record { status = Ok; root = Some root; sessions = logs }) before now
  completed phases seen rest phase journal logs before now room none ran root is_root =
      let same : phases ≡ seen = ran.all ∙ ap (λ other. seen ++ other) none ∙ append-nil seen in
      let whole : phase ≡ length phases = ran.count ∙ ap length (sym same) in
      let taken_all : take phase phases ≡ seen = take_all phase phases (omega (arith, whole)) ∙ same in
      record {
        started = phase;
        among = omega (arith, whole);
        history = rw (is_root, taken_all) ran.course.history;
        last = λ log among not. absurd (not (all_at (λ other. other.end ≡ Finished) logs log (all_finished logs ran.finished) among));
        cause = record { all = whole; finished = ran.finished; written = λ risen. omega (arith, risen, ran.same) };
        written = ran.taken;
      }
