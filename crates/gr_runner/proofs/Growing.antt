-- What holds of earlier sessions where the journal grows by the entries of a later one.
use Rattle.std.proofs.Common.{◌≡◌, ℕ, ◌+◌, ◌==◌, ◌≤◌, ◌<◌, false, List, [], ◌∷◌, ◌++◌, length, inl, inr, refl, sym, ◌∙◌, arith, length-append}
use Rattle.std.proofs.lemmas.Bool.Decides.{nat_tests}
use Rattle.std.proofs.lemmas.List.Elements.{Contains-append_left, Contains-push}
use Rattle.std.specs.List.{AllByRecursion}
use Rattle.gr_base.specs.declared.numbers.Limits.{Limits}
use Rattle.gr_db.specs.declared.entry.Entry.{Entry}
use Rattle.gr_outside.specs.Outside.{Told}
use Rattle.gr_session.specs.Own.{is_own}
use Rattle.gr_cmdline.specs.declared.command.Item.{Item}
use Rattle.gr_session.specs.declared.session.Done.{Done}
use Rattle.gr_session.proofs.ReplyLemmas.{IsStarved-more, Reply-more}
use Rattle.gr_runner.proofs.Replying.{Climbs-raise}
use Rattle.gr_runner.proofs.Lists.{all_append, all_weaker, at_or_added}
use Rattle.gr_runner.specs.History.{AllHold, IsBefore, IsOwned}
use Rattle.gr_runner.specs.Served.{IsOfSession}
use Rattle.gr_runner.specs.Sessions.{Climbs, Holds, Replies}
use Rattle.gr_runner.specs.declared.report.End.{End}
use Rattle.gr_runner.specs.declared.report.SessionLog.{SessionLog}

-- ---- the entries of another session

not_own : (session command number : ℕ) (entry : Entry) → session < number → entry.session.0 ≡ number → is_own session command entry ≡ false
not_own session command number entry earlier is =
    let apart : (entry.session.0 == session) ≡ false = grind (arith, nat_tests) in
    rw apart refl

others : (session command number count : ℕ) (added : List Entry) → session < number → AllByRecursion (IsOfSession number count) added → AllByRecursion (λ entry. is_own session command entry ≡ false) added
others session command number count added earlier owned =
    all_weaker (IsOfSession number count) (λ entry. is_own session command entry ≡ false) added (λ entry of_session. not_own session command number entry earlier of_session.session) owned

Replies-more : (limits : Limits) (journal more : List Entry) (session command : ℕ) (items : List Item) (done : List Done) (end : End) → ((number : ℕ) → AllByRecursion (λ entry. is_own session number entry ≡ false) more) → Replies limits journal session command items done end → Replies limits (journal ++ more) session command items done end
Replies-more limits journal more session command items [] end apart replies = replies
Replies-more limits journal more session command [] (reply ∷ done) end apart replies = absurd replies
Replies-more limits journal more session command (item ∷ items) (reply ∷ done) end apart (inl both) =
    inl (Reply-more limits journal more session command item reply (apart command) both.0, Replies-more limits journal more session (command + 1) items done end apart both.1)
Replies-more limits journal more session command (item ∷ items) (reply ∷ done) end apart (inr starved) =
    inr (IsStarved-more journal more session command item reply (apart command) starved.0, starved.1, starved.2)

-- ---- places that climb

Climbs-top : (low top : ℕ) (done : List Done) → Climbs low done top → low ≤ top
Climbs-top low top [] climbs = climbs
Climbs-top low top (reply ∷ done) climbs = let rest = Climbs-top reply.mark top done climbs.2 in omega (arith, climbs.0, climbs.1, rest)

pub Climbs-marks : (low top : ℕ) (done : List Done) → Climbs low done top → AllByRecursion (λ reply. reply.mark ≤ top) done
Climbs-marks low top [] climbs = tt
Climbs-marks low top (reply ∷ done) climbs = (Climbs-top reply.mark top done climbs.2, Climbs-marks reply.mark top done climbs.2)

-- ---- owners

pub owners-more : (logs : List SessionLog) (log : SessionLog) (number : ℕ) (old added : List Entry) → log.number.0 ≡ number → AllByRecursion (IsOwned logs) old → AllByRecursion (IsOfSession number (length log.done)) added → AllByRecursion (IsOwned (logs ++ log ∷ [])) (old ++ added)
owners-more logs log number old added is owners owned =
    let earlier = all_weaker (IsOwned logs) (IsOwned (logs ++ log ∷ [])) old
    (λ entry of_log. record { log = of_log.log; among = Contains-append_left logs (log ∷ []) of_log.log of_log.among; session = of_log.session; command = of_log.command }) owners in
    let later = all_weaker (IsOfSession number (length log.done)) (IsOwned (logs ++ log ∷ [])) added
    (λ entry of_session. record { log = log; among = Contains-push logs log; session = of_session.session ∙ sym is; command = of_session.command }) owned in
    all_append (IsOwned (logs ++ log ∷ [])) old added earlier later

-- ---- phases

-- what stood before a session opened still does
pub IsBefore-more : (old added : List Entry) (number count : ℕ) (earlier later : SessionLog) → earlier.number.0 < number → AllByRecursion (IsOfSession number count) added → IsBefore old earlier later → IsBefore (old ++ added) earlier later
IsBefore-more old added number count earlier later apart owned before = record {
  marks = before.marks;
  entries = λ place entry is session. elim (at_or_added (IsOfSession number count) old added place entry owned is) [ inl there ↦ before.entries place entry there.1 session | inr new ↦ absurd (omega (arith, new.session, session, apart)) ];
}

-- an earlier session stood before one that opened at the end of the journal
pub IsBefore-opened : (old added : List Entry) (number count : ℕ) (earlier log : SessionLog) → earlier.number.0 < number → log.opened ≡ length old → AllByRecursion (IsOfSession number count) added → AllByRecursion (λ reply. reply.mark ≤ length old) earlier.done → IsBefore (old ++ added) earlier log
IsBefore-opened old added number count earlier log apart opened owned marks = record {
  marks = rw opened marks;
  entries = λ place entry is session. elim (at_or_added (IsOfSession number count) old added place entry owned is) [ inl there ↦ rw opened there.0 | inr new ↦ absurd (omega (arith, new.session, session, apart)) ];
}

-- ---- sessions

module _ (limits : Limits) (old added : List Entry) (number count : ℕ) (owned : AllByRecursion (IsOfSession number count) added) where
  Holds-more : (told : Told) (log : SessionLog) → log.number.0 < number → Holds limits told old log → Holds limits told (old ++ added) log
  Holds-more told log earlier holds = record {
    items = holds.items;
    read = holds.read;
    replies = Replies-more limits old added log.number.0 0 holds.items log.done log.end (λ command. others log.number.0 command number count added earlier owned) holds.replies;
    climbs = Climbs-raise log.opened log.done (length old) (length (old ++ added)) (omega (arith, length-append old added)) holds.climbs;
  }

  module _ {S : Type 0} (told : S → Told) where
    -- earlier sessions still hold, and one more does
    pub AllHold-more : (sources : List S) (logs : List SessionLog) (source : S) (log : SessionLog) → AllByRecursion (λ log. log.number.0 < number) logs → AllHold told limits old sources logs → Holds limits (told source) (old ++ added) log → AllHold told limits (old ++ added) (sources ++ source ∷ []) (logs ++ log ∷ [])
    AllHold-more [] [] source log earlier hold holds = (holds, tt)
    AllHold-more [] (other ∷ logs) source log earlier hold holds = absurd hold
    AllHold-more (other ∷ sources) [] source log earlier hold holds = absurd hold
    AllHold-more (first ∷ sources) (other ∷ logs) source log earlier hold holds =
        (Holds-more (told first) other earlier.0 hold.0, AllHold-more sources logs source log earlier.1 hold.1 holds)

pub AllHold-length : {S : Type 0} (told : S → Told) (limits : Limits) (journal : List Entry) (sources : List S) (logs : List SessionLog) → AllHold told limits journal sources logs → length logs ≡ length sources
AllHold-length told limits journal [] [] hold = refl
AllHold-length told limits journal [] (log ∷ logs) hold = absurd hold
AllHold-length told limits journal (source ∷ sources) [] hold = absurd hold
AllHold-length told limits journal (source ∷ sources) (log ∷ logs) hold = let rest = AllHold-length told limits journal sources logs hold.1 in cc
