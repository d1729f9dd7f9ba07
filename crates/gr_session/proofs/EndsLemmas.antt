-- What the last step of a command makes of its reply.
use Rattle.std.proofs.Common.{◌≡◌, ℕ, ◌+◌, ◌≤◌, ◌<◌, Bool, true, false, MatchBool, Option, Some, IfSome, List, length, inl, inr, sym, ap, subst, ◌∙◌, arith}
use Rattle.std.proofs.lemmas.List.{take_at}
use Rattle.gr_base.specs.declared.fault.Fault.{Fault}
use Rattle.gr_db.specs.Apply.{replay}
use Rattle.gr_db.specs.declared.entry.Entry.{Entry}
use Rattle.gr_session.specs.Commands.{meaning_of}
use Rattle.gr_session.specs.Inside.Stepping.{IsFinished, Proceeds, Stops, taken_up}
use Rattle.gr_session.specs.Reply.{IsStarved, meaning_at}
use Rattle.gr_root.specs.Root.{Rooted}
use Rattle.gr_publish.specs.declared.published.Published.{Published as Answer}
use Rattle.gr_publish.specs.declared.published.Published.TheVariants.{Published, Refused}
use Rattle.gr_session.specs.Step.{AsksNext, Begins, BeginsAs, BeginsWith, Ends, Going, GoesOn, HoldsAfterLast, HoldsWhereRefused, Standing, begun, gone_on, made_at}
use Rattle.gr_cmdline.specs.declared.command.Item.{Item}
use Rattle.gr_session.specs.Parsed.{IsRead, no_texts, parsed_as}
use Rattle.gr_session.specs.declared.parsed.Parsed.{Parsed}
use Rattle.gr_session.specs.declared.session.Done.{Done}
use Rattle.gr_session.specs.declared.session.Step.{Step}
use Rattle.gr_session.specs.declared.session.Step.TheVariants.{Publish, Done as Finished}

-- a command means what it does where it was read
pub meaning_at-begins : (base journal : List Entry) (parsed : Parsed) (done : Done) → Begins base journal → done.from ≡ length base → meaning_at journal parsed done ≡ meaning_of (replay base) parsed
meaning_at-begins base journal parsed done begins from =
    rw begins.whole (ap (λ entries. meaning_of (replay entries) parsed) (take_at base begins.rest done.from (sym from)))

-- what follows from a claim where no memory was wanting
pub claimed : (ended : Bool) (A B C : Type 0) → (B → C) → MatchBool ended A B → MatchBool ended A C
claimed true A B C f told = told
claimed false A B C f told = f told

-- how a command ends, as its session leaves it
pub record Finishes (old new : Standing) (going : Going) (mark : ℕ) (done : Done) (ended : Bool) : Type 0 where
  pub from : done.from ≡ length going.base.journal
  pub mark_is : done.mark ≡ mark
  pub new_is : new ≡ gone_on old mark ended
  pub order : length going.base.journal ≤ mark

-- all its changes were made, and it says so
pub Ends-whole : (old new : Standing) (going : Going) (mark : ℕ) (done : Done) → Finishes old new going mark done false → IsRead going.parsed.item going.parsed.texts
    → going.made ≡ length ((meaning_of (replay going.base.journal) going.parsed).changes) → done.text ≡ (meaning_of (replay going.base.journal) going.parsed).answer
    → Ends old new going mark done (HoldsAfterLast old going done)
Ends-whole old new going mark done ends is_read all told = record {
  from = ends.from;
  mark_is = ends.mark_is;
  new_is = let stays : new.ended ≡ false = ap (λ standing. standing.ended) ends.new_is in ends.new_is ∙ ap (λ ended. gone_on old mark ended) (sym stays);
  reply = λ journal begins within owns.
      let stays : new.ended ≡ false = ap (λ standing. standing.ended) ends.new_is in
      let read : meaning_at journal going.parsed done ≡ meaning_of (replay going.base.journal) going.parsed = meaning_at-begins going.base.journal journal going.parsed done begins ends.from in
      rw stays
      (λ last. record {
        texts = going.parsed.texts;
        read = is_read;
        made = going.made;
        order = omega (arith, ends.order, ends.from, ends.mark_is);
        within = omega (arith, within, ends.mark_is);
        owns = owns;
        answers = inl (record { all = rw read all; mark = sym last; text = rw read told });
      });
}

-- its next change was refused, and it says so
pub Ends-stopped : (old new : Standing) (going : Going) (fault : Fault) (mark : ℕ) (done : Done) → Finishes old new going mark done false
    → done.text ≡ (meaning_of (replay going.base.journal) going.parsed).refused going.made fault
    → Ends old new going mark done (HoldsWhereRefused old going fault done)
Ends-stopped old new going fault mark done ends told = record {
  from = ends.from;
  mark_is = ends.mark_is;
  new_is = let stays : new.ended ≡ false = ap (λ standing. standing.ended) ends.new_is in ends.new_is ∙ ap (λ ended. gone_on old mark ended) (sym stays);
  reply = λ journal begins within owns.
      let stays : new.ended ≡ false = ap (λ standing. standing.ended) ends.new_is in
      let read : meaning_at journal going.parsed done ≡ meaning_of (replay going.base.journal) going.parsed = meaning_at-begins going.base.journal journal going.parsed done begins ends.from in
      rw stays
      (λ entry asks first. record {
        texts = going.parsed.texts;
        read = asks.read;
        made = going.made;
        order = omega (arith, ends.order, ends.from, ends.mark_is);
        within = omega (arith, within, ends.mark_is);
        owns = owns;
        answers = inr (record { change = entry.change; next = rw read asks.change; fault = fault; first = first; text = rw read told });
      });
}

-- no memory was found, and it says so
pub Ends-starved : (old new : Standing) (going : Going) (mark : ℕ) (done : Done) (claim : List Entry → Type 0) → Finishes old new going mark done true → (0 < going.made → IsRead going.parsed.item going.parsed.texts)
    → done.text ≡ (meaning_of (replay going.base.journal) going.parsed).starved going.made
    → Ends old new going mark done claim
Ends-starved old new going mark done claim ends is_read told = record {
  from = ends.from;
  mark_is = ends.mark_is;
  new_is = let stays : new.ended ≡ true = ap (λ standing. standing.ended) ends.new_is in ends.new_is ∙ ap (λ ended. gone_on old mark ended) (sym stays);
  reply = λ journal begins within owns.
      let stays : new.ended ≡ true = ap (λ standing. standing.ended) ends.new_is in
      let read : meaning_at journal going.parsed done ≡ meaning_of (replay going.base.journal) going.parsed = meaning_at-begins going.base.journal journal going.parsed done begins ends.from in
      rw stays
      (record {
        texts = going.parsed.texts;
        made = going.made;
        read = is_read;
        order = omega (arith, ends.order, ends.from, ends.mark_is);
        within = omega (arith, within, ends.mark_is);
        owns = owns;
        text = rw read told;
      });
}

-- a command that has made all its changes ends
pub Proceeds-closes : (old new : Standing) (going : Going) (from mark : ℕ) (text : List ℕ) (step : Step) → IsFinished new (gone_on old mark old.ended) from mark text step → old.ended ≡ false
    → from ≡ length going.base.journal → mark ≡ going.reached → length going.base.journal ≤ going.reached → IsRead going.parsed.item going.parsed.texts
    → going.made ≡ length ((meaning_of (replay going.base.journal) going.parsed).changes) → text ≡ (meaning_of (replay going.base.journal) going.parsed).answer
    → Proceeds old new going step
Proceeds-closes old new going from mark text (Publish entry) finished running start at_end order is_read all told = absurd finished
Proceeds-closes old new going from mark text (Finished done) finished running start at_end order is_read all told =
    let left : new ≡ gone_on old going.reached false = finished.0 ∙ ap (λ ended. gone_on old mark ended) running ∙ ap (λ mark. gone_on old mark false) at_end in
    Ends-whole old new going going.reached done
    (record { from = ap (λ done. done.from) finished.1 ∙ start; mark_is = ap (λ done. done.mark) finished.1 ∙ at_end; new_is = left; order = order })
    is_read all (ap (λ done. done.text) finished.1 ∙ told)

-- a command of which an entry was refused ends
pub Stops-told : (old new : Standing) (going : Going) (fault : Fault) (from mark : ℕ) (text : List ℕ) (step : Step) → IsFinished new (gone_on old mark old.ended) from mark text step → old.ended ≡ false
    → from ≡ length going.base.journal → length going.base.journal ≤ mark → text ≡ (meaning_of (replay going.base.journal) going.parsed).refused going.made fault
    → Stops old new going fault mark step
Stops-told old new going fault from mark text (Publish entry) finished running start order told = absurd finished
Stops-told old new going fault from mark text (Finished done) finished running start order told =
    Ends-stopped old new going fault mark done
    (record {
      from = ap (λ done. done.from) finished.1 ∙ start;
      mark_is = ap (λ done. done.mark) finished.1;
      new_is = finished.0 ∙ ap (λ ended. gone_on old mark ended) running;
      order = order;
    })
    (ap (λ done. done.text) finished.1 ∙ told)

AsksNext-taken_up : (old : Standing) (going : Going) (entry : Entry) → AsksNext (taken_up old) going entry → AsksNext old going entry
AsksNext-taken_up old going entry asks = record { read = asks.read; change = asks.change; entry_is = asks.entry_is; valid = asks.valid; text = asks.text }

Ends-taken_up : (old new : Standing) (going : Going) (mark : ℕ) (done : Done) (claim : List Entry → Type 0) → Ends (taken_up old) new going mark done claim → Ends old new going mark done claim
Ends-taken_up old new going mark done claim ends = record { from = ends.from; mark_is = ends.mark_is; new_is = ends.new_is; reply = ends.reply }

published : (old new : Standing) (going : Going) (place : ℕ) (step : Step) → Proceeds (taken_up old) new (made_at going place) step → GoesOn old new going (Published place) step
published old new going place (Publish entry) proceeds = (proceeds.0, AsksNext-taken_up old (made_at going place) entry proceeds.1)
published old new going place (Finished done) proceeds = Ends-taken_up old new (made_at going place) (place + 1) done (HoldsAfterLast old (made_at going place) done) proceeds

-- a session goes on with the command that it had under way, of which an entry was published
pub GoesOn-published : (old new : Standing) (going : Going) (answer : Answer) (place : ℕ) (step : Step) → old.going ≡ Some going → answer ≡ Published place → Proceeds (taken_up old) new (made_at going place) step → IfSome old.going (λ going. GoesOn old new going answer step)
GoesOn-published old new going answer place step was is proceeds =
    subst (λ (found : Option Going). IfSome found (λ going. GoesOn old new going answer step)) (sym was)
    (subst (λ (answer : Answer). GoesOn old new going answer step) (sym is) (published old new going place step proceeds))

refused : (old new : Standing) (going : Going) (fault : Fault) (mark : ℕ) (step : Step) → Stops (taken_up old) new going fault mark step → GoesOn old new going (Refused fault mark) step
refused old new going fault mark (Publish entry) stops = absurd stops
refused old new going fault mark (Finished done) stops = record {
  from = stops.from;
  mark_is = stops.mark_is;
  new_is = stops.new_is;
  reply = λ journal begins within owns.
      claimed new.ended (IsStarved journal old.session old.command going.parsed.item done) _ _
      (λ holds entry asks first. holds entry (record { read = asks.read; change = asks.change; entry_is = asks.entry_is; valid = asks.valid; text = asks.text }) first)
      (stops.reply journal begins within owns);
}

-- and of which an entry was refused
pub GoesOn-refused : (old new : Standing) (going : Going) (answer : Answer) (fault : Fault) (mark : ℕ) (step : Step) → old.going ≡ Some going → answer ≡ Refused fault mark → Stops (taken_up old) new going fault mark step → IfSome old.going (λ going. GoesOn old new going answer step)
GoesOn-refused old new going answer fault mark step was is stops =
    subst (λ (found : Option Going). IfSome found (λ going. GoesOn old new going answer step)) (sym was)
    (subst (λ (answer : Answer). GoesOn old new going answer step) (sym is) (refused old new going fault mark step stops))

begins_as : (old new : Standing) (root : Rooted) (parsed : Parsed) (step : Step) → Proceeds old new (begun root parsed) step → BeginsAs old new root parsed step
begins_as old new root parsed (Publish entry) proceeds = proceeds
begins_as old new root parsed (Finished done) proceeds = proceeds

-- a command begins by what its texts are read as
pub BeginsWith-proceeds : (old new : Standing) (root : Rooted) (item : Item) (parsed : Parsed) (step : Step) → parsed.item ≡ item → Proceeds old new (begun root parsed) step → BeginsWith old new root item step
BeginsWith-proceeds old new root item parsed step is proceeds = (parsed.texts, subst (λ (item : Item). BeginsAs old new root (parsed_as item parsed.texts) step) is (begins_as old new root parsed step proceeds))

begins_starved : (old new : Standing) (root : Rooted) (parsed : Parsed) (at : ℕ) (text : List ℕ) (step : Step) → IsFinished new (gone_on old at true) at at text step
    → at ≡ length root.journal → text ≡ (meaning_of (replay root.journal) parsed).starved 0
    → BeginsAs old new root parsed step
begins_starved old new root parsed at text (Publish entry) finished start told = absurd finished
begins_starved old new root parsed at text (Finished done) finished start told =
    Ends-starved old new (begun root parsed) (length root.journal) done (HoldsAfterLast old (begun root parsed) done)
    (record {
      from = ap (λ done. done.from) finished.1 ∙ start;
      mark_is = ap (λ done. done.mark) finished.1 ∙ start;
      new_is = finished.0 ∙ ap (λ mark. gone_on old mark true) start;
      order = omega arith;
    })
    (λ made. absurd (omega (arith, made)))
    (ap (λ done. done.text) finished.1 ∙ told)

-- a command for which no memory was found as it was read ends as it begins
pub BeginsWith-starved : (old new : Standing) (root : Rooted) (item : Item) (at : ℕ) (text : List ℕ) (step : Step) → IsFinished new (gone_on old at true) at at text step
    → at ≡ length root.journal → text ≡ (meaning_of (replay root.journal) (parsed_as item no_texts)).starved 0
    → BeginsWith old new root item step
BeginsWith-starved old new root item at text step finished start told = (no_texts, begins_starved old new root (parsed_as item no_texts) at text step finished start told)

-- a command of which an entry was refused, and for whose reply no memory was found, ends
pub Stops-starved : (old new : Standing) (going : Going) (fault : Fault) (from mark : ℕ) (text : List ℕ) (step : Step) → IsFinished new (gone_on old mark true) from mark text step
    → from ≡ length going.base.journal → length going.base.journal ≤ mark → IsRead going.parsed.item going.parsed.texts → text ≡ (meaning_of (replay going.base.journal) going.parsed).starved going.made
    → Stops old new going fault mark step
Stops-starved old new going fault from mark text (Publish entry) finished start order is_read told = absurd finished
Stops-starved old new going fault from mark text (Finished done) finished start order is_read told =
    Ends-starved old new going mark done (HoldsWhereRefused old going fault done)
    (record { from = ap (λ done. done.from) finished.1 ∙ start; mark_is = ap (λ done. done.mark) finished.1; new_is = finished.0; order = order })
    (λ made. is_read)
    (ap (λ done. done.text) finished.1 ∙ told)
