-- What a command has made so far on one thread.
use Rattle.std.proofs.Common.{◌≡◌, ℕ, ◌+◌, ◌-◌, ◌<◌, Option, Some, None, IfSome, List, [], ◌∷◌, ◌++◌, suc, length, take, refl, sym, ap, subst, ◌∙◌, arith, append-nil, append_assoc, length-append}
use Rattle.std.proofs.lemmas.List.{length_push, take_all}
use Rattle.std.proofs.lemmas.Option.{slice_get_within}
use Rattle.gr_db.specs.Accepted.{IsAccepted}
use Rattle.gr_db.specs.Entry.{IsValid}
use Rattle.gr_db.specs.Apply.{replay}
use Rattle.gr_db.specs.declared.entry.Entry.{Entry}
use Rattle.gr_publish.specs.Publish.{Publishes}
use Rattle.gr_root.specs.Root.{Rooted}
use Rattle.gr_publish.specs.declared.published.Published.{Published as Answer}
use Rattle.gr_publish.specs.declared.published.Published.TheVariants.{Published, Refused, NoMemory}
use Rattle.gr_session.specs.Commands.{meaning_of}
use Rattle.gr_session.specs.Entries.{entries_of}
use Rattle.gr_session.specs.Own.{own}
use Rattle.gr_session.specs.Parsed.{parsed_as}
use Rattle.gr_session.specs.declared.parsed.Parsed.{Parsed}
use Rattle.gr_select.specs.declared.texts.Texts.{Texts}
use Rattle.gr_session.specs.Reply.{IsStarved, OwnsFirst, Reply, after_last, meaning_at}
use Rattle.gr_session.specs.Solo.{Steps}
use Rattle.gr_session.specs.Step.{AsksNext, BeginsAs, BeginsWith, Ends, Going, GoesOn, HoldsAfterLast, HoldsWhereRefused, Standing, going_on, made_at}
use Rattle.gr_cmdline.specs.declared.command.Item.{Item}
use Rattle.gr_session.specs.declared.session.Done.{Done}
use Rattle.gr_session.specs.declared.session.Step.{Step}
use Rattle.gr_session.specs.declared.session.Step.TheVariants.{Publish, Done as Finished}
use Rattle.gr_session.proofs.EndsLemmas.{claimed, meaning_at-begins}
use Rattle.gr_db.proofs.Grows.{IsValid-grown}
use Rattle.gr_session.proofs.OwnLemmas.{AreOwn-first, after_last-placed, entries-more, entries-placed, length-placed, own-grown, placed_from, places-placed}

-- behind the journal that a command was read at stand the first so many of its entries, each accepted
pub record Grown (session command : ℕ) (old now : Rooted) (parsed : Parsed) (made : ℕ) : Type 0 where
  pub added : List Entry
  pub grows : now.journal ≡ old.journal ++ added
  pub limits : now.limits ≡ old.limits
  pub first : added ≡ take made (entries_of session command 0 (meaning_of (replay old.journal) parsed).changes)
  pub count : length added ≡ made
  pub accepted : IsAccepted now.limits now.journal

Grown-none : (session command : ℕ) (old : Rooted) (parsed : Parsed) → IsAccepted old.limits old.journal → Grown session command old old parsed 0
Grown-none session command old parsed accepted = record { added = []; grows = sym (append-nil old.journal); limits = refl; first = refl; count = refl; accepted = accepted }

-- a command under way, which has asked for this entry
pub record Publishing (before session : Standing) (old now : Rooted) (parsed : Parsed) (entry : Entry) : Type 0 where
  pub made : ℕ
  pub reached : ℕ
  pub under_way : session ≡ going_on before (record { base = old; parsed = parsed; made = made; reached = reached })
  pub at_end : reached ≡ length now.journal
  pub asks : AsksNext before (record { base = old; parsed = parsed; made = made; reached = reached }) entry
  pub grown : Grown before.session before.command old now parsed made

-- how far a command with these texts has come
abbrev RunsAs : Standing → Standing → Rooted → Rooted → Parsed → Step → Type 0
RunsAs before session old now parsed (Publish entry) = Publishing before session old now parsed entry
RunsAs before session old now parsed (Finished done) = Steps before session old now parsed.item done

-- an item of which an entry is asked for, by what its texts are read as
pub record Asking (before session : Standing) (old now : Rooted) (item : Item) (entry : Entry) : Type 0 where
  pub texts : Texts
  pub publishing : Publishing before session old now (parsed_as item texts) entry

-- how far a command has come
abbrev pub Runs : Standing → Standing → Rooted → Rooted → Item → Step → Type 0
Runs before session old now item (Publish entry) = Asking before session old now item entry
Runs before session old now item (Finished done) = Steps before session old now item done

Runs-as : (before session : Standing) (old now : Rooted) (item : Item) (texts : Texts) (step : Step) → RunsAs before session old now (parsed_as item texts) step → Runs before session old now item step
Runs-as before session old now item texts (Publish entry) publishing = record { texts = texts; publishing = publishing }
Runs-as before session old now item texts (Finished done) steps = steps

OwnsFirst-grown : (session command : ℕ) (old now : Rooted) (parsed : Parsed) (made : ℕ) (done : Done) → (grown : Grown session command old now parsed made) → own session command old.journal ≡ [] → done.from ≡ length old.journal → done.mark ≡ length now.journal
    → OwnsFirst now.journal session command parsed done made
OwnsFirst-grown session command old now parsed made done grown none from mark =
    let owned = own-grown session command old.journal grown.added none (rw grown.first (AreOwn-first session command made (meaning_of (replay old.journal) parsed).changes)) in
    let stands : own session command now.journal ≡ _ = ap (own session command) grown.grows ∙ owned in
    let read : meaning_at now.journal parsed done ≡ meaning_of (replay old.journal) parsed = meaning_at-begins old.journal now.journal parsed done (record { rest = grown.added; whole = grown.grows }) from in
    let count : length now.journal ≡ length old.journal + length grown.added = ap length grown.grows ∙ length-append old.journal grown.added in
    record {
      count = ap length stands ∙ length-placed (length old.journal) grown.added ∙ grown.count;
      entries = rw (stands, read, entries-placed (length old.journal) grown.added) grown.first;
      places = rw stands (places-placed done.from done.mark (length old.journal) grown.added (omega arith) (omega arith));
    }

after_last-grown : (session command : ℕ) (old now : Rooted) (parsed : Parsed) (made : ℕ) (done : Done) → (grown : Grown session command old now parsed made) → own session command old.journal ≡ [] → done.from ≡ length old.journal → done.mark ≡ length now.journal
    → after_last done.from (own session command now.journal) ≡ done.mark
after_last-grown session command old now parsed made done grown none from mark =
    let owned = own-grown session command old.journal grown.added none (rw grown.first (AreOwn-first session command made (meaning_of (replay old.journal) parsed).changes)) in
    ap (after_last done.from) (ap (own session command) grown.grows ∙ owned)
    ∙ ap (λ start. after_last start (placed_from (length old.journal) grown.added)) from ∙ after_last-placed (length old.journal) grown.added
    ∙ sym (mark ∙ ap length grown.grows ∙ length-append old.journal grown.added)

-- a command that ends has stepped
Steps-ends : (before session : Standing) (old now : Rooted) (parsed : Parsed) (made reached mark : ℕ) (done : Done) (claim : List Entry → Type 0)
    → Ends before session (record { base = old; parsed = parsed; made = made; reached = reached }) mark done claim
    → Grown before.session before.command old now parsed made → mark ≡ length now.journal
    → (own before.session before.command old.journal ≡ [] → done.from ≡ length old.journal → done.mark ≡ length now.journal → claim now.journal → Reply old.limits now.journal before.session before.command parsed.item done)
    → Steps before session old now parsed.item done
Steps-ends before session old now parsed made reached mark done claim ends grown at_end holds =
    let marked : done.mark ≡ length now.journal = ends.mark_is ∙ at_end in
    record {
      added = grown.added;
      grows = grown.grows;
      limits = grown.limits;
      owned = rw grown.first (AreOwn-first before.session before.command made (meaning_of (replay old.journal) parsed).changes);
      accepted = grown.accepted;
      from = ends.from;
      reply = λ none. claimed session.ended (IsStarved now.journal before.session before.command parsed.item done) (claim now.journal) (Reply old.limits now.journal before.session before.command parsed.item done)
          (holds none ends.from marked)
          (ends.reply now.journal (record { rest = grown.added; whole = grown.grows }) (omega (arith, at_end)) (OwnsFirst-grown before.session before.command old now parsed made done grown none ends.from marked));
      limits_same = ap (λ standing. standing.limits) ends.new_is;
      session = ap (λ standing. standing.session) ends.new_is;
      command = ap (λ standing. standing.command) ends.new_is;
      mark = ap (λ standing. standing.mark) ends.new_is ∙ sym ends.mark_is;
      idle = ap (λ standing. standing.going) ends.new_is;
    }

-- where it was done with all that it asked for
Steps-whole : (before session : Standing) (old now : Rooted) (parsed : Parsed) (made reached mark : ℕ) (done : Done)
    → Ends before session (record { base = old; parsed = parsed; made = made; reached = reached }) mark done (HoldsAfterLast before (record { base = old; parsed = parsed; made = made; reached = reached }) done)
    → Grown before.session before.command old now parsed made → mark ≡ length now.journal → before.limits ≡ old.limits
    → Steps before session old now parsed.item done
Steps-whole before session old now parsed made reached mark done ends grown at_end limits =
    Steps-ends before session old now parsed made reached mark done (HoldsAfterLast before (record { base = old; parsed = parsed; made = made; reached = reached }) done) ends grown at_end
    (λ none from marked holds. rw limits at (holds (after_last-grown before.session before.command old now parsed made done grown none from marked)))

-- the same of a session as it stood between two entries
Steps-under_way : (before session : Standing) (going : Going) (old now : Rooted) (parsed : Parsed) (done : Done) → Steps (going_on before going) session old now parsed.item done → Steps before session old now parsed.item done
Steps-under_way before session going old now parsed done steps = record {
  added = steps.added;
  grows = steps.grows;
  limits = steps.limits;
  owned = steps.owned;
  accepted = steps.accepted;
  from = steps.from;
  reply = steps.reply;
  limits_same = steps.limits_same;
  session = steps.session;
  command = steps.command;
  mark = steps.mark;
  idle = steps.idle;
}

begins : (before session : Standing) (old : Rooted) (parsed : Parsed) (step : Step) → before.limits ≡ old.limits → IsAccepted old.limits old.journal → BeginsAs before session old parsed step → RunsAs before session old old parsed step
begins before session old parsed (Publish entry) limits accepted step = record {
  made = 0;
  reached = length old.journal;
  under_way = step.0;
  at_end = refl;
  asks = step.1;
  grown = Grown-none before.session before.command old parsed accepted;
}
begins before session old parsed (Finished done) limits accepted step =
    Steps-whole before session old old parsed 0 (length old.journal) (length old.journal) done step (Grown-none before.session before.command old parsed accepted) refl limits

-- as a command begins
pub Runs-begins : (before session : Standing) (old : Rooted) (item : Item) (step : Step) → before.limits ≡ old.limits → IsAccepted old.limits old.journal → BeginsWith before session old item step → Runs before session old old item step
Runs-begins before session old item step limits accepted read =
    Runs-as before session old old item read.0 step (begins before session old (parsed_as item read.0) step limits accepted read.1)

AsksNext-under_way : (before : Standing) (past going : Going) (entry : Entry) → AsksNext (going_on before past) going entry → AsksNext before going entry
AsksNext-under_way before past going entry asks = record { read = asks.read; change = asks.change; entry_is = asks.entry_is; valid = asks.valid; text = asks.text }

-- what was asked for is valid where the journal stands now
pub Asking-valid : (before session : Standing) (old now : Rooted) (item : Item) (entry : Entry) → Asking before session old now item entry → IsValid (replay now.journal).schema entry.change
Asking-valid before session old now item entry asking =
    let publishing = asking.publishing in
    rw publishing.grown.grows (IsValid-grown old.journal publishing.grown.added entry.change publishing.asks.valid)

Grown-more : (before session : Standing) (old now next : Rooted) (parsed : Parsed) (entry : Entry) → (publishing : Publishing before session old now parsed entry) → next.limits ≡ now.limits → next.journal ≡ now.journal ++ entry ∷ [] → IsAccepted next.limits next.journal
    → Grown before.session before.command old next parsed (publishing.made + 1)
Grown-more before session old now next parsed entry publishing limits longer accepted =
    let grown = publishing.grown in
    let changes = (meaning_of (replay old.journal) parsed).changes in
    record {
      added = grown.added ++ entry ∷ [];
      grows = longer ∙ ap (λ journal. journal ++ entry ∷ []) grown.grows ∙ append_assoc old.journal grown.added (entry ∷ []);
      limits = limits ∙ grown.limits;
      first =
          ap (λ added. added ++ entry ∷ []) grown.first
          ∙ ap (λ last. take publishing.made (entries_of before.session before.command 0 changes) ++ last ∷ []) publishing.asks.entry_is
          ∙ sym (entries-more before.session before.command publishing.made changes entry.change publishing.asks.change);
      count = length_push grown.added entry ∙ ap (λ n. n + 1) grown.count;
      accepted = accepted;
    }

-- a command goes on
goes_on : (before session new : Standing) (old now next : Rooted) (parsed : Parsed) (entry : Entry) (answer : Answer) (step : Step) → (publishing : Publishing before session old now parsed entry) → before.limits ≡ old.limits → Publishes now next entry answer → IsAccepted next.limits next.journal
    → GoesOn (going_on before (record { base = old; parsed = parsed; made = publishing.made; reached = publishing.reached })) new (record { base = old; parsed = parsed; made = publishing.made; reached = publishing.reached }) answer step
    → RunsAs before new old next parsed step
goes_on before session new old now next parsed entry (Published place) (Publish another) publishing limits published accepted goes = record {
  made = publishing.made + 1;
  reached = place + 1;
  under_way = goes.0;
  at_end = omega (arith, published.at_end, length_push now.journal entry, ap (λ root. length root.journal) published.applied.last);
  asks = AsksNext-under_way before _ _ another goes.1;
  grown = Grown-more before session old now next parsed entry publishing (ap (λ root. root.limits) published.applied.last) (ap (λ root. root.journal) published.applied.last) accepted;
}
goes_on before session new old now next parsed entry (Published place) (Finished done) publishing limits published accepted goes =
    let going : Going = record { base = old; parsed = parsed; made = publishing.made; reached = publishing.reached } in
    Steps-under_way before new going old next parsed done
    (Steps-whole (going_on before going) new old next parsed (publishing.made + 1) (place + 1) (place + 1) done goes
    (Grown-more before session old now next parsed entry publishing (ap (λ root. root.limits) published.applied.last) (ap (λ root. root.journal) published.applied.last) accepted)
    (omega (arith, published.at_end, length_push now.journal entry, ap (λ root. length root.journal) published.applied.last))
    limits)
goes_on before session new old now next parsed entry (Refused fault mark) (Publish another) publishing limits away accepted goes = absurd goes
goes_on before session new old now next parsed entry (Refused fault mark) (Finished done) publishing limits away accepted goes =
    let going : Going = record { base = old; parsed = parsed; made = publishing.made; reached = publishing.reached } in
    rw away.same
    (Steps-under_way before new going old now parsed done
    (Steps-ends (going_on before going) new old now parsed publishing.made publishing.reached mark done (HoldsWhereRefused (going_on before going) going fault done) goes publishing.grown away.at_end
    (λ none from marked holds.
    let all : take done.mark now.journal ≡ now.journal = take_all done.mark now.journal (omega arith) in
    let here : now.limits ≡ before.limits = publishing.grown.limits ∙ sym limits in
    rw limits at
    (holds entry (record { read = publishing.asks.read; change = publishing.asks.change; entry_is = publishing.asks.entry_is; valid = publishing.asks.valid; text = publishing.asks.text })
    (rw (all, ← here) away.refused.first)))))
goes_on before session new old now next parsed entry (NoMemory mark) (Publish another) publishing limits none accepted goes = absurd goes
goes_on before session new old now next parsed entry (NoMemory mark) (Finished done) publishing limits unmade accepted goes =
    let going : Going = record { base = old; parsed = parsed; made = publishing.made; reached = publishing.reached } in
    rw unmade.same
    (Steps-under_way before new going old now parsed done
    (Steps-ends (going_on before going) new old now parsed publishing.made publishing.reached mark done (λ journal. ⊥) goes publishing.grown unmade.at_end
    (λ none from marked holds. absurd holds)))

-- as its session goes on
pub Runs-goes_on : (before session new : Standing) (old now next : Rooted) (item : Item) (entry : Entry) (answer : Answer) (step : Step) → before.limits ≡ old.limits → Asking before session old now item entry → Publishes now next entry answer → IsAccepted next.limits next.journal
    → IfSome session.going (λ going. GoesOn session new going answer step)
    → Runs before new old next item step
Runs-goes_on before session new old now next item entry answer step limits asking publishes accepted goes =
    Runs-as before new old next item asking.texts step
    (goes_on before session new old now next (parsed_as item asking.texts) entry answer step asking.publishing limits publishes accepted
    (subst (λ (standing : Standing). IfSome standing.going (λ going. GoesOn standing new going answer step)) asking.publishing.under_way goes))

-- how many steps a session's command may still take
abbrev pub steps_left : Option Going → ℕ
steps_left None = 0
steps_left (Some going) = suc (length ((meaning_of (replay going.base.journal) going.parsed).changes) - going.made)

fewer : (standing new : Standing) (going : Going) (answer : Answer) (step : Step) → standing.going ≡ Some going → going.made < length ((meaning_of (replay going.base.journal) going.parsed).changes) → GoesOn standing new going answer step → steps_left new.going < steps_left standing.going
fewer standing new going (Published place) (Publish entry) is below goes =
    let now : new.going ≡ Some (made_at going place) = ap (λ standing. standing.going) goes.0 in
    rw (now, is) (omega arith)
fewer standing new going (Published place) (Finished done) is below goes =
    let now : new.going ≡ None = ap (λ standing. standing.going) goes.new_is in
    rw (now, is) (omega arith)
fewer standing new going (Refused fault mark) (Publish entry) is below goes = absurd goes
fewer standing new going (Refused fault mark) (Finished done) is below goes =
    let now : new.going ≡ None = ap (λ standing. standing.going) goes.new_is in
    rw (now, is) (omega arith)
fewer standing new going (NoMemory mark) (Publish entry) is below goes = absurd goes
fewer standing new going (NoMemory mark) (Finished done) is below goes =
    let now : new.going ≡ None = ap (λ standing. standing.going) goes.new_is in
    rw (now, is) (omega arith)

-- each answer leaves fewer
pub steps_left-fewer : (before session new : Standing) (old now : Rooted) (item : Item) (entry : Entry) (answer : Answer) (step : Step) → Asking before session old now item entry
    → IfSome session.going (λ going. GoesOn session new going answer step)
    → steps_left new.going < steps_left session.going
steps_left-fewer before session new old now item entry answer step asking goes =
    let publishing = asking.publishing in
    let going : Going = record { base = old; parsed = parsed_as item asking.texts; made = publishing.made; reached = publishing.reached } in
    let is : session.going ≡ Some going = ap (λ standing. standing.going) publishing.under_way in
    fewer session new going answer step is (slice_get_within _ publishing.made entry.change publishing.asks.change)
    (subst (λ (found : Option Going). IfSome found (λ going. GoesOn session new going answer step)) is goes)
