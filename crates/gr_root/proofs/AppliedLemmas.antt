-- What a state keeps of its fields, with one entry more.
use Rattle.std.proofs.Common.{ℕ, zero, suc, ◌≡◌, ◌+◌, ◌<◌, ◌≤◌, ◌≢◌, ◌-◌, ◌^◌, ◌==◌, ◌⊎◌, inl, inr, Bool, true, false, cond, not, Option, Some, None, List, [], ◌∷◌, ◌++◌, filter, length, map, take, slice_get, refl, sym, ap, subst, ◌∙◌, arith, length-append}
use Rattle.std.proofs.lemmas.Bool.Decides.{nat_tests}
use Rattle.std.proofs.lemmas.List.{append-nil, take-append-le, take_at}
use Rattle.std.proofs.lemmas.List.Elements.{filter-append}
use Rattle.std.proofs.lemmas.List.Filters.{length-filter_both}
use Rattle.std.proofs.lemmas.List.Sums.{fold-append}
use Rattle.std.proofs.lemmas.Option.{none-some, same_Some}
use Rattle.std.specs.Option.{option_or}
use Rattle.std.specs.Prelude.{Err, IsUtf8}
use Rattle.gr_base.specs.Fault.{fault_named}
use Rattle.gr_base.specs.Limits.{IsInRange}
use Rattle.gr_base.specs.declared.failure.Failure.{Failure}
use Rattle.gr_base.specs.declared.failure.Failure.TheVariants.{Refused, NoMemory}
use Rattle.gr_base.specs.declared.fault.Fault.{Fault}
use Rattle.gr_base.specs.declared.fault.FaultKind.TheVariants.{JournalFull}
use Rattle.gr_base.specs.declared.numbers.Limits.{Limits}
use Rattle.gr_base.specs.declared.numbers.TableNo.{TableNo}
use Rattle.gr_db.specs.Accepted.{IsAccepted, IsAcceptedAfter}
use Rattle.gr_db.specs.Apply.{apply, change_fault, counted, counts, fault_of, journal_fault, replay}
use Rattle.gr_db.specs.Changed.{Place, touched}
use Rattle.gr_db.specs.Db.{Db, empty}
use Rattle.gr_db.specs.Entry.{IsValid}
use Rattle.gr_db.specs.Fitting.{IsFitting}
use Rattle.gr_db.specs.declared.entry.Change.{Change}
use Rattle.gr_db.specs.declared.entry.Change.TheVariants.{CreateTable, CreateColumn, Put, Delete, DeleteIf, Merge}
use Rattle.gr_db.specs.declared.entry.Entry.{Entry}
use Rattle.gr_expr.specs.Tables.{Records}
use Rattle.gr_root.specs.Inside.Make.{IsMade, IsUnmade, Makes}
use Rattle.gr_root.specs.Inside.Sound.{AreFormed, AreGoodIn, AreTouched, AreWithin, IsGoodDb, IsSound, forms_in, records_in}
use Rattle.gr_root.specs.Inside.Walk.{db_of}
use Rattle.gr_root.specs.Root.{Applies, IsApplied, IsRefused, Rooted, extended, merges_in}
use Rattle.gr_root.specs.declared.make.Made.{Made}
use Rattle.gr_root.specs.declared.root.Root.TheInside.{Inside}
use Rattle.gr_root.proofs.AppliedFew.{few-columns, few-tables}
use Rattle.gr_root.proofs.GoodLemmas.{change-good, good-fitting}
use Rattle.gr_db.proofs.Grows.{slice_get-left}
use Rattle.gr_schema.specs.Schema.{SchemaDef, column_count}
use Rattle.gr_schema.specs.Sound.{IsSound as IsSoundSchema}
use Rattle.gr_table.specs.Table.{TableOf}

-- Lists with one more

-- what stands at a place once one more is pushed
get-pushed : {X : Type 0} (xs : List X) (last : X) (n : ℕ) (x : X) → slice_get (xs ++ last ∷ []) n ≡ Some x → ((n < length xs) × (slice_get xs n ≡ Some x)) ⊎ ((n ≡ length xs) × (last ≡ x))
get-pushed [] last zero x is = inr (refl, same_Some last x is)
get-pushed [] last (suc n) x is = absurd (none-some x is)
get-pushed (first ∷ xs) last zero x is = inl (omega arith, is)
get-pushed (first ∷ xs) last (suc n) x is =
    elim (get-pushed xs last n x is) [ inl before ↦ inl (omega arith, before.1) | inr there ↦ inr (omega arith, there.1) ]

get-last : {X : Type 0} (xs : List X) (last : X) → slice_get (xs ++ last ∷ []) (length xs) ≡ Some last
get-last [] last = refl
get-last (x ∷ xs) last = get-last xs last

get-end : {X : Type 0} (xs : List X) (last : X) (n : ℕ) → n ≡ length xs → slice_get (xs ++ last ∷ []) n ≡ Some last
get-end xs last n at = subst (λ m. slice_get (xs ++ last ∷ []) m ≡ Some last) (sym at) (get-last xs last)

-- Counts

-- entries are merges, or they count
both-counts : (journal : List Entry) → counted journal + merges_in journal ≡ length journal
both-counts journal = length-filter_both (λ (entry : Entry). counts entry.change) (λ (entry : Entry). not (counts entry.change)) (λ entry. refl) journal

valid-counts : (schema : SchemaDef) (change : Change) → IsValid schema change → counts change ≡ true
valid-counts schema (CreateTable wish) valid = refl
valid-counts schema (CreateColumn wish) valid = refl
valid-counts schema (Put table key settings) valid = refl
valid-counts schema (Delete table by) valid = refl
valid-counts schema (DeleteIf table id condition) valid = refl
valid-counts schema (Merge table column from to) valid = absurd valid

counted-pushed : (journal : List Entry) (entry : Entry) → counts entry.change ≡ true → counted (journal ++ entry ∷ []) ≡ counted journal + 1
counted-pushed journal entry counting =
    ap length (filter-append (λ (e : Entry). counts e.change) journal (entry ∷ []))
    ∙ ap (λ b. length (filter (λ (e : Entry). counts e.change) journal ++ cond b (entry ∷ []) [])) counting
    ∙ length-append (filter (λ (e : Entry). counts e.change) journal) (entry ∷ [])

merges-pushed : (journal : List Entry) (entry : Entry) → counts entry.change ≡ true → merges_in (journal ++ entry ∷ []) ≡ merges_in journal
merges-pushed journal entry counting =
    ap length (filter-append (λ (e : Entry). not (counts e.change)) journal (entry ∷ []))
    ∙ ap (λ b. length (filter (λ (e : Entry). not (counts e.change)) journal ++ cond (not b) (entry ∷ []) [])) counting
    ∙ ap (λ (entries : List Entry). length entries) (append-nil (filter (λ (e : Entry). not (counts e.change)) journal))

-- Journals

pub replay-pushed : (journal : List Entry) (entry : Entry) → replay (journal ++ entry ∷ []) ≡ apply (replay journal) entry.change
replay-pushed journal entry = fold-append (λ (db : Db) (entry : Entry). apply db entry.change) empty journal (entry ∷ [])

accepted-after : (limits : Limits) (before : List Entry) (change : Change) → IsValid (replay before).schema change → fault_of limits before change ≡ None → IsAcceptedAfter limits before change
accepted-after limits before (CreateTable wish) valid faultless = record { valid = valid; faultless = faultless }
accepted-after limits before (CreateColumn wish) valid faultless = record { valid = valid; faultless = faultless }
accepted-after limits before (Put table key settings) valid faultless = record { valid = valid; faultless = faultless }
accepted-after limits before (Delete table by) valid faultless = record { valid = valid; faultless = faultless }
accepted-after limits before (DeleteIf table id condition) valid faultless = record { valid = valid; faultless = faultless }
accepted-after limits before (Merge table column from to) valid faultless = absurd valid

accepted-at : (limits : Limits) (journal : List Entry) (last : Entry) (place : ℕ) (entry : Entry) → IsAccepted limits journal → IsAcceptedAfter limits journal last.change
    → ((place < length journal) × (slice_get journal place ≡ Some entry)) ⊎ ((place ≡ length journal) × (last ≡ entry))
    → IsAcceptedAfter limits (take place (journal ++ last ∷ [])) entry.change
accepted-at limits journal last place entry accepted after (inl before) =
    subst (λ (entries : List Entry). IsAcceptedAfter limits entries entry.change) (sym (take-append-le place journal (last ∷ []) (omega arith))) (accepted place entry before.1)
accepted-at limits journal last place entry accepted after (inr there) =
    subst (λ (entries : List Entry). IsAcceptedAfter limits entries entry.change) (sym (take_at journal (last ∷ []) place (sym there.0)))
    (subst (λ (e : Entry). IsAcceptedAfter limits journal e.change) there.1 after)

-- a journal was accepted with one entry more that is valid there and has no fault
pub accepted-pushed : (limits : Limits) (journal : List Entry) (last : Entry) → IsAccepted limits journal → IsValid (replay journal).schema last.change → fault_of limits journal last.change ≡ None
    → IsAccepted limits (journal ++ last ∷ [])
accepted-pushed limits journal last accepted valid faultless place entry is =
    accepted-at limits journal last place entry accepted (accepted-after limits journal last.change valid faultless) (get-pushed journal last place entry is)

touched-at : (journal : List Entry) (places : List (List Place)) (last : Entry) (new : List Place) (place : ℕ) (entry : Entry) → AreTouched journal places → new ≡ touched (replay journal) last.change
    → ((place < length journal) × (slice_get journal place ≡ Some entry)) ⊎ ((place ≡ length journal) × (last ≡ entry))
    → slice_get (places ++ new ∷ []) place ≡ Some (touched (replay (take place (journal ++ last ∷ []))) entry.change)
touched-at journal places last new place entry old is (inl before) =
    let kept : take place (journal ++ last ∷ []) ≡ take place journal = take-append-le place journal (last ∷ []) (omega arith) in
    slice_get-left places (new ∷ []) place (touched (replay (take place journal)) entry.change) (old.each place entry before.1)
    ∙ ap (λ (entries : List Entry). Some (touched (replay entries) entry.change)) (sym kept)
touched-at journal places last new place entry old is (inr there) =
    let kept : take place (journal ++ last ∷ []) ≡ journal = take_at journal (last ∷ []) place (sym there.0) in
    get-end places new place (there.0 ∙ sym old.long)
    ∙ ap Some (is ∙ ap (λ (e : Entry). touched (replay journal) e.change) there.1)
    ∙ ap (λ (entries : List Entry). Some (touched (replay entries) entry.change)) (sym kept)

-- the records that each entry touches, with those of one more
pub touched-pushed : (journal : List Entry) (places : List (List Place)) (last : Entry) (new : List Place) → AreTouched journal places → new ≡ touched (replay journal) last.change → AreTouched (journal ++ last ∷ []) (places ++ new ∷ [])
touched-pushed journal places last new old is = record {
  long = length-append places (new ∷ []) ∙ ap (λ n. n + 1) old.long ∙ sym (length-append journal (last ∷ []));
  each = λ place entry at. touched-at journal places last new place entry old is (get-pushed journal last place entry at);
}

-- Faults

-- the entry has no fault where its change has none and the journal is not full
pub faultless : (limits : Limits) (journal : List Entry) (change : Change) → change_fault limits (replay journal) change ≡ None → (counted journal == limits.journal) ≡ false → fault_of limits journal change ≡ None
faultless limits journal change none room =
    ap (λ (o : Option Fault). option_or o (journal_fault limits journal)) none ∙ ap (λ b. cond b (Some (fault_named JournalFull [])) None) room

-- the journal is full, which comes after a change's own faults
pub full-last : (limits : Limits) (journal : List Entry) (change : Change) → change_fault limits (replay journal) change ≡ None → (counted journal == limits.journal) ≡ true → fault_of limits journal change ≡ Some (fault_named JournalFull [])
full-last limits journal change none full =
    ap (λ (o : Option Fault). option_or o (journal_fault limits journal)) none ∙ ap (λ b. cond b (Some (fault_named JournalFull [])) None) full

-- a change's own fault is the first one
pub own-first : (limits : Limits) (journal : List Entry) (change : Change) (fault : Fault) → change_fault limits (replay journal) change ≡ Some fault → fault_of limits journal change ≡ Some fault
own-first limits journal change fault is = ap (λ (o : Option Fault). option_or o (journal_fault limits journal)) is

-- The state

-- what schema and tables of a state stand for
pub state-db : (root : Inside) → IsSound root → db_of root.schema root.tables ≡ replay root.journal
state-db root sound =
    ap (λ (schema : SchemaDef). db_of schema root.tables) sound.schema
    ∙ ap (λ (tables : List Records). let db : Db = record { schema = (replay root.journal).schema; tables = tables } in db) sound.tables

-- it has few tables, and few columns in each
pub state-tables : (root : Inside) → IsSound root → length root.schema.tables < 2 ^ 31
state-tables root sound =
    let same : length root.schema.tables ≡ length (replay root.journal).schema.tables = ap (λ (schema : SchemaDef). length schema.tables) sound.schema in
    omega (arith, same, few-tables root.journal, sound.within, sound.limits.journal.1)

pub state-columns : (root : Inside) → IsSound root → (table : TableNo) → column_count root.schema table < 2 ^ 31
state-columns root sound table =
    let same : column_count root.schema table ≡ column_count (replay root.journal).schema table = ap (λ (schema : SchemaDef). column_count schema table) sound.schema in
    omega (arith, same, few-columns root.journal table, sound.within, sound.limits.journal.1)

-- how many entries count
pub state-counted : (root : Inside) → IsSound root → counted root.journal + root.merges ≡ length root.journal
state-counted root sound = ap (λ n. counted root.journal + n) sound.merges ∙ both-counts root.journal

-- the journal is far from the longest that could be
pub state-long : (root : Inside) → IsSound root → length root.journal < 2 ^ 63
state-long root sound = omega (arith, state-counted root sound, sound.within, sound.limits.journal.1, sound.few_merges)

room-left : (n limit : ℕ) → n ≤ limit → (n == limit) ≡ false → n + 1 ≤ limit
room-left n limit within apart = grind (arith, nat_tests, within, apart)

-- a state with one entry more, whose change was made where there was room, is sound
pub sound-pushed : (old new : Inside) (entry : Entry) (made : Made) → IsSound old → IsSoundSchema old.schema → IsSoundSchema made.schema → IsValid (replay old.journal).schema entry.change → IsMade old.limits old.schema old.tables entry.change made
    → (counted old.journal == old.limits.journal) ≡ false → new.limits ≡ old.limits → new.journal ≡ old.journal ++ entry ∷ [] → new.merges ≡ old.merges
    → new.schema ≡ made.schema → new.tables ≡ made.tables → new.touched ≡ old.touched ++ made.touched ∷ [] → IsSound new
sound-pushed old new entry made sound known grown valid is room limits journal merges schema tables places =
    let change = entry.change in
    let counting : counts change ≡ true = valid-counts (replay old.journal).schema change valid in
    let before : db_of old.schema old.tables ≡ replay old.journal = state-db old sound in
    let none : change_fault old.limits (replay old.journal) change ≡ None = ap (λ (db : Db). change_fault old.limits db change) (sym before) ∙ is.faultless in
    let whole : db_of made.schema made.tables ≡ replay new.journal =
    is.is ∙ ap (λ (db : Db). apply db change) before ∙ sym (replay-pushed old.journal entry) ∙ ap (λ (entries : List Entry). replay entries) (sym journal) in
    let more : counted new.journal ≡ counted old.journal + 1 = ap (λ (entries : List Entry). counted entries) journal ∙ counted-pushed old.journal entry counting in
    let below : counted old.journal + 1 ≤ old.limits.journal = room-left (counted old.journal) old.limits.journal sound.within room in
    let valid_now : IsValid old.schema change = subst (λ (db : Db). IsValid db.schema change) (sym before) valid in
    let good : IsGoodDb (db_of made.schema made.tables) =
    subst IsGoodDb (sym is.is)
    (change-good old.limits (db_of old.schema old.tables) change known (subst IsSoundSchema (ap (λ (db : Db). db.schema) is.is) grown) sound.good valid_now is.faultless) in
    let places_now : made.touched ≡ touched (replay old.journal) change = is.touched ∙ ap (λ (db : Db). touched db change) before in
    record {
      limits = subst IsInRange (sym limits) sound.limits;
      accepted = subst (λ (l : Limits). IsAccepted l new.journal) (sym limits)
          (subst (IsAccepted old.limits) (sym journal) (accepted-pushed old.limits old.journal entry sound.accepted valid (faultless old.limits old.journal change none room)));
      within = subst (λ (l : Limits). counted new.journal ≤ l.journal) (sym limits) (omega (arith, more, below));
      merges = merges ∙ sound.merges ∙ sym (merges-pushed old.journal entry counting) ∙ ap (λ (entries : List Entry). merges_in entries) (sym journal);
      few_merges = omega (arith, merges, sound.few_merges);
      schema = schema ∙ ap (λ (db : Db). db.schema) whole;
      tables = ap records_in tables ∙ ap (λ (db : Db). db.tables) whole;
      formed = subst (λ (s : SchemaDef). AreFormed s new.tables) (sym schema) (subst (AreFormed made.schema) (sym tables) is.formed);
      given = subst (λ (l : Limits). AreWithin l.records new.tables) (sym limits) (subst (AreWithin old.limits.records) (sym tables) is.within);
      good = subst (λ (s : SchemaDef). AreGoodIn (forms_in s) (records_in new.tables)) (sym schema) (subst (λ (ts : List TableOf). AreGoodIn (forms_in made.schema) (records_in ts)) (sym tables) good);
      touched = subst (λ (ps : List (List Place)). AreTouched new.journal ps) (sym places)
          (subst (λ (entries : List Entry). AreTouched entries (old.touched ++ made.touched ∷ [])) (sym journal) (touched-pushed old.journal old.touched entry made.touched sound.touched places_now));
    }

not-same : (m n : ℕ) → m ≢ n → (m == n) ≡ false
not-same m n apart = grind (arith, nat_tests, apart)

-- What applied answers

-- a state as it is seen
abbrev pub seen : Inside → Rooted
seen root = record { limits = root.limits; journal = root.journal }

-- the change's own fault is the entry's
pub change-refused : (root : Inside) (now : Rooted) (entry : Entry) (failure : Failure Fault) → IsSound root → seen root ≡ now
    → Makes root.limits root.schema root.tables entry.change (Err failure) → Applies now entry (Err failure)
change-refused root now entry (Refused fault) sound view is = record {
  first = subst (λ (r : Rooted). fault_of r.limits r.journal entry.change ≡ Some fault) view
      (own-first root.limits root.journal entry.change fault (ap (λ (db : Db). change_fault root.limits db entry.change) (sym (state-db root sound)) ∙ is.first));
  text = is.text;
}
change-refused root now entry NoMemory sound view is = tt

-- a full journal is the fault of an entry whose change has none
pub journal-refused : (root : Inside) (now : Rooted) (entry : Entry) (made : Made) (fault : Fault) → IsSound root → seen root ≡ now → IsMade root.limits root.schema root.tables entry.change made
    → (counted root.journal == root.limits.journal) ≡ true → fault ≡ fault_named JournalFull [] → IsUtf8 fault.name → IsRefused now entry fault
journal-refused root now entry made fault sound view is full named text = record {
  first = subst (λ (r : Rooted). fault_of r.limits r.journal entry.change ≡ Some fault) view
      (full-last root.limits root.journal entry.change (ap (λ (db : Db). change_fault root.limits db entry.change) (sym (state-db root sound)) ∙ is.faultless) full ∙ ap Some (sym named));
  text = text;
}

-- an entry whose change was made where there was room stands last
pub entry-applied : (old : Inside) (now : Rooted) (entry : Entry) (made : Made) (journal : List Entry) → IsSound old → seen old ≡ now → IsMade old.limits old.schema old.tables entry.change made
    → (counted old.journal == old.limits.journal) ≡ false → journal ≡ old.journal ++ entry ∷ [] → (let new : Rooted = record { limits = old.limits; journal = journal } in IsApplied now new entry)
entry-applied old now entry made journal sound view is room longer = record {
  accepted = subst (λ (r : Rooted). fault_of r.limits r.journal entry.change ≡ None) view
      (faultless old.limits old.journal entry.change (ap (λ (db : Db). change_fault old.limits db entry.change) (sym (state-db old sound)) ∙ is.faultless) room);
  last = ap (λ (entries : List Entry). let new : Rooted = record { limits = old.limits; journal = entries } in new) longer ∙ ap (λ (r : Rooted). extended r entry) view;
}

-- whether the journal is full
pub is-full : (root : Inside) (len : ℕ) → IsSound root → len ≡ length root.journal → len - root.merges ≡ root.limits.journal → (counted root.journal == root.limits.journal) ≡ true
is-full root len sound long full =
    let same : counted root.journal ≡ root.limits.journal = omega (arith, state-counted root sound, long, full) in
    grind (arith, nat_tests, same)

pub has-room : (root : Inside) (len : ℕ) → IsSound root → len ≡ length root.journal → len - root.merges ≢ root.limits.journal → (counted root.journal == root.limits.journal) ≡ false
has-room root len sound long apart = not-same (counted root.journal) root.limits.journal (λ same. apart (omega (arith, state-counted root sound, long, same)))

-- its records fit its schema
pub state-fitting : (root : Inside) (now : Rooted) → IsSound root → seen root ≡ now → IsSoundSchema root.schema → IsFitting (replay now.journal)
state-fitting root now sound view known =
    subst (λ (r : Rooted). IsFitting (replay r.journal)) view (subst IsFitting (state-db root sound) (good-fitting (db_of root.schema root.tables) known sound.good))
