use Rattle.std.proofs.Common.{◌∷◌, ◌++◌, [], List, ap, refl, sym, subst, ◌∙◌, arith}
use Rattle.std.specs.Arc.{arc_value}
use Rattle.std.specs.Prelude.{Err}
use Rattle.gr_db.specs.Apply.{replay}
use Rattle.gr_db.specs.Changed.{Place}
use Rattle.gr_db.specs.Entry.{IsValid}
use Rattle.gr_db.specs.declared.entry.Entry.{Entry}
use Rattle.gr_root.specs.Inside.Make.{IsMade, Makes}
use Rattle.gr_root.specs.Inside.Walk.{db_of}
use Rattle.gr_root.specs.Root.{Rooted}
use Rattle.gr_schema.specs.Sound.{IsSound as IsSoundSchema}
use Rattle.gr_root.proofs.AppliedLemmas.{change-refused, entry-applied, has-room, is-full, journal-refused, sound-pushed, state-columns, state-counted, state-long, state-tables}
use Rattle.gr_root.proofs.GoodLemmas.{good-fitting}
use Rattle.gr_root.proofs.root.Root.applied.Goals as goal

pub made-requires-clause-fitting : goal.made-requires-clause-fitting
made-requires-clause-fitting c =
    let root = c.self.inside in
    good-fitting (db_of root.schema root.tables) (subst IsSoundSchema c.get.ensures c.tell_sound.ensures) c.self.invariant.good

pub made-requires-clause-few_tables : goal.made-requires-clause-few_tables
made-requires-clause-few_tables c = state-tables c.self.inside c.self.invariant

pub made-requires-clause-few_columns : goal.made-requires-clause-few_columns
made-requires-clause-few_columns c = state-columns c.self.inside c.self.invariant

pub returns-in-Err : goal.returns-in-Err
returns-in-Err c =
    let root = c.self.inside in
    change-refused root c.args.self.now (arc_value c.args.entry) c.in-Err.failure c.self.invariant c.self.view_is
    (subst (λ (entry : Entry). Makes root.limits root.schema root.tables entry.change (Err c.in-Err.failure)) c.deref.ensures c.in-Err.ensures)

pub overflow_sub-len : goal.overflow_sub-len
overflow_sub-len c = omega (arith, state-counted c.self.inside c.self.invariant, c.len.ensures)

pub returns-then-len-self : goal.returns-then-len-self
returns-then-len-self c =
    let root = c.self.inside in
    let made : IsMade root.limits root.schema root.tables (arc_value c.args.entry).change c.in-Ok.made =
    subst (λ (entry : Entry). IsMade root.limits root.schema root.tables entry.change c.in-Ok.made) c.deref.ensures c.in-Ok.ensures in
    journal-refused root c.args.self.now (arc_value c.args.entry) c.in-Ok.made c.in_ok-journal_full.field-0 c.self.invariant c.self.view_is made
    (is-full root c.len.result c.self.invariant c.len.ensures c.if-len-self.true)
    c.in_ok-journal_full.ensures.is
    c.in_ok-journal_full.ensures.text

pub pushed-requires : goal.pushed-requires
pushed-requires c = omega (arith, c.self.invariant.touched.long, state-long c.self.inside c.self.invariant)

pub pushed-requires-2 : goal.pushed-requires-2
pushed-requires-2 c = state-long c.self.inside c.self.invariant

pub invariant_of-result : goal.invariant_of-result
invariant_of-result c =
    let root = c.self.inside in
    let made : IsMade root.limits root.schema root.tables (arc_value c.args.entry).change c.in-Ok.made =
    subst (λ (entry : Entry). IsMade root.limits root.schema root.tables entry.change c.in-Ok.made) c.deref.ensures c.in-Ok.ensures in
    let valid : IsValid (replay root.journal).schema (arc_value c.args.entry).change =
    subst (λ (r : Rooted). IsValid (replay r.journal).schema (arc_value c.args.entry).change) (sym c.self.view_is) c.requires.valid in
    sound-pushed root _ (arc_value c.args.entry) c.in-Ok.made c.self.invariant
    (subst IsSoundSchema c.get.ensures c.tell_sound.ensures)
    (subst IsSoundSchema c.get-2.ensures c.tell_sound-2.ensures)
    valid
    made
    (has-room root c.len.result c.self.invariant c.len.ensures c.if-len-self.false)
    refl
    c.in_ok-journal.ensures
    refl
    refl
    refl
    (c.in_ok-touched.ensures ∙ ap (λ (places : List Place). root.touched ++ places ∷ []) c.in_ok-places.ensures.ok)

pub returns : goal.returns
returns c =
    let root = c.self.inside in
    let made : IsMade root.limits root.schema root.tables (arc_value c.args.entry).change c.in-Ok.made =
    subst (λ (entry : Entry). IsMade root.limits root.schema root.tables entry.change c.in-Ok.made) c.deref.ensures c.in-Ok.ensures in
    entry-applied root c.args.self.now (arc_value c.args.entry) c.in-Ok.made c.in_ok-journal.journal c.self.invariant c.self.view_is made
    (has-room root c.len.result c.self.invariant c.len.ensures c.if-len-self.false)
    c.in_ok-journal.ensures
