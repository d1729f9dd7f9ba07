use Rattle.std.proofs.Common.{◌≡◌, ◌∙◌, Some, ap, refl, sym}
use Rattle.gr_db.specs.Apply.{id_which}
use Rattle.gr_root.specs.Inside.Change.{IsRemoved}
use Rattle.gr_root.specs.Inside.Sound.{records_in}
use Rattle.gr_root.specs.Inside.Walk.{db_of}
use Rattle.gr_root.proofs.ChangeLemmas.{made-deleted, which-alive}
use Rattle.gr_root.proofs.delete.delete.Goals as goal

pub removed-requires : goal.removed-requires
removed-requires c =
    let named : id_which (db_of c.args.schema.now c.new-working.result) c.args.table c.args.by.now ≡ Some c.in-Some.id =
    sym (c.id_which.ensures (db_of c.args.schema.now c.new-working.result) refl) ∙ c.in-Some.is in
    which-alive c.args.schema.now c.new-working.result c.args.table c.args.by.now c.in-Some.id named

pub returns-in_ok-removed-in-Some : goal.returns-in_ok-removed-in-Some
returns-in_ok-removed-in-Some c =
    let same : c.new-working.result ≡ c.args.tables.now = c.new-working.ensures ∙ c.in_ok-try_clone.ensures in
    let named : id_which (db_of c.args.schema.now c.args.tables.now) c.args.table c.args.by.now ≡ Some c.in-Some.id =
    sym (c.id_which.ensures (db_of c.args.schema.now c.args.tables.now) (ap records_in (sym same))) ∙ c.in-Some.is in
    let gone : IsRemoved c.args.schema.now c.args.tables.now c.args.table c.in-Some.id _ = rw same at c.in_ok-removed-in-Some.ensures in
    made-deleted c.args.limits c.args.schema.now c.args.tables.now c.args.table c.args.by.now c.in-Some.id _ named gone c.requires.base.formed c.requires.base.within
