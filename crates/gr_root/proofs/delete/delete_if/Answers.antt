use Rattle.std.proofs.Common.{◌≡◌, ◌∙◌, Some, None, List, ap, refl, subst, sym}
use Rattle.gr_db.specs.Apply.{id_if}
use Rattle.gr_db.proofs.Grows.{extends-itself}
use Rattle.gr_expr.specs.Fits.{Fits}
use Rattle.gr_expr.specs.declared.typed.Expr.{Expr}
use Rattle.gr_root.specs.Inside.Change.{IsRemoved}
use Rattle.gr_root.specs.Inside.Sound.{records_in}
use Rattle.gr_root.specs.Inside.Walk.{db_of}
use Rattle.gr_root.proofs.ChangeLemmas.{found-alive, made-deleted-if, made-unchanged}
use Rattle.gr_table.specs.Table.{TableOf}
use Rattle.gr_root.proofs.delete.delete_if.Goals as goal

pub id_if-requires : goal.id_if-requires
id_if-requires c =
    let same : c.new-working.result ≡ c.args.tables.now = c.new-working.ensures ∙ c.in_ok-try_clone.ensures in
    let fits : Fits (records_in c.args.tables.now) c.args.condition.now = c.requires.valid.fits (db_of c.args.schema.now c.args.tables.now) (extends-itself c.args.schema.now) c.requires.fitting in
    subst (λ (condition : Expr). Fits (records_in c.new-working.result) condition) (sym c.get.ensures)
    (subst (λ (tables : List TableOf). Fits (records_in tables) c.args.condition.now) (sym same) fits)

pub removed-requires : goal.removed-requires
removed-requires c =
    let schema = c.args.schema.now in
    let condition = c.args.condition.now in
    let found : id_if (db_of schema c.new-working.result) c.args.table c.args.id condition ≡ Some c.in-Some.id =
    ap (id_if (db_of schema c.new-working.result) c.args.table c.args.id) (sym c.get.ensures) ∙ sym (c.id_if.ensures (db_of schema c.new-working.result) refl) ∙ c.in-Some.is in
    found-alive schema c.new-working.result c.args.table c.args.id condition c.in-Some.id found

pub returns-in_ok-removed-in-Some : goal.returns-in_ok-removed-in-Some
returns-in_ok-removed-in-Some c =
    let schema = c.args.schema.now in
    let tables = c.args.tables.now in
    let condition = c.args.condition.now in
    let same : c.new-working.result ≡ tables = c.new-working.ensures ∙ c.in_ok-try_clone.ensures in
    let found : id_if (db_of schema tables) c.args.table c.args.id condition ≡ Some c.in-Some.id =
    ap (id_if (db_of schema tables) c.args.table c.args.id) (sym c.get.ensures) ∙ sym (c.id_if.ensures (db_of schema tables) (ap records_in (sym same))) ∙ c.in-Some.is in
    let gone : IsRemoved schema tables c.args.table c.in-Some.id _ = rw same at c.in_ok-removed-in-Some.ensures in
    made-deleted-if c.args.limits schema tables c.args.table c.args.id condition c.in-Some.id _ found gone c.requires.base.formed c.requires.base.within

pub returns-in_ok-unchanged-in-None : goal.returns-in_ok-unchanged-in-None
returns-in_ok-unchanged-in-None c =
    let schema = c.args.schema.now in
    let tables = c.args.tables.now in
    let condition = c.args.condition.now in
    let same : c.new-working.result ≡ tables = c.new-working.ensures ∙ c.in_ok-try_clone.ensures in
    let none : id_if (db_of schema tables) c.args.table c.args.id condition ≡ None =
    ap (id_if (db_of schema tables) c.args.table c.args.id) (sym c.get.ensures) ∙ sym (c.id_if.ensures (db_of schema tables) (ap records_in (sym same))) ∙ c.in-None.is in
    made-unchanged c.args.limits schema tables c.args.table c.args.id condition _ none c.in_ok-unchanged-in-None.ensures c.requires.base.formed c.requires.base.within
