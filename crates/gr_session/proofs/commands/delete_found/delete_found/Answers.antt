use Rattle.std.proofs.Common.{refl, rules, subst, sym, ◌≡◌, Err, Ok, Result, Some}
use Rattle.std.specs.Result.{IfOk}
use Rattle.gr_base.specs.declared.failure.Failure.TheVariants.{Refused}
use Rattle.gr_base.specs.declared.fault.Fault.{Fault}
use Rattle.gr_db.specs.Apply.{replay}
use Rattle.gr_db.specs.Entry.{IsHome}
use Rattle.gr_expr.specs.declared.typed.Expr.{Expr}
use Rattle.gr_schema.specs.Schema.{SchemaDef, table_at}
use Rattle.gr_schema.specs.Wishes.{home_of}
use Rattle.gr_session.specs.Delete.{condition_in, delete_found}
use Rattle.gr_session.specs.Inside.Kept.{Asks}
use Rattle.gr_session.proofs.DeleteLemmas.{condition-refused}
use Rattle.gr_session.proofs.commands.delete_found.delete_found.Goals as goal

pub returns-in-Ok : goal.returns-in-Ok
returns-in-Ok c = λ home form plain at.
    let db = replay c.args.root.now.journal in
    let table = c.args.table in
    let there = subst (λ (schema : SchemaDef). table_at schema table ≡ Some home) (sym c.schema.ensures.exact) at in
    let found : condition_in db.schema (home_of table home) c.args.texts.now ≡ Ok c.in-Ok.condition =
    subst (λ (schema : SchemaDef). condition_in schema (home_of table home) c.args.texts.now ≡ Ok c.in-Ok.condition) c.schema.ensures.exact ((c.in-Ok.ensures.exact home there).found c.in-Ok.condition refl) in
    let is_home : IsHome db.schema table home = subst (λ (schema : SchemaDef). IsHome schema table home) c.schema.ensures.exact (c.in-Ok.ensures.home home there) in
    subst (λ (meant : Result Expr Fault). IfOk c.deletions.result (λ asked. Asks db (delete_found form db table meant) asked)) (sym found) (c.deletions.ensures home form plain is_home)

pub returns-in-Err-Refused : goal.returns-in-Err-Refused
returns-in-Err-Refused c = λ home form plain at.
    let db = replay c.args.root.now.journal in
    let table = c.args.table in
    let fault = c.in-Err-Refused.fault in
    let there = subst (λ (schema : SchemaDef). table_at schema table ≡ Some home) (sym c.schema.ensures.exact) at in
    let is : c.condition_in.result ≡ Err (Refused fault) = search rules in
    let refused : condition_in db.schema (home_of table home) c.args.texts.now ≡ Err fault =
    subst (λ (schema : SchemaDef). condition_in schema (home_of table home) c.args.texts.now ≡ Err fault) c.schema.ensures.exact ((c.condition_in.ensures.exact home there).refused fault is) in
    condition-refused form db table (condition_in db.schema (home_of table home) c.args.texts.now) fault c.refused.result refused (rw c.in-Err-Refused.field-0-is at c.refused.ensures db form plain)
