use Rattle.std.proofs.Common.{refl, rules, subst, sym, ◌∙◌, ◌≡◌, Err, List, ℕ, Ok, Result, Some}
use Rattle.gr_base.specs.Failure.{Answers}
use Rattle.gr_base.specs.declared.failure.Failure.TheVariants.{Refused}
use Rattle.gr_base.specs.declared.fault.Fault.{Fault}
use Rattle.gr_db.specs.Apply.{replay}
use Rattle.gr_schema.specs.Schema.{SchemaDef, table_at}
use Rattle.gr_schema.specs.Wishes.{home_of}
use Rattle.gr_select.specs.Select.{db_of, select}
use Rattle.gr_session.specs.declared.form.Form.TheVariants.{Plain}
use Rattle.gr_session.proofs.ToldLemmas.{Asks-refused, Asks-told}
use Rattle.gr_session.proofs.commands.select.select_in.Goals as goal

pub returns-in_ok-success_with-in-Ok : goal.returns-in_ok-success_with-in-Ok
returns-in_ok-success_with-in-Ok c = λ home at.
    let db = replay c.args.root.now.journal in
    let home_is = home_of c.args.table home in
    let command = c.args.command.now in
    let there = subst (λ (schema : SchemaDef). table_at schema c.args.table ≡ Some home) (sym c.schema.ensures.exact) at in
    let told : select db home_is command.args.given c.args.texts.now ≡ Ok c.in-Ok.body =
    subst (λ (schema : SchemaDef). select (db_of schema db.tables) home_is command.args.given c.args.texts.now ≡ Ok c.in-Ok.body) c.schema.ensures.exact ((c.select.ensures.exact home there).found c.in-Ok.body c.in-Ok.is) in
    Asks-told db home_is command c.args.texts.now c.in-Ok.body c.nothing.result told c.nothing.ensures.changes (c.nothing.ensures.answer ∙ c.in_ok-success_with-in-Ok.ensures)

pub returns-in-Err-Refused : goal.returns-in-Err-Refused
returns-in-Err-Refused c = λ home at.
    let db = replay c.args.root.now.journal in
    let home_is = home_of c.args.table home in
    let command = c.args.command.now in
    let fault = c.in-Err-Refused.fault in
    let is : c.select.result ≡ Err (Refused fault) = search rules in
    let there = subst (λ (schema : SchemaDef). table_at schema c.args.table ≡ Some home) (sym c.schema.ensures.exact) at in
    let told : select db home_is command.args.given c.args.texts.now ≡ Err fault =
    subst (λ (schema : SchemaDef). select (db_of schema db.tables) home_is command.args.given c.args.texts.now ≡ Err fault) c.schema.ensures.exact ((c.select.ensures.exact home there).refused fault is) in
    Asks-refused db home_is command c.args.texts.now fault c.refused.result told (c.refused.ensures db Plain refl)
