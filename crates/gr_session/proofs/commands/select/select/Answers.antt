use Rattle.std.proofs.Common.{refl, ◌≡◌, Some, None, sym, ap, ◌∙◌}
use Rattle.gr_cmdline.specs.declared.param.Param.TheVariants.{Table}
use Rattle.gr_db.specs.Apply.{replay}
use Rattle.gr_schema.specs.Schema.{table_named}
use Rattle.gr_schema.specs.Wishes.{home_of}
use Rattle.gr_session.specs.Checks.{text_of}
use Rattle.gr_session.specs.Meaning.{refused_in}
use Rattle.gr_session.specs.Select.{select, select_of}
use Rattle.gr_session.specs.declared.form.Form.TheVariants.{Plain}
use Rattle.gr_session.proofs.HomeLemmas.{named-at, named-nowhere, some-from, there}
use Rattle.gr_session.proofs.MeaningLemmas.{Asks-same}
use Rattle.gr_session.proofs.commands.select.select.Goals as goal

pub select_in-requires-clause-there : goal.select_in-requires-clause-there
select_in-requires-clause-there c =
    let schema = (replay c.args.root.now.journal).schema in
    let name = text_of c.args.command.now Table in
    let found : table_named schema name ≡ Some c.in-Some.table = sym (rw (c.schema.ensures.exact, c.as_bytes.ensures.value, c.text_of-name.ensures) at c.in-Some.ensures) in
    there schema name c.in-Some.table found

pub returns-in-Some : goal.returns-in-Some
returns-in-Some c =
    let db = replay c.args.root.now.journal in
    let command = c.args.command.now in
    let texts = c.args.texts.now in
    let name = text_of command Table in
    let found : table_named db.schema name ≡ Some c.in-Some.table = sym (rw (c.schema.ensures.exact, c.as_bytes.ensures.value, c.text_of-name.ensures) at c.in-Some.ensures) in
    let at = some-from _ (there db.schema name c.in-Some.table found) in
    Asks-same db (select_of db (Some (home_of c.in-Some.table at.0)) command texts) (select db command texts) c.select_in.result
    (c.select_in.ensures at.0 at.1)
    (ap (λ home. select_of db home command texts) (sym (named-at db.schema name c.in-Some.table at.0 found at.1)))

pub returns-in_ok-fault-in-None : goal.returns-in_ok-fault-in-None
returns-in_ok-fault-in-None c =
    let db = replay c.args.root.now.journal in
    let command = c.args.command.now in
    let texts = c.args.texts.now in
    let name = text_of command Table in
    let missing : table_named db.schema name ≡ None = sym (rw (c.schema.ensures.exact, c.as_bytes.ensures.value, c.text_of-name.ensures) at c.in-None.ensures) in
    Asks-same db (refused_in Plain c.in_ok-fault-in-None.fault) (select db command texts) c.refused.result (c.refused.ensures db Plain refl)
    (ap (refused_in Plain) (rw c.text_of-name.ensures at c.in_ok-fault-in-None.ensures.exact) ∙ ap (λ home. select_of db home command texts) (sym (named-nowhere db.schema name missing)))
