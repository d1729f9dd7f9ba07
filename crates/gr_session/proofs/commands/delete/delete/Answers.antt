use Rattle.std.proofs.Common.{refl, ◌≡◌, Some, None, sym, ap, ◌∙◌}
use Rattle.gr_cmdline.specs.declared.param.Param.TheVariants.{Table}
use Rattle.gr_db.specs.Apply.{replay}
use Rattle.gr_schema.specs.Schema.{table_named}
use Rattle.gr_schema.specs.Wishes.{home_of}
use Rattle.gr_session.specs.Checks.{text_of}
use Rattle.gr_session.specs.Delete.{delete, delete_of, name_given}
use Rattle.gr_session.specs.Meaning.{refused_in}
use Rattle.gr_session.specs.declared.form.Form.TheVariants.{Naming}
use Rattle.gr_session.proofs.HomeLemmas.{named-at, named-nowhere, some-from, there}
use Rattle.gr_session.proofs.MeaningLemmas.{Asks-same}
use Rattle.gr_session.proofs.commands.delete.delete.Goals as goal

pub delete_from-requires-clause-there : goal.delete_from-requires-clause-there
delete_from-requires-clause-there c =
    let schema = (replay c.args.root.now.journal).schema in
    let name = text_of c.args.command.now Table in
    let found : table_named schema name ≡ Some c.in-Some.table = sym (rw (c.schema.ensures.exact, c.as_bytes.ensures.value, c.text_of-name.ensures) at c.in-Some.ensures) in
    there schema name c.in-Some.table found

pub returns-in-Some : goal.returns-in-Some
returns-in-Some c =
    let db = replay c.args.root.now.journal in
    let command = c.args.command.now in
    let texts = c.args.texts.now in
    let name = text_of command Table in
    let found : table_named db.schema name ≡ Some c.in-Some.table = sym (rw (c.schema.ensures.exact, c.as_bytes.ensures.value, c.text_of-name.ensures) at c.in-Some.ensures) in
    let at = some-from _ (there db.schema name c.in-Some.table found) in
    Asks-same db (delete_of (Naming (name_given command)) db (Some (home_of c.in-Some.table at.0)) command texts) (delete db command texts) c.delete_from.result
    (c.delete_from.ensures at.0 at.1)
    (ap (λ home. delete_of (Naming (name_given command)) db home command texts) (sym (named-at db.schema name c.in-Some.table at.0 found at.1)))

pub returns-in_ok-fault-in-None : goal.returns-in_ok-fault-in-None
returns-in_ok-fault-in-None c =
    let db = replay c.args.root.now.journal in
    let command = c.args.command.now in
    let texts = c.args.texts.now in
    let name = text_of command Table in
    let missing : table_named db.schema name ≡ None = sym (rw (c.schema.ensures.exact, c.as_bytes.ensures.value, c.text_of-name.ensures) at c.in-None.ensures) in
    Asks-same db (refused_in (Naming (name_given command)) c.in_ok-fault-in-None.fault) (delete db command texts) c.refused.result (c.refused.ensures db (Naming (name_given command)) refl)
    (ap (refused_in (Naming (name_given command))) (rw c.text_of-name.ensures at c.in_ok-fault-in-None.ensures.exact) ∙ ap (λ home. delete_of (Naming (name_given command)) db home command texts) (sym (named-nowhere db.schema name missing)))
