use Rattle.std.proofs.Common.{ap, codes, ◌∷◌, []}
use Rattle.gr_db.specs.declared.entry.Change.TheVariants.{CreateTable}
use Rattle.gr_session.specs.Meaning.{meaning_in}
use Rattle.gr_session.specs.ReplyText.{success_line}
use Rattle.gr_session.specs.TableCreate.{table_create}
use Rattle.gr_session.specs.declared.form.Form.TheVariants.{Plain}
use Rattle.gr_session.proofs.MeaningLemmas.{Asks-same}
use Rattle.gr_session.proofs.commands.table_create.table_create.Goals as goal

pub returns : goal.returns
returns c =
    let wish = c.in_ok-table_wish.field-0 in
    λ db. Asks-same db (meaning_in Plain (CreateTable wish ∷ []) (success_line (codes "true"))) (table_create c.args.command.now) c.one_change.result (c.one_change.ensures db Plain (record { valid = tt; text = c.in_ok-table_wish.ensures.text }))
    (ap (λ wish. meaning_in Plain (CreateTable wish ∷ []) (success_line (codes "true"))) c.in_ok-table_wish.ensures.exact)
