use Rattle.std.proofs.Common.{ap, codes, ◌∷◌, []}
use Rattle.gr_db.specs.declared.entry.Change.TheVariants.{CreateColumn}
use Rattle.gr_session.specs.ColumnCreate.{column_create}
use Rattle.gr_session.specs.Meaning.{meaning_in}
use Rattle.gr_session.specs.ReplyText.{success_line}
use Rattle.gr_session.specs.declared.form.Form.TheVariants.{Plain}
use Rattle.gr_session.proofs.MeaningLemmas.{Asks-same}
use Rattle.gr_session.proofs.commands.column_create.column_create.Goals as goal

pub returns : goal.returns
returns c =
    let wish = c.in_ok-column_wish.field-0 in
    λ db. Asks-same db (meaning_in Plain (CreateColumn wish ∷ []) (success_line (codes "true"))) (column_create c.args.command.now) c.one_change.result (c.one_change.ensures db Plain (record { valid = tt; text = c.in_ok-column_wish.ensures.text }))
    (ap (λ wish. meaning_in Plain (CreateColumn wish ∷ []) (success_line (codes "true"))) c.in_ok-column_wish.ensures.exact)
