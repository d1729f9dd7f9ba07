use Rattle.std.proofs.Common.{◌≡◌, Some, sym, ap, ◌∙◌}
use Rattle.gr_db.specs.Apply.{replay}
use Rattle.gr_session.specs.Commands.{form_of_command, meaning_unless}
use Rattle.gr_session.specs.Fixed.{fixed_fault}
use Rattle.gr_session.specs.Meaning.{counts, refused_in}
use Rattle.gr_session.proofs.MeaningLemmas.{Asks-same}
use Rattle.gr_session.proofs.commands.asked_by.Goals as goal

pub returns-in_ok-of_command-in-Some : goal.returns-in_ok-of_command-in-Some
returns-in_ok-of_command-in-Some c =
    let db = replay c.args.root.now.journal in
    let command = c.args.command.now in
    let wrong : Some c.in-Some.fault ≡ fixed_fault command = sym c.in-Some.is ∙ c.in_ok-fault.ensures.exact in
    Asks-same db (refused_in (form_of_command command) c.in-Some.fault) (meaning_unless (fixed_fault command) db command c.args.texts.now) c.refused.result (c.refused.ensures db (form_of_command command) (ap counts (sym c.in_ok-of_command-in-Some.ensures.exact)))
    (ap (λ fault. meaning_unless fault db command c.args.texts.now) wrong)
