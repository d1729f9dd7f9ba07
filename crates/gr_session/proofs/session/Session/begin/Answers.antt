use Rattle.std.proofs.Common.{◌≡◌, length, rules, subst, sym, ◌∙◌}
use Rattle.std.specs.Arc.{arc_value}
use Rattle.gr_db.specs.Apply.{replay}
use Rattle.gr_session.specs.Commands.{meaning_of}
use Rattle.gr_session.specs.Inside.Forms.{form_of}
use Rattle.gr_session.specs.Inside.Stepping.{Proceeds}
use Rattle.gr_session.specs.Parsed.{no_texts, parsed_as}
use Rattle.gr_session.specs.Step.{Going}
use Rattle.gr_session.proofs.EndsLemmas.{BeginsWith-proceeds, BeginsWith-starved}
use Rattle.gr_session.proofs.MeaningLemmas.{starved-meaning_of}
use Rattle.gr_session.proofs.session.Session.begin.Goals as goal

pub returns-in-Ok : goal.returns-in-Ok
returns-in-Ok c =
    BeginsWith-proceeds c.args.self.now c.go_on.new.self (arc_value c.args.root.now) c.args.item c.in-Ok.command.parsed c.go_on.result c.in-Ok.ensures.item
    (subst (λ (going : Going). Proceeds c.args.self.now c.go_on.new.self going c.go_on.result) c.in-Ok.ensures.begun c.go_on.ensures)

pub returns-in-Err : goal.returns-in-Err
returns-in-Err c =
    let root = arc_value c.args.root.now in
    let at : c.len-at.result ≡ length root.journal = search rules in
    let told : c.take_spare-text.result ≡ (meaning_of (replay root.journal) (parsed_as c.args.item no_texts)).starved 0 =
    c.take_spare-text.ensures.text (form_of c.args.item) (sym c.counts_rows-rows.ensures) ∙ starved-meaning_of (replay root.journal) (parsed_as c.args.item no_texts) 0 in
    BeginsWith-starved c.args.self.now c.finish.new.self root c.args.item c.len-at.result c.take_spare-text.result c.finish.result
    (rw c.take_spare-text.ensures.ended at c.finish.ensures) at told
