use Rattle.std.proofs.Common.{◌≡◌, ap, arith, refl, sym, ◌∙◌}
use Rattle.gr_session.specs.Inside.Kept.{meant, seen}
use Rattle.gr_session.specs.Meaning.{Meaning}
use Rattle.gr_session.proofs.EndsLemmas.{Stops-starved, Stops-told}
use Rattle.gr_session.proofs.session.Session.stop.Goals as goal

pub returns-in-Ok : goal.returns-in-Ok
returns-in-Ok c =
    Stops-told c.args.self.now c.finish.new.self (seen c.args.command) c.args.fault c.from.result c.args.mark c.in-Ok.text c.finish.result
    c.finish.ensures c.requires.running c.from.ensures (omega arith) c.in-Ok.ensures

pub returns-in-Err : goal.returns-in-Err
returns-in-Err c =
    let told : c.args.command.starved ≡ (meant c.args.command).starved c.args.command.made =
    c.requires.waiting.kept.starved ∙ ap (λ (meaning : Meaning). meaning.starved c.args.command.made) (sym c.requires.waiting.kept.means) in
    Stops-starved c.args.self.now c.starve.new.self (seen c.args.command) c.args.fault _ c.args.mark c.args.command.starved c.starve.result
    c.starve.ensures refl (omega arith) c.requires.waiting.kept.read told
