-- What is kept of a command as it begins.
use Rattle.std.proofs.Common.{◌≡◌, ◌≤◌, ◌<◌, ◌^◌, length, sym, ap, ◌∙◌}
use Rattle.std.specs.Arc.{arc_value}
use Rattle.gr_db.specs.Apply.{replay}
use Rattle.gr_session.specs.Inside.Forms.{IsLegible, form_of}
use Rattle.gr_session.specs.Inside.Kept.{Asks, IsKept, meant}
use Rattle.gr_session.specs.Meaning.{body_after, meaning_in}
use Rattle.gr_session.specs.Parsed.{IsRead}
use Rattle.gr_session.specs.ReplyText.{want_of_memory_line}
use Rattle.gr_session.specs.declared.asked.Asked.{Asked}
use Rattle.gr_session.specs.declared.under_way.UnderWay.{UnderWay}
use Rattle.gr_session.proofs.HoldsLemmas.{Holds-all}
use Rattle.gr_session.proofs.MeaningLemmas.{IsIn-meaning_of}

-- a command that has asked for nothing yet
pub IsKept-begun : (command : UnderWay) (asked : Asked) → IsRead command.parsed.item command.parsed.texts → Asks (replay (arc_value command.root).journal) (meant command) asked
    → command.changes ≡ asked.changes → command.answer ≡ asked.answer → length asked.changes.items < 2 ^ 64
    → command.form ≡ form_of command.parsed.item → length (arc_value command.root).journal ≤ command.reached
    → command.made ≡ 0 → command.starved ≡ want_of_memory_line (body_after command.form 0) → IsLegible command.form
    → IsKept command 0
IsKept-begun command asked is_read asks changes answer few form from none starved legible = record {
  read = is_read;
  fit = asks.fit;
  holds = rw changes (Holds-all (meant command).changes asked.changes.items asks.changes few);
  means =
      IsIn-meaning_of (replay (arc_value command.root).journal) command.parsed
      ∙ ap (λ form. meaning_in form (meant command).changes (meant command).answer) (sym form)
      ∙ ap (meaning_in command.form (meant command).changes) (sym (answer ∙ asks.answer));
  from = from;
  starved = rw none starved;
  legible = legible;
}
