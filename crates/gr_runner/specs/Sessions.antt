-- What a session's log means, read off the whole journal.
use Rattle.std.specs.Prelude.{ℕ, ◌≡◌, ◌+◌, ◌≤◌, ◌⊎◌, List, [], ◌∷◌, length}
use Rattle.gr_base.specs.declared.numbers.Limits.{Limits}
use Rattle.gr_db.specs.declared.entry.Entry.{Entry}
use Rattle.gr_outside.specs.Outside.{Told}
use Rattle.gr_session.specs.Reply.{IsStarved, Reply}
use Rattle.gr_cmdline.specs.declared.command.Item.{Item}
use Rattle.gr_session.specs.declared.session.Done.{Done}
use Rattle.gr_runner.specs.Sources.{ReadTo}
use Rattle.gr_runner.specs.declared.report.End.{End}
use Rattle.gr_runner.specs.declared.report.End.TheVariants.{Finished, Read, SourceTooLong, NoMemory}
use Rattle.gr_runner.specs.declared.report.SessionLog.{SessionLog}

-- where a session ended for want of memory items may have no reply; else none is left
abbrev pub AreAnswered : List Item → End → Type 0
AreAnswered items Finished = items ≡ []
AreAnswered items (Read faults) = items ≡ []
AreAnswered items (SourceTooLong bytes) = items ≡ []
AreAnswered items NoMemory = Unit {0}

-- each reply holds for its item, in order; the reply to want of memory stands only last, and then that is the end
abbrev pub Replies : Limits → List Entry → ℕ → ℕ → List Item → List Done → End → Type 0
Replies limits journal session command items [] end = AreAnswered items end
Replies limits journal session command [] (done ∷ more) end = ⊥
Replies limits journal session command (item ∷ items) (done ∷ more) end =
    (Reply limits journal session command item done × Replies limits journal session (command + 1) items more end)
    ⊎ (IsStarved journal session command item done × (more ≡ []) × (end ≡ NoMemory))

-- from and mark of each command in turn never fall, from where the session opened up to the journal's length
abbrev pub Climbs : ℕ → List Done → ℕ → Type 0
Climbs low [] top = low ≤ top
Climbs low (done ∷ more) top = (low ≤ done.from) × (done.from ≤ done.mark) × Climbs done.mark more top

-- a session's log holds: its source was read so far, its commands have their replies, and its places climb
pub record Holds (limits : Limits) (told : Told) (journal : List Entry) (log : SessionLog) : Type 0 where
  pub items : List Item
  pub read : ReadTo limits told log.end items
  pub replies : Replies limits journal log.number.0 0 items log.done log.end
  pub climbs : Climbs log.opened log.done (length journal)
