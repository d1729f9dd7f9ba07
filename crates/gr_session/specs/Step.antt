-- Where a session stands, and what each of its steps does.
use Rattle.std.specs.Prelude.{ℕ, ◌≡◌, ◌+◌, ◌-◌, ◌^◌, ◌<◌, ◌≤◌, Bool, false, Option, Some, None, MatchBool, List, ◌++◌, length, slice_get, take, IsUtf8}
use Rattle.gr_base.specs.declared.fault.Fault.{Fault}
use Rattle.gr_base.specs.declared.numbers.Limits.{Limits}
use Rattle.gr_cmdline.specs.declared.command.Item.{Item}
use Rattle.gr_root.specs.Root.{HoldsText}
use Rattle.gr_db.specs.Entry.{IsValid}
use Rattle.gr_db.specs.Apply.{fault_of, replay}
use Rattle.gr_db.specs.declared.entry.Entry.{Entry}
use Rattle.gr_root.specs.Root.{Rooted}
use Rattle.gr_publish.specs.declared.published.Published.{Published as Answer}
use Rattle.gr_publish.specs.declared.published.Published.TheVariants.{Published, Refused, NoMemory}
use Rattle.gr_session.specs.Commands.{meaning_of}
use Rattle.gr_session.specs.Entries.{entry_of}
use Rattle.gr_session.specs.Own.{own}
use Rattle.gr_session.specs.Parsed.{IsRead, parsed_as}
use Rattle.gr_session.specs.Reply.{IsStarved, OwnsFirst, Reply, after_last}
use Rattle.gr_select.specs.declared.texts.Texts.{Texts}
use Rattle.gr_session.specs.declared.parsed.Parsed.{Parsed}
use Rattle.gr_session.specs.declared.session.Done.{Done}
use Rattle.gr_session.specs.declared.session.Step.{Step}
use Rattle.gr_session.specs.declared.session.Step.TheVariants.{Publish, Done as Finished}

-- a command under way: the state that it was read at, what it is with its texts, how many of its changes stand, and the length of the journal just after the last of them
pub record Going : Type 0 where
  pub base : Rooted
  pub parsed : Parsed
  pub made : ℕ
  pub reached : ℕ

-- a session: its limits, its number, its next command's number, its last mark, whether it met want of memory, and the command under way
pub record Standing : Type 0 where
  pub limits : Limits
  pub session : ℕ
  pub command : ℕ
  pub mark : ℕ
  pub ended : Bool
  pub going : Option Going

-- a session that has opened where the journal has this length
abbrev pub opened_at : Limits → ℕ → ℕ → Standing
opened_at limits session opened = record { limits = limits; session = session; command = 0; mark = opened; ended = false; going = None }

-- a session with this command under way
abbrev pub going_on : Standing → Going → Standing
going_on standing going =
    record { limits = standing.limits; session = standing.session; command = standing.command; mark = standing.mark; ended = standing.ended; going = Some going }

-- a session after a command with this mark, which met want of memory or not
abbrev pub gone_on : Standing → ℕ → Bool → Standing
gone_on standing mark ended =
    record { limits = standing.limits; session = standing.session; command = standing.command + 1; mark = mark; ended = ended; going = None }

-- a journal begins with the one that a command was read at
pub record Begins (base journal : List Entry) : Type 0 where
  pub rest : List Entry
  pub whole : journal ≡ base ++ rest

-- the next entry of a command: the change that it asks for next, which is valid where it was read
pub record AsksNext (standing : Standing) (going : Going) (entry : Entry) : Type 0 where
  pub read : IsRead going.parsed.item going.parsed.texts
  pub change : slice_get (meaning_of (replay going.base.journal) going.parsed).changes going.made ≡ Some entry.change
  pub entry_is : entry ≡ entry_of standing.session standing.command going.made entry.change
  pub valid : IsValid (replay going.base.journal).schema entry.change
  pub text : HoldsText entry.change

-- a command is done, with this mark: in each journal that begins so and in which its first entries stand and no others, the claim holds, or it met want of memory there
pub record Ends (old new : Standing) (going : Going) (mark : ℕ) (done : Done) (claim : List Entry → Type 0) : Type 0 where
  pub from : done.from ≡ length going.base.journal
  pub mark_is : done.mark ≡ mark
  pub new_is : new ≡ gone_on old mark new.ended
  pub reply : (journal : List Entry) → Begins going.base.journal journal → mark ≤ length journal
      → OwnsFirst journal old.session old.command going.parsed done going.made
      → MatchBool new.ended (IsStarved journal old.session old.command going.parsed.item done) (claim journal)

-- the reply holds where the mark is just after the last of the command's entries
abbrev pub HoldsAfterLast : Standing → Going → Done → List Entry → Type 0
HoldsAfterLast old going done journal =
    after_last done.from (own old.session old.command journal) ≡ done.mark → Reply old.limits journal old.session old.command going.parsed.item done

-- the reply holds where the change asked for next has this first fault at the mark
abbrev pub HoldsWhereRefused : Standing → Going → Fault → Done → List Entry → Type 0
HoldsWhereRefused old going fault done journal = (entry : Entry) → AsksNext old going entry
    → fault_of old.limits (take done.mark journal) entry.change ≡ Some fault → Reply old.limits journal old.session old.command going.parsed.item done

-- a command that was read at a state, of which nothing stands yet
abbrev pub begun : Rooted → Parsed → Going
begun root parsed = record { base = root; parsed = parsed; made = 0; reached = length root.journal }

-- a command of which one change more stands, at this place
abbrev pub made_at : Going → ℕ → Going
made_at going place = record { base = going.base; parsed = going.parsed; made = going.made + 1; reached = place + 1 }

-- how a command with these texts begins: it asks for its first entry, or is done at once
abbrev pub BeginsAs : Standing → Standing → Rooted → Parsed → Step → Type 0
BeginsAs old new root parsed (Publish entry) = (new ≡ going_on old (begun root parsed)) × AsksNext old (begun root parsed) entry
BeginsAs old new root parsed (Finished done) = Ends old new (begun root parsed) (length root.journal) done (HoldsAfterLast old (begun root parsed) done)

-- how a command begins, by what its texts are read as
abbrev pub BeginsWith : Standing → Standing → Rooted → Item → Step → Type 0
BeginsWith old new root item step = (texts : Texts) × BeginsAs old new root (parsed_as item texts) step

-- how a command goes on: it asks for its next entry, or is done
abbrev pub GoesOn : Standing → Standing → Going → Answer → Step → Type 0
GoesOn old new going (Published place) (Publish entry) = (new ≡ going_on old (made_at going place)) × AsksNext old (made_at going place) entry
GoesOn old new going (Published place) (Finished done) = Ends old new (made_at going place) (place + 1) done (HoldsAfterLast old (made_at going place) done)
GoesOn old new going (Refused fault mark) (Publish entry) = ⊥
GoesOn old new going (Refused fault mark) (Finished done) = Ends old new going mark done (HoldsWhereRefused old going fault done)
GoesOn old new going (NoMemory mark) (Publish entry) = ⊥
GoesOn old new going (NoMemory mark) (Finished done) = Ends old new going mark done (λ journal. ⊥)

-- how far an answer brings the journal: just after the entry, or to the length at which there was none
abbrev pub answered_at : Answer → ℕ
answered_at (Published place) = place
answered_at (Refused fault mark) = mark
answered_at (NoMemory mark) = mark

-- the place of an entry that was published can be counted on from
abbrev pub IsCounted : Answer → Type 0
IsCounted (Published place) = place < 2 ^ 64 - 1
IsCounted (Refused fault mark) = Unit {0}
IsCounted (NoMemory mark) = Unit {0}

-- the texts of an answer are text
abbrev pub AnswersText : Answer → Type 0
AnswersText (Published place) = Unit {0}
AnswersText (Refused fault mark) = IsUtf8 fault.name
AnswersText (NoMemory mark) = Unit {0}
