-- What a session keeps of a command under way.
use Rattle.std.specs.Prelude.{ℕ, ◌≡◌, ◌+◌, ◌<◌, ◌≤◌, ◌^◌, Option, Some, None, Result, Ok, Err, List, ◌++◌, length, reverse, slice_get}
use Rattle.std.specs.List.{AllByRecursion}
use Rattle.std.specs.Arc.{arc_value}
use Rattle.gr_base.specs.declared.memory.NoMemory.{NoMemory}
use Rattle.gr_db.specs.Db.{Db}
use Rattle.gr_root.specs.Root.{HoldsText}
use Rattle.gr_db.specs.Entry.{IsValid}
use Rattle.gr_db.specs.Apply.{replay}
use Rattle.gr_db.specs.declared.entry.Change.{Change}
use Rattle.gr_session.specs.Commands.{meaning_of}
use Rattle.gr_session.specs.Inside.Forms.{IsLegible}
use Rattle.gr_session.specs.Meaning.{Meaning, body_after, meaning_in}
use Rattle.gr_session.specs.Parsed.{IsRead}
use Rattle.gr_session.specs.ReplyText.{want_of_memory_line}
use Rattle.gr_session.specs.Step.{Going}
use Rattle.gr_session.specs.declared.asked.Asked.{Asked}
use Rattle.gr_session.specs.declared.form.Form.TheVariants.{Plain, Counting}
use Rattle.gr_session.specs.declared.under_way.Spare.{Spare}
use Rattle.gr_session.specs.declared.under_way.UnderWay.{UnderWay}

-- the replies to want of memory where nothing was made
pub record IsSpare (spare : Spare) : Type 0 where
  pub plain : spare.plain ≡ want_of_memory_line (body_after Plain 0)
  pub counting : spare.counting ≡ want_of_memory_line (body_after Counting 0)

-- a change that can be published at a database
pub record Fits (db : Db) (change : Change) : Type 0 where
  pub valid : IsValid db.schema change
  pub text : HoldsText change

-- an item with this meaning asks for these changes, which can be published, and has this answer
pub record Asks (db : Db) (meaning : Meaning) (asked : Asked) : Type 0 where
  pub changes : reverse asked.changes.items ≡ meaning.changes
  pub answer : asked.answer ≡ meaning.answer
  pub fit : AllByRecursion (Fits db) meaning.changes

-- of the changes asked for this many are no longer held, and the others are, the next one last
pub record Holds (all held : List Change) (count : ℕ) : Type 0 where
  pub before : List Change
  pub whole : all ≡ before ++ reverse held
  pub counted : length before ≡ count
  pub few : length all < 2 ^ 64

-- what a command under way means, where it was read
abbrev pub meant : UnderWay → Meaning
meant command = meaning_of (replay (arc_value command.root).journal) command.parsed

-- a command under way, which no longer holds this many of its changes
pub record IsKept (command : UnderWay) (count : ℕ) : Type 0 where
  pub read : IsRead command.parsed.item command.parsed.texts
  pub fit : AllByRecursion (Fits (replay (arc_value command.root).journal)) (meant command).changes
  pub holds : Holds (meant command).changes command.changes.items count
  pub means : meant command ≡ meaning_in command.form (meant command).changes command.answer
  pub from : length (arc_value command.root).journal ≤ command.reached
  pub starved : command.starved ≡ want_of_memory_line (body_after command.form command.made)
  pub legible : IsLegible command.form

-- a command between two of its entries
abbrev pub IsBetween : UnderWay → Type 0
IsBetween command = IsKept command command.made

-- a command that has asked for a change
pub record IsWaiting (command : UnderWay) : Type 0 where
  pub kept : IsKept command (command.made + 1)
  pub then_starved : command.starved_then ≡ want_of_memory_line (body_after command.form (command.made + 1))

-- a command under way, as contracts see it
abbrev pub seen : UnderWay → Going
seen command = record { base = arc_value command.root; parsed = command.parsed; made = command.made; reached = command.reached }

-- the command asks for its next change, which can be published, and waits
pub record AsksFor (old new : UnderWay) (change : Change) : Type 0 where
  pub same : seen new ≡ seen old
  pub next : slice_get (meant old).changes old.made ≡ Some change
  pub fits : Fits (replay (arc_value old.root).journal) change
  pub waits : IsWaiting new

-- all changes are made, and the answer is at hand
pub record IsWhole (old new : UnderWay) : Type 0 where
  pub all : old.made ≡ length (meant old).changes
  pub answer : new.answer ≡ (meant old).answer

-- no memory was found, and the reply to that is at hand
pub record IsStarving (old new : UnderWay) : Type 0 where
  pub same : seen new ≡ seen old
  pub reply : new.starved ≡ (meant old).starved old.made

-- how a command goes on
abbrev pub GoesOnWith : UnderWay → UnderWay → Result (Option Change) NoMemory → Type 0
GoesOnWith old new (Ok (Some change)) = AsksFor old new change
GoesOnWith old new (Ok None) = IsWhole old new
GoesOnWith old new (Err none) = IsStarving old new
