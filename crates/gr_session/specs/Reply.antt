-- What a reply means, read off the whole journal afterwards.
use Rattle.std.specs.Prelude.{ℕ, ◌≡◌, ◌+◌, ◌<◌, ◌≤◌, ◌⊎◌, Some, List, [], ◌∷◌, length, map, slice_get, take}
use Rattle.std.specs.List.{AllByRecursion}
use Rattle.gr_base.specs.declared.fault.Fault.{Fault}
use Rattle.gr_base.specs.declared.numbers.Limits.{Limits}
use Rattle.gr_cmdline.specs.declared.command.Item.{Item}
use Rattle.gr_db.specs.Apply.{fault_of, replay}
use Rattle.gr_db.specs.declared.entry.Change.{Change}
use Rattle.gr_db.specs.declared.entry.Entry.{Entry}
use Rattle.gr_session.specs.Commands.{meaning_of}
use Rattle.gr_session.specs.Entries.{entries_of}
use Rattle.gr_session.specs.Meaning.{Meaning}
use Rattle.gr_session.specs.Own.{own}
use Rattle.gr_session.specs.Parsed.{IsRead, parsed_as}
use Rattle.gr_select.specs.declared.texts.Texts.{Texts}
use Rattle.gr_session.specs.declared.parsed.Parsed.{Parsed}
use Rattle.gr_session.specs.declared.session.Done.{Done}

-- what an item means at the database that it was read at
abbrev pub meaning_at : List Entry → Parsed → Done → Meaning
meaning_at journal parsed done = meaning_of (replay (take done.from journal)) parsed

-- just after the last of some placed entries, or where there is none at the start
abbrev pub after_last : ℕ → List (ℕ × Entry) → ℕ
after_last start [] = start
after_last start (placed ∷ more) = after_last (placed.0 + 1) more

-- a command owns so many entries: the first that it asks for, their parts in order, which stand from `from` up to the mark
pub record OwnsFirst (journal : List Entry) (session command : ℕ) (parsed : Parsed) (done : Done) (made : ℕ) : Type 0 where
  pub count : length (own session command journal) ≡ made
  pub entries : map (λ placed. placed.1) (own session command journal) ≡ take made (entries_of session command 0 (meaning_at journal parsed done).changes)
  pub places : AllByRecursion (λ placed. (done.from ≤ placed.0) × (placed.0 < done.mark)) (own session command journal)

-- all that was asked for was made, the mark is just after the last of it, and the command's answer is told
pub record IsWhole (journal : List Entry) (session command : ℕ) (parsed : Parsed) (done : Done) (made : ℕ) : Type 0 where
  pub all : made ≡ length (meaning_at journal parsed done).changes
  pub mark : done.mark ≡ after_last done.from (own session command journal)
  pub text : done.text ≡ (meaning_at journal parsed done).answer

-- the next change asked for has a first fault at the mark, which is told
pub record IsStopped (limits : Limits) (journal : List Entry) (session command : ℕ) (parsed : Parsed) (done : Done) (made : ℕ) : Type 0 where
  pub change : Change
  pub next : slice_get (meaning_at journal parsed done).changes made ≡ Some change
  pub fault : Fault
  pub first : fault_of limits (take done.mark journal) change ≡ Some fault
  pub text : done.text ≡ (meaning_at journal parsed done).refused made fault

-- the reply is its command's meaning at a prefix of the journal: so many of the changes that it asks for there were made, all of them or up to one that is refused
pub record Reply (limits : Limits) (journal : List Entry) (session command : ℕ) (item : Item) (done : Done) : Type 0 where
  pub texts : Texts
  pub read : IsRead item texts
  pub made : ℕ
  pub order : done.from ≤ done.mark
  pub within : done.mark ≤ length journal
  pub owns : OwnsFirst journal session command (parsed_as item texts) done made
  pub answers : IsWhole journal session command (parsed_as item texts) done made ⊎ IsStopped limits journal session command (parsed_as item texts) done made

-- want of memory: of the changes asked for the first few were made; where there is one, the command's texts had been read
pub record IsStarved (journal : List Entry) (session command : ℕ) (item : Item) (done : Done) : Type 0 where
  pub texts : Texts
  pub made : ℕ
  pub read : 0 < made → IsRead item texts
  pub order : done.from ≤ done.mark
  pub within : done.mark ≤ length journal
  pub owns : OwnsFirst journal session command (parsed_as item texts) done made
  pub text : done.text ≡ (meaning_at journal (parsed_as item texts) done).starved made
