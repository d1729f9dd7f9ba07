-- Which journals can be: each entry was accepted where it stands.
use Rattle.std.specs.Prelude.{ℕ, ◌≡◌, ◌≤◌, ◌<◌, Some, None, List, length, slice_get, take}
use Rattle.gr_base.specs.declared.numbers.ColumnNo.{ColumnNo}
use Rattle.gr_base.specs.declared.numbers.Limits.{Limits}
use Rattle.gr_base.specs.declared.numbers.TableNo.{TableNo}
use Rattle.gr_db.specs.Apply.{fault_of, replay}
use Rattle.gr_db.specs.Entry.{IsValid}
use Rattle.gr_db.specs.declared.entry.Change.{Change}
use Rattle.gr_db.specs.declared.entry.Change.TheVariants.{CreateTable, CreateColumn, Put, Delete, DeleteIf, Merge}
use Rattle.gr_db.specs.declared.entry.Entry.{Entry}
use Rattle.gr_schema.specs.Sound.{IsIndexColumn}

-- a change that a session asked for is valid there, and has no fault after the entries before it
pub record IsFaultless (limits : Limits) (before : List Entry) (change : Change) : Type 0 where
  pub valid : IsValid (replay before).schema change
  pub faultless : fault_of limits before change ≡ None

-- a merge is of an index that is there, and of places before its own
pub record IsMerge (before : List Entry) (table : TableNo) (column : ColumnNo) (from to : ℕ) : Type 0 where
  pub index : IsIndexColumn (replay before).schema (table, column)
  pub rises : from < to
  pub past : to ≤ length before

-- a change was accepted after these entries
abbrev pub IsAcceptedAfter : Limits → List Entry → Change → Type 0
IsAcceptedAfter limits before (CreateTable wish) = IsFaultless limits before (CreateTable wish)
IsAcceptedAfter limits before (CreateColumn wish) = IsFaultless limits before (CreateColumn wish)
IsAcceptedAfter limits before (Put table key settings) = IsFaultless limits before (Put table key settings)
IsAcceptedAfter limits before (Delete table by) = IsFaultless limits before (Delete table by)
IsAcceptedAfter limits before (DeleteIf table id condition) = IsFaultless limits before (DeleteIf table id condition)
IsAcceptedAfter limits before (Merge table column from to) = IsMerge before table column from to

-- each entry of a journal was accepted after those before it
abbrev pub IsAccepted : Limits → List Entry → Type 0
IsAccepted limits journal = (place : ℕ) (entry : Entry) → slice_get journal place ≡ Some entry → IsAcceptedAfter limits (take place journal) entry.change
