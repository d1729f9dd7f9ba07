-- What a state stands for, and what applying an entry does.
use Rattle.std.specs.Prelude.{ℕ, ◌≡◌, Bool, not, Option, Some, None, Result, Ok, Err, IsUtf8, List, [], ◌∷◌, ◌++◌, filter, length}
use Rattle.gr_base.specs.declared.failure.Failure.{Failure}
use Rattle.gr_base.specs.declared.failure.Failure.TheVariants.{Refused, NoMemory}
use Rattle.gr_base.specs.declared.fault.Fault.{Fault}
use Rattle.gr_base.specs.declared.numbers.Limits.{Limits}
use Rattle.gr_db.specs.Apply.{counts, fault_of}
use Rattle.gr_db.specs.declared.entry.Change.{Change}
use Rattle.gr_db.specs.declared.entry.Change.TheVariants.{CreateTable, CreateColumn, Put, Delete, DeleteIf, Merge}
use Rattle.gr_db.specs.declared.entry.Entry.{Entry}
use Rattle.gr_schema.specs.Wishes.{IsTextColumn, IsTextTable}

-- a state: its limits, and the journal that made it
pub record Rooted : Type 0 where
  pub limits : Limits
  pub journal : List Entry

-- a state with one entry more
abbrev pub extended : Rooted → Entry → Rooted
extended root entry = record { limits = root.limits; journal = root.journal ++ entry ∷ [] }

-- the entry was accepted, and stands last
pub record IsApplied (old new : Rooted) (entry : Entry) : Type 0 where
  pub accepted : fault_of old.limits old.journal entry.change ≡ None
  pub last : new ≡ extended old entry

-- the entry is refused with its first fault
pub record IsRefused (root : Rooted) (entry : Entry) (fault : Fault) : Type 0 where
  pub first : fault_of root.limits root.journal entry.change ≡ Some fault
  pub text : IsUtf8 fault.name

-- the state after an entry, or its first fault, or no memory was found
abbrev pub Applies : Rooted → Entry → Result Rooted (Failure Fault) → Type 0
Applies root entry (Ok new) = IsApplied root new entry
Applies root entry (Err (Refused fault)) = IsRefused root entry fault
Applies root entry (Err NoMemory) = Unit {0}

-- the texts of a wish, which a fault may tell, are UTF-8; other changes have none
abbrev pub HoldsText : Change → Type 0
HoldsText (CreateTable wish) = IsTextTable wish
HoldsText (CreateColumn wish) = IsTextColumn wish
HoldsText (Put table key settings) = Unit {0}
HoldsText (Delete table by) = Unit {0}
HoldsText (DeleteIf table id condition) = Unit {0}
HoldsText (Merge table column from to) = Unit {0}

-- how many entries of a journal are merges
abbrev pub merges_in : List Entry → ℕ
merges_in journal = length (filter (λ entry. not (counts entry.change)) journal)
