-- What a source, a sink and files tell of themselves, and what their calls do to it.
use Rattle.std.specs.Prelude.{ℕ, ◌≡◌, ◌+◌, ◌<◌, ◌≤◌, ◌↔◌, Result, Ok, Err, List, Option, length}
use Rattle.gr_outside.specs.declared.failed.Failed.{Failed}
use Rattle.gr_outside.specs.declared.failed.OpenFault.{OpenFault}
use Rattle.gr_outside.specs.declared.failed.OpenFault.TheVariants.{Failed as Refused, NoMemory}

-- what a source tells: the bytes left, if any are told, how many reads have failed, and the pairs that it can reach from here: bytes given from now on, and the count of faults
pub record Told : Type 1 where
  pub left : Option (List ℕ)
  pub faults : ℕ
  pub reaches : ℕ → ℕ → Type 0

-- what a sink took: its bytes, if any are told, and how many writes have failed
pub record Taken : Type 0 where
  pub bytes : Option (List ℕ)
  pub faults : ℕ

-- what files tell of one name: its file's bytes, if any are told, the pairs that the file can reach, and whether an open of it can fail
pub record FileTold : Type 1 where
  pub bytes : Option (List ℕ)
  pub reaches : ℕ → ℕ → Type 0
  pub can_fail : Type 0

-- what files tell: each name, and how many opens have failed
pub record FilesTold : Type 1 where
  pub named : List ℕ → FileTold
  pub faults : ℕ

-- a call that failed raised the count and tells it, and any other left it as it was
abbrev pub CountsFailure : {T : Type 0} → ℕ → ℕ → Result T Failed → Type 0
CountsFailure old new (Ok value) = new ≡ old
CountsFailure old new (Err failed) = (old < new) × (failed.faults ≡ new)

-- what can be reached after a read could be reached before it, with the bytes that it gave
abbrev pub StaysWithin : Told → Told → Result ℕ Failed → Type 0
StaysWithin old new (Ok given) = (bytes count : ℕ) → new.reaches bytes count → old.reaches (given + bytes) count
StaysWithin old new (Err failed) = (bytes count : ℕ) → new.reaches bytes count → old.reaches bytes count

-- at least one byte of the piece was taken, and no more than it has
abbrev pub TakesSome : List ℕ → Result ℕ Failed → Type 0
TakesSome piece (Ok taken) = (0 < taken) × (taken ≤ length piece)
TakesSome piece (Err failed) = Unit {0}

-- an open that was refused raised the count, where an open of that name can fail; any other left the count as it was
abbrev pub CountsOpen : {T : Type 0} → FilesTold → FilesTold → List ℕ → Result T OpenFault → Type 0
CountsOpen old new name (Ok file) = new.faults ≡ old.faults
CountsOpen old new name (Err Refused) = (old.faults < new.faults) × (old.named name).can_fail
CountsOpen old new name (Err NoMemory) = new.faults ≡ old.faults

-- a name tells what it told before
pub record IsSameFile (old new : FileTold) : Type 0 where
  pub bytes : new.bytes ≡ old.bytes
  pub reaches : (given count : ℕ) → new.reaches given count ↔ old.reaches given count
  pub can_fail : new.can_fail ↔ old.can_fail

-- each name tells what it told before
abbrev pub AreSameFiles : FilesTold → FilesTold → Type 0
AreSameFiles old new = (name : List ℕ) → IsSameFile (old.named name) (new.named name)

-- what a name tells of its file as it is opened: no read has failed yet
abbrev pub as_opened : FileTold → Told
as_opened file = record { left = file.bytes; faults = 0; reaches = file.reaches }

-- a source as it was told: these bytes and these faults, and it reaches no more
pub record IsAsTold (told source : Told) : Type 0 where
  pub left : source.left ≡ told.left
  pub faults : source.faults ≡ told.faults
  pub within : (given count : ℕ) → source.reaches given count → told.reaches given count
