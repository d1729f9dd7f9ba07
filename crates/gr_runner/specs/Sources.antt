-- How far a source was read, by how its session ended, and which items its commands are.
use Rattle.std.specs.Prelude.{ℕ, ◌≡◌, ◌<◌, ◌≤◌, ◌++◌, true, false, Option, Some, None, List, length, take}
use Rattle.gr_base.specs.declared.numbers.Limits.{Limits}
use Rattle.gr_cmdline.specs.Commands.{commands}
use Rattle.gr_cmdline.specs.declared.command.Item.{Item}
use Rattle.gr_outside.specs.Outside.{Told}
use Rattle.gr_runner.specs.declared.report.End.{End}
use Rattle.gr_runner.specs.declared.report.End.TheVariants.{Finished, Read, SourceTooLong, NoMemory}

-- these are the source's bytes, where it told them
abbrev pub IsTold : Option (List ℕ) → List ℕ → Type 0
IsTold None bytes = Unit {0}
IsTold (Some told) bytes = told ≡ bytes

-- read to its end: the items are those of all its bytes, which are within the limit
pub record IsReadWhole (limits : Limits) (told : Told) (items : List Item) : Type 0 where
  pub bytes : List ℕ
  pub source : IsTold told.left bytes
  pub within : length bytes ≤ limits.source
  pub items_are : items ≡ commands limits.line bytes true

-- it gave more bytes than the limit: the items are those of the first bytes up to it, without their end
pub record IsTooLong (limits : Limits) (told : Told) (given : ℕ) (items : List Item) : Type 0 where
  pub bytes : List ℕ
  pub source : IsTold told.left bytes
  pub above : limits.source < given
  pub within : given ≤ length bytes
  pub items_are : items ≡ commands limits.line (take limits.source bytes) false

-- a read failed: the items are those of the bytes given before, without their end, and the source could reach this
pub record IsReadInPart (limits : Limits) (told : Told) (count : ℕ) (items : List Item) : Type 0 where
  pub given : List ℕ
  pub rest : List ℕ
  pub source : IsTold told.left (given ++ rest)
  pub within : length given ≤ limits.source
  pub risen : told.faults < count
  pub reached : told.reaches (length given) count
  pub items_are : items ≡ commands limits.line given false

-- no memory was found: the items are those of all its bytes
pub record IsLeft (limits : Limits) (told : Told) (items : List Item) : Type 0 where
  pub bytes : List ℕ
  pub source : IsTold told.left bytes
  pub items_are : items ≡ commands limits.line bytes true

-- how far the source was read, by how its session ended
abbrev pub ReadTo : Limits → Told → End → List Item → Type 0
ReadTo limits told Finished items = IsReadWhole limits told items
ReadTo limits told (Read count) items = IsReadInPart limits told count items
ReadTo limits told (SourceTooLong given) items = IsTooLong limits told given items
ReadTo limits told NoMemory items = IsLeft limits told items
