-- What a reader of commands holds: a load that waits for its data, the bytes that it has not taken yet, and whether more can come.
use Rattle.std.specs.Prelude.{ℕ, ◌≡◌, ◌<◌, ◌+◌, ◌*◌, ◌++◌, Bool, true, false, if◌then◌else◌, is_some, Option, List, [], ◌∷◌, length}
use Rattle.gr_cmdline.specs.Commands.{IsItem, items_behind}
use Rattle.gr_cmdline.specs.LoadData.{Waiting}
use Rattle.gr_cmdline.specs.declared.command.Item.{Item}
use Rattle.gr_cmdline.specs.declared.command.Next.{Next}
use Rattle.gr_cmdline.specs.declared.command.Next.TheVariants.{Item as Given, NeedMore, End, NoMemory}

-- the longest line that is taken, the load that waits, the bytes that are left, and whether the text has ended
pub record Stream : Type 0 where
  pub limit : ℕ
  pub pending : Option Waiting
  pub bytes : List ℕ
  pub ended : Bool

-- the items that are left where more bytes follow; nothing follows the end
abbrev pub items_left : Stream → List ℕ → Bool → List Item
items_left stream more ended =
    if stream.ended then items_behind stream.limit stream.pending stream.bytes true
    else items_behind stream.limit stream.pending (stream.bytes ++ more) ended

-- how much is left to be taken: bytes, and a load that waits
abbrev pub size : Stream → ℕ
size stream = 2 * length stream.bytes + (if is_some stream.pending then 1 else 0)

-- nothing was taken: whatever follows, the same items are left
pub record IsSameLeft (old new : Stream) : Type 0 where
  pub ended : new.ended ≡ old.ended
  pub items : (more : List ℕ) (ended : Bool) → items_left new more ended ≡ items_left old more ended

-- this item was the next: whatever follows, it and the items left now are those that were left
pub record GivesItem (old new : Stream) (item : Item) : Type 0 where
  pub is_item : IsItem item
  pub ended : new.ended ≡ old.ended
  pub items : (more : List ℕ) (ended : Bool) → items_left old more ended ≡ item ∷ items_left new more ended
  pub smaller : size new < size old

-- no item is left in the bytes so far, of a text that has ended or not
pub record IsDrained (old new : Stream) (ended : Bool) : Type 0 where
  pub kept : IsSameLeft old new
  pub stage : new.ended ≡ ended
  pub none : items_behind new.limit new.pending new.bytes ended ≡ []

-- what a call for the next item answers
abbrev pub Gives : Stream → Stream → Next → Type 0
Gives old new (Given item) = GivesItem old new item
Gives old new NeedMore = IsDrained old new false
Gives old new End = IsDrained old new true
Gives old new NoMemory = IsSameLeft old new
