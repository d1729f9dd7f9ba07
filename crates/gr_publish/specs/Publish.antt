-- What publishing an entry does.
use Rattle.std.specs.Prelude.{ℕ, ◌≡◌, length}
use Rattle.gr_base.specs.declared.fault.Fault.{Fault}
use Rattle.gr_db.specs.declared.entry.Entry.{Entry}
use Rattle.gr_root.specs.Root.{IsApplied, IsRefused, Rooted}
use Rattle.gr_publish.specs.declared.published.Published.{Published as Answer}
use Rattle.gr_publish.specs.declared.published.Published.TheVariants.{Published, Refused, NoMemory}

-- the entry stands at its place, the last one
pub record IsPublished (old new : Rooted) (entry : Entry) (place : ℕ) : Type 0 where
  pub applied : IsApplied old new entry
  pub at_end : place ≡ length old.journal

-- the entry was refused where the journal has this length, and nothing changed
pub record IsTurnedAway (old new : Rooted) (entry : Entry) (fault : Fault) (mark : ℕ) : Type 0 where
  pub refused : IsRefused old entry fault
  pub at_end : mark ≡ length old.journal
  pub same : new ≡ old

-- no memory was found where the journal has this length, and nothing changed
pub record IsNotPublished (old new : Rooted) (mark : ℕ) : Type 0 where
  pub at_end : mark ≡ length old.journal
  pub same : new ≡ old

-- one entry more at its place, or nothing and why
abbrev pub Publishes : Rooted → Rooted → Entry → Answer → Type 0
Publishes old new entry (Published place) = IsPublished old new entry place
Publishes old new entry (Refused fault mark) = IsTurnedAway old new entry fault mark
Publishes old new entry (NoMemory mark) = IsNotPublished old new mark
