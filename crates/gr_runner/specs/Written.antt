-- What writing a text does to a sink.
use Rattle.std.specs.Prelude.{ℕ, ◌≡◌, ◌<◌, ◌++◌, Result, Ok, Err, List}
use Rattle.std.specs.Io.KnownBytes.{Appends}
use Rattle.gr_outside.specs.Outside.{Taken}
use Rattle.gr_outside.specs.declared.failed.Failed.{Failed}

-- a write failed
abbrev pub HasFailed : Taken → Taken → Type 0
HasFailed before after = before.faults < after.faults

-- the whole text was taken, and no write failed
pub record IsWrittenWhole (before after : Taken) (text : List ℕ) : Type 0 where
  pub taken : Appends before.bytes after.bytes text
  pub same : after.faults ≡ before.faults

-- a first part of the text was taken, and then a write failed
pub record IsCutOff (before after : Taken) (text : List ℕ) : Type 0 where
  pub piece : List ℕ
  pub rest : List ℕ
  pub text_is : text ≡ piece ++ rest
  pub taken : Appends before.bytes after.bytes piece
  pub risen : HasFailed before after

-- a text was written whole, or in part where a write failed
abbrev pub Writes : Taken → Taken → List ℕ → Result (Unit {0}) Failed → Type 0
Writes before after text (Ok done) = IsWrittenWhole before after text
Writes before after text (Err failed) = IsCutOff before after text

-- a text was put behind what was held: what was written and what is held now are all of it
pub record IsPut (before after : Taken) (held held_after text : List ℕ) : Type 0 where
  pub piece : List ℕ
  pub all : held ++ text ≡ piece ++ held_after
  pub taken : Appends before.bytes after.bytes piece
  pub same : after.faults ≡ before.faults

-- a text was put behind what was held, or a write of them failed
abbrev pub Puts : Taken → Taken → List ℕ → List ℕ → List ℕ → Result (Unit {0}) Failed → Type 0
Puts before after held held_after text (Ok done) = IsPut before after held held_after text
Puts before after held held_after text (Err failed) = IsCutOff before after (held ++ text)
