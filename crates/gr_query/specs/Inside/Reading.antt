-- Runs as the code has them.
use Rattle.std.specs.Prelude.{◌≡◌, ℕ, ◌-◌, ◌<◌, ◌==◌, ◌&&◌, nat_lt, false, codes, List, [], ◌∷◌, ◌++◌, length, slice_index, take}
use Rattle.std.specs.Str.{byte, bytes_eq}
use Rattle.gr_query.specs.declared.runs.ScannedRun.{ScannedRun}
use Rattle.gr_query.specs.Runs.{CharacterRun, run_from}

-- a run that was read
abbrev pub shown_run : ScannedRun → CharacterRun
shown_run run = record { text = run.text.items; len = run.len; is_starred = run.is_starred }

-- the last byte is a `*`
pub record EndsInStar (text : List ℕ) : Type 0 where
  pub front : List ℕ
  pub parts : text ≡ front ++ 42 ∷ []

-- a run of these bytes, none of which is an escape
abbrev pub unescaped : List ℕ → CharacterRun
unescaped bytes = record { text = bytes; len = length bytes; is_starred = nat_lt 0 (length bytes) && slice_index bytes (length bytes - 1) == byte "*" }

-- An escape stands in the run that the bytes begin with. So the run is longer than its last character, and it is not the word OR.
pub record HasEscape (bytes : List ℕ) : Type 0 where
  pub long : 1 < (run_from bytes).len
  pub other : bytes_eq (take ((run_from bytes).len) bytes) (codes "OR") ≡ false
