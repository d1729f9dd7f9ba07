-- The bytes that a reader has not taken yet, and the first line of them.
use Rattle.std.specs.Prelude.{ℕ, ◌≡◌, ◌≤◌, ◌<◌, ◌⊎◌, ◌+◌, ◌==◌, Bool, true, false, if◌then◌else◌, List, [], ◌∷◌, All, drop, length, take}
use Rattle.std.specs.Str.{byte}
use Rattle.gr_cmdline.specs.Commands.{Outcome, is_line_end, outcome_of}
use Rattle.gr_cmdline.specs.Line.{without_return}
use Rattle.gr_cmdline.specs.Stream.{Stream}

-- the bytes that are left, and whether the text has ended
pub record Buffered : Type 0 where
  pub bytes : List ℕ
  pub ended : Bool

-- the first line has so many bytes, and as many go with it and its end; the last line of a text has no end
pub record StandsFirst (buffered : Buffered) (line past : ℕ) : Type 0 where
  pub whole : All (λ c. is_line_end c ≡ false) (take line buffered.bytes)
  pub ends : ((past ≡ line + 1) × (drop line buffered.bytes ≡ byte "\n" ∷ drop past buffered.bytes)) ⊎ ((buffered.ended ≡ true) × (line ≡ length buffered.bytes) × (past ≡ line))
  pub some : 0 < past
  pub within : past ≤ length buffered.bytes

-- the first line without its line feed and the carriage return before it; where there is no line feed the return stays
abbrev pub first_text : List ℕ → ℕ → ℕ → List ℕ
first_text bytes line past = if line == past then take line bytes else without_return (take line bytes)

-- no line stands whole: no line feed is there, and nothing is left where the text has ended
pub record HasNoLine (buffered : Buffered) : Type 0 where
  pub whole : All (λ c. is_line_end c ≡ false) buffered.bytes
  pub empty : buffered.ended ≡ true → buffered.bytes ≡ []

-- the bytes that a stream holds
abbrev pub buffered_in : Stream → Buffered
buffered_in stream = record { bytes = stream.bytes; ended = stream.ended }

-- what the first line gives, where it has so many bytes and as many go with it and its end
abbrev pub first_outcome : Stream → ℕ → ℕ → Outcome
first_outcome stream line past = outcome_of stream.limit stream.pending (first_text stream.bytes line past)

-- what is left behind the first line
abbrev pub behind_first_line : Stream → ℕ → ℕ → Stream
behind_first_line stream line past = record { limit = stream.limit; pending = (first_outcome stream line past).load; bytes = drop past stream.bytes; ended = stream.ended }
