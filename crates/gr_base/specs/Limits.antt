-- The limits of a run: those that hold where none are given, and the ranges that they may have.
use Rattle.std.specs.Prelude.{ℕ, ◌≤◌}
use Rattle.gr_base.specs.declared.limits.TheConstants.{DEFAULT_JOURNAL_ENTRIES, DEFAULT_LINE_BYTES, DEFAULT_RECORDS, DEFAULT_SOURCE_BYTES, MOST_JOURNAL_ENTRIES, MOST_LINE_BYTES, MOST_RECORDS, MOST_SOURCE_BYTES}
use Rattle.gr_base.specs.declared.numbers.Limits.{Limits}

-- the limits where none are given
abbrev pub default_limits : Limits
default_limits = record { records = DEFAULT_RECORDS; journal = DEFAULT_JOURNAL_ENTRIES; source = DEFAULT_SOURCE_BYTES; line = DEFAULT_LINE_BYTES }

-- from 1 up to the most that it may be
abbrev pub IsUpTo : ℕ → ℕ → Type 0
IsUpTo most limit = (1 ≤ limit) × (limit ≤ most)

-- each limit is in its range
pub record IsInRange (limits : Limits) : Type 0 where
  pub records : IsUpTo MOST_RECORDS limits.records
  pub journal : IsUpTo MOST_JOURNAL_ENTRIES limits.journal
  pub source : IsUpTo MOST_SOURCE_BYTES limits.source
  pub line : IsUpTo MOST_LINE_BYTES limits.line
