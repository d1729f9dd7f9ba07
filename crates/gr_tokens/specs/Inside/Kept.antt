-- The periods of a phrase's beginnings that are kept, by words.
use Rattle.std.specs.Prelude.{ℕ, ◌≡◌, ◌+◌, ◌-◌, ◌*◌, ◌/◌, ◌<◌, ◌≤◌, List, true, length, drop}
use Rattle.std.specs.List.{All}
use Rattle.gr_tokens.specs.declared.periods.Period.{Period}
use Rattle.gr_tokens.specs.declared.periods.Periods.{Periods}
use Rattle.gr_tokens.specs.Inside.Periods.{IsPeriod, NoShorter}
use Rattle.gr_tokens.specs.Tokens.{words}

-- it is the least period of the beginning of so many words
abbrev pub Covers : Period → ℕ → Type 0
Covers period count = (period.from ≤ count) × (count ≤ period.reach)

-- what is true of each of the periods
pub record IsKept (phrase : List (List ℕ)) (period : Period) : Type 0 where
  pub some : 0 < period.words
  pub short : period.words < period.from
  pub reach : period.reach ≤ length phrase
  pub after : words period.after.now ≡ drop (period.reach - period.words) phrase
  pub again : (count : ℕ) → Covers period count → IsPeriod phrase count period.words
  pub least : (count : ℕ) → Covers period count → NoShorter phrase count period.words

-- none of some periods is that of the beginning of so many words
abbrev pub NoneCovers : List Period → ℕ → Type 0
NoneCovers kept count = All (λ period. ¬ Covers period count) kept

-- the beginning of so many words has no period of a third of its length, unless one is kept
abbrev pub IsKnown : List (List ℕ) → Periods → ℕ → Type 0
IsKnown phrase periods count = periods.all ≡ true → NoneCovers periods.kept.items count → NoShorter phrase count (count / 3 + 1)

-- the periods of a phrase
pub record ArePeriods (phrase : List (List ℕ)) (periods : Periods) : Type 0 where
  pub kept : All (IsKept phrase) periods.kept.items
  pub known : (count : ℕ) → count ≤ length phrase → IsKnown phrase periods count

-- the periods of a phrase that are less than so many words
pub record ArePeriodsBelow (phrase : List (List ℕ)) (periods : Periods) (place : ℕ) : Type 0 where
  pub kept : All (IsKept phrase) periods.kept.items
  pub known : (count : ℕ) → count ≤ periods.reach → IsKnown phrase periods count
  pub others : (count q : ℕ) → periods.reach < count → count ≤ length phrase → 0 < q → q < place → 3 * q ≤ count → ¬ IsPeriod phrase count q
