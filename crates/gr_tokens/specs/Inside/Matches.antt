-- How far the words of a phrase stand in a text from one word on.
use Rattle.std.specs.Prelude.{ℕ, ◌≡◌, ◌+◌, ◌-◌, ◌<◌, ◌≤◌, List, ◌^◌, length, take, drop}
use Rattle.gr_tokens.specs.declared.word_match.Match.{Match}
use Rattle.gr_tokens.specs.declared.word_match.Stop.{Stop}
use Rattle.gr_tokens.specs.declared.word_match.Stop.TheVariants.{Whole, End, Differs}
use Rattle.gr_tokens.specs.Tokens.{words}

-- the first so many words of the phrase and the text are the same, and these are the texts after them
pub record IsMatch (m : Match) : Type 0 where
  pub same : take m.matched (words m.text.now) ≡ take m.matched (words m.phrase.now)
  pub few : length (words m.phrase.now) < 2 ^ 64
  pub in_phrase : m.matched ≤ length (words m.phrase.now)
  pub in_text : m.matched ≤ length (words m.text.now)
  pub after : words m.after.now ≡ drop m.matched (words m.text.now)
  pub wanted : words m.wanted.now ≡ drop m.matched (words m.phrase.now)

-- the words after them are others
abbrev pub IsLongest : Match → Type 0
IsLongest m = ¬ (take (m.matched + 1) (words m.text.now) ≡ take (m.matched + 1) (words m.phrase.now))

-- why a match goes no further
abbrev pub StopsBy : Match → Stop → Type 0
StopsBy m Whole = m.matched ≡ length (words m.phrase.now)
StopsBy m End = (m.matched ≡ length (words m.text.now)) × (m.matched < length (words m.phrase.now))
StopsBy m Differs = (m.matched < length (words m.text.now)) × (m.matched < length (words m.phrase.now)) × IsLongest m

-- at none of these words of the text the phrase matches as far as at the first
abbrev pub ArePassed : List (List ℕ) → List (List ℕ) → ℕ → ℕ → Type 0
ArePassed text phrase matched shift = (q : ℕ) → 0 < q → q < shift → ¬ (take (matched + 1 - q) (drop q text) ≡ take (matched + 1 - q) phrase)
