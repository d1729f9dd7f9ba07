-- Where two texts begin with the same word.
use Rattle.std.specs.Prelude.{ℕ, ◌≡◌, ◌<◌, ◌≤◌, List, length, slice_index}

-- both have a space there, and before it the same bytes, which are no spaces
pub record IsSameEnd (text phrase : List ℕ) (end : ℕ) : Type 0 where
  pub some : 0 < end
  pub short : end ≤ 4096
  pub in_text : end < length text
  pub in_phrase : end < length phrase
  pub space : slice_index text end ≡ 32
  pub space_too : slice_index phrase end ≡ 32
  pub same : (j : ℕ) → j < end → slice_index text j ≡ slice_index phrase j
  pub no_space : (j : ℕ) → j < end → ¬ (slice_index text j ≡ 32)
