-- How near to each other two places of a phrase can stand.
use Rattle.std.specs.Prelude.{ℕ, ◌≡◌, ◌-◌, ◌<◌, ◌≤◌, List, length, drop, IfSome}
use Rattle.gr_tokens.specs.declared.overlap.Overlap.{Overlap}
use Rattle.gr_tokens.specs.Inside.Periods.{IsPeriod, NoShorter}

-- no two places are nearer than `apart`, and the tail is what follows one that is followed by another as near as that
pub record IsOverlap (phrase : List ℕ) (overlap : Overlap) : Type 0 where
  pub low : 0 < overlap.apart
  pub high : overlap.apart ≤ length phrase
  pub none_nearer : NoShorter phrase (length phrase) overlap.apart
  pub tail : IfSome overlap.tail (λ tail. IsPeriod phrase (length phrase) overlap.apart × (tail.now ≡ drop (length phrase - overlap.apart) phrase))
