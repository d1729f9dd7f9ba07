-- Runs: elements that stand side by side in one leaf.
use Rattle.std.specs.Prelude.{◌≡◌, ◌<◌, ◌≤◌, ◌+◌, ℕ, List, ◌++◌, map, length, drop, slice_range}
use Rattle.std.specs.Arc.{arc_value}
use Rattle.std.specs.declared.sync.Arc.{Arc}

-- the run has elements, and they are those of the list from i on
pub record IsRun {X Y : Type 0} (run : List (Arc X Y)) (i : ℕ) (whole : List X) : Type 0 where
  pub has_items : 0 < length run
  pub within : i + length run ≤ length whole
  pub same : drop i whole ≡ map arc_value run ++ drop (i + length run) whole

-- the run has elements, and they are those of from..to that come first
pub record IsRunUpTo {X Y : Type 0} (run : List (Arc X Y)) (from to : ℕ) (whole : List X) : Type 0 where
  pub has_items : 0 < length run
  pub within : from + length run ≤ to
  pub same : slice_range whole from to ≡ map arc_value run ++ slice_range whole (from + length run) to
