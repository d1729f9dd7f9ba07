use Rattle.std.proofs.Common.{ℕ, ◌<◌}
use Rattle.std.specs.List.{count_by}
use Rattle.gr_index.specs.declared.limits.TheConstants.{FOLDED_SEGMENTS}
use Rattle.gr_index.specs.Levels.{is_of_level}
use Rattle.gr_index.proofs.index.Index.ripe.Given as goal

abbrev pub invariant-loop-level : goal.invariant-loop-level
invariant-loop-level l = (k : ℕ) → k < l.level → count_by (is_of_level k) l.self.parts < FOLDED_SEGMENTS
