use Rattle.std.proofs.Common.{◌≡◌, ◌*◌, ◌++◌}
use Rattle.gr_columns.specs.declared.places.TheConstants.{BLOCK_CELLS}
use Rattle.gr_plan.specs.Inside.Planes.{hits_in}
use Rattle.gr_plan.proofs.pushed.push_block.Given as goal

-- the hits so far
abbrev pub invariant-loop-place : goal.invariant-loop-place
invariant-loop-place l = l.hits ≡ l.initial.hits ++ hits_in (BLOCK_CELLS * l.block) l.scores l.place
