use Rattle.std.proofs.Common.{◌≡◌, map, take}
use Rattle.gr_db.specs.declared.entry.Change.TheVariants.{DeleteIf}
use Rattle.gr_session.proofs.commands.delete_found.changes_of.Given as goal

-- the hits so far have their deletions
abbrev pub invariant-loop-hit : goal.invariant-loop-hit
invariant-loop-hit l = l.changes.items ≡ map (λ hit. DeleteIf l.table hit.0 l.condition) (take l.hit-index l.hits)
