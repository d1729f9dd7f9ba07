use Rattle.std.proofs.Common.{◌≡◌, ◌++◌, reverse, length}
use Rattle.gr_session.specs.Load.{changes_of}
use Rattle.gr_session.proofs.commands.load.changes_of.Given as goal

-- the puts left and then the changes made are all the puts, in order
abbrev pub invariant-loop-put : goal.invariant-loop-put
invariant-loop-put l = changes_of l.table l.puts.items ++ reverse l.changes.items ≡ changes_of l.table l.fn.puts

abbrev pub decreases-loop-put : goal.decreases-loop-put
decreases-loop-put l = length l.puts.items
