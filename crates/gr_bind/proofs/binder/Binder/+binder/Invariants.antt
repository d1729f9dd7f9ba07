-- What is left to do leads from here to where all of it does.
use Rattle.std.proofs.Common.{◌+◌, ◌*◌}
use Rattle.gr_bind.proofs.Rows.{So_far}
use Rattle.gr_bind.specs.Inside.Folded.{link_at, term_at, value_at}
use Rattle.gr_bind.specs.Typing.{each}
use Rattle.gr_bind.proofs.binder.Binder.+binder.Given as goal

abbrev pub invariant-links-loop-link : goal.invariant-links-loop-link
invariant-links-loop-link l =
    So_far (link_at l.self) l.links l.others l.link-index

abbrev pub invariant-terms-loop-term : goal.invariant-terms-loop-term
invariant-terms-loop-term l =
    So_far (term_at l.self) l.terms l.others l.term-index

abbrev pub invariant-values-loop-tree : goal.invariant-values-loop-tree
invariant-values-loop-tree l =
    So_far (value_at l.self l.kind) l.trees l.values l.tree-index

-- The depth of what is typed; of those that are given the same, a caller is above what it calls.
abbrev pub decreases-part : goal.decreases-part
decreases-part l = 4 * goal.size-part l + 1

abbrev pub decreases-operand : goal.decreases-operand
decreases-operand l = 4 * goal.size-operand l

abbrev pub decreases-links : goal.decreases-links
decreases-links l = 4 * goal.size-links l + 2

abbrev pub decreases-terms : goal.decreases-terms
decreases-terms l = 4 * goal.size-terms l + 2

abbrev pub decreases-between : goal.decreases-between
decreases-between l = 4 * goal.size-between l + 2

abbrev pub decreases-in_values : goal.decreases-in_values
decreases-in_values l = 4 * goal.size-in_values l + 3

abbrev pub decreases-values : goal.decreases-values
decreases-values l = 4 * goal.size-values l + 2
