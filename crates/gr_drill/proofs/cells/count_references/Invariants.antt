use Rattle.std.proofs.Common.{◌≡◌, take}
use Rattle.std.specs.List.{filter_map}
use Rattle.gr_drill.specs.Groups.{reference_key}
use Rattle.gr_drill.specs.Inside.Tally.{lent_groups, with_all}
use Rattle.gr_drill.proofs.cells.count_references.Given as goal

-- the references so far are counted
abbrev pub invariant-loop-id : goal.invariant-loop-id
invariant-loop-id g l = lent_groups l.tally.entries ≡ with_all (lent_groups l.initial.tally.entries) (filter_map (reference_key (g.R.Rows.tables l.rows) l.to) (take l.id-index l.ids))
