use Rattle.std.proofs.Common.{◌≡◌, ◌++◌, take}
use Rattle.std.specs.List.{filter_map, flat_map}
use Rattle.gr_db.specs.Wants.{source_wants}
use Rattle.gr_expr.specs.Tables.{records_of}
use Rattle.gr_db.proofs.index_wants.push_table.Given as goal

-- the wants so far are those of the records so far
abbrev pub invariant-loop-place : goal.invariant-loop-place
invariant-loop-place g l =
    l.wants.items ≡ l.initial.wants.items ++ flat_map (λ found. flat_map (source_wants l.schema l.index found) l.sources) (filter_map (λ found. found) (take l.place (records_of (g.R.Rows.tables l.rows) l.target)))
