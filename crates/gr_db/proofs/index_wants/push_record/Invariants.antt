use Rattle.std.proofs.Common.{◌≡◌, ◌++◌, [], take}
use Rattle.std.specs.List.{flat_map}
use Rattle.std.specs.Option.{option_map_or}
use Rattle.gr_db.specs.Wants.{source_wants}
use Rattle.gr_expr.specs.Tables.{record_at}
use Rattle.gr_db.proofs.index_wants.push_record.Given as goal

-- the wants so far are those of the sources so far
abbrev pub invariant-loop-source : goal.invariant-loop-source
invariant-loop-source g l =
    l.wants.items ≡ l.initial.wants.items ++ flat_map (λ source. option_map_or (λ found. source_wants l.schema l.index found source) (record_at (g.R.Rows.tables l.rows) l.target l.id) []) (take l.source-index l.sources)
