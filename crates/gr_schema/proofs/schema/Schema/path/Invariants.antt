use Rattle.std.proofs.Common.{◌≡◌, length}
use Rattle.std.specs.List.{slice_split}
use Rattle.std.specs.Option.{option_map}
use Rattle.gr_schema.specs.Inside.Ways.{after_hops}
use Rattle.gr_schema.specs.Paths.{is_dot, way_along}
use Rattle.gr_schema.proofs.schema.Schema.path.Given as goal

abbrev pub invariant-names : goal.invariant-names
invariant-names l =
    way_along l.self l.table (slice_split is_dot l.text) ≡ option_map (after_hops l.hops.items) (way_along l.self l.at (slice_split is_dot l.rest))

abbrev pub decreases-names : goal.decreases-names
decreases-names l = length l.rest
