use Rattle.std.proofs.Common.{◌≡◌, [], length}
use Rattle.std.specs.List.{slice_split}
use Rattle.gr_schema.specs.Inside.Sources.{sources_added}
use Rattle.gr_schema.specs.Wishes.{home_of, is_comma}
use Rattle.gr_schema.proofs.sources.listed.Given as goal

abbrev pub invariant-names : goal.invariant-names
invariant-names l =
    sources_added (home_of l.sides.no l.sides.home.now) l.sides.target.now l.most [] (slice_split is_comma l.source)
    ≡ sources_added (home_of l.sides.no l.sides.home.now) l.sides.target.now l.most l.fields.items (slice_split is_comma l.rest)

abbrev pub decreases-names : goal.decreases-names
decreases-names l = length l.rest
