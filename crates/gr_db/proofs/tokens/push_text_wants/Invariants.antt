use Rattle.std.proofs.Common.{◌≡◌, ◌++◌, filter, take}
use Rattle.std.specs.List.{flat_map}
use Rattle.gr_schema.specs.Index.{is_on}
use Rattle.gr_db.specs.Wants.{index_wants}
use Rattle.gr_db.proofs.tokens.push_text_wants.Given as goal

-- the wants so far are those of the index columns so far that are on the field
abbrev pub invariant-loop-index : goal.invariant-loop-index
invariant-loop-index l =
    l.wants.items ≡ l.initial.wants.items ++ flat_map (index_wants l.schema l.text) (filter (is_on l.schema l.table l.field) (take l.index-index l.index-items))
