use Rattle.std.proofs.Common.{◌∷◌, [], ◌++◌, take}
use Rattle.std.specs.List.{flat_map}
use Rattle.json.specs.Token.{begin_array}
use Rattle.gr_drill.specs.Inside.Tokens.{column_tokens}
use Rattle.gr_values.specs.Tokens.{Appends}
use Rattle.gr_drill.proofs.headings.write_headings.Given as goal

-- the bracket and the names and types so far
abbrev pub invariant-loop-column : goal.invariant-loop-column
invariant-loop-column l = Appends l.fn.writer l.writer (begin_array ∷ [] ++ flat_map (column_tokens l.schema l.of) (take l.column-index l.columns))
