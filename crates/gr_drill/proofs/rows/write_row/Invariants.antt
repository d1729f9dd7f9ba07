use Rattle.std.proofs.Common.{◌∷◌, [], ◌++◌, take}
use Rattle.std.specs.List.{flat_map}
use Rattle.json.specs.Token.{begin_array}
use Rattle.gr_drill.specs.Inside.Tokens.{item_tokens}
use Rattle.gr_values.specs.Tokens.{Appends}
use Rattle.gr_drill.proofs.rows.write_row.Given as goal

-- the bracket and what is shown so far
abbrev pub invariant-loop-column : goal.invariant-loop-column
invariant-loop-column g l =
    Appends l.fn.writer l.writer (begin_array ∷ [] ++ flat_map (λ column. item_tokens (g.R.Rows.tables l.rows) l.of l.group column.item) (take l.column-index l.columns))
