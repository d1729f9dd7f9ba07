use Rattle.std.proofs.Common.{◌∷◌, ◌++◌, take}
use Rattle.std.specs.Fmt.{decimal}
use Rattle.std.specs.List.{flat_map}
use Rattle.json.specs.Token.{begin_array, end_array, number}
use Rattle.gr_drill.specs.Inside.Tokens.{column_tokens, row_tokens}
use Rattle.gr_print.specs.Inside.Tokens.{array_of}
use Rattle.gr_values.specs.Tokens.{Appends}
use Rattle.gr_drill.proofs.block.write_block.Given as goal

-- the count, the headings and the rows so far
abbrev pub invariant-loop-group : goal.invariant-loop-group
invariant-loop-group g l =
    Appends l.fn.writer l.writer
    ((begin_array ∷ begin_array ∷ number (decimal l.found) ∷ end_array ∷ array_of (column_tokens l.schema l.of) l.columns)
    ++ flat_map (row_tokens (g.R.Rows.tables l.rows) l.of l.columns) (take l.group-index l.shown))
