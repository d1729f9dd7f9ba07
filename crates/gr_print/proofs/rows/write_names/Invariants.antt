use Rattle.std.proofs.Common.{◌∷◌, [], ◌++◌, take}
use Rattle.std.specs.List.{flat_map}
use Rattle.json.specs.Token.{begin_array, string}
use Rattle.gr_values.specs.Tokens.{Appends}
use Rattle.gr_print.proofs.rows.write_names.Given as goal

-- the bracket and the names so far
abbrev pub invariant-loop-column : goal.invariant-loop-column
invariant-loop-column l = Appends l.fn.writer l.writer (begin_array ∷ [] ++ flat_map (λ column. string column.name ∷ []) (take l.column-index l.columns))
