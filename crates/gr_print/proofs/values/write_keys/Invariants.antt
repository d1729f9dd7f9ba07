use Rattle.std.proofs.Common.{◌∷◌, map, take}
use Rattle.std.specs.List.{filter_map}
use Rattle.json.specs.Token.{begin_array}
use Rattle.gr_print.specs.Shown.{key_referred}
use Rattle.gr_values.specs.Tokens.{Appends, key_token}
use Rattle.gr_print.proofs.values.write_keys.Given as goal

-- the bracket and the keys so far
abbrev pub invariant-loop-id : goal.invariant-loop-id
invariant-loop-id g l = Appends l.fn.writer l.writer (begin_array ∷ map key_token (filter_map (key_referred (g.R.Rows.tables l.rows) l.to) (take l.id-index l.ids)))
