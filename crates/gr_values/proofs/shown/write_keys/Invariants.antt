use Rattle.std.proofs.Common.{◌∷◌, map, take}
use Rattle.json.specs.Token.{begin_array}
use Rattle.gr_values.specs.Tokens.{Appends, key_token}
use Rattle.gr_values.proofs.shown.write_keys.Given as goal

-- the bracket and the elements so far
abbrev pub invariant-loop-key : goal.invariant-loop-key
invariant-loop-key l = Appends l.fn.writer l.writer (begin_array ∷ map key_token (take l.key-index l.keys))
