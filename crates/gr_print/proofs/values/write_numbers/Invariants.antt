use Rattle.std.proofs.Common.{◌∷◌, map, take}
use Rattle.json.specs.Token.{begin_array}
use Rattle.gr_values.specs.Tokens.{Appends, number_token}
use Rattle.gr_print.proofs.values.write_numbers.Given as goal

-- the bracket and the elements so far
abbrev pub invariant-loop-number : goal.invariant-loop-number
invariant-loop-number l = Appends l.fn.writer l.writer (begin_array ∷ map number_token (take l.number-index l.numbers))
