use Rattle.std.proofs.Common.{◌∷◌, map, take}
use Rattle.json.specs.Token.{begin_array, string}
use Rattle.gr_values.specs.Tokens.{Appends}
use Rattle.gr_print.proofs.values.write_texts.Given as goal

-- the bracket and the elements so far
abbrev pub invariant-loop-text : goal.invariant-loop-text
invariant-loop-text l = Appends l.fn.writer l.writer (begin_array ∷ map string (take l.text-index l.texts))
