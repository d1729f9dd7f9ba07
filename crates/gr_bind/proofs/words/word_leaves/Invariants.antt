use Rattle.std.proofs.Common.{◌≡◌, map, take}
use Rattle.gr_bind.specs.Typing.{word_leaf}
use Rattle.gr_bind.proofs.words.word_leaves.Given as goal

abbrev pub invariant-loop-column : goal.invariant-loop-column
invariant-loop-column l = l.leaves ≡ map (word_leaf l.seek l.text) (take l.column-index l.columns)
