use Rattle.std.proofs.Common.{◌≡◌, ◌++◌, map}
use Rattle.gr_db.specs.Inside.Wanting.{token_want}
use Rattle.gr_db.proofs.tokens.push_words.Given as goal

-- the wants so far and those of the words that are left are those of all
abbrev pub invariant-loop-word : goal.invariant-loop-word
invariant-loop-word l = l.wants.items ++ map (token_want l.table) l.word-iterator ≡ l.initial.wants.items ++ map (token_want l.table) l.initial.word-iterator
