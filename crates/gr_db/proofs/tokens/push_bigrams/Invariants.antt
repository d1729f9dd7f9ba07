use Rattle.std.proofs.Common.{◌≡◌, ◌++◌, map}
use Rattle.gr_db.specs.Inside.Wanting.{token_want}
use Rattle.gr_db.proofs.tokens.push_bigrams.Given as goal

-- the wants so far and those of the bigrams that are left are those of all
abbrev pub invariant-loop-bigram : goal.invariant-loop-bigram
invariant-loop-bigram l = l.wants.items ++ map (token_want l.table) l.bigram-iterator ≡ l.initial.wants.items ++ map (token_want l.table) l.initial.bigram-iterator
