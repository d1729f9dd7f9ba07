-- The bytes so far are the same, and no spaces.
use Rattle.std.proofs.Common.{ℕ, ◌≡◌, ◌<◌, get_or}
use Rattle.gr_tokens.proofs.same_word.same_end.Given as goal

abbrev pub invariant-loop-at : goal.invariant-loop-at
invariant-loop-at l = record {
  same : (j : ℕ) → j < l.at → get_or l.text j 0 ≡ get_or l.phrase j 0;
  no_space : (j : ℕ) → j < l.at → ¬ (get_or l.text j 0 ≡ 32);
}
