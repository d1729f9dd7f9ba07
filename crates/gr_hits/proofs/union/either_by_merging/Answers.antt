use Rattle.std.proofs.Common.{ℕ, ◌≡◌, ◌⊎◌, inl, inr, [], ◌++◌, get_or, drop, leb, append_assoc, arith}
use Rattle.std.proofs.lemmas.List.{drop_all}
use Rattle.gr_hits.proofs.HitLemmas.{hits-drop}
use Rattle.gr_hits.proofs.MergeLemmas.{either-step, either-ended, step_most, one_steps}
use Rattle.gr_hits.proofs.SumLemmas.{no_hit}
use Rattle.gr_hits.proofs.union.either_by_merging.Goals as goal
use Rattle.gr_hits.proofs.union.either_by_merging.Goals.{then-merge-test+else-j-right, else-merge-test}

pub merge-preserved : goal.merge-preserved
merge-preserved c =
    let a : ℕ = (get_or c.args.left.now c.merge.i no_hit).0.0 in
    let b : ℕ = (get_or c.args.right.now c.merge.j no_hit).0.0 in
    record {
      left = omega (arith, c.one_if-i.ensures, step_most (leb a b));
      right = omega (arith, c.one_if-j.ensures, step_most (leb b a));
      room = omega (arith, c.one_if-i.ensures, c.one_if-j.ensures, one_steps a b);
      capacity = omega arith;
      sums = rw (c.append_hit.ensures.items, c.one_if-i.ensures, c.one_if-j.ensures, c.sum.ensures, c.min.ensures, c.score_if.ensures, c.score_if-in-merge.ensures)
          (either-step c.args.left.now c.args.right.now c.requires.left c.requires.right c.merge.i c.merge.j no_hit c.merge-test.true c.if-j-right.true c.merge.hits.items c.merge.invariant.sums);
    }

pub returns : goal.returns
returns c =
    let left = c.args.left.now in
    let right = c.args.right.now in
    let end : (drop c.merge.i left ≡ []) ⊎ (drop c.merge.j right ≡ []) = elim c.merge-test.branch [
      | then-merge-test+else-j-right w ↦ inr (drop_all c.merge.j right w.if-j-right.false)
      | else-merge-test w ↦ inl (drop_all c.merge.i left w.merge-test.false)
    ] in
    rw (c.append_hits-2.ensures.items, c.append_hits.ensures.items, c.split_at.ensures.back, c.split_at-2.ensures.back, append_assoc)
    (c.merge.invariant.sums (drop c.merge.i left ++ drop c.merge.j right) (either-ended (drop c.merge.i left) (drop c.merge.j right) (hits-drop c.merge.i left c.requires.left) (hits-drop c.merge.j right c.requires.right) end))
