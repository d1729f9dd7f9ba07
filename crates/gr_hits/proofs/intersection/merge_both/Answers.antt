use Rattle.std.proofs.Common.{ℕ, ◌<◌, inl, inr, [], get_or, leb, length, arith}
use Rattle.std.proofs.lemmas.List.{append-nil, drop_all}
use Rattle.gr_hits.proofs.MergeLemmas.{both-step, both-ended, step_most, same_steps_left, same_steps_right}
use Rattle.gr_hits.proofs.SumLemmas.{no_hit}
use Rattle.gr_hits.proofs.intersection.merge_both.Goals as goal

pub merge-preserved : goal.merge-preserved
merge-preserved c =
    let a : ℕ = (get_or c.args.left.now c.merge.i no_hit).0.0 in
    let b : ℕ = (get_or c.args.right.now c.merge.j no_hit).0.0 in
    let room : c.merge.made < length c.merge.hits = omega arith in
    record {
      left = omega (arith, c.one_if-i.ensures, step_most (leb a b));
      right = omega (arith, c.one_if-j.ensures, step_most (leb b a));
      room = omega (arith, c.one_if-made.ensures, c.one_if-i.ensures, same_steps_left a b);
      room_right = omega (arith, c.one_if-made.ensures, c.one_if-j.ensures, same_steps_right a b);
      sums = rw (c.one_if-i.ensures, c.one_if-j.ensures, c.one_if-made.ensures, c.sum.ensures)
          (both-step c.args.left.now c.args.right.now c.requires.left c.requires.right c.merge.hits c.merge.made c.merge.i c.merge.j no_hit c.merge-test.true c.if-j-right.true room c.merge.invariant.sums);
    }

pub returns-else-j-right : goal.returns-else-j-right
returns-else-j-right c = rw append-nil at (c.merge.invariant.sums [] (both-ended _ _ (inr (drop_all c.merge.j c.args.right.now c.if-j-right.false))))

pub returns-after-merge : goal.returns-after-merge
returns-after-merge c = rw append-nil at (c.merge.invariant.sums [] (both-ended _ _ (inl (drop_all c.merge.i c.args.left.now c.merge-test.false))))
