use Rattle.std.proofs.Common.{◌≡◌, ◌+◌, ◌≤◌, None, length}
use Rattle.gr_session.proofs.solo.tests.run_on.Given as goal

-- the session is idle between two texts, and has counted them
abbrev pub invariant-loop-text : goal.invariant-loop-text
invariant-loop-text g l = record {
  idle : l.session.going ≡ None;
  behind : l.session.mark ≤ length l.solo.journal;
  same : l.session.limits ≡ l.solo.limits;
  kept : l.solo.limits ≡ l.fn.solo.limits;
  counted : l.session.command ≡ l.text-index;
}
