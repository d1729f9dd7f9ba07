use Rattle.std.proofs.Common.{refl, rules}
use Rattle.std.proofs.KnownBytes.{Keeps-refl, Keeps-trans}
use Rattle.gr_outside.proofs.Keeping.{kept_by_none, taken_after_kept}
use Rattle.gr_outside.proofs.real.RealSinkSink.write.Goals as goal
use Rattle.gr_outside.proofs.real.RealSinkSink.write.Goals.{else-loop-test, then-loop-test+in-Ok-eq0, then-loop-test+in-Err-2}

pub loop-init : goal.loop-init
loop-init g c = record { kept = Keeps-refl _; faults = refl }

pub loop-preserved : goal.loop-preserved
loop-preserved g c = record { kept = Keeps-trans _ _ _ c.loop.invariant.kept c.in-Err.ensures.bytes; faults = c.loop.invariant.faults }

pub returns-in-Ok-clause-bytes : goal.returns-in-Ok-clause-bytes
returns-in-Ok-clause-bytes g c = rw (← c.self.view_is) (taken_after_kept _ _ _ _ c.loop.invariant.kept c.in-Ok.ensures.bytes)

pub returns-clause-bytes : goal.returns-clause-bytes
returns-clause-bytes g c = rw (← c.self.view_is) (elim c.loop-test.branch [
  | else-loop-test w ↦ rw w.self-inside-is c.loop.invariant.kept
  | then-loop-test+in-Ok-eq0 w ↦ rw w.self-inside-is (Keeps-trans _ _ _ c.loop.invariant.kept (kept_by_none (g.W.Write.contents c.loop.self-inside.writer) (g.W.Write.contents w.write.new.self) (search rules)))
  | then-loop-test+in-Err-2 w ↦ rw w.self-inside-is (Keeps-trans _ _ _ c.loop.invariant.kept w.in-Err.ensures.bytes)
])
