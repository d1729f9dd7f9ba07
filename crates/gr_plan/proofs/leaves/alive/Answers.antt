use Rattle.std.proofs.Common.{◌*◌, ◌+◌, ℕ, is_some, sym, ◌∙◌}
use Rattle.gr_columns.specs.declared.places.TheConstants.{BLOCK_CELLS}
use Rattle.gr_expr.specs.Tables.{record_in, records_of}
use Rattle.gr_plan.proofs.PlaneLemmas.{AreBits-passed, AreBits-set}
use Rattle.gr_plan.proofs.leaves.alive.Goals as goal
use Rattle.gr_plan.proofs.leaves.alive.Goals.{then-is_alive, else-is_alive}

pub loop-place-preserved : goal.loop-place-preserved
loop-place-preserved g c =
    let there = λ (place : ℕ). is_some (record_in (records_of (g.R.Rows.tables c.args.rows.now) c.args.table) (BLOCK_CELLS * c.args.block + place)) in
    elim c.if-is_alive.branch [
      | then-is_alive w ↦ rw w.mask-is (AreBits-set there c.loop-place.mask c.loop-place.place c.loop-place-test.true c.loop-place.invariant (sym c.is_alive.ensures ∙ w.if-is_alive.true))
      | else-is_alive w ↦ rw w.mask-is (AreBits-passed there c.loop-place.mask c.loop-place.place c.loop-place-test.true c.loop-place.invariant (sym c.is_alive.ensures ∙ w.if-is_alive.false))
    ]
