-- What is joined so far.
use Rattle.std.proofs.Common.{ℕ, map, take}
use Rattle.gr_base.specs.declared.numbers.RecordId.{RecordId}
use Rattle.gr_expr.specs.Score.{chain_score, joined_of}
use Rattle.gr_plan.specs.Inside.Planes.{AreScores}
use Rattle.gr_plan.proofs.scores.+scores.Given as goal

abbrev pub invariant-chain-loop-next : goal.invariant-chain-loop-next
invariant-chain-loop-next g l =
    let tables = g.B.Rows.tables l.rows in
    (score : RecordId → ℕ) → AreScores tables l.table l.block score l.fn.first → AreScores tables l.table l.block (λ id. chain_score (score id) (map (joined_of tables id) (take l.next-index l.rest))) l.all
