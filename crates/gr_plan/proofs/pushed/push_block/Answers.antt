use Rattle.std.proofs.Common.{◌≡◌, ◌*◌, ◌+◌, ◌<◌, ◌++◌, ℕ, ap, append-nil, arith, subst, sym, ◌∙◌}
use Rattle.std.specs.Int.{bit_at}
use Rattle.std.specs.List.{AllByRecursion}
use Rattle.std.proofs.lemmas.Nat.Bits.{bit_at-zero}
use Rattle.gr_hits.specs.Hits.{Hit}
use Rattle.gr_columns.specs.declared.places.TheConstants.{BLOCK_CELLS}
use Rattle.gr_plan.specs.Inside.Planes.{score_in}
use Rattle.gr_plan.proofs.ScanLemmas.{hits_in-found, hits_in-later, hits_in-none, hits_in-passed, hits_in-start}
use Rattle.gr_plan.proofs.pushed.push_block.Goals as goal
use Rattle.gr_plan.proofs.pushed.push_block.Goals.{then-digit-eq1+in_ok-push, else-digit-eq1}

pub returns-then-found-eq0 : goal.returns-then-found-eq0
returns-then-found-eq0 c =
    let none = λ (place : ℕ). let bit : bit_at c.found-found.result place ≡ 0 = ap (λ mask. bit_at mask place) c.if-found-eq0.true ∙ bit_at-zero place in let same : score_in c.args.scores place ≡ 0 = omega (arith, bit, c.found-found.ensures place) in same in
    sym (ap (λ more. c.args.hits.now ++ more) (hits_in-none (BLOCK_CELLS * c.args.block) c.args.scores BLOCK_CELLS none) ∙ append-nil c.args.hits.now)

pub loop-place-init : goal.loop-place-init
loop-place-init c = hits_in-start (BLOCK_CELLS * c.args.block) c.args.scores c.args.hits.now

pub push-requires-clause-later : goal.push-requires-clause-later
push-requires-clause-later c =
    let first = BLOCK_CELLS * c.args.block in
    subst (AllByRecursion (λ (hit : Hit). hit.0.0 < first + c.loop-place.place)) (sym c.loop-place.invariant) (hits_in-later first c.args.scores c.args.hits.now c.loop-place.place c.requires.later)

pub loop-place-preserved : goal.loop-place-preserved
loop-place-preserved c =
    let first = BLOCK_CELLS * c.args.block in
    let place = c.loop-place.place in
    let are = c.loop-place.invariant in
    elim c.if-digit-eq1.branch [
      | then-digit-eq1+in_ok-push w ↦
          let some : 0 < w.score_at.result = omega (arith, w.if-digit-eq1.true, c.digit.ensures.exact, c.found-found.ensures place, w.score_at.ensures) in
          rw (w.hits-is, w.in_ok-push.ensures.ok) (hits_in-found first c.args.scores c.args.hits.now c.loop-place.hits place are w.score_at.result w.score_at.ensures some)
      | else-digit-eq1 w ↦
          let none : score_in c.args.scores place ≡ 0 = omega (arith, w.if-digit-eq1.false, c.digit.ensures.exact, c.digit.ensures.small, c.found-found.ensures place) in
          rw w.hits-is (hits_in-passed first c.args.scores c.args.hits.now c.loop-place.hits place are none)
    ]
