use Rattle.std.proofs.Common.{◌≤◌, ◌<◌, ◌∷◌, [], length, map, take, subst, sym, arith}
use Rattle.std.specs.List.{AllByRecursion}
use Rattle.gr_postings.specs.Postings.{posting_of}
use Rattle.gr_chunks.proofs.ListLemmas.{all_both, all_weaker, taken_more}
use Rattle.gr_chunks.proofs.coding.least_place.Goals as goal

pub loop-view-preserved : goal.loop-view-preserved
loop-view-preserved c =
    let xs = c.args.views.now in
    let i = c.loop-view.view-index in
    let x = c.view-item.result in
    let least = c.min-least.result in
    let within : i < length xs = omega arith in
    let lower : least ≤ c.loop-view.least = omega (arith, c.min-least.ensures) in
    let here : least ≤ x.place = omega (arith, c.min-least.ensures) in
    subst (AllByRecursion (λ p. least ≤ p.place)) (sym (taken_more posting_of xs i x within c.view-item.is))
    (all_both (λ p. least ≤ p.place) (map posting_of (take i xs)) (posting_of x ∷ []) (all_weaker (λ p. c.loop-view.least ≤ p.place) (λ p. least ≤ p.place) (λ p h. omega (arith, lower, h)) (map posting_of (take i xs)) c.loop-view.invariant) (here, tt))
