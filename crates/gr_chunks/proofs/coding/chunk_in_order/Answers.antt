use Rattle.std.proofs.Common.{◌≤◌, ◌+◌, ◌++◌, map, take, drop, subst, sym, ap, ◌∙◌, arith}
use Rattle.std.proofs.lemmas.List.{take_all, drop-drop, map-append}
use Rattle.gr_postings.specs.Postings.{posting_cmp, posting_of, IsInOrder}
use Rattle.gr_chunks.specs.Inside.Appends.{PushesRun}
use Rattle.gr_chunks.specs.Inside.Runs.{postings_in}
use Rattle.gr_chunks.proofs.ListLemmas.{all_drop, map_drop, sorted_drop, take_parts}
use Rattle.gr_chunks.proofs.RunLemmas.{Built, built_all, built_is, built_more, built_none}
use Rattle.gr_chunks.proofs.coding.chunk_in_order.Goals as goal

pub loop-at-init : goal.loop-at-init
loop-at-init c = rw (c.new-runs.ensures.items, c.new-bytes.ensures.items) (built_none c.least_place-least.result (map posting_of c.args.views.now))

pub push_front-requires-clause-order : goal.push_front-requires-clause-order
push_front-requires-clause-order c =
    rw (c.split_at.ensures.back, map_drop posting_of c.loop-at.at c.args.views.now) (sorted_drop posting_cmp c.loop-at.at (map posting_of c.args.views.now) c.requires)

pub push_front-requires-clause-places : goal.push_front-requires-clause-places
push_front-requires-clause-places c =
    rw (c.split_at.ensures.back, map_drop posting_of c.loop-at.at c.args.views.now) (all_drop (λ p. c.least_place-least.result ≤ p.place) c.loop-at.at (map posting_of c.args.views.now) c.least_place-least.ensures)

pub loop-at-preserved : goal.loop-at-preserved
loop-at-preserved c =
    let least = c.least_place-least.result in
    let views = c.args.views.now in
    let at = c.loop-at.at in
    let count = c.in_ok-at.field-0 in
    let runs = c.push_front.new.runs.items in
    let bytes = c.push_front.new.bytes.items in
    let one = subst (λ vs. PushesRun least c.loop-at.runs.items runs c.loop-at.bytes.items bytes vs count) c.split_at.ensures.back c.in_ok-at.ensures in
    let next = built_more least c.loop-at.runs.items runs c.loop-at.bytes.items bytes (map posting_of (take at views)) (drop at views) count c.loop-at.invariant one in
    let done = sym (map-append posting_of (take at views) (take count (drop at views))) ∙ ap (map posting_of) (take_parts at count views) in
    let left = ap (map posting_of) (drop-drop count at views) in
    subst (λ ps. Built least runs bytes ps (map posting_of (drop (at + count) views))) done (subst (Built least runs bytes (map posting_of (take at views) ++ map posting_of (take count (drop at views)))) left next)

pub invariant_of-result : goal.invariant_of-result
invariant_of-result c =
    let views = c.args.views.now in
    let at = c.loop-at.at in
    let all = take_all at views (omega arith) in
    rw (c.shrink_to_fit.ensures.items, c.shrink_to_fit-2.ensures.items) (built_all c.least_place-least.result c.loop-at.runs.items c.loop-at.bytes.items (map posting_of (take at views)) (map posting_of (drop at views)) c.loop-at.invariant (subst (λ vs. IsInOrder (map posting_of vs)) (sym all) c.requires))

pub returns : goal.returns
returns c =
    let views = c.args.views.now in
    let at = c.loop-at.at in
    let least = c.least_place-least.result in
    ap (λ rs. postings_in least rs c.shrink_to_fit-2.new.self.items) c.shrink_to_fit.ensures.items
    ∙ (ap (postings_in least c.loop-at.runs.items) c.shrink_to_fit-2.ensures.items
    ∙ (built_is c.least_place-least.result c.loop-at.runs.items c.loop-at.bytes.items (map posting_of (take at views)) (map posting_of (drop at views)) c.loop-at.invariant ∙ ap (map posting_of) (take_all at views (omega arith))))
