use Rattle.std.proofs.Common.{◌+◌, ◌<◌, ◌≤◌, length, map, take, drop, subst, sym, ap, arith}
use Rattle.std.proofs.lemmas.List.{take_all}
use Rattle.gr_postings.specs.Postings.{posting_of}
use Rattle.gr_chunks.specs.Inside.Appends.{AppendsRun}
use Rattle.gr_chunks.proofs.ListLemmas.{left_more, taken_more}
use Rattle.gr_chunks.proofs.RunLemmas.{Pushed, pushed_all, pushed_more}
use Rattle.gr_chunks.proofs.coding.push_run.Goals as goal

pub loop-view-preserved : goal.loop-view-preserved
loop-view-preserved c =
    let xs = c.args.views.now in
    let i = c.loop-view.view-index in
    let x = c.view-item.result in
    let within : i < length xs = omega arith in
    subst (λ ps. Pushed c.args.term c.args.least c.args.bytes.now.items c.push_posting.new.bytes.items ps (map posting_of (drop (i + 1) xs)) x.id.0) (sym (taken_more posting_of xs i x within c.view-item.is))
    (pushed_more c.args.term c.args.least c.args.bytes.now.items c.loop-view.bytes.items c.push_posting.new.bytes.items (map posting_of (take i xs)) (map posting_of (drop i xs)) (map posting_of (drop (i + 1) xs)) c.loop-view.before (posting_of x) c.loop-view.invariant (ap (map posting_of) (left_more xs i x within c.view-item.is)) c.in_ok-push_posting.ensures)

pub returns : goal.returns
returns c =
    let xs = c.args.views.now in
    let i = c.loop-view.view-index in
    let past : length xs ≤ i = omega arith in
    subst (λ vs. AppendsRun c.args.term c.args.least c.args.bytes.now.items c.loop-view.bytes.items (map posting_of vs)) (take_all i xs past)
    (pushed_all c.args.term c.args.least c.args.bytes.now.items c.loop-view.bytes.items (map posting_of (take i xs)) (map posting_of (drop i xs)) c.loop-view.before c.loop-view.invariant)
