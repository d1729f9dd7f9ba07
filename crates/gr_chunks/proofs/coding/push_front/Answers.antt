use Rattle.std.proofs.Common.{◌≡◌, leb, length, rules}
use Rattle.std.proofs.lemmas.List.Sorted.{IsPartitionedBy-leb, IsPartitionPoint-from_clause}
use Rattle.gr_chunks.proofs.FrontLemmas.{front_is_run, pushes_run, views_rise}
use Rattle.gr_chunks.proofs.coding.push_front.Goals as goal

pub push_run-requires : goal.push_run-requires
push_run-requires c =
    let views = c.args.views.now in
    let first = c.index-views-0.result in
    let count = c.partition_point-count.result in
    let cut = IsPartitionPoint-from_clause (λ v. leb v.term.0 first.term.0) views count c.partition_point-count.ensures.partitioned (IsPartitionedBy-leb (λ v. v.term.0) views first.term.0 (views_rise views c.requires.order)) (λ a r q k. search rules) in
    rw (← c.index-views-0.is, c.split_at.ensures.front) (front_is_run views first c.args.least count c.requires.some c.index-views-0.is c.requires.order c.requires.places c.partition_point-count.ensures.bound cut)

pub returns : goal.returns
returns c =
    let views = c.args.views.now in
    let first = c.index-views-0.result in
    let count = c.partition_point-count.result in
    let cut = IsPartitionPoint-from_clause (λ v. leb v.term.0 first.term.0) views count c.partition_point-count.ensures.partitioned (IsPartitionedBy-leb (λ v. v.term.0) views first.term.0 (views_rise views c.requires.order)) (λ a r q k. search rules) in
    let start : c.len-start.result ≡ length c.args.bytes.now.items = search rules in
    let runs = rw (← c.index-views-0.is) at c.in_ok-push.ensures.items in
    let run = rw (← c.index-views-0.is, c.split_at.ensures.front) at c.in_ok-push_run.ensures in
    pushes_run c.args.least c.args.runs.now.items c.push.new.self.items c.args.bytes.now.items c.push_run.new.bytes.items views first count c.len-start.result c.requires.some c.index-views-0.is c.partition_point-count.ensures.bound cut start runs run
