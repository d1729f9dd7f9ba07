use Rattle.std.proofs.Common.{ltb, leb, drop, subst, sym, ◌∙◌, rules}
use Rattle.std.specs.List.Sorted.{IsPartitionedBy}
use Rattle.std.proofs.lemmas.List.Sorted.{IsPartitionedBy-ltb, IsPartitionedBy-leb, IsPartitionPoint-from_clause, IsNonDecreasingBy-drop}
use Rattle.gr_postings.proofs.OrderLemmas.{terms_rise, of_term_is}
use Rattle.gr_postings.proofs.buffer.of_term.Goals as goal

pub returns : goal.returns
returns c =
    let xs = c.args.postings.now in
    let t = c.args.term.0 in
    let i = c.partition_point-from.result in
    let rest = c.split_at.result.1.now in
    let rise = terms_rise xs c.requires in
    let back = c.split_at.ensures.back in
    let low = IsPartitionPoint-from_clause (λ p. ltb p.term.0 t) xs i c.partition_point-from.ensures.partitioned (IsPartitionedBy-ltb (λ p. p.term.0) xs t rise) (λ a r q k. search rules) in
    let higher = subst (IsPartitionedBy (λ p. leb p.term.0 t)) (sym back) (IsPartitionedBy-leb (λ p. p.term.0) (drop i xs) t (IsNonDecreasingBy-drop (λ p. p.term.0) i xs rise)) in
    let high = IsPartitionPoint-from_clause (λ p. leb p.term.0 t) rest c.partition_point-count.result c.partition_point-count.ensures.partitioned higher (λ a r q k. search rules) in
    c.split_at-2.ensures.front ∙ of_term_is xs rest t i c.partition_point-count.result back c.partition_point-count.ensures.bound low high
