use Rattle.std.proofs.Common.{rules}
use Rattle.std.proofs.lemmas.List.Sorted.{answers_always}
use Rattle.gr_postings.proofs.OrderLemmas.{in_order}
use Rattle.gr_postings.proofs.order.sort_postings.Goals as goal

pub returns-clause-order : goal.returns-clause-order
returns-clause-order c =
    let e = c.sort_unstable_by_key.ensures in
    in_order c.args.postings.now c.sort_unstable_by_key.new.self c.requires e.permutation (e.sorted (λ p. (p.term, p.id, p.place)) (answers_always _ _ _ (λ f a r q k. search rules)))
