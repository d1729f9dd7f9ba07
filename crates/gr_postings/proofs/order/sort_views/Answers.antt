use Rattle.std.proofs.Common.{rules}
use Rattle.std.proofs.lemmas.List.Sorted.{IsPermutation-map, answers_always}
use Rattle.gr_postings.specs.Postings.{posting_of}
use Rattle.gr_postings.proofs.OrderLemmas.{views_in_order}
use Rattle.gr_postings.proofs.order.sort_views.Goals as goal

pub returns-clause-exact : goal.returns-clause-exact
returns-clause-exact c = IsPermutation-map posting_of c.args.views.now.items c.sort_by_key.new.self.items c.sort_by_key.ensures.permutation

pub returns-clause-order : goal.returns-clause-order
returns-clause-order c =
    let sorted = c.in_ok-sort_by_key.ensures.sorted (λ p. (p.term, p.id, p.place)) (answers_always _ _ _ (λ f a r q k. search rules)) in
    views_in_order c.args.views.now.items c.sort_by_key.new.self.items c.requires c.sort_by_key.ensures.permutation sorted
