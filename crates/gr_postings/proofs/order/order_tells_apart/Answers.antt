use Rattle.std.proofs.Common.{sym, ◌∙◌}
use Rattle.std.specs.Ordering.{eq_by_cmp}
use Rattle.std.proofs.lemmas.Map.Keys.{IsDistinct-from_sorted}
use Rattle.gr_postings.specs.Postings.{has_same_place, posting_cmp}
use Rattle.gr_postings.specs.declared.posting.Posting.{Posting}
use Rattle.gr_postings.proofs.OrderLemmas.{distinct_narrower, equal_place}
use Rattle.gr_postings.proofs.order.order_tells_apart.Goals as goal

pub returns : goal.returns
returns c = λ ps s. distinct_narrower (eq_by_cmp posting_cmp) has_same_place (λ (a b : Posting) h. sym (equal_place a b) ∙ h) ps (IsDistinct-from_sorted posting_cmp ps s)
