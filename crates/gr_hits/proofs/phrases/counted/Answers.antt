use Rattle.std.proofs.Common.{◌∙◌}
use Rattle.gr_hits.proofs.phrases.counted.Goals as goal

pub count_places-requires-clause-start : goal.count_places-requires-clause-start
count_places-requires-clause-start c = c.as_mut_slice.ensures.value ∙ c.in_ok-cursors.ensures.items_if_clones_equal (λ y h. h)
