use Rattle.std.proofs.Common.{◌≤◌, ◌++◌, length, map, subst, sym, ap, ◌∙◌, append-nil, arith}
use Rattle.std.specs.List.{IsDistinct}
use Rattle.std.proofs.lemmas.List.{drop_all}
use Rattle.gr_postings.specs.Postings.{has_same_place, posting_of}
use Rattle.gr_chunks.specs.Segments.{all_of, living}
use Rattle.gr_chunks.proofs.ListLemmas.{distinct_filter}
use Rattle.gr_chunks.proofs.segment.fold.Goals as goal

pub chunk_of_views-requires : goal.chunk_of_views-requires
chunk_of_views-requires g c =
    let lives = g.A.Alive.lives c.args.alive.now in
    let segments = c.args.segments.now in
    let views = map posting_of c.loop-segment.views.items in
    let i = c.loop-segment.segment-index in
    let past : length segments ≤ i = omega arith in
    let is = sym (append-nil views) ∙ (ap (λ ss. views ++ living lives (all_of ss)) (sym (drop_all i segments past)) ∙ c.loop-segment.invariant) in
    subst (IsDistinct has_same_place) (sym is) (distinct_filter has_same_place (λ p. lives p.id p.place) (all_of segments) c.requires)
