use Rattle.std.proofs.Common.{◌-◌, take, drop, sym, subst}
use Rattle.std.specs.List.{IsDistinct}
use Rattle.gr_postings.specs.Postings.{IsInOrder, has_same_place}
use Rattle.gr_index.specs.Levels.{HasPlaces, end_of}
use Rattle.gr_index.proofs.ListLemmas.{all_drop, all_take}
use Rattle.gr_index.proofs.PostingLemmas.{all_of-parts, apart}
use Rattle.gr_index.proofs.TileLemmas.{tile_drop, tile_take}
use Rattle.gr_index.proofs.index.Index.between.Goals as goal

pub returns-clause-apart : goal.returns-clause-apart
returns-clause-apart c =
    let parts = c.self.inside.parts in
    let start = c.args.start in
    let n = c.args.stop - start in
    let rest = drop start parts in
    let from = end_of c.self.inside.place (take start parts) in
    let inv = c.self.invariant in
    subst (IsDistinct has_same_place) (sym (all_of-parts c.between.result.now (take n rest) c.between.ensures))
    (apart c.order_tells_apart.ensures from (take n rest) (tile_take from n rest (tile_drop c.self.inside.place start parts inv.tile)) (all_take HasPlaces n rest (all_drop HasPlaces start parts inv.places)) (all_take (λ p. IsInOrder p.postings) n rest (all_drop (λ p. IsInOrder p.postings) start parts inv.order)))
