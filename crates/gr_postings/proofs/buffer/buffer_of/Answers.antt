use Rattle.std.proofs.Common.{◌&&◌, ap, eqb}
use Rattle.gr_postings.specs.Postings.{has_same_place, has_same_record}
use Rattle.gr_postings.proofs.OrderLemmas.{distinct_narrower}
use Rattle.gr_postings.proofs.buffer.buffer_of.Goals as goal

pub sort_postings-requires : goal.sort_postings-requires
sort_postings-requires c =
    rw c.as_mut_slice.ensures.value (distinct_narrower has_same_record has_same_place (λ p q h. ap (λ b. b && eqb p.place q.place) h) c.args.postings.items c.requires.distinct)
