use Rattle.std.proofs.Common.{sym, subst, append-nil}
use Rattle.std.specs.List.{IsDistinct}
use Rattle.gr_postings.specs.Postings.{has_same_place}
use Rattle.gr_chunks.specs.Segments.{postings_of}
use Rattle.gr_chunks.proofs.tests.folded.Goals as goal

pub fold-requires : goal.fold-requires
fold-requires c =
    let postings = postings_of c.args.segment in
    let apart = c.order_tells_apart.ensures postings c.requires in
    rw (c.deref.ensures.value, c.in_ok-segments.ensures.items) (subst (IsDistinct has_same_place) (sym (append-nil postings)) apart)
