use Rattle.std.proofs.lemmas.List.Kept.{IsStrictlySortedBy-filter}
use Rattle.gr_postings.specs.Postings.{is_of_term, posting_cmp}
use Rattle.gr_postings.proofs.buffer.Buffer.of_term.Goals as goal

pub returns-clause-order : goal.returns-clause-order
returns-clause-order c =
    let s = IsStrictlySortedBy-filter posting_cmp (is_of_term c.args.term) c.self.inside.postings.items c.self.invariant in
    rw (c.of_term.ensures, c.as_slice.ensures.value) s
