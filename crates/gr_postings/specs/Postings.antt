-- Postings: what a lent one shows, the order that they stand in, and which of them are told apart.
use Rattle.std.specs.Prelude.{◌≡◌, ℕ, Bool, ◌&&◌, ◌==◌, List}
use Rattle.std.specs.List.{All}
use Rattle.std.specs.List.Sorted.{IsStrictlySortedBy}
use Rattle.std.specs.Ordering.{nat_cmp, ordering_then}
use Rattle.std.specs.declared.cmp.Ordering.{Ordering}
use Rattle.gr_base.specs.declared.numbers.RecordId.{RecordId}
use Rattle.gr_postings.specs.declared.posting.Posting.{Posting}
use Rattle.gr_postings.specs.declared.view.PostingView.{PostingView}

-- the posting that is lent
abbrev pub posting_of : PostingView → Posting
posting_of view = record { term = view.term; id = view.id; place = view.place; positions = view.positions }

-- the order of postings: by term, then by record, then by journal place
abbrev pub posting_cmp : Posting → Posting → Ordering
posting_cmp p q = ordering_then (ordering_then (nat_cmp p.term.0 q.term.0) (nat_cmp p.id.0 q.id.0)) (nat_cmp p.place q.place)

-- each posting stands before all later ones in the order, so that no two have one term, record and place
abbrev pub IsInOrder : List Posting → Type 0
IsInOrder = IsStrictlySortedBy posting_cmp

-- whether a posting is of a term
abbrev pub is_of_term : RecordId → Posting → Bool
is_of_term term p = p.term.0 == term.0

-- whether two postings are of one term and one record
abbrev pub has_same_record : Posting → Posting → Bool
has_same_record p q = p.term.0 == q.term.0 && p.id.0 == q.id.0

-- whether two postings are of one term, one record and one journal place
abbrev pub has_same_place : Posting → Posting → Bool
has_same_place p q = has_same_record p q && p.place == q.place

-- all postings have one journal place
abbrev pub HaveOnePlace : List Posting → Type 0
HaveOnePlace ps = (place : ℕ) × All (λ p. p.place ≡ place) ps
