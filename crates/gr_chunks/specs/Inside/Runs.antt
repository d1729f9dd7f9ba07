-- The runs of a chunk: the postings that they have, and what is kept of them.
use Rattle.std.specs.Prelude.{ℕ, ◌≤◌, List, drop, length}
use Rattle.std.specs.List.{AllByRecursion, flat_map}
use Rattle.std.specs.List.Sorted.{IsStrictlySortedBy}
use Rattle.std.specs.Ordering.{nat_cmp}
use Rattle.std.specs.declared.cmp.Ordering.{Ordering}
use Rattle.gr_postings.specs.Postings.{IsInOrder}
use Rattle.gr_postings.specs.declared.posting.Posting.{Posting}
use Rattle.gr_chunks.specs.declared.chunk.Run.{Run}
use Rattle.gr_chunks.specs.Inside.Postings.{postings_after, AreSound}

-- runs are in the order of their terms
abbrev pub run_cmp : Run → Run → Ordering
run_cmp a b = nat_cmp a.term.0 b.term.0

-- the postings of a run
abbrev pub run_postings : ℕ → List ℕ → Run → List Posting
run_postings least bytes run = postings_after run.term least 0 run.count (drop run.start bytes)

-- the postings of all runs
abbrev pub postings_in : ℕ → List Run → List ℕ → List Posting
postings_in least runs bytes = flat_map (run_postings least bytes) runs

-- a chunk's runs ascend by term and begin within the bytes, and their postings are sound and in order
pub record IsChunk (least : ℕ) (runs : List Run) (bytes : List ℕ) : Type 0 where
  pub terms : IsStrictlySortedBy run_cmp runs
  pub starts : AllByRecursion (λ run. run.start ≤ length bytes) runs
  pub sound : AreSound (postings_in least runs bytes)
  pub order : IsInOrder (postings_in least runs bytes)
