-- What the bytes of postings are, whatever follows them.
use Rattle.std.specs.Prelude.{◌≡◌, ℕ, ◌<◌, ◌≤◌, List, [], ◌∷◌, ◌++◌, drop, length, map, take}
use Rattle.std.specs.List.{AllByRecursion}
use Rattle.gr_base.specs.declared.numbers.RecordId.{RecordId}
use Rattle.gr_postings.specs.Postings.{posting_of}
use Rattle.gr_postings.specs.declared.view.PostingView.{PostingView}
use Rattle.gr_chunks.specs.declared.chunk.Run.{Run}
use Rattle.gr_postings.specs.declared.posting.Posting.{Posting}
use Rattle.gr_chunks.specs.Inside.Postings.{posting_after, after_posting, postings_after, AreSound, IsSound}

-- the bytes are a posting's, after one of this record
pub record IsPosting (least before : ℕ) (bytes : List ℕ) (p : Posting) : Type 0 where
  pub read : (rest : List ℕ) → posting_after p.term least before (bytes ++ rest) ≡ p
  pub left : (rest : List ℕ) → after_posting (bytes ++ rest) ≡ rest

-- new is old and then a posting's bytes
pub record AppendsPosting (least before : ℕ) (old new : List ℕ) (p : Posting) : Type 0 where
  pub bytes : List ℕ
  pub appended : new ≡ old ++ bytes
  pub coded : IsPosting least before bytes p
  pub sound : IsSound p

-- the postings are of one term, with records that do not fall and are at least this one, and with no lower place
abbrev pub AreOfRun : RecordId → ℕ → ℕ → List Posting → Type 0
AreOfRun term least before [] = Unit {0}
AreOfRun term least before (p ∷ ps) = (p.term ≡ term) × (before ≤ p.id.0) × (least ≤ p.place) × AreOfRun term least p.id.0 ps

-- new is old and then the bytes of the postings of a term
pub record AppendsRun (term : RecordId) (least : ℕ) (old new : List ℕ) (ps : List Posting) : Type 0 where
  pub bytes : List ℕ
  pub appended : new ≡ old ++ bytes
  pub coded : (rest : List ℕ) → postings_after term least 0 (length ps) (bytes ++ rest) ≡ ps
  pub sound : AreSound ps

-- one run more, of the first postings in order, all that have the first one's term
pub record PushesRun (least : ℕ) (old_runs new_runs : List Run) (old new : List ℕ) (views : List PostingView) (count : ℕ) : Type 0 where
  pub some : 0 < count
  pub within : count ≤ length views
  pub run : Run
  pub runs : new_runs ≡ old_runs ++ run ∷ []
  pub start : run.start ≡ length old
  pub bytes : List ℕ
  pub appended : new ≡ old ++ bytes
  pub coded : (rest : List ℕ) → postings_after run.term least 0 run.count (bytes ++ rest) ≡ map posting_of (take count views)
  pub sound : AreSound (map posting_of (take count views))
  pub no_lower : (limit : ℕ) → AllByRecursion (λ p. limit ≤ p.term.0) (map posting_of views) → limit ≤ run.term.0
  pub higher : AllByRecursion (λ p. run.term.0 < p.term.0) (map posting_of (drop count views))
