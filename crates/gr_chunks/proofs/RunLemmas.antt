-- Runs: what is written of them is read back.
use Rattle.std.proofs.Common.{◌≡◌, ℕ, suc, ◌+◌, ◌<◌, ◌≤◌, List, [], ◌∷◌, ◌++◌, map, length, take, drop, refl, sym, ap, subst, ◌∙◌, arith, append-nil, append_assoc, length-append}
use Rattle.std.specs.List.{AllByRecursion}
use Rattle.std.specs.List.Sorted.{IsStrictlySortedBy}
use Rattle.std.specs.Ordering.{nat_cmp}
use Rattle.std.specs.declared.cmp.Ordering.TheVariants.{Less}
use Rattle.std.proofs.lemmas.Bool.Decides.{nat_tests}
use Rattle.std.proofs.lemmas.List.{drop_at}
use Rattle.gr_base.specs.declared.numbers.RecordId.{RecordId}
use Rattle.gr_postings.specs.Numbers.{number_at}
use Rattle.gr_postings.specs.Postings.{posting_of, IsInOrder}
use Rattle.gr_postings.specs.declared.posting.Posting.{Posting}
use Rattle.gr_postings.specs.declared.view.PostingView.{PostingView}
use Rattle.gr_chunks.specs.declared.chunk.Run.{Run}
use Rattle.gr_chunks.specs.Inside.Appends.{AppendsPosting, AppendsRun, AreOfRun, IsPosting, PushesRun}
use Rattle.gr_chunks.specs.Inside.Postings.{posting_after, after_posting, postings_after, AreSound, IsSound}
use Rattle.gr_chunks.specs.Inside.Runs.{IsChunk, postings_in, run_cmp, run_postings}
use Rattle.gr_chunks.proofs.ListLemmas.{all_both, all_weaker, flat_map-append, sorted_push}

-- the bytes are those of the first postings of a term, of which this is the last record, and others may follow
pub record Begins (term : RecordId) (least : ℕ) (bytes : List ℕ) (done : List Posting) (last : ℕ) : Type 0 where
  pub read : (n : ℕ) (rest : List ℕ) → postings_after term least 0 (length done + n) (bytes ++ rest) ≡ done ++ postings_after term least last n rest

zero_plus : (n : ℕ) → 0 + n ≡ n
zero_plus n = omega arith

begins_empty : (term : RecordId) (least : ℕ) → Begins term least [] [] 0
begins_empty term least = record { read = λ n rest. ap (λ k. postings_after term least 0 k rest) (zero_plus n) }

begins_more : (term : RecordId) (least : ℕ) (bytes more : List ℕ) (done : List Posting) (last : ℕ) (p : Posting) → p.term ≡ term → Begins term least bytes done last → IsPosting least last more p → Begins term least (bytes ++ more) (done ++ p ∷ []) p.id.0
begins_more term least bytes more done last p t b m =
    let plus : (n : ℕ) → length (done ++ p ∷ []) + n ≡ length done + suc n = λ n. omega (arith, length-append done (p ∷ [])) in
    record {
      read = λ n rest.
          let first : posting_after term least last (more ++ rest) ≡ p = ap (λ q. posting_after q least last (more ++ rest)) (sym t) ∙ m.read rest in
          let id : last + number_at (more ++ rest) ≡ p.id.0 = ap (λ q. q.id.0) first in
          ap (λ k. postings_after term least 0 k ((bytes ++ more) ++ rest)) (plus n)
          ∙ (ap (postings_after term least 0 (length done + suc n)) (append_assoc bytes more rest)
          ∙ (b.read (suc n) (more ++ rest)
          ∙ (ap (λ q. done ++ (q ∷ postings_after term least (last + number_at (more ++ rest)) n (after_posting (more ++ rest)))) first
          ∙ (ap (λ k. done ++ (p ∷ postings_after term least k n (after_posting (more ++ rest)))) id
          ∙ (ap (λ bs. done ++ (p ∷ postings_after term least p.id.0 n bs)) (m.left rest)
          ∙ sym (append_assoc done (p ∷ []) (postings_after term least p.id.0 n rest)))))));
    }

-- the first postings of a term stand behind the bytes that there were, and others are left
pub record Pushed (term : RecordId) (least : ℕ) (old new : List ℕ) (done left : List Posting) (last : ℕ) : Type 0 where
  pub bytes : List ℕ
  pub appended : new ≡ old ++ bytes
  pub coded : Begins term least bytes done last
  pub sound : AreSound done
  pub next : AreOfRun term least last left

pub pushed_none : (term : RecordId) (least : ℕ) (old : List ℕ) (ps : List Posting) → AreOfRun term least 0 ps → Pushed term least old old [] ps 0
pushed_none term least old ps a = record { bytes = []; appended = sym (append-nil old); coded = begins_empty term least; sound = tt; next = a }

pub pushed_more : (term : RecordId) (least : ℕ) (old mid new : List ℕ) (done left more : List Posting) (last : ℕ) (p : Posting) → Pushed term least old mid done left last → left ≡ p ∷ more → AppendsPosting least last mid new p → Pushed term least old new (done ++ p ∷ []) more p.id.0
pushed_more term least old mid new done left more last p h e a =
    let n = subst (AreOfRun term least last) e h.next in
    record {
      bytes = h.bytes ++ a.bytes;
      appended = a.appended ∙ (ap (λ bs. bs ++ a.bytes) h.appended ∙ append_assoc old h.bytes a.bytes);
      coded = begins_more term least h.bytes a.bytes done last p n.0 h.coded a.coded;
      sound = all_both IsSound done (p ∷ []) h.sound (a.sound, tt);
      next = n.3;
    }

pub pushed_all : (term : RecordId) (least : ℕ) (old new : List ℕ) (done left : List Posting) (last : ℕ) → Pushed term least old new done left last → AppendsRun term least old new done
pushed_all term least old new done left last h =
    let all : length done ≡ length done + 0 = omega arith in
    record {
      bytes = h.bytes;
      appended = h.appended;
      sound = h.sound;
      coded = λ rest. ap (λ k. postings_after term least 0 k (h.bytes ++ rest)) all ∙ (h.coded.read 0 rest ∙ append-nil done);
    }

-- the runs and bytes of the first postings, whatever follows them; the terms of those that are left are no lower than a limit
pub record Built (least : ℕ) (runs : List Run) (bytes : List ℕ) (done left : List Posting) : Type 0 where
  pub limit : ℕ
  pub terms : IsStrictlySortedBy run_cmp runs
  pub starts : AllByRecursion (λ run. run.start ≤ length bytes) runs
  pub coded : (rest : List ℕ) → postings_in least runs (bytes ++ rest) ≡ done
  pub sound : AreSound done
  pub below : AllByRecursion (λ run. run.term.0 < limit) runs
  pub above : AllByRecursion (λ p. limit ≤ p.term.0) left

all_nonnegative : (ps : List Posting) → AllByRecursion (λ p. 0 ≤ p.term.0) ps
all_nonnegative [] = tt
all_nonnegative (p ∷ ps) = (omega arith, all_nonnegative ps)

no_runs : IsStrictlySortedBy run_cmp []
unfolding IsStrictlySortedBy
no_runs = tt

pub built_none : (least : ℕ) (left : List Posting) → Built least [] [] [] left
built_none least left = record { limit = 0; terms = no_runs; starts = tt; coded = λ rest. refl; sound = tt; below = tt; above = all_nonnegative left }

lower : (a b : ℕ) → a < b → nat_cmp a b ≡ Less
lower a b h = grind (arith, nat_tests)

run_at : (least : ℕ) (old rest : List ℕ) (run : Run) → run.start ≡ length old → run_postings least (old ++ rest) run ≡ postings_after run.term least 0 run.count rest
run_at least old rest run e = ap (postings_after run.term least 0 run.count) (drop_at old rest run.start (sym e))

pub built_more : (least : ℕ) (runs new_runs : List Run) (old new : List ℕ) (done : List Posting) (views : List PostingView) (count : ℕ) → Built least runs old done (map posting_of views) → PushesRun least runs new_runs old new views count → Built least new_runs new (done ++ map posting_of (take count views)) (map posting_of (drop count views))
built_more least runs new_runs old new done views count h p =
    let run = p.run in
    let no_lower = p.no_lower h.limit h.above in
    let long : length new ≡ length old + length p.bytes = ap length p.appended ∙ length-append old p.bytes in
    let more : (rest : List ℕ) → new ++ rest ≡ old ++ (p.bytes ++ rest) = λ rest. ap (λ bs. bs ++ rest) p.appended ∙ append_assoc old p.bytes rest in
    record {
      limit = run.term.0 + 1;
      terms = subst (IsStrictlySortedBy run_cmp) (sym p.runs) (sorted_push run_cmp runs run h.terms (all_weaker (λ r. r.term.0 < h.limit) (λ r. run_cmp r run ≡ Less) (λ r l. lower r.term.0 run.term.0 (omega arith)) runs h.below));
      starts = subst (AllByRecursion (λ r. r.start ≤ length new)) (sym p.runs) (all_both (λ r. r.start ≤ length new) runs (run ∷ []) (all_weaker (λ r. r.start ≤ length old) (λ r. r.start ≤ length new) (λ r l. omega arith) runs h.starts) (omega (arith, p.start, long), tt));
      coded = λ rest.
          ap (postings_in least new_runs) (more rest)
          ∙ (ap (λ rs. postings_in least rs (old ++ (p.bytes ++ rest))) p.runs
          ∙ (flat_map-append (run_postings least (old ++ (p.bytes ++ rest))) runs (run ∷ [])
          ∙ (ap (λ ps. ps ++ (run_postings least (old ++ (p.bytes ++ rest)) run ++ [])) (h.coded (p.bytes ++ rest))
          ∙ ap (λ ps. done ++ ps) (append-nil (run_postings least (old ++ (p.bytes ++ rest)) run) ∙ (run_at least old (p.bytes ++ rest) run p.start ∙ p.coded rest)))));
      sound = all_both IsSound done (map posting_of (take count views)) h.sound p.sound;
      below = subst (AllByRecursion (λ r. r.term.0 < run.term.0 + 1)) (sym p.runs) (all_both (λ r. r.term.0 < run.term.0 + 1) runs (run ∷ []) (all_weaker (λ r. r.term.0 < h.limit) (λ r. r.term.0 < run.term.0 + 1) (λ r l. omega arith) runs h.below) (omega arith, tt));
      above = all_weaker (λ q. run.term.0 < q.term.0) (λ q. run.term.0 + 1 ≤ q.term.0) (λ q l. omega arith) (map posting_of (drop count views)) p.higher;
    }

-- the chunk of all postings
pub built_all : (least : ℕ) (runs : List Run) (bytes : List ℕ) (done left : List Posting) → Built least runs bytes done left → IsInOrder done → IsChunk least runs bytes
built_all least runs bytes done left h o =
    let is : postings_in least runs bytes ≡ done = ap (postings_in least runs) (sym (append-nil bytes)) ∙ h.coded [] in
    record { terms = h.terms; starts = h.starts; sound = subst AreSound (sym is) h.sound; order = subst IsInOrder (sym is) o }

pub built_is : (least : ℕ) (runs : List Run) (bytes : List ℕ) (done left : List Posting) → Built least runs bytes done left → postings_in least runs bytes ≡ done
built_is least runs bytes done left h = ap (postings_in least runs) (sym (append-nil bytes)) ∙ h.coded []
