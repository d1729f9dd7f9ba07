-- The run of a term has the postings of that term, and no other run has.
use Rattle.std.proofs.Common.{◌≡◌, ℕ, zero, suc, ◌+◌, ◌<◌, ◌≤◌, Bool, true, false, cond, eqb, leb, List, [], ◌∷◌, ◌++◌, length, get_or, refl, sym, ap, subst, ◌∙◌, arith, append-nil}
use Rattle.std.specs.List.{AllByRecursion, filter}
use Rattle.std.specs.List.Sorted.{IsNonDecreasingBy, IsPartitionPoint, IsStrictlySortedBy, IsSortedBy}
use Rattle.std.specs.Ordering.{nat_cmp, is_lt, ordering_index}
use Rattle.std.specs.declared.cmp.Ordering.TheVariants.{Less, Equal, Greater}
use Rattle.std.proofs.lemmas.Bool.Decides.{nat_tests}
use Rattle.std.proofs.lemmas.Cmp.{nat_cmp_total}
use Rattle.std.proofs.lemmas.List.Sorted.{searchable_from_sorted}
use Rattle.std.proofs.lemmas.List.Elements.{filter-append, recursion_from_All}
use Rattle.gr_base.specs.declared.numbers.RecordId.{RecordId}
use Rattle.gr_postings.specs.Numbers.{number_at}
use Rattle.gr_chunks.specs.declared.chunk.Run.{Run}
use Rattle.gr_chunks.specs.Inside.Postings.{postings_after, after_posting, posting_after, AreSound, IsSound}
use Rattle.gr_chunks.specs.Inside.Runs.{postings_in, run_cmp, run_postings}
use Rattle.gr_chunks.proofs.ListLemmas.{all_left, all_right, sorted_at, all_weaker}

-- what comparisons of terms say
pub less_differs : (a b : ℕ) → nat_cmp a b ≡ Less → eqb a b ≡ false
less_differs a b h = grind (arith, nat_tests)

pub less_differs_back : (a b : ℕ) → nat_cmp a b ≡ Less → eqb b a ≡ false
less_differs_back a b h = grind (arith, nat_tests)

pub greater_differs : (a b : ℕ) → nat_cmp a b ≡ Greater → eqb a b ≡ false
greater_differs a b h = grind (arith, nat_tests)

pub equal_same : (a b : ℕ) → nat_cmp a b ≡ Equal → a ≡ b
equal_same a b h = grind (arith, nat_tests)

not_less_back : (a b : ℕ) → nat_cmp a b ≡ Less → is_lt (nat_cmp b a) ≡ false
not_less_back a b h = grind (arith, nat_tests)

-- runs in order ascend by their terms, as a search wants it
pub runs_sorted : (runs : List Run) → IsStrictlySortedBy run_cmp runs → IsSortedBy (λ a b. is_lt (nat_cmp a.term.0 b.term.0)) runs
runs_sorted runs s = λ k d l h. not_less_back (get_or runs k d).term.0 (get_or runs (k + 1) d).term.0 (sorted_at run_cmp runs s k (k + 1) d (omega arith) h)

-- the postings of a run all pass the test of its term, and none that of another
filter_same : (term : RecordId) (least before n : ℕ) (bytes : List ℕ) (t : ℕ) → eqb term.0 t ≡ true → filter (λ p. eqb p.term.0 t) (postings_after term least before n bytes) ≡ postings_after term least before n bytes
filter_same term least before zero bytes t h = refl
filter_same term least before (suc n) bytes t h =
    let p = posting_after term least before bytes in
    let rest = postings_after term least (before + number_at bytes) n (after_posting bytes) in
    ap (λ b. cond b (p ∷ filter (λ q. eqb q.term.0 t) rest) (filter (λ q. eqb q.term.0 t) rest)) h
    ∙ ap (λ ps. p ∷ ps) (filter_same term least (before + number_at bytes) n (after_posting bytes) t h)

filter_other : (term : RecordId) (least before n : ℕ) (bytes : List ℕ) (t : ℕ) → eqb term.0 t ≡ false → filter (λ p. eqb p.term.0 t) (postings_after term least before n bytes) ≡ []
filter_other term least before zero bytes t h = refl
filter_other term least before (suc n) bytes t h =
    let p = posting_after term least before bytes in
    let rest = postings_after term least (before + number_at bytes) n (after_posting bytes) in
    ap (λ b. cond b (p ∷ filter (λ q. eqb q.term.0 t) rest) (filter (λ q. eqb q.term.0 t) rest)) h
    ∙ filter_other term least (before + number_at bytes) n (after_posting bytes) t h

-- where no run has the term, no posting has it
pub no_run : (least : ℕ) (bytes : List ℕ) (t : ℕ) (runs : List Run) → AllByRecursion (λ run. eqb run.term.0 t ≡ false) runs → [] ≡ filter (λ p. eqb p.term.0 t) (postings_in least runs bytes)
no_run least bytes t [] a = refl
no_run least bytes t (run ∷ runs) a =
    no_run least bytes t runs a.1
    ∙ sym (filter-append (λ p. eqb p.term.0 t) (run_postings least bytes run) (postings_in least runs bytes)
    ∙ ap (λ ps. ps ++ filter (λ p. eqb p.term.0 t) (postings_in least runs bytes)) (filter_other run.term least 0 run.count _ t a.0))

same_number : (a b : ℕ) → a ≡ b → eqb a b ≡ true
same_number a b h = grind (arith, nat_tests)

-- the postings of a term are those of its run
pub one_run : (least : ℕ) (bytes : List ℕ) (t : ℕ) (runs : List Run) → IsStrictlySortedBy run_cmp runs → (at : ℕ) (d : Run) → at < length runs → (get_or runs at d).term.0 ≡ t → run_postings least bytes (get_or runs at d) ≡ filter (λ p. eqb p.term.0 t) (postings_in least runs bytes)
unfolding IsStrictlySortedBy
one_run least bytes t [] s at d h e = absurd (omega arith)
one_run least bytes t (run ∷ runs) s zero d h e =
    let apart = all_weaker (λ r. run_cmp run r ≡ Less) (λ r. eqb r.term.0 t ≡ false) (λ r l. less_differs_back t r.term.0 (ap (λ n. nat_cmp n r.term.0) (sym e) ∙ l)) runs s.0 in
    sym (filter-append (λ p. eqb p.term.0 t) (run_postings least bytes run) (postings_in least runs bytes)
    ∙ (ap (λ ps. ps ++ filter (λ p. eqb p.term.0 t) (postings_in least runs bytes)) (filter_same run.term least 0 run.count _ t (same_number run.term.0 t e))
    ∙ (ap (λ ps. run_postings least bytes run ++ ps) (sym (no_run least bytes t runs apart))
    ∙ append-nil (run_postings least bytes run))))
one_run least bytes t (run ∷ runs) s (suc at) d h e =
    let before = sorted_at run_cmp (run ∷ runs) s zero (suc at) d (omega arith) h in
    let other = less_differs run.term.0 t (ap (nat_cmp run.term.0) (sym e) ∙ before) in
    one_run least bytes t runs s.1 at d (omega arith) e
    ∙ sym (filter-append (λ p. eqb p.term.0 t) (run_postings least bytes run) (postings_in least runs bytes)
    ∙ ap (λ ps. ps ++ filter (λ p. eqb p.term.0 t) (postings_in least runs bytes)) (filter_other run.term least 0 run.count _ t other))

-- the postings of one of sound runs are sound
pub sound_run : (least : ℕ) (bytes : List ℕ) (runs : List Run) → AreSound (postings_in least runs bytes) → (at : ℕ) (d : Run) → at < length runs → AreSound (run_postings least bytes (get_or runs at d))
sound_run least bytes [] s at d h = absurd (omega arith)
sound_run least bytes (run ∷ runs) s zero d h = all_left IsSound (run_postings least bytes run) (postings_in least runs bytes) s
sound_run least bytes (run ∷ runs) s (suc at) d h = sound_run least bytes runs (all_right IsSound (run_postings least bytes run) (postings_in least runs bytes) s) at d (omega arith)

-- where a search finds no run, none has the term
differs_at : (runs : List Run) (t i k : ℕ) (d : Run) (b : Bool) → leb i k ≡ b → k < length runs → IsPartitionPoint (λ r. nat_cmp r.term.0 t ≡ Less) (λ r. nat_cmp r.term.0 t ≡ Greater) runs i → eqb (get_or runs k d).term.0 t ≡ false
differs_at runs t i k d true e l p = let h : i ≤ k = grind (arith, nat_tests) in greater_differs (get_or runs k d).term.0 t (p.1 k d h l)
differs_at runs t i k d false e l p = let h : k < i = grind (arith, nat_tests) in less_differs (get_or runs k d).term.0 t (p.0 k d (omega arith) h)

pub not_found : (runs : List Run) (t i : ℕ) → IsPartitionPoint (λ r. nat_cmp r.term.0 t ≡ Less) (λ r. nat_cmp r.term.0 t ≡ Greater) runs i → AllByRecursion (λ run. eqb run.term.0 t ≡ false) runs
not_found runs t i p = recursion_from_All (λ run. eqb run.term.0 t ≡ false) runs (λ k d l. differs_at runs t i k d (leb i k) refl l p)

-- what a search that finds a run gives
pub run_found : (least : ℕ) (bytes bs : List ℕ) (runs rs : List Run) (t at : ℕ) (run : Run) → IsStrictlySortedBy run_cmp runs → bs ≡ bytes → rs ≡ runs → run ≡ get_or runs at run → at < length rs → nat_cmp (get_or rs at run).term.0 t ≡ Equal → run_postings least bs run ≡ filter (λ p. eqb p.term.0 t) (postings_in least runs bytes)
run_found least bytes bs runs rs t at run s b r is within h =
    let long : length rs ≡ length runs = ap length r in
    let same : (get_or runs at run).term.0 ≡ t = equal_same (get_or runs at run).term.0 t (subst (λ xs. nat_cmp (get_or xs at run).term.0 t ≡ Equal) r h) in
    ap (λ xs. run_postings least xs run) b ∙ (ap (run_postings least bytes) is ∙ one_run least bytes t runs s at run (omega arith) same)

-- and what one that finds none gives
pub run_missing : (least : ℕ) (bytes : List ℕ) (runs rs : List Run) (t i : ℕ) → IsStrictlySortedBy run_cmp runs → rs ≡ runs → (IsNonDecreasingBy (λ r. ordering_index (nat_cmp r.term.0 t)) rs → IsPartitionPoint (λ r. nat_cmp r.term.0 t ≡ Less) (λ r. nat_cmp r.term.0 t ≡ Greater) rs i) → [] ≡ filter (λ p. eqb p.term.0 t) (postings_in least runs bytes)
run_missing least bytes runs rs t i s r h =
    let rise = searchable_from_sorted nat_cmp_total (λ (run : Run). run.term.0) runs t (runs_sorted runs s) in
    let cut = subst (λ xs. IsNonDecreasingBy (λ y. ordering_index (nat_cmp y.term.0 t)) xs → IsPartitionPoint (λ y. nat_cmp y.term.0 t ≡ Less) (λ y. nat_cmp y.term.0 t ≡ Greater) xs i) r h rise in
    no_run least bytes t runs (not_found runs t i cut)
