-- Positions in bytes: one after the other, and what is written is read back.
use Rattle.std.proofs.Common.{◌≡◌, ℕ, Option, None, Some, zero, suc, ◌+◌, ◌-◌, ◌<◌, ◌≤◌, ◌^◌, List, [], ◌∷◌, ◌++◌, length, refl, sym, ap, subst, ◌∙◌, append_assoc, append-nil, arith, length-append}
use Rattle.gr_postings.specs.Numbers.{number_at, after_number, after_numbers, positions_after, positions_at, after_positions, IsNumber, ArePositions, AppendsNumber, AppendsPositions}
use Rattle.gr_postings.specs.Inside.Kept.{positions_coded}
use Rattle.gr_postings.specs.Inside.Next.{NextCoded}
use Rattle.gr_postings.specs.declared.view.Coded.{Coded}
use Rattle.gr_postings.specs.Positions.{IsRisingFrom, AreValid}

-- there are as many as were asked for
pub length_positions : (last n : ℕ) (bs : List ℕ) → length (positions_after last n bs) ≡ n
length_positions last zero bs = refl
length_positions last (suc n) bs = ap suc (length_positions (last + number_at bs) n (after_number bs))

-- the first of them, and the others
pub one_position : (last n : ℕ) (bs : List ℕ) → 0 < n → positions_after last n bs ≡ (last + number_at bs) ∷ positions_after (last + number_at bs) (n - 1) (after_number bs)
one_position last zero bs h = absurd (omega arith)
one_position last (suc n) bs h =
    let e : suc n - 1 ≡ n = omega arith in
    sym (ap (λ k. (last + number_at bs) ∷ positions_after (last + number_at bs) k (after_number bs)) e)

-- what rises from a number rises from one below it
pub rising_from : (low high : ℕ) (ps : List ℕ) → low ≤ high → IsRisingFrom high ps → IsRisingFrom low ps
rising_from low high [] h r = tt
rising_from low high (p ∷ ps) h r = (omega (arith, r.0), r.1)

-- the first of valid positions is a number of 64 bits, and the others are valid
pub valid_head : (p : ℕ) (ps : List ℕ) → AreValid (p ∷ ps) → p < 2 ^ 64
valid_head p ps v = v.fits.0

pub valid_tail : (p : ℕ) (ps : List ℕ) → AreValid (p ∷ ps) → AreValid ps
valid_tail p ps v = record { rising = rising_from 0 (p + 1) ps (omega arith) v.rising.1; fits = v.fits.1; count = omega (arith, v.count) }

-- the bytes are those of the first positions, of which this is the last, and others may follow
pub record Begins (bytes done : List ℕ) (last : ℕ) : Type 0 where
  pub read : (n : ℕ) (rest : List ℕ) → positions_after 0 (length done + n) (bytes ++ rest) ≡ done ++ positions_after last n rest
  pub left : (n : ℕ) (rest : List ℕ) → after_numbers (length done + n) (bytes ++ rest) ≡ after_numbers n rest

zero_plus : (n : ℕ) → 0 + n ≡ n
zero_plus n = omega arith

pub begins_empty : Begins [] [] 0
begins_empty = record { read = λ n rest. ap (λ k. positions_after 0 k rest) (zero_plus n); left = λ n rest. ap (λ k. after_numbers k rest) (zero_plus n) }

-- one position more, by the bytes of its difference
pub begins_more : (bytes more done : List ℕ) (last p : ℕ) → last ≤ p → Begins bytes done last → IsNumber more (p - last) → Begins (bytes ++ more) (done ++ p ∷ []) p
begins_more bytes more done last p h b m =
    let plus : (n : ℕ) → length (done ++ p ∷ []) + n ≡ length done + suc n = λ n. omega (arith, length-append done (p ∷ [])) in
    let at : last + (p - last) ≡ p = omega arith in
    record {
      read = λ n rest.
          ap (λ k. positions_after 0 k ((bytes ++ more) ++ rest)) (plus n)
          ∙ (ap (positions_after 0 (length done + suc n)) (append_assoc bytes more rest)
          ∙ (b.read (suc n) (more ++ rest)
          ∙ (ap (λ bs. done ++ bs) (ap (λ k. (last + k) ∷ positions_after (last + k) n (after_number (more ++ rest))) (m.read rest)
          ∙ (ap (λ k. k ∷ positions_after k n (after_number (more ++ rest))) at ∙ ap (λ bs. p ∷ positions_after p n bs) (m.left rest)))
          ∙ sym (append_assoc done (p ∷ []) (positions_after p n rest)))));
      left = λ n rest.
          ap (λ k. after_numbers k ((bytes ++ more) ++ rest)) (plus n)
          ∙ (ap (after_numbers (length done + suc n)) (append_assoc bytes more rest)
          ∙ (b.left (suc n) (more ++ rest) ∙ ap (after_numbers n) (m.left rest)));
    }

-- the count and all positions
pub all_positions : (count bytes done : List ℕ) (last : ℕ) → IsNumber count (length done) → Begins bytes done last → ArePositions (count ++ bytes) done
all_positions count bytes done last m b =
    let all : length done ≡ length done + 0 = omega arith in
    record {
      read = λ rest.
          ap positions_at (append_assoc count bytes rest)
          ∙ (ap (λ k. positions_after 0 k (after_number (count ++ (bytes ++ rest)))) (m.read (bytes ++ rest))
          ∙ (ap (positions_after 0 (length done)) (m.left (bytes ++ rest))
          ∙ (ap (λ k. positions_after 0 k (bytes ++ rest)) all ∙ (b.read 0 rest ∙ append-nil done))));
      left = λ rest.
          ap after_positions (append_assoc count bytes rest)
          ∙ (ap (λ k. after_numbers k (after_number (count ++ (bytes ++ rest)))) (m.read (bytes ++ rest))
          ∙ (ap (after_numbers (length done)) (m.left (bytes ++ rest))
          ∙ (ap (λ k. after_numbers k (bytes ++ rest)) all ∙ b.left 0 rest)));
    }

-- a step leaves valid positions
pub next_valid : (old : Coded) (given : Option ℕ) (new : Coded) → AreValid (positions_coded old) → NextCoded old given new → AreValid (positions_coded new)
next_valid old None new v n = subst AreValid (n.0 ∙ sym n.1) v
next_valid old (Some p) new v n = valid_tail p (positions_coded new) (subst AreValid n v)

-- the count and the first positions stand behind the bytes that there were
pub record Pushed (old positions new rest : List ℕ) (last : ℕ) : Type 0 where
  pub count : List ℕ
  pub bytes : List ℕ
  pub done : List ℕ
  pub appended : new ≡ old ++ (count ++ bytes)
  pub counted : IsNumber count (length positions)
  pub coded : Begins bytes done last
  pub all : positions ≡ done ++ rest
  pub rising : IsRisingFrom last rest

-- the count
pub pushed_count : (old positions new : List ℕ) (n : ℕ) → AppendsNumber old new n → n ≡ length positions → AreValid positions → Pushed old positions new positions 0
pushed_count old positions new n a e v =
    record {
      count = a.bytes;
      bytes = [];
      done = [];
      appended = a.appended ∙ ap (λ bs. old ++ bs) (sym (append-nil a.bytes));
      counted = subst (IsNumber a.bytes) e a.coded;
      coded = begins_empty;
      all = refl;
      rising = v.rising;
    }

-- one position more
pub pushed_more : (old positions mid new rest left : List ℕ) (last p : ℕ) → Pushed old positions mid rest last → rest ≡ p ∷ left → AppendsNumber mid new (p - last) → Pushed old positions new left p
pushed_more old positions mid new rest left last p h e a =
    let r = subst (IsRisingFrom last) e h.rising in
    record {
      count = h.count;
      bytes = h.bytes ++ a.bytes;
      done = h.done ++ p ∷ [];
      appended = a.appended ∙ (ap (λ bs. bs ++ a.bytes) h.appended ∙ (append_assoc old (h.count ++ h.bytes) a.bytes ∙ ap (λ bs. old ++ bs) (append_assoc h.count h.bytes a.bytes)));
      counted = h.counted;
      coded = begins_more h.bytes a.bytes h.done last p r.0 h.coded a.coded;
      all = h.all ∙ (ap (λ ps. h.done ++ ps) e ∙ sym (append_assoc h.done (p ∷ []) left));
      rising = rising_from p (p + 1) left (omega arith) r.1;
    }

-- all of them
pub pushed_all : (old positions new : List ℕ) (last : ℕ) → Pushed old positions new [] last → AppendsPositions old new positions
pushed_all old positions new last h =
    let e : positions ≡ h.done = h.all ∙ append-nil h.done in
    record {
      bytes = h.count ++ h.bytes;
      appended = h.appended;
      coded = subst (ArePositions (h.count ++ h.bytes)) (sym e) (all_positions h.count h.bytes h.done last (subst (λ ps. IsNumber h.count (length ps)) e h.counted) h.coded);
    }
