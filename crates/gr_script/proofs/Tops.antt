-- The last begun part, changed in its place.
use Rattle.std.proofs.Common.{◌≡◌, ◌<◌, ℕ, ◌-◌, List, [], ◌∷◌, ◌++◌, length, length-append, reverse, slice_set, get_or, refl, sym, ◌∙◌, ap, arith}
use Rattle.std.proofs.Math.Seq.{set-append_seam, get_or-append_seam}
use Rattle.std.proofs.lemmas.List.{reverse-append}
use Rattle.std.proofs.lemmas.List.Sums.{sum_by-set}
use Rattle.std.specs.List.{sum_by}
use Rattle.gr_script.specs.declared.frame.Frame.{Frame}
use Rattle.gr_script.specs.Inside.Machine.{level, on_top}

-- a list with something in it, as its last and what stands before
record Ends {X : Type 0} (xs : List X) : Type 0 where
  front : List X
  last : X
  parts : xs ≡ front ++ (last ∷ [])

ends : {X : Type 0} (xs : List X) → 0 < length xs → Ends xs
ends [] some = absurd (omega (arith, some))
ends (x ∷ []) some = record { front = []; last = x; parts = refl }
ends (x ∷ y ∷ ys) some = let e = ends (y ∷ ys) (omega arith) in record { front = x ∷ e.front; last = e.last; parts = ap (λ zs. x ∷ zs) e.parts }

-- given the last one, how many there are, and what it becomes
module _ (frames : List Frame) (count : ℕ) (frame new : Frame) (counts : count ≡ length frames) (some : 0 < count) (is_last : frame ≡ get_or frames (count - 1) frame) where
  -- the begun parts, with the last one first
  pub changed : (change : Frame → Frame) → new ≡ change frame → reverse (slice_set frames (count - 1) new) ≡ on_top change (reverse frames)
  changed change made = go (ends frames (omega (arith, some, counts)))
    where
      go : Ends frames → reverse (slice_set frames (count - 1) new) ≡ on_top change (reverse frames)
      go e =
          let place : count - 1 ≡ length e.front = omega (arith, counts, ap length e.parts, length-append e.front (e.last ∷ [])) in
          let last : frame ≡ e.last = is_last ∙ ap (λ n. get_or frames n frame) place ∙ ap (λ xs. get_or xs (length e.front) frame) e.parts ∙ get_or-append_seam e.front e.last [] frame in
          let left : reverse (slice_set frames (count - 1) new) ≡ new ∷ reverse e.front =
          ap (λ n. reverse (slice_set frames n new)) place ∙ ap (λ xs. reverse (slice_set xs (length e.front) new)) e.parts ∙ ap reverse (set-append_seam e.front e.last [] new) ∙ reverse-append e.front (new ∷ []) in
          let right : on_top change (reverse frames) ≡ change e.last ∷ reverse e.front = ap (λ xs. on_top change (reverse xs)) e.parts ∙ ap (on_top change) (reverse-append e.front (e.last ∷ [])) in
          left ∙ ap (λ top. top ∷ reverse e.front) (made ∙ ap change last) ∙ sym right

  -- as many levels are open
  pub counted : level new ≡ level frame → sum_by level (slice_set frames (count - 1) new) ≡ sum_by level frames
  counted same = omega (arith, same, ap level is_last, sum_by-set level frames (count - 1) new frame (omega (arith, some, counts)))
