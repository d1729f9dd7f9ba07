-- What a fold keeps, posting by posting and segment by segment.
use Rattle.std.proofs.Common.{◌≡◌, ℕ, Bool, true, false, cond, List, [], ◌∷◌, ◌++◌, sym, ap, ◌∙◌, append_assoc}
use Rattle.std.specs.List.{flat_map}
use Rattle.std.proofs.lemmas.List.Elements.{filter-append}
use Rattle.gr_base.specs.declared.numbers.RecordId.{RecordId}
use Rattle.gr_postings.specs.declared.posting.Posting.{Posting}
use Rattle.gr_chunks.specs.Segments.{living}

-- a living posting is kept, and a dead one left out
pub keeps_one : (lives : RecordId → ℕ → Bool) (done old new : List Posting) (p : Posting) → old ≡ p ∷ new → lives p.id p.place ≡ true → (done ++ p ∷ []) ++ living lives new ≡ done ++ living lives old
keeps_one lives done old new p e h =
    append_assoc done (p ∷ []) (living lives new)
    ∙ ap (λ ps. done ++ ps) (sym (ap (living lives) e ∙ ap (λ b. cond b (p ∷ living lives new) (living lives new)) h))

pub leaves_one : (lives : RecordId → ℕ → Bool) (done old new : List Posting) (p : Posting) → old ≡ p ∷ new → lives p.id p.place ≡ false → done ++ living lives new ≡ done ++ living lives old
leaves_one lives done old new p e h =
    ap (λ ps. done ++ ps) (sym (ap (living lives) e ∙ ap (λ b. cond b (p ∷ living lives new) (living lives new)) h))

-- what is kept of several parts is what is kept of each
pub keeps_part : {X : Type 0} (lives : RecordId → ℕ → Bool) (f : X → List Posting) (done next : List Posting) (old new : List X) (x : X) → old ≡ x ∷ new → next ≡ done ++ living lives (f x) → next ++ living lives (flat_map f new) ≡ done ++ living lives (flat_map f old)
keeps_part lives f done next old new x e n =
    ap (λ ps. ps ++ living lives (flat_map f new)) n
    ∙ (append_assoc done (living lives (f x)) (living lives (flat_map f new))
    ∙ ap (λ ps. done ++ ps) (sym (ap (λ xs. living lives (flat_map f xs)) e ∙ filter-append (λ p. lives p.id p.place) (f x) (flat_map f new))))
