-- Texts that begin with the same word.
use Rattle.std.proofs.Common.{ℕ, suc, ◌≡◌, ◌<◌, ◌≤◌, ◌&&◌, List, ◌∷◌, length, take, drop, get_or, sym, ap, ap₂, ◌∙◌, arith}
use Rattle.std.proofs.lemmas.Bool.{eqb-true, eq-eqb, le-leb}
use Rattle.std.proofs.lemmas.List.{get_or-take, get_or_default, length-take-le, same_lists}
use Rattle.std.specs.Prelude.{nat_le}
use Rattle.gr_tokens.specs.Inside.Same.{IsSameEnd}
use Rattle.gr_tokens.specs.Tokens.{is_space, words}
use Rattle.gr_tokens.proofs.SpaceLemmas.{slice_split-first}
use Rattle.gr_tokens.proofs.WordLemmas.{words-word}

-- a word that begins a text
words-at : (text : List ℕ) (end : ℕ) → 0 < end → end ≤ 4096 → end < length text → ((j : ℕ) → j < end → ¬ (get_or text j 0 ≡ 32)) → get_or text end 0 ≡ 32 → words text ≡ take end text ∷ words (drop (suc end) text)
words-at text end some short within before here =
    let size : length (take end text) ≡ end = length-take-le end text (omega arith) in
    words-word text (take end text) (drop (suc end) text)
    (slice_split-first is_space text end within (λ j below is. before j below (eqb-true (get_or text j 0) 32 is)) (eq-eqb (get_or text end 0) 32 here))
    (ap (λ n. nat_le 1 n && nat_le n 4096) size ∙ ap₂ ◌&&◌ (le-leb 1 end (omega arith)) (le-leb end 4096 short))

pub words-same : (text phrase : List ℕ) (end : ℕ) → IsSameEnd text phrase end → (words text ≡ take end text ∷ words (drop (suc end) text)) × (words phrase ≡ take end text ∷ words (drop (suc end) phrase))
words-same text phrase end at =
    let size = length-take-le end text (omega (arith, at.in_text)) in
    let size_too = length-take-le end phrase (omega (arith, at.in_phrase)) in
    let word : take end phrase ≡ take end text =
    same_lists (take end phrase) (take end text) (omega (arith, size, size_too))
    (λ k d below.
    let within : k < end = omega (arith, size_too, below) in
    get_or-take end phrase k d within
    ∙ get_or_default phrase k d 0 (omega (arith, at.in_phrase))
    ∙ sym (at.same k within)
    ∙ get_or_default text k 0 d (omega (arith, at.in_text))
    ∙ sym (get_or-take end text k d within)) in (
      words-at text end at.some at.short at.in_text at.no_space at.space,
      words-at phrase end at.some at.short at.in_phrase (λ j below is. at.no_space j below (at.same j below ∙ is)) at.space_too
          ∙ ap (λ w. w ∷ words (drop (suc end) phrase)) word,
    )
