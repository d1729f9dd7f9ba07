-- The words of a text, one piece between spaces after the other.
use Rattle.std.proofs.Common.{ℕ, suc, ◌≡◌, ◌≤◌, Bool, true, false, cond, List, [], ◌∷◌, length, refl, ap, ◌∙◌, arith, filter, sum_by}
use Rattle.std.proofs.lemmas.Bool.{cond_both, leb-true}
use Rattle.std.proofs.str.Laws.{both}
use Rattle.std.proofs.lemmas.List.Sums.{sum_by-cons}
use Rattle.std.specs.Prelude.{nat_le}
use Rattle.std.specs.List.{slice_split, onto_first}
use Rattle.gr_tokens.specs.Tokens.{is_space, is_word, words}

module _ (text : List ℕ) where
  -- a first piece that is a word
  pub words-word : (piece after : List ℕ) → slice_split is_space text ≡ piece ∷ slice_split is_space after → is_word piece ≡ true → words text ≡ piece ∷ words after
  unfolding words
  words-word piece after split passes =
      ap (filter is_word) split ∙ ap (λ b. cond b (piece ∷ filter is_word (slice_split is_space after)) (filter is_word (slice_split is_space after))) passes

  -- a first piece that is none
  pub words-other : (piece after : List ℕ) → slice_split is_space text ≡ piece ∷ slice_split is_space after → is_word piece ≡ false → words text ≡ words after
  unfolding words
  words-other piece after split fails =
      ap (filter is_word) split ∙ ap (λ b. cond b (piece ∷ filter is_word (slice_split is_space after)) (filter is_word (slice_split is_space after))) fails

  -- a last piece that is a word
  pub words-last : slice_split is_space text ≡ text ∷ [] → is_word text ≡ true → words text ≡ text ∷ words []
  unfolding words
  words-last whole passes = ap (filter is_word) whole ∙ ap (λ b. cond b (text ∷ []) []) passes

  -- a last piece that is none
  pub words-none : slice_split is_space text ≡ text ∷ [] → is_word text ≡ false → words text ≡ []
  unfolding words
  words-none whole fails = ap (filter is_word) whole ∙ ap (λ b. cond b (text ∷ []) []) fails

-- a byte that is put before the first piece
sum_by-onto_first : (x : ℕ) (pieces : List (List ℕ)) → sum_by length (onto_first x pieces) ≤ suc (sum_by length pieces)
sum_by-onto_first x [] = omega arith
sum_by-onto_first x (piece ∷ pieces) = omega (arith, sum_by-cons length (x ∷ piece) pieces, sum_by-cons length piece pieces)

-- the pieces together are no longer than the text
length-pieces : (passes : ℕ → Bool) (text : List ℕ) → sum_by length (slice_split passes text) ≤ length text
length-pieces passes [] = omega arith
length-pieces passes (x ∷ xs) =
    cond_both (passes x) ([] ∷ slice_split passes xs) (onto_first x (slice_split passes xs)) (λ pieces. sum_by length pieces ≤ suc (length xs))
    (λ _. omega (arith, length-pieces passes xs, sum_by-cons length [] (slice_split passes xs)))
    (λ _. omega (arith, length-pieces passes xs, sum_by-onto_first x (slice_split passes xs)))

-- each word takes a byte
length-filter : (pieces : List (List ℕ)) → length (filter is_word pieces) ≤ sum_by length pieces
length-filter [] = omega arith
length-filter (piece ∷ pieces) =
    let split = sum_by-cons length piece pieces in
    cond_both (is_word piece) (piece ∷ filter is_word pieces) (filter is_word pieces) (λ kept. length kept ≤ sum_by length (piece ∷ pieces))
    (λ passes. let some : 1 ≤ length piece = leb-true 1 (length piece) (both (nat_le 1 (length piece)) (nat_le (length piece) 4096) passes).0 in omega (arith, length-filter pieces, some, split))
    (λ _. omega (arith, length-filter pieces, split))

-- a text has at most as many words as bytes
pub length-words : (text : List ℕ) → length (words text) ≤ length text
unfolding words
length-words text = omega (arith, length-filter (slice_split is_space text), length-pieces is_space text)

-- an empty text has no word
pub words-empty : words [] ≡ []
unfolding words
words-empty = refl
