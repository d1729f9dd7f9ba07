-- Truth values that stand in words.
use Rattle.std.proofs.Common.{◌≡◌, ◌<◌, ◌+◌, ◌*◌, ◌/◌, ◌%◌, ◌^◌, ℕ, zero, suc, Bool, false, List, [], ◌∷◌, ◌++◌, map, length, replicate, get_or, slice_get, Some, None, refl, sym, ap, ◌∙◌, subst, arith, inl, inr, bit_and, nat_eq, eq-eqb}
use Rattle.std.specs.Prelude.{◌≢◌, ◌↔◌, IsBitSet, IsTrue, option_map}
use Rattle.std.specs.Int.{bit_at}
use Rattle.std.proofs.Math.ListN.{set}
use Rattle.std.proofs.lemmas.Bool.{cases_eq, eqb-true}
use Rattle.std.proofs.lemmas.List.{get_or-set_same, get_or-set_other, length-set, map-append, map-set}
use Rattle.std.proofs.lemmas.List.FromFn.{fill_by_all, get_or-map-range_with_len, length-map-range_with_len}
use Rattle.std.proofs.lemmas.Nat.{bit_set_by_shift}
use Rattle.std.proofs.lemmas.Nat.Bits.{shr_and_one}
use Rattle.std.proofs.lemmas.Option.{slice_get-map}
use Rattle.gr_columns.specs.Inside.Places.{AreBlocks, values_of, changed_at}
use Rattle.gr_columns.specs.Inside.Truths.{bits_of}
use Rattle.gr_columns.proofs.Blocks.{found_at, past_at, put_is}

-- a word has as many values as a block
pub length_bits : (word : ℕ) → length (bits_of word) ≡ 64
length_bits word = length-map-range_with_len (λ place. nat_eq (bit_at word place) 1) 0 64

-- a value of a word is its bit
pub bits_at : (word place : ℕ) (d : Bool) → place < 64 → get_or (bits_of word) place d ≡ nat_eq (bit_at word place) 1
bits_at word place d within = get_or-map-range_with_len (λ place. nat_eq (bit_at word place) 1) 0 64 place place d within (omega arith)

-- words are full blocks
pub full_words : (words : List ℕ) → AreBlocks (map bits_of words)
full_words [] = tt
full_words (word ∷ words) = (length_bits word, full_words words)

-- a word with another bit has the values with another one
pub set_bits : (word changed j : ℕ) (value : Bool) → j < 64 → nat_eq (bit_at changed j) 1 ≡ value → ((i : ℕ) → i < 64 → i ≢ j → bit_at changed i ≡ bit_at word i) → bits_of changed ≡ set (bits_of word) j value
set_bits word changed j value within here elsewhere =
    let at : (k : ℕ) → k < 64 → get_or (set (bits_of word) j value) k false ≡ nat_eq (bit_at changed k) 1 = λ k below. elim (cases_eq k j) as (λ _. get_or (set (bits_of word) j value) k false ≡ nat_eq (bit_at changed k) 1) [
      | inl same ↦ ap (λ n. get_or (set (bits_of word) j value) n false) same ∙ get_or-set_same (bits_of word) j value false (omega (arith, length_bits word, within)) ∙ sym here ∙ ap (λ n. nat_eq (bit_at changed n) 1) (sym same)
      | inr differ ↦ get_or-set_other (bits_of word) j k value false differ ∙ bits_at word k false below ∙ ap (λ bit. nat_eq bit 1) (sym (elsewhere k below differ))
    ] in
    sym (fill_by_all (λ place. nat_eq (bit_at changed place) 1) (set (bits_of word) j value) 64 false (length-set (bits_of word) j value ∙ length_bits word) at)

-- a word that was found is its block
pub found_word : (words : List ℕ) (k word : ℕ) → slice_get words k ≡ Some word → slice_get (map bits_of words) k ≡ Some (bits_of word)
found_word words k word found = slice_get-map bits_of words k ∙ ap (option_map bits_of) found

-- no word was found
pub past_word : (words : List ℕ) (k : ℕ) → slice_get words k ≡ None → slice_get (map bits_of words) k ≡ None
past_word words k none = slice_get-map bits_of words k ∙ ap (option_map bits_of) none

-- a value that was read from its word
pub word_is : (words : List ℕ) (i k j word : ℕ) → k ≡ i / 64 → j ≡ i % 64 → slice_get words k ≡ Some word → nat_eq (bit_and (word / 2 ^ j) 1) 1 ≡ get_or (values_of (map bits_of words)) i false
word_is words i k j word in_block place found =
    let there : slice_get (map bits_of words) (i / 64) ≡ Some (bits_of word) = ap (slice_get (map bits_of words)) (sym in_block) ∙ found_word words k word found in
    let below : i % 64 < 64 = omega arith in
    ap (λ bit. nat_eq bit 1) (shr_and_one word j)
    ∙ ap (λ n. nat_eq (bit_at word n) 1) place
    ∙ sym (bits_at word (i % 64) false below)
    ∙ sym (found_at (map bits_of words) (full_words words) i (bits_of word) false there)

-- false, where no word was found
pub no_word_is : (words : List ℕ) (i k : ℕ) → k ≡ i / 64 → slice_get words k ≡ None → false ≡ get_or (values_of (map bits_of words)) i false
no_word_is words i k in_block none = sym (past_at (map bits_of words) (full_words words) i false (ap (slice_get (map bits_of words)) (sym in_block) ∙ past_word words k none))

-- a bit is set where it is 1
pub bit_is : (word place : ℕ) → IsBitSet word place ↔ IsTrue (nat_eq (bit_and (word / 2 ^ place) 1) 1)
bit_is word place = (λ given. eq-eqb _ 1 ((bit_set_by_shift word place).1 given), λ is. (bit_set_by_shift word place).0 (eqb-true _ 1 is))

-- words with another one
pub put_word : (words : List ℕ) (i k j word made kept : ℕ) (value : Bool) → k ≡ i / 64 → j ≡ i % 64 → slice_get words k ≡ Some word → bits_of made ≡ set (bits_of word) j value → kept ≡ made → map bits_of (set words k kept) ≡ changed_at (map bits_of words) i value
put_word words i k j word made kept value in_block place found is owned =
    map-set bits_of words k kept ∙ put_is (map bits_of words) i k j (bits_of word) (bits_of word) (bits_of made) (bits_of kept) value in_block place (found_word words k word found) refl is (ap bits_of owned)

-- one word, some times
map_replicate : (n word : ℕ) → map bits_of (replicate n word) ≡ replicate n (bits_of word)
map_replicate zero word = refl
map_replicate (suc n) word = ap (λ rest. bits_of word ∷ rest) (map_replicate n word)

-- words after which others were put
pub words_grown : (words grown : List ℕ) (n word : ℕ) → grown ≡ words ++ replicate n word → map bits_of grown ≡ map bits_of words ++ replicate n (bits_of word)
words_grown words grown n word is = ap (map bits_of) is ∙ map-append bits_of words (replicate n word) ∙ ap (λ rest. map bits_of words ++ rest) (map_replicate n word)

-- each bit of a word that was found
pub word_block : (words : List ℕ) (k b word : ℕ) → k ≡ b → slice_get words k ≡ Some word → (place : ℕ) → place < 64 → IsBitSet word place ↔ IsTrue (get_or (values_of (map bits_of words)) (64 * b + place) false)
word_block words k b word is found place within =
    let in_block : k ≡ (64 * b + place) / 64 = omega (arith, within, is) in
    let in_place : place ≡ (64 * b + place) % 64 = omega (arith, within) in
    subst (λ value. IsBitSet word place ↔ IsTrue value) (word_is words (64 * b + place) k place word in_block in_place found) (bit_is word place)

-- no bit, where no word was found
pub word_past : (words : List ℕ) (k b : ℕ) → k ≡ b → slice_get words k ≡ None → (place : ℕ) → place < 64 → IsBitSet 0 place ↔ IsTrue (get_or (values_of (map bits_of words)) (64 * b + place) false)
word_past words k b is none place within =
    let in_block : k ≡ (64 * b + place) / 64 = omega (arith, within, is) in
    subst (λ value. IsBitSet 0 place ↔ IsTrue value) (no_word_is words (64 * b + place) k in_block none) (λ given. absurd (given refl), λ is. absurd cc)
