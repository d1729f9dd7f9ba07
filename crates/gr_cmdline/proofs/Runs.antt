-- Runs of bytes that fail a test, as characters of a word.
use Rattle.std.proofs.Common.{◌≡◌, ◌<◌, ◌+◌, ◌==◌, ℕ, Bool, true, false, cond, List, [], ◌∷◌, ◌++◌, IsUtf8, IsCharBoundary, Option, Some, None, MatchOption, chars, drop, take, length, get_or, encode_utf8, encode_utf8_all, option_map, refl, sym, ap, subst, ◌∙◌, add-one, drop-cons, take-append-drop, drop_at, ⊎_elim, inl, inr, arith}
use Rattle.std.proofs.lemmas.Bool.{cases_Bool, or_parts}
use Rattle.std.proofs.lemmas.List.{drop_all, take_all}
use Rattle.std.proofs.lemmas.Bool.Decides.{nat_tests}
use Rattle.std.proofs.lemmas.List.Elements.{All-cons, All-drop, All-head, All-nil, All-tail}
use Rattle.std.proofs.lemmas.Str.{IsCharBoundary-before_ascii, IsCharBoundary-end, IsUtf8-drop, IsUtf8-take, chars-append, chars-nil, chars_past_char, encode_ascii, encodes-chars}
use Rattle.memchr.specs.Find.{IsFirstByte, is_byte2}
use Rattle.gr_cmdline.proofs.Found.{IsClear, IsClear-none, IsClear-some}
use Rattle.gr_cmdline.proofs.Spelling.{Keeps, in_word-blank, in_word-keeps, with_text-text, with_text-rest_with, with_text-nil}
use Rattle.gr_cmdline.specs.Inside.Reading.{EndsRun}
use Rattle.gr_base.specs.Text.{is_blank}
use Rattle.gr_cmdline.specs.Words.{Place, rest_with, behind_backslash, behind_quotes, in_quotes, in_word, rest_from, with_char, with_text, words}

-- a search for a byte that passes a test ends a run
pub EndsRun-some : (test : ℕ → Bool) (bytes : List ℕ) (n : ℕ) → IsFirstByte test bytes (Some n) → EndsRun test bytes n
EndsRun-some test bytes n found = record { clear = IsClear-some test bytes n found; ends = inr (found.0.high, found.1) }

pub EndsRun-none : (test : ℕ → Bool) (bytes : List ℕ) → IsFirstByte test bytes None → EndsRun test bytes (length bytes)
EndsRun-none test bytes none = record {
  clear = let same : take (length bytes) bytes ≡ bytes = take_all (length bytes) bytes (omega arith) in rw same (IsClear-none test bytes none);
  ends = inl refl;
}

-- a test that ASCII characters alone pass
abbrev pub IsAsciiTest : (ℕ → Bool) → Type 0
IsAsciiTest test = (c : ℕ) → test c ≡ true → c < 128

-- a text may be cut where a run ends
pub run-boundary : (test : ℕ → Bool) (bytes : List ℕ) (n : ℕ) → IsAsciiTest test → EndsRun test bytes n → IsCharBoundary bytes n
run-boundary test bytes n ascii run =
    ⊎_elim
    (λ all. rw all (IsCharBoundary-end bytes))
    (λ found. IsCharBoundary-before_ascii bytes n found.0 (ascii (get_or bytes n 0) found.1))
    run.ends

-- the characters before and behind a run's end
pub run-split : (test : ℕ → Bool) (bytes : List ℕ) (n : ℕ) → IsAsciiTest test → IsUtf8 bytes → EndsRun test bytes n → chars bytes ≡ chars (take n bytes) ++ chars (drop n bytes)
run-split test bytes n ascii text run =
    ap chars (sym (take-append-drop n bytes)) ∙ chars-append (take n bytes) (drop n bytes) (IsUtf8-take bytes n text (run-boundary test bytes n ascii run))

-- the character behind a run passes the test
pub run-stop : (test : ℕ → Bool) (bytes : List ℕ) (n c : ℕ) (cs : List ℕ) → IsAsciiTest test → IsUtf8 bytes → EndsRun test bytes n → chars (drop n bytes) ≡ c ∷ cs → test c ≡ true
run-stop test bytes n c cs ascii text run first =
    ⊎_elim
    (λ all. let none : drop n bytes ≡ [] = drop_all n bytes (omega arith) in let empty : [] ≡ c ∷ cs = sym chars-nil ∙ ap chars (sym none) ∙ first in cc)
    (λ found.
    let b = get_or bytes n 0 in
    let one : drop n bytes ≡ encode_utf8 b ++ drop (n + 1) bytes = drop-cons bytes n 0 found.0 ∙ rw (encode_ascii b (ascii b found.1), add-one) refl in
    let is : b ∷ chars (drop (n + 1) bytes) ≡ c ∷ cs = sym (chars_past_char (drop n bytes) (drop (n + 1) bytes) b (IsUtf8-drop bytes n text (run-boundary test bytes n ascii run)) one) ∙ first in
    let same : b ≡ c = cc in
    subst (λ d. test d ≡ true) same found.1)
    run.ends

-- a character fails a test where its bytes do
clear-char : (test : ℕ → Bool) (c : ℕ) (others : List ℕ) → IsAsciiTest test → IsClear test (encode_utf8 c ++ others) → test c ≡ false
clear-char test c others ascii clear =
    ⊎_elim
    (λ yes. All-head (λ b. test b ≡ false) c others (subst (λ front. IsClear test (front ++ others)) (encode_ascii c (ascii c yes)) clear))
    (λ no. no)
    (cases_Bool (test c))

clear-chars : (test : ℕ → Bool) (cs : List ℕ) → IsAsciiTest test → IsClear test (encode_utf8_all cs) → IsClear test cs
clear-chars test [] ascii clear = All-nil (λ c. test c ≡ false)
clear-chars test (c ∷ cs) ascii clear =
    let others : IsClear test (encode_utf8_all cs) = subst (IsClear test) (drop_at (encode_utf8 c) (encode_utf8_all cs) (length (encode_utf8 c)) refl) (All-drop (λ b. test b ≡ false) (length (encode_utf8 c)) (encode_utf8_all (c ∷ cs)) clear) in
    All-cons (λ c. test c ≡ false) c cs (clear-char test c (encode_utf8_all cs) ascii clear) (clear-chars test cs ascii others)

-- the characters of a run fail the test
pub run-clear : (test : ℕ → Bool) (bytes : List ℕ) (n : ℕ) → IsAsciiTest test → IsUtf8 bytes → EndsRun test bytes n → IsClear test (chars (take n bytes))
run-clear test bytes n ascii text run =
    clear-chars test (chars (take n bytes)) ascii
    (subst (IsClear test) (sym (encodes-chars (take n bytes) (IsUtf8-take bytes n text (run-boundary test bytes n ascii run)))) run.clear)

-- two ASCII bytes make such a test
pub ascii-two : (one other : ℕ) → one < 128 → other < 128 → IsAsciiTest (is_byte2 one other)
ascii-two one other low_one low_other c passes = grind (arith, nat_tests)

run-kept : (place : Place) (test : ℕ → Bool) (cs others : List ℕ) → Keeps place test → IsClear test cs → rest_from place (cs ++ others) ≡ option_map (with_text (encode_utf8_all cs)) (rest_from place others)
run-kept place test [] others keeps clear = with_text-nil (rest_from place others)
run-kept place test (c ∷ cs) others keeps clear =
    keeps c (cs ++ others) (All-head (λ c. test c ≡ false) c cs clear)
    ∙ ap (option_map (with_char c)) (run-kept place test cs others keeps (All-tail (λ c. test c ≡ false) c cs clear))
    ∙ with_text-text (encode_utf8 c) (encode_utf8_all cs) (rest_from place others)

-- a run goes to the text of its word
pub run-text : (place : Place) (test : ℕ → Bool) (text old next : List ℕ) → Keeps place test → IsUtf8 text → old ≡ chars text ++ next → IsClear test (chars text) → rest_from place old ≡ option_map (with_text text) (rest_from place next)
run-text place test text old next keeps utf8 read clear =
    ap (rest_from place) read ∙ run-kept place test (chars text) next keeps clear
    ∙ ap (λ front. option_map (with_text front) (rest_from place next)) (encodes-chars text utf8)

-- a character that is neither the quote nor a backslash stays in quotes
pub in_quotes-keeps : (quote : ℕ) → Keeps (in_quotes quote) (is_byte2 quote 92)
in_quotes-keeps quote c cs other =
    let both = or_parts (c == quote) (c == 92) other in
    ap (λ (b : Bool). cond b (rest_from behind_quotes cs) (cond (c == 92) (rest_from (behind_backslash quote) cs) (option_map (with_char c) (rest_from (in_quotes quote) cs)))) both.0
    ∙ ap (λ (b : Bool). cond b (rest_from (behind_backslash quote) cs) (option_map (with_char c) (rest_from (in_quotes quote) cs))) both.1

-- a word ends behind a run, at a blank or at the line's end
pub word-run : (text old next new : List ℕ) (c : Option ℕ) → IsUtf8 text → old ≡ chars text ++ next → IsClear is_blank (chars text) → ((c : ℕ) (cs : List ℕ) → next ≡ c ∷ cs → is_blank c ≡ true) → MatchOption c ((next ≡ []) × (new ≡ [])) (λ c. next ≡ c ∷ new) → rest_from in_word old ≡ option_map (rest_with text) (words new)
word-run text old next new c utf8 read clear stop taken =
    run-text in_word is_blank text old next in_word-keeps utf8 read clear
    ∙ ap (option_map (with_text text)) (ends c taken)
    ∙ with_text-rest_with text (words new)
  where
    ends : (c : Option ℕ) → MatchOption c ((next ≡ []) × (new ≡ [])) (λ c. next ≡ c ∷ new) → rest_from in_word next ≡ option_map (rest_with []) (words new)
    ends None (none, nothing) = rw (none, nothing) refl
    ends (Some c) is = in_word-blank next new c is (stop c new is)

-- a run in quotes goes to the text before it
pub quotes-run : (quote : ℕ) (text run old next : List ℕ) → IsUtf8 run → old ≡ chars run ++ next → IsClear (is_byte2 quote 92) (chars run) → option_map (with_text text) (rest_from (in_quotes quote) old) ≡ option_map (with_text (text ++ run)) (rest_from (in_quotes quote) next)
quotes-run quote text run old next utf8 read clear =
    ap (option_map (with_text text)) (run-text (in_quotes quote) (is_byte2 quote 92) run old next (in_quotes-keeps quote) utf8 read clear)
    ∙ with_text-text text run (rest_from (in_quotes quote) next)
