-- How the rest of a word is put together from its front.
use Rattle.std.proofs.Common.{◌≡◌, ◌<◌, ◌==◌, ℕ, Bool, true, false, cond, List, [], ◌∷◌, ◌++◌, length, Option, Some, None, MatchOption, option_map, refl, sym, ap, ◌∙◌, append_assoc, arith, eq-eqb}
use Rattle.std.proofs.lemmas.List.{append-nil}
use Rattle.std.proofs.lemmas.Bool.{ne_eqb}
use Rattle.std.proofs.lemmas.Bool.Decides.{nat_tests}
use Rattle.gr_cmdline.specs.Inside.Reading.{Begins, ReadsEscaped, ReadsInQuotes}
use Rattle.gr_base.specs.Text.{is_blank}
use Rattle.gr_cmdline.specs.Words.{Place, Rest, Word, as_word, rest_with, behind_backslash, behind_quotes, between, in_quotes, in_word, is_quote, rest_from, with_char, with_text, words}
use Rattle.gr_cmdline.specs.declared.words.QuotedChar.{QuotedChar}
use Rattle.gr_cmdline.specs.declared.words.QuotedChar.TheVariants.{Char, Closed, Open}

-- a text in front of words that are told by the rest of a line
rest_with-words : (text : List ℕ) (found : Option Rest) → option_map (with_text text) (option_map (λ rest. rest_with [] rest.words) found) ≡ option_map (rest_with text) (option_map (λ rest. rest.words) found)
rest_with-words text None = refl
rest_with-words text (Some rest) = ap (λ front. Some (rest_with front rest.words)) (append-nil text)

-- at a place, a character that fails a test belongs to the word
abbrev pub Keeps : Place → (ℕ → Bool) → Type 0
Keeps place test = (c : ℕ) (cs : List ℕ) → test c ≡ false → rest_from place (c ∷ cs) ≡ option_map (with_char c) (rest_from place cs)

-- a character that is no blank stays in a word
pub in_word-keeps : Keeps in_word is_blank
in_word-keeps c cs other = ap (λ (b : Bool). cond b (option_map (λ rest. rest_with [] rest.words) (rest_from between cs)) (option_map (with_char c) (rest_from in_word cs))) other

-- a word that is not in quotes ends at a blank
pub in_word-blank : (old new : List ℕ) (c : ℕ) → old ≡ c ∷ new → is_blank c ≡ true → rest_from in_word old ≡ option_map (rest_with []) (words new)
in_word-blank old new c same blank =
    ap (rest_from in_word) same
    ∙ ap (λ (b : Bool). cond b (option_map (λ rest. rest_with [] rest.words) (rest_from between new)) (option_map (with_char c) (rest_from in_word new))) blank
    ∙ ends (rest_from between new)
  where
    ends : (found : Option Rest) → option_map (λ rest. rest_with [] rest.words) found ≡ option_map (rest_with []) (option_map (λ rest. rest.words) found)
    ends None = refl
    ends (Some rest) = refl

-- a word in quotes ends where a blank follows
pub behind_quotes-blank : (text old new : List ℕ) (c : ℕ) → old ≡ c ∷ new → is_blank c ≡ true → option_map (with_text text) (rest_from behind_quotes old) ≡ option_map (rest_with text) (words new)
behind_quotes-blank text old new c same blank =
    ap (λ line. option_map (with_text text) (rest_from behind_quotes line)) same
    ∙ ap (λ (b : Bool). option_map (with_text text) (cond b (option_map (λ rest. rest_with [] rest.words) (rest_from between new)) None)) blank
    ∙ rest_with-words text (rest_from between new)

-- a text, and what stands in front of it
pub with_text-text : (front text : List ℕ) (found : Option Rest) → option_map (with_text front) (option_map (with_text text) found) ≡ option_map (with_text (front ++ text)) found
with_text-text front text None = refl
with_text-text front text (Some rest) = ap (λ text. Some (rest_with text rest.words)) (sym (append_assoc front text rest.text))

-- nothing in front changes nothing
pub with_text-nil : (found : Option Rest) → found ≡ option_map (with_text []) found
with_text-nil None = refl
with_text-nil (Some rest) = refl

-- the text of a word, where it ends
pub with_text-rest_with : (text : List ℕ) (found : Option (List Word)) → option_map (with_text text) (option_map (rest_with []) found) ≡ option_map (rest_with text) found
with_text-rest_with text None = refl
with_text-rest_with text (Some others) = ap (λ front. Some (rest_with front others)) (append-nil text)

-- a quote is no blank
quote_no_blank : (c : ℕ) → is_quote c ≡ true → is_blank c ≡ false
quote_no_blank c quote = grind (arith, nat_tests)

-- a word that begins with a character that is no blank
words-begun : (c : ℕ) (cs : List ℕ) → is_blank c ≡ false → words (c ∷ cs) ≡ option_map (λ rest. rest.words) (cond (is_quote c) (option_map (as_word true) (rest_from (in_quotes c) cs)) (option_map (λ rest. as_word false (with_char c rest)) (rest_from in_word cs)))
words-begun c cs blank = ap (λ (b : Bool). option_map (λ rest. rest.words) (cond b (rest_from between cs) (cond (is_quote c) (option_map (as_word true) (rest_from (in_quotes c) cs)) (option_map (λ rest. as_word false (with_char c rest)) (rest_from in_word cs))))) blank

-- the first character is taken, where there is one
abbrev pub TakesFirst : Option ℕ → List ℕ → List ℕ → Type 0
TakesFirst first old new = MatchOption first ((old ≡ []) × (new ≡ [])) (λ c. old ≡ c ∷ new)

-- what is left behind the character that comes first
pub taken-first : (first : Option ℕ) (c : ℕ) (line new : List ℕ) → Begins c line → TakesFirst first line new → line ≡ c ∷ new
taken-first None c line new (cs, is) (none, nothing) = cc
taken-first (Some d) c line new (cs, is) taken = let same : d ≡ c = cc in rw same at taken

-- a blank before a word is left out
pub words-blank : (first : Option ℕ) (c : ℕ) (line new : List ℕ) → Begins c line → TakesFirst first line new → is_blank c ≡ true → words line ≡ words new
words-blank first c line new begins taken blank =
    ap words (taken-first first c line new begins taken)
    ∙ ap (λ (b : Bool). option_map (λ rest. rest.words) (cond b (rest_from between new) (cond (is_quote c) (option_map (as_word true) (rest_from (in_quotes c) new)) (option_map (λ rest. as_word false (with_char c rest)) (rest_from in_word new))))) blank

-- how a line goes on behind a quote that begins a word
behind_quote : (c : ℕ) (cs : List ℕ) → is_quote c ≡ true → words (c ∷ cs) ≡ option_map (λ rest. rest.words) (option_map (as_word true) (rest_from (in_quotes c) cs))
behind_quote c cs quote =
    words-begun c cs (quote_no_blank c quote)
    ∙ ap (λ (b : Bool). option_map (λ rest. rest.words) (cond b (option_map (as_word true) (rest_from (in_quotes c) cs)) (option_map (λ rest. as_word false (with_char c rest)) (rest_from in_word cs)))) quote

-- a word in quotes, and the words after it
pub words-quoted : (c : ℕ) (cs text new : List ℕ) → is_quote c ≡ true → rest_from (in_quotes c) cs ≡ option_map (rest_with text) (words new) → words (c ∷ cs) ≡ option_map (λ others. record { text = text; quoted = true } ∷ others) (words new)
words-quoted c cs text new quote read =
    behind_quote c cs quote ∙ ap (λ found. option_map (λ rest. rest.words) (option_map (as_word true) found)) read ∙ whole (words new)
  where
    whole : (found : Option (List Word)) → option_map (λ rest. rest.words) (option_map (as_word true) (option_map (rest_with text) found)) ≡ option_map (λ others. record { text = text; quoted = true } ∷ others) found
    whole None = refl
    whole (Some others) = refl

-- a quote that is not closed makes a bad line
pub words-unclosed : (c : ℕ) (cs : List ℕ) → is_quote c ≡ true → rest_from (in_quotes c) cs ≡ None → words (c ∷ cs) ≡ None
words-unclosed c cs quote open_end = behind_quote c cs quote ∙ ap (λ found. option_map (λ rest. rest.words) (option_map (as_word true) found)) open_end

-- a word that is not in quotes, and the words after it
pub words-unquoted : (line text new : List ℕ) (c : ℕ) → Begins c line → is_blank c ≡ false → is_quote c ≡ false → rest_from in_word line ≡ option_map (rest_with text) (words new) → words line ≡ option_map (λ others. record { text = text; quoted = false } ∷ others) (words new)
words-unquoted line text new c (cs, is) blank quote read =
    ap words is ∙ words-begun c cs blank
    ∙ ap (λ (b : Bool). option_map (λ rest. rest.words) (cond b (option_map (as_word true) (rest_from (in_quotes c) cs)) (option_map (λ rest. as_word false (with_char c rest)) (rest_from in_word cs)))) quote
    ∙ split (rest_from in_word cs)
    ∙ ap (λ found. option_map (λ rest. rest.words) (option_map (as_word false) found)) (sym kept ∙ ap (rest_from in_word) (sym is) ∙ read)
    ∙ whole (words new)
  where
    kept : rest_from in_word (c ∷ cs) ≡ option_map (with_char c) (rest_from in_word cs)
    kept = in_word-keeps c cs blank

    split : (found : Option Rest) → option_map (λ rest. rest.words) (option_map (λ rest. as_word false (with_char c rest)) found) ≡ option_map (λ rest. rest.words) (option_map (as_word false) (option_map (with_char c) found))
    split None = refl
    split (Some rest) = refl

    whole : (found : Option (List Word)) → option_map (λ rest. rest.words) (option_map (as_word false) (option_map (rest_with text) found)) ≡ option_map (λ others. record { text = text; quoted = false } ∷ others) found
    whole None = refl
    whole (Some others) = refl

-- a backslash in quotes
pub ReadsInQuotes-escaped : (quote c : ℕ) (old next new : List ℕ) (read : QuotedChar) → old ≡ c ∷ next → (c ≡ quote → ⊥) → c ≡ 92 → ReadsEscaped quote next new read → ReadsInQuotes quote old new read
ReadsInQuotes-escaped quote c old next new read same other slash reads = go read reads
  where
    skips : rest_from (in_quotes quote) old ≡ rest_from (behind_backslash quote) next
    skips =
        ap (rest_from (in_quotes quote)) same
        ∙ ap (λ (b : Bool). cond b (rest_from behind_quotes next) (cond (c == 92) (rest_from (behind_backslash quote) next) (option_map (with_char c) (rest_from (in_quotes quote) next)))) (ne_eqb c quote other)
        ∙ ap (λ (b : Bool). cond b (rest_from (behind_backslash quote) next) (option_map (with_char c) (rest_from (in_quotes quote) next))) (eq-eqb c 92 slash)

    longer : length next < length old
    longer = omega (arith, ap length same)

    go : (read : QuotedChar) → ReadsEscaped quote next new read → ReadsInQuotes quote old new read
    go (Char d) reads = (skips ∙ reads.0, omega (arith, longer, reads.1))
    go Closed reads = absurd reads
    go Open reads = skips ∙ reads
