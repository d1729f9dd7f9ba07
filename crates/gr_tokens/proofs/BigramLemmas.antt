-- The bigrams of a text, one character after the other.
use Rattle.std.proofs.Common.{ℕ, suc, ◌≡◌, ◌≤◌, ◌-◌, List, [], ◌∷◌, ◌++◌, length, take, refl, sym, ap, ap₂, subst, ◌∙◌, arith, Option, Some, None, append_assoc, length-append}
use Rattle.std.proofs.Math.Seq.{take-append_seam}
use Rattle.std.proofs.lemmas.Str.{length-le-encodes, encodes-chars, chars_past_char, chars-nil, IsUtf8-past_char, IsCharBoundary-at_seam}
use Rattle.std.specs.Prelude.{encode_utf8, MatchOption}
use Rattle.std.specs.Str.Iter.{chars_rest}
use Rattle.std.specs.declared.str.Chars.{Chars}
use Rattle.std.specs.Str.{chars, IsUtf8, IsCharBoundary}
use Rattle.gr_tokens.specs.Tokens.{bigrams}

-- as many bigrams as characters
length-bigrams : (cs : List ℕ) → length (bigrams cs) ≡ length cs
unfolding bigrams
length-bigrams [] = refl
length-bigrams (c ∷ []) = refl
length-bigrams (c ∷ d ∷ cs) = ap suc (length-bigrams (d ∷ cs))

-- a text has at most as many bigrams as bytes
pub length-bigrams-chars : (text : List ℕ) → IsUtf8 text → length (bigrams (chars text)) ≤ length text
length-bigrams-chars text utf8 = omega (arith, length-bigrams (chars text), length-le-encodes (chars text), ap length (encodes-chars text utf8))

-- a text without bytes has none
pub bigrams-empty : (text : List ℕ) → length text ≡ 0 → bigrams (chars text) ≡ []
unfolding bigrams
bigrams-empty [] none = ap bigrams chars-nil
bigrams-empty (x ∷ xs) none = absurd (omega arith)

-- the first bigram of a text, of which rest follows the first character and more the whole bigram
pub record StartsWithBigram (text rest more : List ℕ) : Type 0 where
  pub front : List ℕ
  pub split : text ≡ front ++ more
  pub first : bigrams (chars text) ≡ front ∷ bigrams (chars rest)

-- the last character alone
alone : (text rest : List ℕ) (c : ℕ) → IsUtf8 text → text ≡ encode_utf8 c ++ rest → length rest ≡ 0 → StartsWithBigram text rest rest
unfolding bigrams
alone text [] c utf8 split none = record {
  front = encode_utf8 c;
  split = split;
  first = ap bigrams (chars_past_char text [] c utf8 split)
      ∙ ap (λ cs. bigrams (c ∷ cs)) chars-nil
      ∙ sym (ap (λ cs. encode_utf8 c ∷ bigrams cs) chars-nil);
}
alone text (x ∷ xs) c utf8 split none = absurd (omega arith)

-- a character and the next one
pair : (text rest more : List ℕ) (c d : ℕ) → IsUtf8 text → IsUtf8 rest → text ≡ encode_utf8 c ++ rest → rest ≡ encode_utf8 d ++ more → StartsWithBigram text rest more
unfolding bigrams
pair text rest more c d utf8 rest_utf8 split rest_split =
    let second = chars_past_char rest more d rest_utf8 rest_split in
    record {
      front = encode_utf8 c ++ encode_utf8 d;
      split = split ∙ ap (λ bytes. encode_utf8 c ++ bytes) rest_split ∙ sym (append_assoc (encode_utf8 c) (encode_utf8 d) more);
      first = ap bigrams (chars_past_char text rest c utf8 split ∙ ap (λ cs. c ∷ cs) second)
          ∙ ap (λ cs. (encode_utf8 c ++ encode_utf8 d) ∷ bigrams cs) (sym second);
    }

-- what two calls for a character tell
pub StartsWithBigram-chars : (text : List ℕ) (first after : Chars) (c : ℕ) (second : Option ℕ) → IsUtf8 text → text ≡ encode_utf8 c ++ chars_rest first → MatchOption second ((length (chars_rest first) ≡ 0) × (after ≡ first)) (λ d. chars_rest first ≡ encode_utf8 d ++ chars_rest after) → StartsWithBigram text (chars_rest first) (chars_rest after)
StartsWithBigram-chars text first after c None utf8 split ended =
    subst (λ more. StartsWithBigram text (chars_rest first) (chars_rest more)) (sym ended.1) (alone text (chars_rest first) c utf8 split ended.0)
StartsWithBigram-chars text first after c (Some d) utf8 split next = pair text (chars_rest first) (chars_rest after) c d utf8 (IsUtf8-past_char text (chars_rest first) c utf8 split) split next

-- where the first bigram ends
length-front : (text rest more : List ℕ) (starts : StartsWithBigram text rest more) → length text - length more ≡ length starts.front
length-front text rest more starts = omega (arith, ap length starts.split, length-append starts.front more)

-- the first bigram as a part of the text
pub bigrams-first : (text rest more : List ℕ) (starts : StartsWithBigram text rest more) → bigrams (chars text) ≡ take (length text - length more) text ∷ bigrams (chars rest)
bigrams-first text rest more starts =
    let front_is : take (length text - length more) text ≡ starts.front = ap₂ take (length-front text rest more starts) starts.split ∙ take-append_seam starts.front more in
    starts.first ∙ ap (λ front. front ∷ bigrams (chars rest)) (sym front_is)

-- the text may be cut there
pub front-boundary : (text rest more : List ℕ) (starts : StartsWithBigram text rest more) → IsUtf8 more → IsCharBoundary text (length text - length more)
front-boundary text rest more starts more_utf8 =
    subst (IsCharBoundary text) (sym (length-front text rest more starts)) (IsCharBoundary-at_seam text starts.front more starts.split more_utf8)
