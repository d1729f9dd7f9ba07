-- The token that is taken reaches as far as each token that begins there.
use Rattle.std.proofs.Common.{◌≡◌, ◌<◌, ◌≤◌, ◌⊎◌, ◌==◌, ◌&&◌, ℕ, suc, ◌+◌, Bool, true, false, cond, Option, Some, None, List, [], ◌∷◌, ◌++◌, take, drop, length, get_or, append_assoc, inl, inr, refl, sym, ◌∙◌, ap, subst, arith}
use Rattle.std.proofs.lemmas.Bool.{eqb-true}
use Rattle.std.proofs.lemmas.Bool.Decides.{nat_tests}
use Rattle.std.proofs.lemmas.List.{length-take-le, take-append-drop}
use Rattle.std.specs.Char.{is_ascii_digit}
use Rattle.std.specs.List.{prefix_len}
use Rattle.gr_script.proofs.Ends.{digits_len-some, path_len-some}
use Rattle.gr_script.specs.declared.token.Symbol.{Symbol}
use Rattle.gr_script.specs.declared.token.Token.{Token}
use Rattle.gr_script.specs.declared.token.Token.TheVariants.{Symbol as symbol, Digits as digits}
use Rattle.gr_script.specs.Longest.{AreAll, IsName, IsPath, a_name, a_dot, IsQuoted, a_quote, a_plain, an_escape, IsToken, a_short_mark, a_long_mark, some_digits, a_string, a_path}
use Rattle.gr_script.specs.Token.{digits_token, long_symbol, longer, path_token, short_symbol, text_token, token_at}
use Rattle.gr_text.proofs.Cases.{false_is, none_is, some_is}
use Rattle.gr_text.proofs.Names.{names_len-name, path_len-first}
use Rattle.gr_text.proofs.Quoted.{is_plain-IsPlain, string_from-plain}
use Rattle.gr_text.specs.Characters.{is_name_rest, is_name_start}
use Rattle.gr_text.specs.Digits.{digits_len, number_from, word_of}
use Rattle.gr_text.specs.Paths.{name_len, names_len, path_len}
use Rattle.gr_text.specs.Strings.{string_from, with_byte}

-- bytes that pass go on at least as far as they stand
reaches_all : (p : ℕ → Bool) (xs others : List ℕ) → AreAll p xs → length xs ≤ prefix_len p (xs ++ others)
reaches_all p [] others all = omega arith
reaches_all p (c ∷ cs) others all = let more = reaches_all p cs others all.1 in rw all.0 (omega arith)

-- and no further than that where one stands behind them that does not pass
ends_all : (p : ℕ → Bool) (xs : List ℕ) (d : ℕ) (others : List ℕ) → AreAll p xs → p d ≡ false → prefix_len p (xs ++ (d ∷ others)) ≡ length xs
ends_all p [] d others all fails = rw fails refl
ends_all p (c ∷ cs) d others all fails = let more = ends_all p cs d others all.1 fails in rw all.0 (omega (arith, more))

drop_front : (xs ys : List ℕ) → drop (length xs) (xs ++ ys) ≡ ys
drop_front [] ys = refl
drop_front (x ∷ xs) ys = drop_front xs ys

-- names
name_reaches : (xs others : List ℕ) → IsName xs → length xs ≤ name_len (xs ++ others)
name_reaches [] others name = absurd name
name_reaches (c ∷ cs) others name = let more = reaches_all is_name_rest cs others name.1 in rw name.0 (omega arith)

name_some : (xs : List ℕ) → IsName xs → 0 < length xs
name_some [] name = absurd name
name_some (c ∷ cs) name = omega arith

name_ends : (xs others : List ℕ) → IsName xs → name_len (xs ++ (46 ∷ others)) ≡ length xs
name_ends [] others name = absurd name
name_ends (c ∷ cs) others name = let more = ends_all is_name_rest cs 46 others name.1 refl in rw name.0 (omega (arith, more))

-- a path and what stands behind it, which begin with a name
record Reaches (xs others : List ℕ) : Type 0 where
  some : 0 < name_len (xs ++ others)
  far : length xs ≤ path_len (xs ++ others)

path_reaches : {xs : List ℕ} → IsPath xs → (others : List ℕ) → Reaches xs others
path_reaches {xs} (a_name name) others =
    let far = name_reaches xs others name in
    let some : 0 < name_len (xs ++ others) = omega (arith, far, name_some xs name) in
    record { some = some; far = omega (arith, far, path_len-first (xs ++ others) some) }
path_reaches {xs} (a_dot name rest parts is_name path) others =
    let behind : List ℕ = rest ++ others in
    let all : xs ++ others ≡ name ++ (46 ∷ behind) = ap (λ ys. ys ++ others) parts ∙ append_assoc name (46 ∷ rest) others in
    let r = path_reaches path others in
    let front = name_ends name behind is_name in
    let some : 0 < name_len (name ++ (46 ∷ behind)) = omega (arith, front, name_some name is_name) in
    let first : path_len (name ++ (46 ∷ behind)) ≡ length name + names_len 0 (46 ∷ behind) =
    path_len-first (name ++ (46 ∷ behind)) some ∙ ap (λ n. n + names_len 0 (drop n (name ++ (46 ∷ behind)))) front ∙ ap (λ ys. length name + names_len 0 ys) (drop_front name (46 ∷ behind)) in
    let more : names_len 0 (46 ∷ behind) ≡ 1 + path_len behind = names_len-name behind r.some ∙ one_more behind r.some in
    let counted : length xs ≡ length name + suc (length rest) = ap length parts ∙ length_parts name rest in
    record { some = rw all some; far = rw all (omega (arith, counted, first, more, r.far)) }
  where
    one_more : (ys : List ℕ) → 0 < name_len ys → 1 + name_len ys + names_len 0 (drop (name_len ys) ys) ≡ 1 + path_len ys
    one_more ys some = omega (arith, path_len-first ys some)

    length_parts : (name rest : List ℕ) → length (name ++ (46 ∷ rest)) ≡ length name + suc (length rest)
    length_parts [] rest = omega arith
    length_parts (c ∷ cs) rest = omega (arith, length_parts cs rest)

-- a string ends at the quote that closes it, whatever stands behind
record Closes (cs others : List ℕ) : Type 0 where
  text : List ℕ
  whole : string_from (cs ++ others) ≡ Some (text, length cs)

quote_closes : (others : List ℕ) → string_from (34 ∷ others) ≡ Some ([], 1)
quote_closes [] = refl
quote_closes (d ∷ rest) = refl

quoted_closes : {cs : List ℕ} → IsQuoted cs → (others : List ℕ) → Closes cs others
quoted_closes (a_quote e) others = record { text = []; whole = ap (λ c. string_from (c ∷ others)) e ∙ quote_closes others }
quoted_closes (a_plain {c = c} {cs = cs} plain q) others =
    let r = quoted_closes q others in
    let sum : 1 + length cs ≡ suc (length cs) = omega arith in
    record { text = c ∷ r.text; whole = string_from-plain (cs ++ others) (is_plain-IsPlain c plain) ∙ ap (with_byte c 1) r.whole ∙ ap (λ n. Some (c ∷ r.text, n)) sum }
quoted_closes (an_escape {d = d} {cs = cs} e q) others =
    let r = quoted_closes q others in
    let sum : 2 + length cs ≡ suc (suc (length cs)) = omega arith in
    record { text = d ∷ r.text; whole = ap (λ c. string_from (c ∷ d ∷ (cs ++ others))) e ∙ ap (with_byte d 2) r.whole ∙ ap (λ n. Some (d ∷ r.text, n)) sum }

-- a byte with which no string, no digits and no path begin
record IsMark (c : ℕ) : Type 0 where
  quote : (c == 34) ≡ false
  digit : is_ascii_digit c ≡ false
  name : is_name_start c ≡ false

mark_of : (k c : ℕ) (b : Bool) → IsMark k → (c == k && b) ≡ true → IsMark c
mark_of k c b mark e = subst IsMark (sym (eqb-true c k (left (c == k) b e))) mark
  where
    left : (a b : Bool) → (a && b) ≡ true → a ≡ true
    left true b e = refl
    left false b e = absurd (false_is e)

either : (b : Bool) (x y : Symbol) (other : Option Symbol) → cond b (Some x) other ≡ Some y → (b ≡ true) ⊎ (other ≡ Some y)
either true x y other e = inl refl
either false x y other e = inr e

mark_or : (k c : ℕ) (b : Bool) (x y : Symbol) (other : Option Symbol) → IsMark k → (other ≡ Some y → IsMark c) → cond (c == k && b) (Some x) other ≡ Some y → IsMark c
mark_or k c b x y other mark later e = pick (either (c == k && b) x y other e)
  where
    pick : ((c == k && b) ≡ true) ⊎ (other ≡ Some y) → IsMark c
    pick (inl t) = mark_of k c b mark t
    pick (inr o) = later o

a_mark : (k : ℕ) → (k == 34) ≡ false → is_ascii_digit k ≡ false → is_name_start k ≡ false → IsMark k
a_mark k q d n = record { quote = q; digit = d; name = n }

long_mark : (c d : ℕ) {mark : Symbol} → long_symbol c d ≡ Some mark → IsMark c
long_mark c d e =
    mark_or 124 c (d == 124) _ _ _ (a_mark 124 refl refl refl)
    (mark_or 38 c (d == 38) _ _ _ (a_mark 38 refl refl refl)
    (mark_or 38 c (d == 33) _ _ _ (a_mark 38 refl refl refl)
    (mark_or 61 c (d == 61) _ _ _ (a_mark 61 refl refl refl)
    (mark_or 33 c (d == 61) _ _ _ (a_mark 33 refl refl refl)
    (mark_or 60 c (d == 61) _ _ _ (a_mark 60 refl refl refl)
    (mark_or 62 c (d == 61) _ _ _ (a_mark 62 refl refl refl)
    (mark_or 64 c (d == 94) _ _ _ (a_mark 64 refl refl refl)
    (mark_or 64 c (d == 36) _ _ _ (a_mark 64 refl refl refl) (λ none. absurd (none_is none)))))))))) e

-- what is taken has a byte at least
text_some : (string : Option (List ℕ × ℕ)) {token : Token} {len : ℕ} → text_token string ≡ Some (token, len) → 0 < len
text_some None e = absurd (none_is e)
text_some (Some s) e = omega (arith, ap (λ f. f.1) (some_is e))

digits_is : (bytes : List ℕ) {token : Token} {len : ℕ} → digits_token bytes ≡ Some (token, len) → len ≡ digits_len bytes
digits_is bytes {token} {len} e = go (is_name_start (get_or bytes (digits_len bytes) 0)) e
  where
    taken : Token × ℕ
    taken = (digits (word_of (number_from bytes)), digits_len bytes)

    go : (b : Bool) → cond b None (Some taken) ≡ Some (token, len) → len ≡ digits_len bytes
    go true e = absurd (none_is e)
    go false e = sym (ap (λ f. f.1) (some_is e))

mark_some : (long short : Option Symbol) {token : Token} {len : ℕ} → longer long short ≡ Some (token, len) → 0 < len
mark_some (Some mark) short e = omega (arith, ap (λ f. f.1) (some_is e))
mark_some None (Some mark) e = omega (arith, ap (λ f. f.1) (some_is e))
mark_some None None e = absurd (none_is e)

taken_some : (c : ℕ) (cs : List ℕ) {token : Token} {len : ℕ} → token_at (c ∷ cs) ≡ Some (token, len) → 0 < len
taken_some c cs {token} {len} e = go (c == 34) (is_ascii_digit c) (is_name_start c) refl refl e
  where
    go : (q d n : Bool) → is_ascii_digit c ≡ d → is_name_start c ≡ n → cond q (text_token (string_from cs)) (cond d (digits_token (c ∷ cs)) (cond n (path_token (c ∷ cs)) (longer (long_symbol c (get_or cs 0 0)) (short_symbol c)))) ≡ Some (token, len) → 0 < len
    go true d n is name e = text_some (string_from cs) e
    go false true n is name e = omega (arith, digits_is (c ∷ cs) e, digits_len-some (c ∷ cs) is)
    go false false true is name e = omega (arith, ap (λ f. f.1) (some_is e), path_len-some (c ∷ cs) name)
    go false false false is name e = mark_some (long_symbol c (get_or cs 0 0)) (short_symbol c) e

digit_kind : (c : ℕ) → is_ascii_digit c ≡ true → (c == 34) ≡ false
digit_kind c digit = go (c == 34) refl
  where
    go : (b : Bool) → (c == 34) ≡ b → b ≡ false
    go true e = absurd (false_is (ap is_ascii_digit (sym (eqb-true c 34 e)) ∙ digit))
    go false e = refl

name_kind : (c : ℕ) → is_name_start c ≡ true → ((c == 34) ≡ false) × (is_ascii_digit c ≡ false)
name_kind c name = (quote (c == 34) refl, digit (is_ascii_digit c) refl)
  where
    quote : (b : Bool) → (c == 34) ≡ b → b ≡ false
    quote true e = absurd (false_is (ap is_name_start (sym (eqb-true c 34 e)) ∙ name))
    quote false e = refl

    digit : (b : Bool) → is_ascii_digit c ≡ b → b ≡ false
    digit true e = absurd (grind (arith, nat_tests))
    digit false e = refl

-- a first byte with which a name begins
record Begins (xs : List ℕ) : Type 0 where
  first : ℕ
  rest : List ℕ
  parts : xs ≡ first ∷ rest
  name : is_name_start first ≡ true

name_begins : (xs : List ℕ) → IsName xs → Begins xs
name_begins [] name = absurd name
name_begins (c ∷ cs) name = record { first = c; rest = cs; parts = refl; name = name.0 }

path_begins : {xs : List ℕ} → IsPath xs → Begins xs
path_begins {xs} (a_name name) = name_begins xs name
path_begins (a_dot name rest parts is_name path) =
    let b = name_begins name is_name in
    record { first = b.first; rest = b.rest ++ (46 ∷ rest); parts = parts ∙ ap (λ ys. ys ++ (46 ∷ rest)) b.parts; name = b.name }

-- what is taken where digits begin
second : {X : Type 0} (q d : Bool) (x y z w : X) → q ≡ false → d ≡ true → cond q x (cond d y z) ≡ w → y ≡ w
second true d x y z w quote digit e = absurd (false_is (sym quote))
second false true x y z w quote digit e = e
second false false x y z w quote digit e = absurd (false_is digit)

-- what is taken where a name begins
third : {X : Type 0} (q d n : Bool) (x y z v w : X) → q ≡ false → d ≡ false → n ≡ true → cond q x (cond d y (cond n z v)) ≡ w → z ≡ w
third true d n x y z v w quote digit name e = absurd (false_is (sym quote))
third false true n x y z v w quote digit name e = absurd (false_is (sym digit))
third false false true x y z v w quote digit name e = e
third false false false x y z v w quote digit name e = absurd (false_is name)

-- a token, with whatever stands behind it: what is taken there reaches as far
pub reaches : {xs : List ℕ} → IsToken xs → (others : List ℕ) {token : Token} {len : ℕ} → token_at (xs ++ others) ≡ Some (token, len) → length xs ≤ len
reaches (a_short_mark {c = c} e) others taken = omega (arith, taken_some c others taken)
reaches (a_long_mark {c = c} {d = d} {mark = mark} e) others {token} {len} taken =
    let is = long_mark c d e in
    let two : Some (symbol mark, 2) ≡ Some (token, len) = ap (λ o. longer o (short_symbol c)) (sym e) ∙ (rw (is.quote, is.digit, is.name) at taken) in
    omega (arith, ap (λ f. f.1) (some_is two))
reaches (some_digits {c = c} {cs = cs} all) others {token} {len} taken =
    let digits : digits_token (c ∷ (cs ++ others)) ≡ Some (token, len) = second (c == 34) (is_ascii_digit c) _ _ _ _ (digit_kind c all.0) all.0 taken in
    omega (arith, digits_is (c ∷ (cs ++ others)) digits, reaches_all is_ascii_digit (c ∷ cs) others all)
reaches (a_string {c = c} {cs = cs} e q) others {token} {len} taken =
    let closes = quoted_closes q others in
    let string : text_token (string_from (cs ++ others)) ≡ Some (token, len) = rw e at taken in
    let closed : text_token (Some (closes.text, length cs)) ≡ Some (token, len) = ap text_token (sym closes.whole) ∙ string in
    omega (arith, ap (λ f. f.1) (some_is closed))
reaches {xs} (a_path path) others {token} {len} taken = go xs path (path_begins path).parts (path_begins path).name taken
  where
    go : (xs : List ℕ) (path : IsPath xs) {c : ℕ} {cs : List ℕ} → xs ≡ c ∷ cs → is_name_start c ≡ true → token_at (xs ++ others) ≡ Some (token, len) → length xs ≤ len
    go xs path {c} {cs} same name taken =
        let kind = name_kind c name in
        let at_first : token_at (c ∷ (cs ++ others)) ≡ Some (token, len) = ap (λ ys. token_at (ys ++ others)) (sym same) ∙ taken in
        let taken_path : path_token (c ∷ (cs ++ others)) ≡ Some (token, len) = third (c == 34) (is_ascii_digit c) (is_name_start c) _ _ _ _ _ kind.0 kind.1 name at_first in
        let far = (path_reaches path others).far in
        let len_is : path_len (c ∷ (cs ++ others)) ≡ len = ap (λ f. f.1) (some_is taken_path) in
        omega (arith, far, len_is, ap (λ ys. path_len (ys ++ others)) same)

-- so no token that begins there goes further
pub longest : (bytes : List ℕ) (token : Token) (len more : ℕ) → token_at bytes ≡ Some (token, len) → len < more → more ≤ length bytes → IsToken (take more bytes) → ⊥
longest bytes token len more taken further within is =
    let far = reaches is (drop more bytes) (ap token_at (take-append-drop more bytes) ∙ taken) in
    omega (arith, far, length-take-le more bytes within)
