-- Where the tokens of a query end.
use Rattle.std.proofs.Common.{◌≡◌, ℕ, suc, ◌+◌, ◌-◌, ◌<◌, Option, Some, None, Result, Ok, Err, IfOk, IfSome, List, [], ◌∷◌, ◌++◌, IsUtf8, length, take, drop, sym, ap, subst, ◌∙◌, arith, get_or, length-append}
use Rattle.std.proofs.lemmas.List.{drop-drop}
use Rattle.std.proofs.lemmas.Str.{IsUtf8-take, IsCharBoundary-before_ascii}
use Rattle.std.proofs.Math.Seq.{get_or-append_seam, take-append_seam}
use Rattle.gr_query.specs.Inside.Lexing.{IsHeldBehind, IsText}
use Rattle.gr_query.specs.Inside.Reading.{EndsInStar}
use Rattle.gr_query.specs.declared.token.Token.{Token}
use Rattle.gr_text.proofs.Ascii.{IsUtf8-behind}
use Rattle.gr_text.specs.Lexing.{IsHeld}

-- what stands behind one byte of ASCII
pub IsUtf8-behind_one : {bytes others : List ℕ} {c : ℕ} → bytes ≡ c ∷ others → c < 128 → IsUtf8 bytes → IsUtf8 (drop 1 bytes)
IsUtf8-behind_one {bytes} {others} {c} parts ascii = subst (λ bytes. IsUtf8 bytes → IsUtf8 (drop 1 bytes)) (sym parts) (IsUtf8-behind 1 (c ∷ others) (ascii, tt))

pub IsUtf8-others : {bytes others : List ℕ} {c : ℕ} → bytes ≡ c ∷ others → c < 128 → IsUtf8 bytes → IsUtf8 others
IsUtf8-others {bytes} {others} {c} parts ascii utf8 = IsUtf8-behind 1 (c ∷ others) (ascii, tt) (subst IsUtf8 parts utf8)

-- what stands behind a byte of ASCII and what belongs to it
pub IsUtf8-behind_more : {bytes others : List ℕ} {c n : ℕ} → bytes ≡ c ∷ others → c < 128 → 0 < n → (IsUtf8 others → IsUtf8 (drop (n - 1) others)) → IsUtf8 bytes → IsUtf8 (drop n bytes)
IsUtf8-behind_more {bytes} {others} {c} {n} parts ascii some more utf8 =
    let sum : 1 + (n - 1) ≡ n = omega (arith, some) in
    subst IsUtf8 (ap (drop (n - 1)) (sym (ap (drop 1) parts)) ∙ drop-drop (n - 1) 1 bytes ∙ ap (λ n. drop n bytes) sum) (more (IsUtf8-others parts ascii utf8))

-- what stands behind a path and one byte
pub behind_mark : (bytes : List ℕ) {behind rest : List ℕ} {c len n : ℕ} → len ≡ n → behind ≡ drop len bytes → behind ≡ c ∷ rest → rest ≡ drop (suc n) bytes
behind_mark bytes {behind} {rest} {c} {len} {n} same kept parts =
    let sum : len + 1 ≡ suc n = omega (arith, same) in
    sym (ap (drop 1) parts) ∙ ap (drop 1) kept ∙ drop-drop 1 len bytes ∙ ap (λ n. drop n bytes) sum

-- a token of one byte
pub IsHeld-mark : {bytes others : List ℕ} {c : ℕ} {token : Token} → bytes ≡ c ∷ others → c < 128 → IsText token → IsUtf8 bytes → IsHeld IsText bytes (token, 1)
IsHeld-mark parts ascii text utf8 = record { some = omega arith; within = omega (arith, ap length parts); text = text; rest = IsUtf8-behind_one parts ascii utf8 }

-- a token that goes on behind some bytes of it
pub IsHeld-behind : (bytes : List ℕ) {rest : List ℕ} {read : ℕ} {token : Token} {len : ℕ} → 0 < read → rest ≡ drop read bytes → read + length rest ≡ length bytes → IsHeldBehind read rest (token, len) → IsHeld IsText bytes (token, len)
IsHeld-behind bytes {rest} {read} {token} {len} some kept counted held = record {
  some = omega (arith, held.counted);
  within = omega (arith, held.counted, held.within, counted);
  text = held.text;
  rest = subst IsUtf8 (ap (drop held.more) kept ∙ drop-drop held.more read bytes ∙ ap (λ n. drop n bytes) (sym held.counted)) held.rest;
}

-- the same of what was found, if it was
pub IsHeld-found : {E : Type 0} (bytes : List ℕ) {rest : List ℕ} {read : ℕ} (result : Result (Option (Token × ℕ)) E) → 0 < read → rest ≡ drop read bytes → read + length rest ≡ length bytes → IfOk result (λ found. IfSome found (IsHeldBehind read rest)) → IfOk result (λ found. IfSome found (IsHeld IsText bytes))
IsHeld-found bytes (Ok (Some found)) some kept counted held = IsHeld-behind bytes some kept counted held
IsHeld-found bytes (Ok None) some kept counted held = tt
IsHeld-found bytes (Err e) some kept counted held = tt

-- a text that ends in `*` is one without it too
pub IsUtf8-front : {text front : List ℕ} → text ≡ front ++ 42 ∷ [] → IsUtf8 text → IsUtf8 front
IsUtf8-front {text} {front} parts utf8 =
    let n : ℕ = length front in
    let counted : length text ≡ n + 1 = ap length parts ∙ length-append front (42 ∷ []) in
    let at : get_or text n 0 ≡ 42 = ap (λ text. get_or text n 0) parts ∙ get_or-append_seam front 42 [] 0 in
    let cut : IsUtf8 (take n text) = IsUtf8-take text n utf8 (IsCharBoundary-before_ascii text n (omega (arith, counted)) (omega (arith, at))) in
    subst IsUtf8 (ap (take n) parts ∙ take-append_seam front (42 ∷ [])) cut

pub IsUtf8-unstarred : {text : List ℕ} → EndsInStar text → IsUtf8 text → IsUtf8 (take (length text - 1) text)
IsUtf8-unstarred {text} star utf8 =
    let n : ℕ = length star.front in
    let counted : length text ≡ n + 1 = ap length star.parts ∙ length-append star.front (42 ∷ []) in
    let same : length text - 1 ≡ n = omega (arith, counted) in
    let front : take (length text - 1) text ≡ star.front = ap (λ n. take n text) same ∙ ap (take n) star.parts ∙ take-append_seam star.front (42 ∷ []) in
    subst IsUtf8 (sym front) (IsUtf8-front star.parts utf8)
