-- How a run is read character by character.
use Rattle.std.proofs.Common.{◌≡◌, ℕ, ◌+◌, ◌-◌, ◌<◌, ◌≤◌, ◌==◌, cond, Bool, true, false, List, [], ◌∷◌, ◌++◌, IsUtf8, length, drop, refl, sym, ap, subst, ◌∙◌, arith, append_assoc, add-zero, get_or, length-append, length-drop}
use Rattle.std.proofs.lemmas.Bool.{ne_eqb}
use Rattle.std.proofs.lemmas.List.{drop-drop}
use Rattle.std.proofs.lemmas.Str.{IsUtf8-append, IsUtf8-drop, IsUtf8-take, IsCharBoundary-after_ascii, IsCharBoundary-before_ascii, IsCharBoundary-from_rest}
use Rattle.std.proofs.Math.Seq.{drop-append-add, drop-append_seam, get_or-append_seam, take-append_seam}
use Rattle.std.specs.Bool.{OnTrue}
use Rattle.std.specs.Str.{IsCharBoundary}
use Rattle.gr_query.specs.Inside.Reading.{EndsInStar}
use Rattle.gr_query.specs.Runs.{CharacterRun, is_run, no_run, with_byte, run_behind, run_from}

-- a run behind what was read: this text, of so many bytes, with a star last or none
abbrev pub behind : List ℕ → ℕ → Bool → CharacterRun → CharacterRun
behind text read is_starred run = record { text = text ++ run.text; len = read + run.len; is_starred = cond (run.len == 0) is_starred run.is_starred }

-- So much of a run is read, this text is meant by it, and this is still to be read.
pub record AreRead (bytes text rest : List ℕ) (is_starred : Bool) : Type 0 where
  pub read : ℕ
  pub counted : read + length rest ≡ length bytes
  pub kept : rest ≡ drop read bytes
  pub whole : run_from bytes ≡ behind text read is_starred (run_from rest)
  pub star : OnTrue is_starred (EndsInStar text)
  pub utf8 : IsUtf8 bytes → IsUtf8 (text ++ rest)

not_zero : (n m : ℕ) → 0 < n → (n + m == 0) ≡ false
not_zero n m h = ne_eqb (n + m) 0 (λ e. omega arith)

-- where nothing is read, there is no star
abbrev IsUnstarred : CharacterRun → Type 0
IsUnstarred run = cond (run.len == 0) false run.is_starred ≡ run.is_starred

unstarred-with_byte : (c read : ℕ) (is_star : Bool) (run : CharacterRun) → 0 < read → IsUnstarred (with_byte c read is_star run)
unstarred-with_byte c read is_star run some = subst (λ b. cond b false (cond (run.len == 0) is_star run.is_starred) ≡ cond (run.len == 0) is_star run.is_starred) (sym (not_zero read run.len some)) refl

unstarred : (escaped : Bool) (bytes : List ℕ) → IsUnstarred (run_behind escaped bytes)
unstarred escaped [] = refl
unstarred true (c ∷ cs) = unstarred-with_byte c 2 false (run_behind false cs) (omega arith)
unstarred false (c ∷ cs) = by (c == 92) (is_run c) (unstarred true cs)
  where
    by : (a b : Bool) → IsUnstarred (run_behind true cs) → IsUnstarred (cond a (run_behind true cs) (cond b (with_byte c 1 (c == 42) (run_behind false cs)) no_run))
    by true b later = later
    by false true later = unstarred-with_byte c 1 (c == 42) (run_behind false cs) (omega arith)
    by false false later = refl

abbrev made : List ℕ → ℕ → Bool → CharacterRun
made text len is_starred = record { text = text; len = len; is_starred = is_starred }

behind-nil : (run : CharacterRun) → IsUnstarred run → behind [] 0 false run ≡ run
behind-nil run e =
    let len : 0 + run.len ≡ run.len = omega arith in
    ap (λ n. made run.text n (cond (run.len == 0) false run.is_starred)) len ∙ ap (made run.text run.len) e

behind-with_byte : (text : List ℕ) (read : ℕ) (last : Bool) (c more : ℕ) (is_star : Bool) (run : CharacterRun) → 0 < more → behind text read last (with_byte c more is_star run) ≡ behind (text ++ c ∷ []) (read + more) is_star run
behind-with_byte text read last c more is_star run some =
    let starred : Bool = cond (run.len == 0) is_star run.is_starred in
    let len : read + (more + run.len) ≡ read + more + run.len = omega arith in
    ap (λ b. made (text ++ (c ∷ run.text)) (read + (more + run.len)) (cond b last starred)) (not_zero more run.len some)
    ∙ ap (λ n. made (text ++ (c ∷ run.text)) n starred) len
    ∙ ap (λ t. made t (read + more + run.len) starred) (sym (append_assoc text (c ∷ []) run.text))

-- nothing is read yet
pub AreRead-none : (bytes : List ℕ) → AreRead bytes [] bytes false
AreRead-none bytes = record { read = 0; counted = omega arith; kept = refl; whole = sym (behind-nil (run_from bytes) (unstarred false bytes)); star = tt; utf8 = λ h. h }

-- one more byte is read
pub AreRead-push : {bytes text rest : List ℕ} {last : Bool} → AreRead bytes text rest last → {c more : ℕ} {is_star : Bool} → 0 < more → more ≤ length rest → run_from rest ≡ with_byte c more is_star (run_from (drop more rest)) → OnTrue is_star (c ≡ 42) → ((front : List ℕ) → IsUtf8 (front ++ rest) → IsUtf8 (front ++ c ∷ drop more rest)) → AreRead bytes (text ++ c ∷ []) (drop more rest) is_star
AreRead-push {bytes} {text} {rest} {last} are {c} {more} {is_star} some within further star utf8 = record {
  read = are.read + more;
  counted = omega (arith, are.counted, length-drop more rest);
  kept = ap (drop more) are.kept ∙ drop-drop more are.read bytes;
  whole = are.whole ∙ ap (behind text are.read last) further ∙ behind-with_byte text are.read last c more is_star (run_from (drop more rest)) some;
  star = ends is_star star;
  utf8 = λ h. subst IsUtf8 (sym (append_assoc text (c ∷ []) (drop more rest))) (utf8 text (are.utf8 h));
}
  where
    ends : (b : Bool) → OnTrue b (c ≡ 42) → OnTrue b (EndsInStar (text ++ c ∷ []))
    ends true e = record { front = text; parts = ap (λ c. text ++ c ∷ []) e }
    ends false e = tt

-- what is meant by a run that ends here is a text
pub AreRead-text : {bytes text rest : List ℕ} {last : Bool} → AreRead bytes text rest last → IsCharBoundary rest 0 → IsUtf8 bytes → IsUtf8 text
AreRead-text {bytes} {text} {rest} are stop utf8 =
    let whole : IsUtf8 (text ++ rest) = are.utf8 utf8 in
    let within : length text ≤ length (text ++ rest) = omega (arith, length-append text rest) in
    let here : IsCharBoundary (text ++ rest) (length text + 0) = IsCharBoundary-from_rest (text ++ rest) (length text) 0 within (subst (λ xs. IsCharBoundary xs 0) (sym (drop-append_seam text rest)) stop) in
    subst IsUtf8 (take-append_seam text rest) (IsUtf8-take (text ++ rest) (length text) whole (subst (IsCharBoundary (text ++ rest)) (add-zero (length text)) here))

-- and so is what stands behind it
pub AreRead-rest : {bytes text rest : List ℕ} {last : Bool} → AreRead bytes text rest last → IsCharBoundary rest 0 → IsUtf8 bytes → IsUtf8 (drop (length bytes - length rest) bytes)
AreRead-rest {bytes} {text} {rest} are stop utf8 =
    let read : are.read ≡ length bytes - length rest = omega (arith, are.counted) in
    let within : are.read ≤ length bytes = omega (arith, are.counted) in
    let here : IsCharBoundary bytes (are.read + 0) = IsCharBoundary-from_rest bytes are.read 0 within (subst (λ xs. IsCharBoundary xs 0) are.kept stop) in
    subst (λ n. IsUtf8 (drop n bytes)) read (IsUtf8-drop bytes are.read utf8 (subst (IsCharBoundary bytes) (add-zero are.read) here))

-- a text without one byte of ASCII in it is a text
without : (front others : List ℕ) (c : ℕ) → c < 128 → IsUtf8 (front ++ c ∷ others) → IsUtf8 (front ++ others)
without front others c ascii utf8 =
    let whole : List ℕ = front ++ c ∷ others in
    let n : ℕ = length front in
    let within : n < length whole = omega (arith, length-append front (c ∷ others)) in
    let at : get_or whole n 0 < 128 = subst (λ b. b < 128) (sym (get_or-append_seam front c others 0)) ascii in
    let first : IsUtf8 front = subst IsUtf8 (take-append_seam front (c ∷ others)) (IsUtf8-take whole n utf8 (IsCharBoundary-before_ascii whole n within at)) in
    let second : IsUtf8 others = subst IsUtf8 (drop-append-add front (c ∷ others) 1) (IsUtf8-drop whole (n + 1) utf8 (IsCharBoundary-after_ascii whole n utf8 within at)) in
    IsUtf8-append front others first second

-- an escape is left out
pub IsUtf8-escaped : {bytes others rest : List ℕ} {first c : ℕ} → bytes ≡ first ∷ others → first ≡ 92 → others ≡ c ∷ rest → (front : List ℕ) → IsUtf8 (front ++ bytes) → IsUtf8 (front ++ c ∷ drop 2 bytes)
IsUtf8-escaped {bytes} {others} {rest} {first} {c} parts escape next front =
    let whole : bytes ≡ 92 ∷ c ∷ rest = parts ∙ ap (λ b. b ∷ others) escape ∙ ap (λ xs. 92 ∷ xs) next in
    subst (λ bytes. IsUtf8 (front ++ bytes) → IsUtf8 (front ++ c ∷ drop 2 bytes)) (sym whole) (without front (c ∷ rest) 92 (omega arith))
