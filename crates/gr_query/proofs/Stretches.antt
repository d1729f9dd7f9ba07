-- Runs without an escape, and where the first escape of a run stands.
use Rattle.std.proofs.Common.{◌≡◌, ℕ, suc, ◌+◌, ◌-◌, ◌<◌, ◌==◌, Bool, true, false, cond, min, List, [], ◌∷◌, IsUtf8, length, take, drop, refl, sym, ap, subst, ◌∙◌, arith, one-add, get_or, length-drop, codes}
use Rattle.std.proofs.lemmas.Bool.Decides.{nat_tests}
use Rattle.std.proofs.lemmas.List.{get_or-take, length-take}
use Rattle.std.proofs.lemmas.List.Sums.{prefix_len-le-length, prefix_len_stops}
use Rattle.std.proofs.lemmas.Slice.Eq.{bytes_eq-Decides}
use Rattle.std.proofs.lemmas.Str.{IsUtf8-drop, IsUtf8-take, IsCharBoundary-before_ascii, IsCharBoundary-end}
use Rattle.std.specs.List.{prefix_len}
use Rattle.std.specs.Str.{IsCharBoundary, bytes_eq}
use Rattle.gr_query.specs.Inside.Reading.{HasEscape, unescaped}
use Rattle.gr_query.specs.Runs.{begins_escape, is_run, no_run, with_byte, run_from}

-- how many characters that stand for themselves come first
abbrev plain_len : List ℕ → ℕ
plain_len bytes = prefix_len is_run bytes

plain_no_escape : (c : ℕ) → is_run c ≡ true → (c == 92) ≡ false
plain_no_escape c plain = grind (arith, nat_tests)

ascii_stop : (c : ℕ) → is_run c ≡ false → c < 128
ascii_stop c stop = grind (arith, nat_tests)

-- one more character that stands for itself
unescaped-push : (c : ℕ) (bytes : List ℕ) → with_byte c 1 (c == 42) (unescaped bytes) ≡ unescaped (c ∷ bytes)
unescaped-push c [] = grind (arith, nat_tests)
unescaped-push c (d ∷ bytes) = grind (arith, nat_tests)

run-plain : (c : ℕ) (cs : List ℕ) → is_run c ≡ true → run_from (c ∷ cs) ≡ with_byte c 1 (c == 42) (run_from cs)
run-plain c cs plain = grind (arith, nat_tests, plain_no_escape c plain)

run-none : (c : ℕ) (cs : List ℕ) → is_run c ≡ false → begins_escape (c ∷ cs) ≡ false → run_from (c ∷ cs) ≡ no_run
run-none c [] stop none = grind (arith, nat_tests)
run-none c (d ∷ cs) stop none = grind (arith, nat_tests)

run-escape : (c : ℕ) (cs : List ℕ) → is_run c ≡ false → begins_escape (c ∷ cs) ≡ true → 1 < (run_from (c ∷ cs)).len
run-escape c [] stop escape = grind (arith, nat_tests)
run-escape c (d ∷ cs) stop escape = grind (arith, nat_tests)

-- where no escape stands behind them, they are the run
pub run_is : (bytes : List ℕ) → begins_escape (drop (plain_len bytes) bytes) ≡ false → run_from bytes ≡ unescaped (take (plain_len bytes) bytes)
run_is [] none = refl
run_is (c ∷ cs) none = by (is_run c) refl none (run_is cs)
  where
    by : (b : Bool) → is_run c ≡ b → begins_escape (drop (cond b (1 + plain_len cs) 0) (c ∷ cs)) ≡ false → (begins_escape (drop (plain_len cs) cs) ≡ false → run_from cs ≡ unescaped (take (plain_len cs) cs)) → run_from (c ∷ cs) ≡ unescaped (take (cond b (1 + plain_len cs) 0) (c ∷ cs))
    by false e none others = run-none c cs e none
    by true e none others =
        let sum : 1 + plain_len cs ≡ suc (plain_len cs) = omega arith in
        let later = others (subst (λ n. begins_escape (drop n (c ∷ cs)) ≡ false) sum none) in
        subst (λ n. run_from (c ∷ cs) ≡ unescaped (take n (c ∷ cs))) (sym sum) (run-plain c cs e ∙ ap (with_byte c 1 (c == 42)) later ∙ unescaped-push c (take (plain_len cs) cs))

-- where one does, the run goes on behind them
escape_len : (bytes : List ℕ) → begins_escape (drop (plain_len bytes) bytes) ≡ true → plain_len bytes + 1 < (run_from bytes).len
escape_len [] escape = grind (arith, nat_tests)
escape_len (c ∷ cs) escape = by (is_run c) refl escape (escape_len cs)
  where
    by : (b : Bool) → is_run c ≡ b → begins_escape (drop (cond b (1 + plain_len cs) 0) (c ∷ cs)) ≡ true → (begins_escape (drop (plain_len cs) cs) ≡ true → plain_len cs + 1 < (run_from cs).len) → cond b (1 + plain_len cs) 0 + 1 < (run_from (c ∷ cs)).len
    by false e escape others = run-escape c cs e escape
    by true e escape others =
        let more : plain_len cs + 1 < (run_from cs).len = others (rw one-add at escape) in
        omega (arith, more, ap (λ run. run.len) (run-plain c cs e))

behind_long : (bytes : List ℕ) → begins_escape bytes ≡ true → 1 < length bytes
behind_long bytes escape = grind (arith, nat_tests)

behind_first : (bytes : List ℕ) → begins_escape bytes ≡ true → get_or bytes 0 0 ≡ 92
behind_first bytes escape = grind (arith, nat_tests)

-- and the run is not the word OR
pub escape_is : (bytes : List ℕ) → begins_escape (drop (plain_len bytes) bytes) ≡ true → HasEscape bytes
escape_is bytes escape =
    let long : plain_len bytes + 1 < (run_from bytes).len = escape_len bytes escape in
    record { long = omega (arith, long); other = by long (bytes_eq (take (run_from bytes).len bytes) (codes "OR")) (bytes_eq-Decides (take (run_from bytes).len bytes) (codes "OR")).0 }
  where
    differ : (len : ℕ) → plain_len bytes + 1 < len → take len bytes ≡ 79 ∷ 82 ∷ [] → ⊥
    differ len long e =
        let n : ℕ = plain_len bytes in
        let counted : min len (length bytes) ≡ 2 = sym (length-take len bytes) ∙ ap length e in
        let behind : 1 < length bytes - n = subst (λ m. 1 < m) (length-drop n bytes) (behind_long (drop n bytes) escape) in
        let none : n ≡ 0 = grind (arith, counted, behind, long) in
        let first : get_or bytes 0 0 ≡ 79 = sym (get_or-take len bytes 0 0 (omega (arith, long))) ∙ ap (λ xs. get_or xs 0 0) e in
        let mark : get_or bytes 0 0 ≡ 92 = ap (λ n. get_or (drop n bytes) 0 0) (sym none) ∙ behind_first (drop n bytes) escape in
        omega (arith, first, mark)

    by : plain_len bytes + 1 < (run_from bytes).len → (b : Bool) → (b ≡ true → take (run_from bytes).len bytes ≡ codes "OR") → b ≡ false
    by long false same = refl
    by long true same = absurd (differ (run_from bytes).len long (same refl))

boundary : (bytes : List ℕ) → IsCharBoundary bytes (plain_len bytes)
boundary bytes = grind (arith, prefix_len-le-length is_run bytes, prefix_len_stops is_run bytes 0, ascii_stop (get_or bytes (plain_len bytes) 0), IsCharBoundary-before_ascii bytes (plain_len bytes), IsCharBoundary-end bytes)

-- they are a text, and so is what stands behind them
pub front_text : (bytes : List ℕ) → IsUtf8 bytes → IsUtf8 (take (plain_len bytes) bytes)
front_text bytes utf8 = IsUtf8-take bytes (plain_len bytes) utf8 (boundary bytes)

pub rest_text : (bytes : List ℕ) → IsUtf8 bytes → IsUtf8 (drop (plain_len bytes) bytes)
rest_text bytes utf8 = IsUtf8-drop bytes (plain_len bytes) utf8 (boundary bytes)
