-- How a text is cut token by token.
use Rattle.std.proofs.Common.{◌≡◌, ℕ, zero, suc, ◌+◌, ◌-◌, ◌≤◌, ◌<◌, Bool, true, false, cond, Option, Some, None, List, [], ◌∷◌, length, drop, refl, sym, ap, ◌∙◌, arith, one-add, add-zero}
use Rattle.gr_text.specs.Characters.{white_space_len, is_white_space}
use Rattle.gr_text.specs.Cut.{cut_at, cut_from, with_token}

module _ {T : Type 0} (token_at : List ℕ → Option (T × ℕ)) where
  -- what is still to pass may be left out
  pub cut_from-pass : (at pass : ℕ) (bytes : List ℕ) → pass ≤ length bytes → cut_from token_at at pass bytes ≡ cut_from token_at (at + pass) 0 (drop pass bytes)
  cut_from-pass at zero bytes within = rw add-zero refl
  cut_from-pass at (suc pass) [] within = absurd (omega arith)
  cut_from-pass at (suc pass) (c ∷ cs) within =
      let place : at + 1 + pass ≡ at + suc pass = omega arith in
      cut_from-pass (at + 1) pass cs (omega arith) ∙ ap (λ n. cut_from token_at n 0 (drop pass cs)) place

  -- and so may white space
  pub cut_from-blanks : (at : ℕ) (bytes : List ℕ) → cut_from token_at at 0 bytes ≡ cut_from token_at (at + white_space_len bytes) 0 (drop (white_space_len bytes) bytes)
  cut_from-blanks at [] = rw add-zero refl
  cut_from-blanks at (c ∷ cs) = by (is_white_space c) refl (cut_from-blanks (at + 1) cs)
    where
      by : (b : Bool) → is_white_space c ≡ b → cut_from token_at (at + 1) 0 cs ≡ cut_from token_at (at + 1 + white_space_len cs) 0 (drop (white_space_len cs) cs)
          → cut_from token_at at 0 (c ∷ cs) ≡ cut_from token_at (at + cond b (1 + white_space_len cs) 0) 0 (drop (cond b (1 + white_space_len cs) 0) (c ∷ cs))
      by true blank later =
          let place : at + 1 + white_space_len cs ≡ at + suc (white_space_len cs) = omega arith in
          rw (blank, one-add) (later ∙ ap (λ n. cut_from token_at n 0 (drop (white_space_len cs) cs)) place)
      by false blank later = rw add-zero refl

-- nothing, or a byte that is no white space first
abbrev pub IsUnblanked : List ℕ → Type 0
IsUnblanked [] = Unit {0}
IsUnblanked (c ∷ cs) = is_white_space c ≡ false

pub IsUnblanked-behind : (bytes : List ℕ) → IsUnblanked (drop (white_space_len bytes) bytes)
IsUnblanked-behind [] = tt
IsUnblanked-behind (c ∷ cs) = by (is_white_space c) refl (IsUnblanked-behind cs)
  where
    by : (b : Bool) → is_white_space c ≡ b → IsUnblanked (drop (white_space_len cs) cs) → IsUnblanked (drop (cond b (1 + white_space_len cs) 0) (c ∷ cs))
    by true blank later = rw one-add later
    by false blank later = blank

module _ {T : Type 0} (token_at : List ℕ → Option (T × ℕ)) where
  -- a text that ends here
  pub cut_from-end : (at : ℕ) (bytes : List ℕ) → length bytes ≡ 0 → cut_from token_at at 0 bytes ≡ record { tokens = []; stranger = None; length = at }
  cut_from-end at [] ended = refl
  cut_from-end at (c ∷ cs) ended = absurd (omega arith)

  -- a character that begins no token
  pub cut_from-stranger : (at : ℕ) (bytes : List ℕ) → IsUnblanked bytes → 0 < length bytes → token_at bytes ≡ None → cut_from token_at at 0 bytes ≡ record { tokens = []; stranger = Some at; length = at + length bytes }
  cut_from-stranger at [] unblanked some none = absurd (omega arith)
  cut_from-stranger at (c ∷ cs) unblanked some none = rw (unblanked, none) refl

  -- a token, and what is cut behind it
  pub cut_from-token : (at : ℕ) (bytes : List ℕ) (token : T) (len : ℕ) → IsUnblanked bytes → token_at bytes ≡ Some (token, len) → 0 < len → len ≤ length bytes → cut_from token_at at 0 bytes ≡ with_token at token (cut_from token_at (at + len) 0 (drop len bytes))
  cut_from-token at [] token len unblanked found some within = absurd (omega arith)
  cut_from-token at (c ∷ cs) token zero unblanked found some within = absurd (omega arith)
  cut_from-token at (c ∷ cs) token (suc len) unblanked found some within =
      let place : at + 1 + len ≡ at + suc len = omega arith in
      let less : suc len - 1 ≡ len = omega arith in
      rw (unblanked, found, less) (ap (with_token at token) (cut_from-pass token_at (at + 1) len cs (omega arith) ∙ ap (λ n. cut_from token_at n 0 (drop len cs)) place))

  -- a text is cut whole
  pub length-cut_from : (at pass : ℕ) (bytes : List ℕ) → (cut_from token_at at pass bytes).length ≡ at + length bytes
  length-cut_from at pass [] = sym (add-zero at)
  length-cut_from at zero (c ∷ cs) = blank (is_white_space c) (λ pass. length-cut_from (at + 1) pass cs)
    where
      token : (found : Option (T × ℕ)) → ((pass : ℕ) → (cut_from token_at (at + 1) pass cs).length ≡ at + 1 + length cs) → (cut_at at (length (c ∷ cs)) (λ pass. cut_from token_at (at + 1) pass cs) found).length ≡ at + length (c ∷ cs)
      token None later = refl
      token (Some t) later = later (t.1 - 1) ∙ omega arith

      blank : (b : Bool) → ((pass : ℕ) → (cut_from token_at (at + 1) pass cs).length ≡ at + 1 + length cs) → (cond b (cut_from token_at (at + 1) zero cs) (cut_at at (length (c ∷ cs)) (λ pass. cut_from token_at (at + 1) pass cs) (token_at (c ∷ cs)))).length ≡ at + length (c ∷ cs)
      blank true later = later zero ∙ omega arith
      blank false later = token (token_at (c ∷ cs)) later
  length-cut_from at (suc pass) (c ∷ cs) = length-cut_from (at + 1) pass cs ∙ omega arith
