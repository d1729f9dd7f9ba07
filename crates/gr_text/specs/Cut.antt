-- How a text is cut into tokens.
use Rattle.std.specs.Prelude.{ℕ, zero, suc, ◌+◌, ◌-◌, if◌then◌else◌, Option, Some, None, List, [], ◌∷◌, length as count}
use Rattle.gr_text.specs.Characters.{is_white_space}

-- a token at its byte place
pub record Placed (T : Type 0) : Type 0 where
  pub at : ℕ
  pub token : T

-- The tokens of a text before the first place where a character that is no white space begins no token; that place; the length of the text.
pub record Cut (T : Type 0) : Type 0 where
  pub tokens : List (Placed T)
  pub stranger : Option ℕ
  pub length : ℕ

-- one more token, before the others
abbrev pub with_token : {T : Type 0} → ℕ → T → Cut T → Cut T
with_token at token others = record { tokens = record { at = at; token = token } ∷ others.tokens; stranger = others.stranger; length = others.length }

-- a token here, and what is cut behind it; or a place with none, and so many bytes from there on
abbrev pub cut_at : {T : Type 0} → ℕ → ℕ → (ℕ → Cut T) → Option (T × ℕ) → Cut T
cut_at at left behind None = record { tokens = []; stranger = Some at; length = at + left }
cut_at at left behind (Some (token, len)) = with_token at token (behind (len - 1))

-- the tokens from this place on, where so many bytes of the last token are still to pass
abbrev pub cut_from : {T : Type 0} → (List ℕ → Option (T × ℕ)) → ℕ → ℕ → List ℕ → Cut T
cut_from token_at at pass [] = record { tokens = []; stranger = None; length = at }
cut_from token_at at zero (c ∷ cs) =
    if is_white_space c then cut_from token_at (at + 1) zero cs
    else cut_at at (count (c ∷ cs)) (λ pass. cut_from token_at (at + 1) pass cs) (token_at (c ∷ cs))
cut_from token_at at (suc pass) (c ∷ cs) = cut_from token_at (at + 1) pass cs

-- a text's tokens, given what token, of how many bytes, some bytes begin with
abbrev pub cut : {T : Type 0} → (List ℕ → Option (T × ℕ)) → List ℕ → Cut T
cut token_at text = cut_from token_at 0 0 text
