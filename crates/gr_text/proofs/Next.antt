-- What stands next in a text, behind its white space.
use Rattle.std.proofs.Common.{◌≡◌, ℕ, ◌+◌, ◌<◌, ◌≤◌, ◌≢◌, Option, Some, None, List, [], length, drop, sym, ap, ◌∙◌, arith}
use Rattle.std.proofs.lemmas.List.{drop-drop}
use Rattle.gr_text.specs.Characters.{white_space_len}
use Rattle.gr_text.specs.Cut.{cut_from, with_token}
use Rattle.gr_text.specs.Lexing.{behind}
use Rattle.gr_text.proofs.Cuts.{IsUnblanked, IsUnblanked-behind, cut_from-blanks, cut_from-end, cut_from-stranger, cut_from-token}

-- the bytes behind the white space that stands first
pub record IsBehindWhiteSpace (bytes rest : List ℕ) (blanks : ℕ) : Type 0 where
  pub counted : blanks ≡ white_space_len bytes
  pub kept : rest ≡ drop blanks bytes

pub above : (n : ℕ) → n ≢ 0 → 0 < n
above n differs = omega (arith, differs)

module _ {T : Type 0} (starts : List ℕ → Option (T × ℕ)) {bytes rest : List ℕ} {blanks : ℕ} (at : ℕ) (cut : IsBehindWhiteSpace bytes rest blanks) where
  unblanked : IsUnblanked rest
  unblanked = rw (cut.kept, cut.counted) (IsUnblanked-behind bytes)

  -- white space may be left out
  left-blanks : cut_from starts at 0 bytes ≡ cut_from starts (at + blanks) 0 rest
  left-blanks = rw (cut.kept, cut.counted) (cut_from-blanks starts at bytes)

  -- nothing stands there
  pub ended : length rest ≡ 0 → cut_from starts at 0 bytes ≡ record { tokens = []; stranger = None; length = at + blanks }
  ended none = left-blanks ∙ cut_from-end starts (at + blanks) rest none

  -- no token stands there
  pub strange : 0 < length rest → starts rest ≡ None → cut_from starts at 0 bytes ≡ record { tokens = []; stranger = Some (at + blanks); length = at + blanks + length rest }
  strange some none = left-blanks ∙ cut_from-stranger starts (at + blanks) rest unblanked some none

  -- where no token stands there, the same is left behind the white space
  pub behind-none : {stranger : Option ℕ} {end : ℕ} → cut_from starts at 0 bytes ≡ record { tokens = []; stranger = stranger; length = end } → cut_from starts (at + blanks) 0 (drop blanks bytes) ≡ behind (cut_from starts at 0 bytes)
  behind-none none = ap (cut_from starts (at + blanks) 0) (sym cut.kept) ∙ sym left-blanks ∙ none ∙ sym (ap behind none)

  -- a token stands there
  pub begun : {token : T} {len : ℕ} → starts rest ≡ Some (token, len) → 0 < len → len ≤ length rest → cut_from starts at 0 bytes ≡ with_token (at + blanks) token (cut_from starts (at + (blanks + len)) 0 (drop (blanks + len) bytes))
  begun {token} {len} found some within =
      let place : at + blanks + len ≡ at + (blanks + len) = omega arith in
      let kept : drop len rest ≡ drop (blanks + len) bytes = ap (drop len) cut.kept ∙ drop-drop len blanks bytes in
      left-blanks ∙ cut_from-token starts (at + blanks) rest token len unblanked found some within
      ∙ ap (λ n. with_token (at + blanks) token (cut_from starts n 0 (drop len rest))) place
      ∙ ap (λ bytes. with_token (at + blanks) token (cut_from starts (at + (blanks + len)) 0 bytes)) kept
