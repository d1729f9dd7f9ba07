-- White space at an end of a text, cut off.
use Rattle.std.specs.Prelude.{◌≡◌, ℕ, true, false, List, [], ◌∷◌, ◌++◌, Option, MatchOption}
use Rattle.std.specs.Borrow.{Bor}
use Rattle.gr_text.specs.Characters.{is_white_space}

-- what stands after the white space byte that a text begins with; none where it begins with no such byte
abbrev pub IsAfterWhite : List ℕ → Option (Bor (List ℕ)) → Type 0
IsAfterWhite text rest = MatchOption rest
    ((c : ℕ) (rest : List ℕ) → text ≡ c ∷ rest → is_white_space c ≡ false)
    (λ rest. (c : ℕ) × (text ≡ c ∷ rest.now) × (is_white_space c ≡ true))

-- what stands before the white space byte that a text ends with; none where it ends with no such byte
abbrev pub IsBeforeWhite : List ℕ → Option (Bor (List ℕ)) → Type 0
IsBeforeWhite text front = MatchOption front
    ((c : ℕ) (front : List ℕ) → text ≡ front ++ c ∷ [] → is_white_space c ≡ false)
    (λ front. (c : ℕ) × (text ≡ front.now ++ c ∷ []) × (is_white_space c ≡ true))
