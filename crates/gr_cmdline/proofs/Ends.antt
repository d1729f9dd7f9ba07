-- What stands at the ends of a line.
use Rattle.std.proofs.Common.{◌≡◌, ◌<◌, ◌+◌, ◌-◌, ◌==◌, ◌&&◌, ℕ, true, false, cond, List, [], ◌∷◌, ◌++◌, get_or, length, take, refl, sym, ap, ◌∙◌, arith}
use Rattle.std.proofs.lemmas.List.{length-append, take_all, take_more}
use Rattle.std.proofs.lemmas.Bool.{ne_eqb}
use Rattle.std.proofs.Common.{eq-eqb}
use Rattle.gr_cmdline.specs.Line.{in_front, up_to_last, without_return}
use Rattle.gr_base.specs.Text.{is_blank}

-- a list is its front and its last element
split_last : (line : List ℕ) → 0 < length line → line ≡ take (length line - 1) line ++ get_or line (length line - 1) 0 ∷ []
split_last line some =
    let below : length line - 1 < length line = omega arith in
    let count : length line - 1 + 1 ≡ length line = omega arith in
    sym (take_all (length line) line (omega arith)) ∙ ap (λ n. take n line) (sym count) ∙ take_more line (length line - 1) 0 below

-- a byte in front of others
in_front-some : (c : ℕ) (cs : List ℕ) → 0 < length cs → in_front c cs ≡ c ∷ cs
in_front-some c cs some =
    ap (λ b. cond (is_blank c && b) [] (c ∷ cs)) (ne_eqb (length cs) 0 (λ none. omega arith))
    ∙ elim (is_blank c) as (λ b. cond (b && false) [] (c ∷ cs) ≡ c ∷ cs) [ true ↦ refl | false ↦ refl ]

up_to_last-blank : (front : List ℕ) (c : ℕ) → is_blank c ≡ true → up_to_last (front ++ c ∷ []) ≡ up_to_last front
up_to_last-blank [] c blank = ap (λ b. cond (b && true) [] (c ∷ [])) blank
up_to_last-blank (d ∷ ds) c blank = ap (in_front d) (up_to_last-blank ds c blank)

up_to_last-other : (front : List ℕ) (c : ℕ) → is_blank c ≡ false → up_to_last (front ++ c ∷ []) ≡ front ++ c ∷ []
up_to_last-other [] c other = ap (λ b. cond (b && true) [] (c ∷ [])) other
up_to_last-other (d ∷ ds) c other =
    ap (in_front d) (up_to_last-other ds c other) ∙ in_front-some d (ds ++ c ∷ []) (omega (arith, length-append ds (c ∷ [])))

-- a blank at the end is left out
pub up_to_last-cut : (line : List ℕ) → 0 < length line → is_blank (get_or line (length line - 1) 0) ≡ true → up_to_last line ≡ up_to_last (take (length line - 1) line)
up_to_last-cut line some blank = ap up_to_last (split_last line some) ∙ up_to_last-blank (take (length line - 1) line) (get_or line (length line - 1) 0) blank

-- another byte at the end stays
pub up_to_last-kept : (line : List ℕ) → 0 < length line → is_blank (get_or line (length line - 1) 0) ≡ false → up_to_last line ≡ line
up_to_last-kept line some other = ap up_to_last (split_last line some) ∙ up_to_last-other (take (length line - 1) line) (get_or line (length line - 1) 0) other ∙ sym (split_last line some)

without_return-yes : (front : List ℕ) (c : ℕ) → (c == 13) ≡ true → without_return (front ++ c ∷ []) ≡ front
without_return-yes [] c is = ap (λ b. cond b [] (c ∷ [])) is
without_return-yes (d ∷ []) c is = ap (λ rest. d ∷ rest) (ap (λ b. cond b [] (c ∷ [])) is)
without_return-yes (d ∷ e ∷ es) c is = ap (λ rest. d ∷ rest) (without_return-yes (e ∷ es) c is)

without_return-no : (front : List ℕ) (c : ℕ) → (c == 13) ≡ false → without_return (front ++ c ∷ []) ≡ front ++ c ∷ []
without_return-no [] c is = ap (λ b. cond b [] (c ∷ [])) is
without_return-no (d ∷ []) c is = ap (λ rest. d ∷ rest) (ap (λ b. cond b [] (c ∷ [])) is)
without_return-no (d ∷ e ∷ es) c is = ap (λ rest. d ∷ rest) (without_return-no (e ∷ es) c is)

-- a carriage return at the end is left out
pub without_return-cut : (line : List ℕ) → 0 < length line → get_or line (length line - 1) 0 ≡ 13 → take (length line - 1) line ≡ without_return line
without_return-cut line some is = sym (ap without_return (split_last line some) ∙ without_return-yes (take (length line - 1) line) (get_or line (length line - 1) 0) (eq-eqb (get_or line (length line - 1) 0) 13 is))

-- another byte at the end stays
pub without_return-kept : (line : List ℕ) → 0 < length line → (get_or line (length line - 1) 0 ≡ 13 → ⊥) → line ≡ without_return line
without_return-kept line some other =
    split_last line some ∙ sym (ap without_return (split_last line some) ∙ without_return-no (take (length line - 1) line) (get_or line (length line - 1) 0) (ne_eqb (get_or line (length line - 1) 0) 13 other))
