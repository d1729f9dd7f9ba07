-- Blanks at the ends of a text.
use Rattle.std.proofs.Common.{◌≡◌, ◌≢◌, ℕ, ◌<◌, ◌&&◌, true, false, cond, List, [], ◌∷◌, ◌++◌, length, length-append, MatchOption, Option, Some, None, Bor, refl, sym, ap, ◌∙◌, arith, ne_eqb}
use Rattle.gr_base.specs.Text.{is_blank}
use Rattle.gr_rows.specs.Names.{from_first, in_front, up_to_last}

-- a byte that is neither is no blank
other_byte : (c : ℕ) → c ≢ 32 → c ≢ 9 → is_blank c ≡ false
other_byte c space tab = rw (ne_eqb c 32 space, ne_eqb c 9 tab) refl

-- what `strip_prefix` says of a byte
abbrev IsAfter : ℕ → List ℕ → Option (Bor (List ℕ)) → Type 0
IsAfter c text rest = MatchOption rest ((rest : List ℕ) → text ≢ c ∷ rest) (λ rest. text ≡ c ∷ rest.now)

-- what `strip_suffix` says of a byte
abbrev IsBefore : ℕ → List ℕ → Option (Bor (List ℕ)) → Type 0
IsBefore c text front = MatchOption front ((front : List ℕ) → text ≢ front ++ c ∷ []) (λ front. text ≡ front.now ++ c ∷ [])

abbrev pub AfterBlank : List ℕ → Option (Bor (List ℕ)) → Type 0
AfterBlank text rest = MatchOption rest
    ((c : ℕ) (rest : List ℕ) → text ≡ c ∷ rest → is_blank c ≡ false)
    (λ rest. (c : ℕ) × (text ≡ c ∷ rest.now) × (is_blank c ≡ true))

abbrev pub BeforeBlank : List ℕ → Option (Bor (List ℕ)) → Type 0
BeforeBlank text front = MatchOption front
    ((c : ℕ) (front : List ℕ) → text ≡ front ++ c ∷ [] → is_blank c ≡ false)
    (λ front. (c : ℕ) × (text ≡ front.now ++ c ∷ []) × (is_blank c ≡ true))

-- a space is stripped
pub after_space : (text : List ℕ) (rest : Bor (List ℕ)) → IsAfter 32 text (Some rest) → AfterBlank text (Some rest)
after_space text rest at = (32, at, refl)

-- a tab is stripped, or nothing, where no space stands
pub after_tab : (text : List ℕ) (rest : Option (Bor (List ℕ))) → IsAfter 32 text None → IsAfter 9 text rest → AfterBlank text rest
after_tab text None space tab = λ c rest e. other_byte c (λ is. space rest (e ∙ ap (λ d. d ∷ rest) is)) (λ is. tab rest (e ∙ ap (λ d. d ∷ rest) is))
after_tab text (Some rest) space tab = (9, tab, refl)

pub before_space : (text : List ℕ) (front : Bor (List ℕ)) → IsBefore 32 text (Some front) → BeforeBlank text (Some front)
before_space text front at = (32, at, refl)

pub before_tab : (text : List ℕ) (front : Option (Bor (List ℕ))) → IsBefore 32 text None → IsBefore 9 text front → BeforeBlank text front
before_tab text None space tab = λ c front e. other_byte c (λ is. space front (e ∙ ap (λ d. front ++ d ∷ []) is)) (λ is. tab front (e ∙ ap (λ d. front ++ d ∷ []) is))
before_tab text (Some front) space tab = (9, tab, refl)

-- a blank at the beginning is left out
pub from_first-cut : (text : List ℕ) (rest : Bor (List ℕ)) → AfterBlank text (Some rest) → from_first text ≡ from_first rest.now
from_first-cut text rest at = ap from_first at.1 ∙ ap (λ b. cond b (from_first rest.now) (at.0 ∷ rest.now)) at.2

-- where no blank begins it, a text stays
pub from_first-kept : (text : List ℕ) → AfterBlank text None → from_first text ≡ text
from_first-kept [] at = refl
from_first-kept (c ∷ cs) at = ap (λ b. cond b (from_first cs) (c ∷ cs)) (at c cs refl)

-- a text without its first or its last byte is shorter
pub after-shorter : (text : List ℕ) (rest : Bor (List ℕ)) → AfterBlank text (Some rest) → length rest.now < length text
after-shorter text rest at = rw at.1 (omega arith)

pub before-shorter : (text : List ℕ) (front : Bor (List ℕ)) → BeforeBlank text (Some front) → length front.now < length text
before-shorter text front at = rw at.1 (omega (arith, length-append front.now (at.0 ∷ [])))

-- a byte in front of others
in_front-some : (c : ℕ) (cs : List ℕ) → 0 < length cs → in_front c cs ≡ c ∷ cs
in_front-some c cs some =
    ap (λ b. cond (is_blank c && b) [] (c ∷ cs)) (ne_eqb (length cs) 0 (λ none. omega arith))
    ∙ elim (is_blank c) as (λ b. cond (b && false) [] (c ∷ cs) ≡ c ∷ cs) [ true ↦ refl | false ↦ refl ]

blank_last : (front : List ℕ) (c : ℕ) → is_blank c ≡ true → up_to_last (front ++ c ∷ []) ≡ up_to_last front
blank_last [] c blank = ap (λ b. cond (b && true) [] (c ∷ [])) blank
blank_last (d ∷ ds) c blank = ap (in_front d) (blank_last ds c blank)

other_last : (front : List ℕ) (c : ℕ) → is_blank c ≡ false → up_to_last (front ++ c ∷ []) ≡ front ++ c ∷ []
other_last [] c other = ap (λ b. cond (b && true) [] (c ∷ [])) other
other_last (d ∷ ds) c other = ap (in_front d) (other_last ds c other) ∙ in_front-some d (ds ++ c ∷ []) (omega (arith, length-append ds (c ∷ [])))

-- a blank at the end is left out
pub up_to_last-cut : (text : List ℕ) (front : Bor (List ℕ)) → BeforeBlank text (Some front) → up_to_last text ≡ up_to_last front.now
up_to_last-cut text front at = ap up_to_last at.1 ∙ blank_last front.now at.0 at.2

-- a text that is not empty, as its front and its last byte
record HasLast (text : List ℕ) : Type 0 where
  front : List ℕ
  last : ℕ
  is : text ≡ front ++ last ∷ []

last_of : (c : ℕ) (cs : List ℕ) → HasLast (c ∷ cs)
last_of c [] = record { front = []; last = c; is = refl }
last_of c (d ∷ ds) = let more = last_of d ds in record { front = c ∷ more.front; last = more.last; is = ap (λ rest. c ∷ rest) more.is }

-- where no blank ends it, a text stays
pub up_to_last-kept : (text : List ℕ) → BeforeBlank text None → up_to_last text ≡ text
up_to_last-kept [] at = refl
up_to_last-kept (c ∷ cs) at =
    let split = last_of c cs in
    ap up_to_last split.is ∙ other_last split.front split.last (at split.last split.front split.is) ∙ sym split.is
