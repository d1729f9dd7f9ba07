-- White space at the ends of a text.
use Rattle.std.proofs.Common.{◌≡◌, ◌≢◌, ℕ, ◌<◌, ◌&&◌, true, false, cond, List, [], ◌∷◌, ◌++◌, length, length-append, MatchOption, Option, Some, None, Bor, refl, sym, ap, ◌∙◌, arith, ne_eqb}
use Rattle.gr_print.specs.Columns.{from_first, in_front, up_to_last}
use Rattle.gr_print.specs.Inside.Ends.{IsAfterWhite, IsBeforeWhite}
use Rattle.gr_text.specs.Characters.{is_white_space}

-- a byte that is none of the four
other_byte : (c : ℕ) → c ≢ 32 → c ≢ 9 → c ≢ 10 → c ≢ 13 → is_white_space c ≡ false
other_byte c space tab feed return = rw (ne_eqb c 32 space, ne_eqb c 9 tab, ne_eqb c 10 feed, ne_eqb c 13 return) refl

-- what `strip_prefix` says of a byte
abbrev IsAfter : ℕ → List ℕ → Option (Bor (List ℕ)) → Type 0
IsAfter c text rest = MatchOption rest ((rest : List ℕ) → text ≢ c ∷ rest) (λ rest. text ≡ c ∷ rest.now)

-- what `strip_suffix` says of a byte
abbrev IsBefore : ℕ → List ℕ → Option (Bor (List ℕ)) → Type 0
IsBefore c text front = MatchOption front ((front : List ℕ) → text ≢ front ++ c ∷ []) (λ front. text ≡ front.now ++ c ∷ [])

-- a white space byte is stripped
pub after_byte : (c : ℕ) (text : List ℕ) (rest : Bor (List ℕ)) → is_white_space c ≡ true → IsAfter c text (Some rest) → IsAfterWhite text (Some rest)
after_byte c text rest white at = (c, at, white)

-- a carriage return is stripped, or nothing, where none of the others stands
pub after_last : (text : List ℕ) (rest : Option (Bor (List ℕ))) → IsAfter 32 text None → IsAfter 9 text None → IsAfter 10 text None → IsAfter 13 text rest → IsAfterWhite text rest
after_last text None space tab feed return = λ c rest e.
    other_byte c (λ is. space rest (e ∙ ap (λ d. d ∷ rest) is)) (λ is. tab rest (e ∙ ap (λ d. d ∷ rest) is)) (λ is. feed rest (e ∙ ap (λ d. d ∷ rest) is))
    (λ is. return rest (e ∙ ap (λ d. d ∷ rest) is))
after_last text (Some rest) space tab feed return = (13, return, refl)

pub before_byte : (c : ℕ) (text : List ℕ) (front : Bor (List ℕ)) → is_white_space c ≡ true → IsBefore c text (Some front) → IsBeforeWhite text (Some front)
before_byte c text front white at = (c, at, white)

pub before_last : (text : List ℕ) (front : Option (Bor (List ℕ))) → IsBefore 32 text None → IsBefore 9 text None → IsBefore 10 text None → IsBefore 13 text front → IsBeforeWhite text front
before_last text None space tab feed return = λ c front e.
    other_byte c (λ is. space front (e ∙ ap (λ d. front ++ d ∷ []) is)) (λ is. tab front (e ∙ ap (λ d. front ++ d ∷ []) is)) (λ is. feed front (e ∙ ap (λ d. front ++ d ∷ []) is))
    (λ is. return front (e ∙ ap (λ d. front ++ d ∷ []) is))
before_last text (Some front) space tab feed return = (13, return, refl)

-- white space at the beginning is left out
pub from_first-cut : (text : List ℕ) (rest : Bor (List ℕ)) → IsAfterWhite text (Some rest) → from_first text ≡ from_first rest.now
from_first-cut text rest at = ap from_first at.1 ∙ ap (λ b. cond b (from_first rest.now) (at.0 ∷ rest.now)) at.2

-- where none begins it, a text stays
pub from_first-kept : (text : List ℕ) → IsAfterWhite text None → from_first text ≡ text
from_first-kept [] at = refl
from_first-kept (c ∷ cs) at = ap (λ b. cond b (from_first cs) (c ∷ cs)) (at c cs refl)

-- a text without its first or its last byte is shorter
pub after-shorter : (text : List ℕ) (rest : Bor (List ℕ)) → IsAfterWhite text (Some rest) → length rest.now < length text
after-shorter text rest at = rw at.1 (omega arith)

pub before-shorter : (text : List ℕ) (front : Bor (List ℕ)) → IsBeforeWhite text (Some front) → length front.now < length text
before-shorter text front at = rw at.1 (omega (arith, length-append front.now (at.0 ∷ [])))

-- a byte in front of others
in_front-some : (c : ℕ) (cs : List ℕ) → 0 < length cs → in_front c cs ≡ c ∷ cs
in_front-some c cs some =
    ap (λ b. cond (is_white_space c && b) [] (c ∷ cs)) (ne_eqb (length cs) 0 (λ none. omega arith))
    ∙ elim (is_white_space c) as (λ b. cond (b && false) [] (c ∷ cs) ≡ c ∷ cs) [ true ↦ refl | false ↦ refl ]

white_last : (front : List ℕ) (c : ℕ) → is_white_space c ≡ true → up_to_last (front ++ c ∷ []) ≡ up_to_last front
white_last [] c white = ap (λ b. cond (b && true) [] (c ∷ [])) white
white_last (d ∷ ds) c white = ap (in_front d) (white_last ds c white)

other_last : (front : List ℕ) (c : ℕ) → is_white_space c ≡ false → up_to_last (front ++ c ∷ []) ≡ front ++ c ∷ []
other_last [] c other = ap (λ b. cond (b && true) [] (c ∷ [])) other
other_last (d ∷ ds) c other = ap (in_front d) (other_last ds c other) ∙ in_front-some d (ds ++ c ∷ []) (omega (arith, length-append ds (c ∷ [])))

-- white space at the end is left out
pub up_to_last-cut : (text : List ℕ) (front : Bor (List ℕ)) → IsBeforeWhite text (Some front) → up_to_last text ≡ up_to_last front.now
up_to_last-cut text front at = ap up_to_last at.1 ∙ white_last front.now at.0 at.2

-- a text that is not empty, as its front and its last byte
record HasLast (text : List ℕ) : Type 0 where
  front : List ℕ
  last : ℕ
  is : text ≡ front ++ last ∷ []

last_of : (c : ℕ) (cs : List ℕ) → HasLast (c ∷ cs)
last_of c [] = record { front = []; last = c; is = refl }
last_of c (d ∷ ds) = let more = last_of d ds in record { front = c ∷ more.front; last = more.last; is = ap (λ rest. c ∷ rest) more.is }

-- where no white space ends it, a text stays
pub up_to_last-kept : (text : List ℕ) → IsBeforeWhite text None → up_to_last text ≡ text
up_to_last-kept [] at = refl
up_to_last-kept (c ∷ cs) at =
    let split = last_of c cs in
    ap up_to_last split.is ∙ other_last split.front split.last (at split.last split.front split.is) ∙ sym split.is
