-- A phrase stands in a text at the same places by characters and by bytes, since no character begins inside another.
use Rattle.std.proofs.Common.{ℕ, ◌≡◌, ◌+◌, true, false, cond, ◌&&◌, List, [], ◌∷◌, ◌++◌, length, take, drop, refl, sym, ap, ap₂, subst, ◌∙◌, arith, append_assoc, nat_eq, eqb}
use Rattle.std.proofs.lemmas.Bool.{eqb-true, false_from_ne_true}
use Rattle.std.proofs.lemmas.Bool.Decides.{Decides-eqb}
use Rattle.std.proofs.lemmas.Slice.Eq.{starts_is}
use Rattle.std.proofs.lemmas.Str.{cons_from_encodes, encodes-append, encodes-chars, scalars-chars}
use Rattle.std.proofs.str.Laws.{Shape, shape, Follows, both}
use Rattle.std.specs.Cmp.{both_ways}
use Rattle.std.specs.Cmp.Lexicographic.{pointwise}
use Rattle.std.specs.List.{starts_with}
use Rattle.std.specs.Str.{chars, IsUtf8}
use lib.Utf8.{encode, encodes, scalar, scalars, scalar_cases}
use Rattle.gr_tokens.specs.Places.{places}
use Rattle.gr_tokens.proofs.PlaceSteps.{places-nil, places-empty, places-cons, places-cons_no}

-- each of the bytes follows another one in its character
abbrev AllFollow : List ℕ → Type 0
AllFollow [] = Unit {0}
AllFollow (byte ∷ bytes) = Follows byte × AllFollow bytes

-- one byte that follows no other, and then bytes that do
record IsCharacter (bytes : List ℕ) : Type 0 where
  lead : ℕ
  tail : List ℕ
  is : bytes ≡ lead ∷ tail
  leads : ¬ Follows lead
  follow : AllFollow tail

from_shape : (c : ℕ) → Shape c → IsCharacter (encode c)
from_shape c (Shape.of1 below is) = record { lead = c; tail = []; is = is; leads = λ f. absurd (omega (arith, f.0)); follow = tt }
from_shape c (Shape.of2 a b low high f sum is) = record { lead = a; tail = b ∷ []; is = is; leads = λ g. absurd (omega (arith, g.1)); follow = (f, tt) }
from_shape c (Shape.of3 a b d low high f g sum is) = record { lead = a; tail = b ∷ d ∷ []; is = is; leads = λ h. absurd (omega (arith, h.1)); follow = (f, (g, tt)) }
from_shape c (Shape.of4 a b d e low high f g h sum is) = record { lead = a; tail = b ∷ d ∷ e ∷ []; is = is; leads = λ k. absurd (omega (arith, k.1)); follow = (f, (g, (h, tt))) }

-- the bytes of a character
IsCharacter-encode : (c : ℕ) → scalar c ≡ true → IsCharacter (encode c)
IsCharacter-encode c is = from_shape c (shape c (scalar_cases c is))

-- no place begins at a byte inside a character
places-inside : (inside rest : List ℕ) (lead : ℕ) (more : List ℕ) → ¬ Follows lead → AllFollow inside → places nat_eq (inside ++ rest) (lead ∷ more) ≡ places nat_eq rest (lead ∷ more)
places-inside [] rest lead more leads follow = refl
places-inside (byte ∷ bytes) rest lead more leads follow =
    let apart : eqb lead byte ≡ false = false_from_ne_true (eqb lead byte) (λ e. leads (subst Follows (sym (eqb-true lead byte e)) follow.0)) in
    places-cons_no nat_eq byte (bytes ++ rest) (lead ∷ more) (omega arith) (ap (λ b. b && pointwise nat_eq more (take (length more) (bytes ++ rest))) apart)
    ∙ places-inside bytes rest lead more leads follow.1

-- characters whose bytes begin with those of others begin with these
characters_begin : (phrase cs rest : List ℕ) → encodes cs ≡ encodes phrase ++ rest → (more : List ℕ) × (cs ≡ phrase ++ more)
characters_begin [] cs rest e = (cs, refl)
characters_begin (p ∷ ps) cs rest e =
    let first = cons_from_encodes cs (encodes ps ++ rest) p (e ∙ append_assoc (encode p) (encodes ps) rest) in
    let others = characters_begin ps first.0 rest first.2 in
    (others.0, first.1 ∙ ap (λ l. p ∷ l) others.1)

-- a text begins with a phrase by bytes where it does by characters
starts_with-encodes : (cs phrase : List ℕ) → starts_with nat_eq (encodes cs) (encodes phrase) ≡ starts_with nat_eq cs phrase
starts_with-encodes cs phrase =
    let by_bytes = starts_is Decides-eqb (encodes cs) (encodes phrase) (starts_with nat_eq (encodes cs) (encodes phrase)) refl in
    let by_characters = starts_is Decides-eqb cs phrase (starts_with nat_eq cs phrase) refl in
    both_ways (starts_with nat_eq (encodes cs) (encodes phrase)) (starts_with nat_eq cs phrase)
    (λ e. let split = characters_begin phrase cs _ (by_bytes.0 e) in by_characters.1 split.0 split.1)
    (λ e. by_bytes.1 _ (ap encodes (by_characters.0 e) ∙ encodes-append phrase (drop (length phrase) cs)))

-- the places in one character and what follows it
places-character : (bytes inside rest : List ℕ) (byte lead : ℕ) (more : List ℕ) → bytes ≡ byte ∷ (inside ++ rest) → ¬ Follows lead → AllFollow inside → places nat_eq bytes (lead ∷ more) ≡ cond (starts_with nat_eq bytes (lead ∷ more)) 1 0 + places nat_eq rest (lead ∷ more)
places-character bytes inside rest byte lead more is leads follow =
    let P : List ℕ → Type 0 = λ l. places nat_eq l (lead ∷ more) ≡ cond (starts_with nat_eq l (lead ∷ more)) 1 0 + places nat_eq rest (lead ∷ more) in
    subst P (sym is)
    (places-cons nat_eq byte (inside ++ rest) (lead ∷ more) (omega arith)
    ∙ ap (λ n. cond (starts_with nat_eq (byte ∷ (inside ++ rest)) (lead ∷ more)) 1 0 + n) (places-inside inside rest lead more leads follow))

module _ (p : ℕ) (ps : List ℕ) (is_scalar : scalar p ≡ true) where
  some_places : (cs : List ℕ) → scalars cs ≡ true → places nat_eq (encodes cs) (encodes (p ∷ ps)) ≡ places nat_eq cs (p ∷ ps)
  some_places [] scalar_all = places-empty nat_eq (encodes (p ∷ ps)) ∙ sym (places-empty nat_eq (p ∷ ps))
  some_places (c ∷ cs) scalar_all =
      let each = both (scalar c) (scalars cs) scalar_all in
      let here = IsCharacter-encode c each.0 in
      let first = IsCharacter-encode p is_scalar in
      let phrase_is : encodes (p ∷ ps) ≡ first.lead ∷ (first.tail ++ encodes ps) = ap (λ l. l ++ encodes ps) first.is in
      let text_is : encodes (c ∷ cs) ≡ here.lead ∷ (here.tail ++ encodes cs) = ap (λ l. l ++ encodes cs) here.is in
      let P : List ℕ → Type 0 = λ l. places nat_eq (encodes (c ∷ cs)) l ≡ cond (starts_with nat_eq (encodes (c ∷ cs)) l) 1 0 + places nat_eq (encodes cs) l in
      let step : P (encodes (p ∷ ps)) = subst P (sym phrase_is) (places-character (encodes (c ∷ cs)) here.tail (encodes cs) here.lead first.lead (first.tail ++ encodes ps) text_is first.leads here.follow) in
      step
      ∙ ap₂ (λ b n. cond b 1 0 + n) (starts_with-encodes (c ∷ cs) (p ∷ ps)) (some_places cs each.1)
      ∙ sym (places-cons nat_eq c cs (p ∷ ps) (omega arith))

places-encodes : (cs phrase : List ℕ) → scalars cs ≡ true → scalars phrase ≡ true → places nat_eq (encodes cs) (encodes phrase) ≡ places nat_eq cs phrase
places-encodes cs [] scalar_all in_phrase = places-nil nat_eq (encodes cs) ∙ sym (places-nil nat_eq cs)
places-encodes cs (p ∷ ps) scalar_all in_phrase = some_places p ps (both (scalar p) (scalars ps) in_phrase).0 cs scalar_all

-- the places of a phrase in a text
pub places-chars : (text phrase : List ℕ) → IsUtf8 text → IsUtf8 phrase → places nat_eq text phrase ≡ places nat_eq (chars text) (chars phrase)
places-chars text phrase text_utf8 phrase_utf8 =
    sym (ap₂ (places nat_eq) (encodes-chars text text_utf8) (encodes-chars phrase phrase_utf8))
    ∙ places-encodes (chars text) (chars phrase) (scalars-chars text text_utf8) (scalars-chars phrase phrase_utf8)
