-- The tokens that have been written, one after the other.
use Rattle.std.proofs.Common.{◌≡◌, ℕ, zero, suc, ◌+◌, ◌<◌, ◌≤◌, List, [], ◌∷◌, ◌++◌, length, map, take, get_or, append_assoc, IsUtf8, ap, sym, subst, ◌∙◌, arith}
use Rattle.std.proofs.lemmas.List.{map-append, take_all, take_more}
use Rattle.std.specs.List.{AllByRecursion}
use Rattle.json.specs.Print.{print}
use Rattle.json.specs.Token.{Token, begin_array, end_array}
use Rattle.json.specs.Written.{Written}
use Rattle.gr_values.specs.Tokens.{Appends, array_tokens}

-- what holds of each element holds at its place
pub AllByRecursion-at : {X : Type 0} (P : X → Type 0) (xs : List X) (i : ℕ) (d : X) → AllByRecursion P xs → i < length xs → P (get_or xs i d)
AllByRecursion-at P [] i d each h = absurd (omega arith)
AllByRecursion-at P (x ∷ xs) zero d each h = each.0
AllByRecursion-at P (x ∷ xs) (suc i) d each h = AllByRecursion-at P xs i d each.1 (omega arith)

-- tokens, and more after them
pub Appends-more : {old mid new : Written} {ts us : List Token} → Appends old mid ts → Appends mid new us → Appends old new (ts ++ us)
Appends-more {old} {mid} {new} {ts} {us} first then_ = record {
  before = then_.before ∙ first.before;
  tokens = then_.tokens ∙ ap (λ held. held ++ us) first.tokens ∙ append_assoc old.tokens ts us;
}

-- one more element of an array
pub elements-more : {X : Type 0} (token : X → Token) (xs : List X) (i : ℕ) (x : X) {old mid new : Written} → i < length xs → x ≡ get_or xs i x
    → Appends old mid (begin_array ∷ map token (take i xs)) → Appends mid new (token x ∷ []) → Appends old new (begin_array ∷ map token (take (i + 1) xs))
elements-more token xs i x {old} {mid} {new} here is before one =
    let taken : take (i + 1) xs ≡ take i xs ++ x ∷ [] = take_more xs i x here ∙ ap (λ y. take i xs ++ y ∷ []) (sym is) in
    let mapped : map token (take (i + 1) xs) ≡ map token (take i xs) ++ token x ∷ [] = ap (map token) taken ∙ map-append token (take i xs) (x ∷ []) in
    rw mapped (Appends-more before one)

-- the closing bracket after all elements
pub elements-end : {X : Type 0} (token : X → Token) (xs : List X) (i : ℕ) {old mid new : Written} → length xs ≤ i
    → Appends old mid (begin_array ∷ map token (take i xs)) → Appends mid new (end_array ∷ []) → Appends old new (array_tokens (map token xs))
elements-end token xs i end before one = rw (take_all i xs end) at (Appends-more before one)

-- what is written where nothing was held before
pub record IsWhole (bytes : List ℕ) (ts : List Token) : Type 0 where
  pub bytes_are : bytes ≡ print ts
  pub utf8 : IsUtf8 bytes

-- the bytes that a writer gives which held nothing before
pub IsWhole-written : {old new : Written} {ts : List Token} (bytes : List ℕ) → old.before ≡ [] → old.tokens ≡ [] → Appends old new ts
    → bytes ≡ new.before ++ print new.tokens → IsUtf8 (print new.tokens) → IsWhole bytes ts
IsWhole-written {old} {new} {ts} bytes none empty all is utf8 =
    let alone : bytes ≡ print new.tokens = is ∙ ap (λ held. held ++ print new.tokens) (all.before ∙ none) in
    record {
      bytes_are = alone ∙ ap print (all.tokens ∙ ap (λ held. held ++ ts) empty);
      utf8 = subst IsUtf8 (sym alone) utf8;
    }
