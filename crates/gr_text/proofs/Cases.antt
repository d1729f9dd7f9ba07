-- What equations between constructors tell.
use Rattle.std.proofs.Common.{◌≡◌, true, false, Some, None, List, [], ◌∷◌}

pub some_is : {X : Type 0} {x y : X} → Some x ≡ Some y → x ≡ y
some_is e = cc

pub none_is : {X : Type 0} {x : X} → None ≡ Some x → ⊥
none_is e = cc

pub false_is : false ≡ true → ⊥
false_is e = cc

-- the first of two lists that are one, and its rest
pub head_is : {X : Type 0} {x y : X} {xs ys : List X} → x ∷ xs ≡ y ∷ ys → x ≡ y
head_is e = cc

pub tail_is : {X : Type 0} {x y : X} {xs ys : List X} → x ∷ xs ≡ y ∷ ys → xs ≡ ys
tail_is e = cc

pub empty_is : {X : Type 0} {x : X} {xs : List X} → [] ≡ x ∷ xs → ⊥
empty_is e = cc
