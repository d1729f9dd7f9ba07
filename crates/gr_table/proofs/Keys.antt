-- Which keys are one.
use Rattle.std.proofs.Common.{◌≡◌, true, refl, ap}
use Rattle.std.proofs.lemmas.Slice.Eq.{bytes_eq-Decides}
use Rattle.std.proofs.lemmas.Bool.Decides.{Decides-int_eq}
use Rattle.gr_values.specs.declared.value.Key.{Key}
use Rattle.gr_values.specs.Same.{is_same_key}

-- keys that are told to be one are one
pub same_is : (a b : Key) → is_same_key a b ≡ true → a ≡ b
same_is (Key.Number a) (Key.Number b) e = ap Key.Number ((Decides-int_eq a b).0 e)
same_is (Key.Number a) (Key.Text b) e = absurd cc
same_is (Key.Text a) (Key.Number b) e = absurd cc
same_is (Key.Text a) (Key.Text b) e = ap Key.Text ((bytes_eq-Decides a b).0 e)

-- a key is itself
pub itself : (a : Key) → is_same_key a a ≡ true
itself (Key.Number a) = (Decides-int_eq a a).1 refl
itself (Key.Text a) = (bytes_eq-Decides a a).1 refl
