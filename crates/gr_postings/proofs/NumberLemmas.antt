-- A number in bytes is no less than what was read of it.
use Rattle.std.proofs.Common.{ℕ, ◌+◌, ◌-◌, ◌*◌, ◌≤◌, Bool, true, false, cond, ltb, List, [], ◌∷◌, arith}
use Rattle.gr_postings.specs.Numbers.{number_after}

least_of : (t : Bool) (n x y : ℕ) → n ≤ x → n ≤ y → n ≤ cond t x y
least_of true n x y p q = p
least_of false n x y p q = q

-- what was read of a number is no more than the number
pub number_grows : (n : ℕ) (bs : List ℕ) → n ≤ number_after n bs
number_grows n [] = omega arith
number_grows n (b ∷ bs) =
    let more = number_grows (n * 128 + (b - 128)) bs in
    least_of (ltb b 128) n (n * 128 + b) (number_after (n * 128 + (b - 128)) bs) (omega arith) (omega (arith, more))
