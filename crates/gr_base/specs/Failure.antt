-- What a call answers that may want memory.
use Rattle.std.specs.Prelude.{◌≡◌, Result, Ok, Err}
use Rattle.gr_base.specs.declared.failure.Failure.{Failure}
use Rattle.gr_base.specs.declared.failure.Failure.TheVariants.{Refused}

-- the answer with this made of what was found
abbrev pub result_map : {T U E : Type 0} → (T → U) → Result T E → Result U E
result_map f (Ok x) = Ok (f x)
result_map f (Err e) = Err e

-- what this answers of what was found
abbrev pub result_then : {T U E : Type 0} → (T → Result U E) → Result T E → Result U E
result_then f (Ok x) = f x
result_then f (Err e) = Err e

-- what a call that may want memory answers is what is meant; for want of memory nothing is said
pub record Answers {T F : Type 0} (result : Result T (Failure F)) (meant : Result T F) : Type 0 where
  pub found : (value : T) → result ≡ Ok value → meant ≡ Ok value
  pub refused : (why : F) → result ≡ Err (Refused why) → meant ≡ Err why
