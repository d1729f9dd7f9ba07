-- A text of digits that has no number of 128 bits writes none that a value may be.
use Rattle.std.proofs.Common.{◌≡◌, ℕ, ℤ, pos, neg_ℤ, Bool, true, false, cond, List, Option, Some, None, is_some, Result, Ok, Err, refl}
use Rattle.std.proofs.lemmas.Int.{ints}
use Rattle.std.specs.Int.{w128}
use Rattle.std.specs.Option.{ok_or}
use Rattle.std.specs.Str.Parse.{ParsesSigned}
use Rattle.gr_base.specs.Failure.{result_then}
use Rattle.gr_base.specs.declared.fault.FaultKind.TheVariants.{BadValue, OutOfRange}
use Rattle.gr_bind.specs.Typing.{is_value}
use Rattle.gr_schema.specs.Fields.{only}
use Rattle.gr_values.specs.declared.data_type.Range.{Range}
use Rattle.gr_values.specs.Keys.{whole_text}
use Rattle.gr_values.specs.Values.{in_range}
use Rattle.gr_values.proofs.Digits.{refused}

values : Range
values = record { least = neg_ℤ (pos 9223372036854775808); greatest = pos 18446744073709551615 }

at : (b : Bool) (z : ℤ) → cond b (Ok z) (Err OutOfRange) ≡ Err OutOfRange → cond b (Some z) None ≡ None
at true z h = absurd (cc)
at false z h = refl

none : (o : Option ℤ) → is_some o ≡ true → result_then (in_range values) (ok_or o BadValue) ≡ Err OutOfRange → only is_value o ≡ None
unfolding values
none None w h = refl
none (Some z) w h = at (is_value z) z h

pub not_value : {E : Type 0} (bs : List ℕ) (r : Result ℤ E) (e : E) → ParsesSigned w128 10 bs r → is_some (whole_text bs) ≡ true → r ≡ Err e → only is_value (whole_text bs) ≡ None
unfolding values
not_value bs r e parses whole is = none (whole_text bs) whole (refused values bs r e (record { low = search ints; high = search ints }) parses whole is)
