-- What a call tells: what is meant, or its fault, whose name is a text.
use Rattle.std.specs.Prelude.{◌≡◌, Result, Ok, Err, List, IsUtf8}
use Rattle.gr_base.specs.Failure.{Answers}
use Rattle.gr_base.specs.declared.failure.Failure.{Failure}
use Rattle.gr_base.specs.declared.failure.Failure.TheVariants.{Refused}
use Rattle.gr_base.specs.declared.fault.Fault.{Fault}
use Rattle.gr_bind.specs.declared.column.Column.{Column}

-- the answer is what is meant, and the name of a fault is UTF-8
pub record Tells {T : Type 0} (result : Result T (Failure Fault)) (meant : Result T Fault) : Type 0 where
  pub exact : Answers result meant
  pub utf8 : (why : Fault) → result ≡ Err (Refused why) → IsUtf8 why.name
