-- What is lent, as what it is.
use Rattle.gr_expr.specs.declared.typed.Literal.{Literal}
use Rattle.gr_expr.specs.declared.value.Value.{Value}
use Rattle.gr_expr.specs.declared.value.Value.TheVariants.{Number, Text, Truth}

-- a value that is lent
abbrev pub literal : Value → Literal
literal (Number number) = Literal.Number number
literal (Text text) = Literal.Text text.now
literal (Truth truth) = Literal.Truth truth
