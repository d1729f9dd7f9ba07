-- The kinds of values, and what each operator takes.
use Rattle.std.specs.Prelude.{Bool, true, false, ◌&&◌, ◌||◌, not, is_some, if◌then◌else◌, Option, Some, None}
use Rattle.gr_ast.specs.declared.operators.Seek.{Seek}
use Rattle.gr_ast.specs.declared.operators.Seek.TheVariants.{Match, Prefix, Suffix}
use Rattle.gr_base.specs.declared.compare.Cmp.{Cmp}
use Rattle.gr_base.specs.declared.compare.Cmp.TheVariants.{Eq, Ne, Lt, Le, Gt, Ge}
use Rattle.gr_bind.specs.declared.operand.Operand.{Operand}
use Rattle.gr_bind.specs.declared.operand.ValueKind.{ValueKind}
use Rattle.gr_bind.specs.declared.operand.ValueKind.TheVariants.{Whole, Text, Truth, WholeVec, TextVec}
use Rattle.gr_expr.specs.declared.typed.Expr.{Expr}
use Rattle.gr_expr.specs.declared.typed.Expr.TheVariants as expr
use Rattle.gr_expr.specs.declared.typed.Literal.{Literal}
use Rattle.gr_expr.specs.declared.typed.Term.{Term}
use Rattle.gr_expr.specs.declared.typed.Term.TheVariants as term
use Rattle.gr_values.specs.Types.{is_bool, text_limit}
use Rattle.gr_values.specs.declared.path.Path.{Path}

-- whether two kinds are one
abbrev pub is_same_kind : ValueKind → ValueKind → Bool
is_same_kind Whole Whole = true
is_same_kind Text Text = true
is_same_kind Truth Truth = true
is_same_kind WholeVec WholeVec = true
is_same_kind TextVec TextVec = true
is_same_kind _ _ = false

-- the kind of a field's values: references have the kind of the keys that they are by
abbrev pub path_kind : Path → ValueKind
path_kind path =
    if is_some (text_limit path.shape.of) then (if path.shape.list then TextVec else Text)
    else if is_bool path.shape.of then Truth
    else if path.shape.list then WholeVec else Whole

-- the kind of a value that is written
abbrev pub literal_kind : Literal → ValueKind
literal_kind (Literal.Number number) = Whole
literal_kind (Literal.Text text) = Text
literal_kind (Literal.Truth truth) = Truth

-- the kind of an operand
abbrev pub kind_of : Operand → ValueKind
kind_of (Operand.Path path) = path_kind path
kind_of (Operand.Literal literal) = literal_kind literal
kind_of (Operand.Number term) = Whole
kind_of (Operand.Condition condition) = Truth

-- Operands as what they are taken for

-- an operand as a term
abbrev pub term_of : Operand → Term
term_of (Operand.Path path) = term.Cell path
term_of (Operand.Literal literal) = term.Literal literal
term_of (Operand.Number number) = number
term_of (Operand.Condition condition) = term.Truth condition

-- a value that is written as a condition
abbrev pub literal_condition : Literal → Option Expr
literal_condition (Literal.Number number) = None
literal_condition (Literal.Text text) = None
literal_condition (Literal.Truth truth) = Some (expr.Truth truth)

-- an operand as a condition, where it is of the kind Truth
abbrev pub condition_of : Operand → Option Expr
condition_of (Operand.Path path) = if is_same_kind (path_kind path) Truth then Some (expr.Flag path) else None
condition_of (Operand.Literal literal) = literal_condition literal
condition_of (Operand.Number number) = None
condition_of (Operand.Condition condition) = Some condition

-- an operand as a path
abbrev pub path_in : Operand → Option Path
path_in (Operand.Path path) = Some path
path_in (Operand.Literal literal) = None
path_in (Operand.Number number) = None
path_in (Operand.Condition condition) = None

-- What operators take

-- kinds that are equal or not
abbrev pub is_plain : ValueKind → Bool
is_plain Whole = true
is_plain Text = true
is_plain Truth = true
is_plain WholeVec = false
is_plain TextVec = false

-- kinds that have an order
abbrev pub is_ordered : ValueKind → Bool
is_ordered Whole = true
is_ordered Text = true
is_ordered Truth = false
is_ordered WholeVec = false
is_ordered TextVec = false

-- the kinds that a comparison takes
abbrev pub is_compared : Cmp → ValueKind → Bool
is_compared Eq kind = is_plain kind
is_compared Ne kind = is_plain kind
is_compared Lt kind = is_ordered kind
is_compared Le kind = is_ordered kind
is_compared Gt kind = is_ordered kind
is_compared Ge kind = is_ordered kind

-- a text column or a key that is a text
abbrev pub is_text_field : Path → Bool
is_text_field path = is_some (text_limit path.shape.of) && not path.shape.list && not path.shape.reference

-- the fields that a search takes: `@` text fields, references and lists, and `@^` and `@$` those of the kind Text
abbrev pub is_sought : Seek → Path → Bool
is_sought Match path = is_text_field path || path.shape.list || path.shape.reference
is_sought Prefix path = is_same_kind (path_kind path) Text
is_sought Suffix path = is_same_kind (path_kind path) Text

-- whether a field's values, or its elements, are whole numbers
abbrev pub has_wholes : ValueKind → Bool
has_wholes Whole = true
has_wholes Text = false
has_wholes Truth = false
has_wholes WholeVec = true
has_wholes TextVec = false

-- whether a value that is written can be sought in a field: a number among numbers, and a text elsewhere
abbrev pub is_sought_in : Path → Literal → Bool
is_sought_in path (Literal.Number number) = has_wholes (path_kind path)
is_sought_in path (Literal.Text text) = not (has_wholes (path_kind path))
is_sought_in path (Literal.Truth truth) = false
