-- What a condition as it is written means for a table, or its first fault. Operands are gone through from the left: each is typed whole, and then taken or
-- refused by its operator, before the next.
use Rattle.std.specs.Prelude.{ℕ, ℤ, pos, neg_ℤ, Bool, true, false, ◌&&◌, not, int_le, if◌then◌else◌, Option, Some, None, Result, Ok, Err, List, [], ◌∷◌, map, codes}
use Rattle.std.specs.List.{list_any}
use Rattle.std.specs.Option.{ok_or, option_and_then, option_map}
use Rattle.std.specs.Str.{bytes_eq}
use Rattle.gr_ast.specs.declared.ast.Ast.{Ast, fold-Ast}
use Rattle.gr_ast.specs.declared.ast.Ast.TheOpen.{Ast-F, Joined-F, Combined-F}
use Rattle.gr_ast.specs.declared.columns.MatchColumn.{MatchColumn}
use Rattle.gr_ast.specs.declared.operators.Arith.{Arith}
use Rattle.gr_ast.specs.declared.operators.FieldOp.{FieldOp}
use Rattle.gr_ast.specs.declared.operators.Join.{Join}
use Rattle.gr_ast.specs.declared.operators.Seek.{Seek}
use Rattle.gr_ast.specs.declared.operators.Seek.TheVariants.{Match, Prefix, Suffix}
use Rattle.gr_base.specs.Failure.{result_map, result_then}
use Rattle.gr_base.specs.Fault.{fault_named}
use Rattle.gr_base.specs.declared.compare.Cmp.{Cmp}
use Rattle.gr_base.specs.declared.fault.Fault.{Fault}
use Rattle.gr_base.specs.declared.fault.FaultKind.TheVariants.{BadNumber, NoMatchColumn, NoSuchColumn, TypeMismatch}
use Rattle.gr_base.specs.declared.numbers.TableNo.{TableNo}
use Rattle.gr_bind.specs.declared.column.Column.{Column}
use Rattle.gr_bind.specs.Columns.{by_path, columns_typed, fault_at}
use Rattle.gr_bind.specs.Kinds.{condition_of, is_compared, is_ordered, is_plain, is_same_kind, is_sought, is_sought_in, kind_of, path_in, path_kind, term_of}
use Rattle.gr_bind.specs.declared.operand.Operand.{Operand}
use Rattle.gr_bind.specs.declared.operand.ValueKind.{ValueKind}
use Rattle.gr_bind.specs.declared.operand.ValueKind.TheVariants.{Whole, Text, Truth, WholeVec, TextVec}
use Rattle.gr_expr.specs.declared.typed.CombinedTerm.{CombinedTerm, roll-CombinedTerm}
use Rattle.gr_expr.specs.declared.typed.Expr.{Expr}
use Rattle.gr_expr.specs.declared.typed.Expr.TheVariants as expr
use Rattle.gr_expr.specs.declared.typed.JoinedExpr.{JoinedExpr, roll-JoinedExpr}
use Rattle.gr_expr.specs.declared.typed.Literal.{Literal}
use Rattle.gr_expr.specs.declared.typed.SeekLeaf.{SeekLeaf}
use Rattle.gr_expr.specs.declared.typed.Term.{Term}
use Rattle.gr_expr.specs.declared.typed.Term.TheVariants as term
use Rattle.gr_expr.specs.declared.typed.WeightedLeaf.{WeightedLeaf}
use Rattle.gr_schema.specs.Fields.{only}
use Rattle.gr_schema.specs.Paths.{path_of}
use Rattle.gr_schema.specs.Schema.{SchemaDef}
use Rattle.gr_values.specs.Keys.{whole_text}
use Rattle.gr_values.specs.declared.path.Path.{Path}

-- a part of the tree: its place, the value that it writes, if it is one, and what it means
pub record Part : Type 0 where
  pub at : ℕ
  -- the number of digits without a sign
  pub digits : Option ℕ
  -- a literal, a number with its sign
  pub literal : Option Literal
  pub typed : Result Operand Fault

-- a part that is no value that is written
abbrev pub part : ℕ → Result Operand Fault → Part
part at typed = record { at = at; digits = None; literal = None; typed = typed }

-- a part that is a value that is written
abbrev pub literal_part : ℕ → Literal → Part
literal_part at literal = record { at = at; digits = None; literal = Some literal; typed = Ok (Operand.Literal literal) }

-- what a part is taken for; where it is none of that, it is refused at its place
abbrev pub taken : {X : Type 0} → (Operand → Option X) → Part → Result X Fault
taken meant of = result_then (λ operand. ok_or (meant operand) (fault_at TypeMismatch of.at)) of.typed

-- an operand as a term, where its kind is one of these
abbrev pub term_where : (ValueKind → Bool) → Operand → Option Term
term_where takes operand = if takes (kind_of operand) then Some (term_of operand) else None

-- a part as a whole number
abbrev pub whole : Part → Result Term Fault
whole of = taken (term_where (is_same_kind Whole)) of

-- a part as a condition
abbrev pub condition : Part → Result Expr Fault
condition of = taken condition_of of

-- each of some parts, in order, or the first fault
abbrev pub each : {X Y : Type 0} → (X → Result Y Fault) → List X → Result (List Y) Fault
each typed [] = Ok []
each typed (x ∷ xs) = result_then (λ y. result_map (λ ys. y ∷ ys) (each typed xs)) (typed x)

-- Conditions and calculations

-- a condition behind what joins it
abbrev pub joined : Join × Part → Result JoinedExpr Fault
joined link = result_map (λ of. roll-JoinedExpr (record { join = link.0; of = of })) (condition link.1)

-- conditions joined from left to right
abbrev pub chain : Part → List (Join × Part) → Result Operand Fault
chain first rest = result_then (λ left. result_map (λ others. Operand.Condition (expr.Chain left others)) (each joined rest)) (condition first)

-- a number behind its sign
abbrev pub combined : Arith × Part → Result CombinedTerm Fault
combined next = result_map (λ of. roll-CombinedTerm (record { arith = next.0; of = of })) (whole next.1)

-- numbers combined from left to right
abbrev pub calculation : Part → List (Arith × Part) → Result Operand Fault
calculation first rest = result_then (λ left. result_map (λ others. Operand.Number (term.Calc left others)) (each combined rest)) (whole first)

-- Comparisons

-- an operand of one of these kinds, and its kind
abbrev pub value_where : (ValueKind → Bool) → Operand → Option (ValueKind × Term)
value_where takes operand = option_map (λ value. (kind_of operand, value)) (term_where takes operand)

-- two values of one kind
abbrev pub comparison : Cmp → Part → Part → Result Operand Fault
comparison cmp left right =
    result_then
    (λ first. result_map (λ second. Operand.Condition (expr.Compare cmp first.1 second)) (taken (term_where (is_same_kind first.0)) right))
    (taken (value_where (is_compared cmp)) left)

-- whether an end is included, as it is written
abbrev pub end_named : List ℕ → Option Bool
end_named text = if bytes_eq text (codes "include") then Some true else if bytes_eq text (codes "exclude") then Some false else None

-- the text that a literal is
abbrev pub text_of : Literal → Option (List ℕ)
text_of (Literal.Number number) = None
text_of (Literal.Text text) = Some text
text_of (Literal.Truth truth) = None

-- a part that says whether an end is included
abbrev pub end_part : Part → Result Bool Fault
end_part of =
    result_then
    (λ operand. ok_or (option_and_then end_named (option_and_then text_of of.literal)) (fault_at TypeMismatch of.at))
    of.typed

-- a value between two ends of its kind; a call with other than five arguments is none
abbrev pub between : ℕ → List Part → Result Operand Fault
between at (value ∷ low ∷ with_low ∷ high ∷ with_high ∷ []) =
    result_then
    (λ v. result_then
    (λ l. result_then
    (λ wl. result_then
    (λ h. result_map
    (λ wh. Operand.Condition (expr.Between v.1 l wl h wh))
    (end_part with_high))
    (taken (term_where (is_same_kind v.0)) high))
    (end_part with_low))
    (taken (term_where (is_same_kind v.0)) low))
    (taken (value_where is_ordered) value)
between at _ = Err (fault_at TypeMismatch at)

-- a value among others of its kind
abbrev pub in_values : ℕ → List Part → Result Operand Fault
in_values at (value ∷ others) =
    result_then
    (λ first. result_map (λ rest. Operand.Condition (expr.InValues first.1 rest)) (each (taken (term_where (is_same_kind first.0))) others))
    (taken (value_where is_plain) value)
in_values at [] = Err (fault_at TypeMismatch at)

-- Searches

-- an operand as a path that a search takes
abbrev pub sought_path : Seek → Operand → Option Path
sought_path seek operand = only (is_sought seek) (path_in operand)

-- a part as the value that is sought in a field
abbrev pub sought_value : Path → Part → Result Literal Fault
sought_value path of =
    result_then
    (λ operand. ok_or (only (is_sought_in path) of.literal) (fault_at TypeMismatch of.at))
    of.typed

-- a search in a field
abbrev pub leaf : SchemaDef → Path → Seek → Literal → SeekLeaf
leaf schema path seek value = record { path = path; seek = seek; by = by_path schema path; value = value }

-- a field, and what is sought in it
abbrev pub search : SchemaDef → Seek → Part → Part → Result Operand Fault
search schema seek left right =
    result_then
    (λ path. result_map (λ value. Operand.Condition (expr.Seek (leaf schema path seek value))) (sought_value path right))
    (taken (sought_path seek) left)

-- Names

-- the field that a text writes
abbrev pub named : SchemaDef → TableNo → List ℕ → Result Path Fault
named schema table text = ok_or (path_of schema table text) (fault_named NoSuchColumn text)

-- Words of a query

-- a word sought in a match column
abbrev pub word_leaf : Seek → List ℕ → Column → WeightedLeaf
word_leaf seek text column =
    record { weight = column.weight; leaf = record { path = column.path; seek = seek; by = column.by; value = Literal.Text text } }

-- the beginnings of words are sought in texts alone
abbrev pub takes_word : Seek → Column → Bool
takes_word Match column = true
takes_word Prefix column = is_same_kind (path_kind column.path) Text
takes_word Suffix column = is_same_kind (path_kind column.path) Text

-- a word sought in match columns
abbrev pub word : Option (List Column) → ℕ → Seek → List ℕ → Result Operand Fault
word None at seek text = Err (fault_at NoMatchColumn at)
word (Some columns) at seek text =
    if list_any (λ column. not (takes_word seek column)) columns then Err (fault_at TypeMismatch at)
    else Ok (Operand.Condition (expr.Weighted (map (word_leaf seek text) columns)))

-- Fields of a query

-- the fields that a test takes
abbrev pub is_tested : FieldOp → Path → Bool
is_tested (FieldOp.Compare cmp) path = is_compared cmp (path_kind path)
is_tested (FieldOp.Find seek) path = is_sought seek path

-- whether a number is one that values have, of 64 bits
abbrev pub is_value : ℤ → Bool
is_value number = int_le (neg_ℤ (pos 9223372036854775808)) number && int_le number (pos 18446744073709551615)

-- `true` or `false`
abbrev pub truth_named : List ℕ → Option Bool
truth_named text = if bytes_eq text (codes "true") then Some true else if bytes_eq text (codes "false") then Some false else None

-- the literal that a text writes for values of a kind
abbrev pub literal_for : ℕ → ValueKind → List ℕ → Result Literal Fault
literal_for at Whole text = ok_or (option_map Literal.Number (only is_value (whole_text text))) (fault_at BadNumber at)
literal_for at WholeVec text = ok_or (option_map Literal.Number (only is_value (whole_text text))) (fault_at BadNumber at)
literal_for at Truth text = ok_or (option_map Literal.Truth (truth_named text)) (fault_at TypeMismatch at)
literal_for at Text text = Ok (Literal.Text text)
literal_for at TextVec text = Ok (Literal.Text text)

-- a test of a field with a literal
abbrev pub tested : SchemaDef → Path → FieldOp → Literal → Expr
tested schema path (FieldOp.Compare cmp) literal = expr.Compare cmp (term.Cell path) (term.Literal literal)
tested schema path (FieldOp.Find seek) literal = expr.Seek (leaf schema path seek literal)

-- a test of a field: the field, then whether the test takes it, then its literal
abbrev pub field : SchemaDef → TableNo → ℕ → List ℕ → FieldOp → List ℕ → Result Operand Fault
field schema table at name test text =
    result_then
    (λ path. result_then
    (λ taken_path. result_map (λ literal. Operand.Condition (tested schema taken_path test literal)) (literal_for at (path_kind taken_path) text))
    (ok_or (only (is_tested test) (Some path)) (fault_at TypeMismatch at)))
    (named schema table name)

-- The tree

-- one level of the tree, with the parts in it in their places
abbrev pub step : SchemaDef → TableNo → Option (List Column) → Ast-F Part (Arith × Part) (Join × Part) → Part
step schema table columns (Ast-F.Chain at first rest) = part at (chain first rest)
step schema table columns (Ast-F.Not at of) = part at (result_map (λ inner. Operand.Condition (expr.Not inner)) (condition of))
step schema table columns (Ast-F.Minus at of) = record {
  at = at;
  digits = None;
  literal = option_map (λ n. Literal.Number (neg_ℤ (pos n))) of.digits;
  typed = result_map (λ inner. Operand.Number (term.Minus inner)) (whole of);
}
step schema table columns (Ast-F.Compare at cmp left right) = part at (comparison cmp left right)
step schema table columns (Ast-F.Find at seek left right) = part at (search schema seek left right)
step schema table columns (Ast-F.Calc at first rest) = part at (calculation first rest)
step schema table columns (Ast-F.Between at args) = part at (between at args)
step schema table columns (Ast-F.InValues at args) = part at (in_values at args)
step schema table columns (Ast-F.Path at text) = part at (result_map Operand.Path (named schema table text))
step schema table columns (Ast-F.Number at value) = record (literal_part at (Literal.Number (pos value))) { digits = Some value }
step schema table columns (Ast-F.Text at bytes) = literal_part at (Literal.Text bytes)
step schema table columns (Ast-F.Truth at value) = literal_part at (Literal.Truth value)
step schema table columns (Ast-F.All at) = part at (Ok (Operand.Condition expr.All))
step schema table columns (Ast-F.Word at seek text) = part at (word columns at seek text)
step schema table columns (Ast-F.FieldTest at path test text) = part at (field schema table at path test text)

-- a number behind its sign, and a condition behind what joins it
abbrev pub combined_step : Combined-F Part (Arith × Part) (Join × Part) → Arith × Part
combined_step next = (next.arith, next.of)

abbrev pub joined_step : Joined-F Part (Arith × Part) (Join × Part) → Join × Part
joined_step link = (link.join, link.of)

-- the tree as a part
abbrev pub part_of : SchemaDef → TableNo → Option (List Column) → Ast → Part
part_of schema table columns = fold-Ast Part (Arith × Part) (Join × Part) (step schema table columns) combined_step joined_step

-- what match columns mean, where there are some
abbrev pub columns_given : SchemaDef → TableNo → Option (List MatchColumn) → Result (Option (List Column)) Fault
columns_given schema table None = Ok None
columns_given schema table (Some columns) = result_map Some (columns_typed schema table columns)

-- the condition that a whole query or script means, or the first fault: of the match columns, and then of the tree
abbrev pub typed : SchemaDef → TableNo → Option (List MatchColumn) → Ast → Result Expr Fault
typed schema table columns tree = result_then (λ given. condition (part_of schema table given tree)) (columns_given schema table columns)
