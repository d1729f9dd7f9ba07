-- What the grammar asks of a token: what an operand may begin with, and what may follow one.
use Rattle.std.specs.Prelude.{ℕ, ◌-◌, ◌^◌, Bool, true, false, List, Option, Some, None, unwrap_or, codes, if◌then◌else◌}
use Rattle.std.specs.Str.{bytes_eq}
use Rattle.gr_base.specs.declared.compare.Cmp.TheVariants as cmp
use Rattle.gr_ast.specs.declared.ast.Ast.TheVariants as ast
use Rattle.gr_ast.specs.declared.operators.Arith.TheVariants.{Add, Sub, Mul, Div, Rem}
use Rattle.gr_ast.specs.declared.operators.FieldOp.TheVariants.{Compare, Find}
use Rattle.gr_ast.specs.declared.operators.Join.TheVariants as join
use Rattle.gr_ast.specs.declared.operators.Seek.TheVariants as seek
use Rattle.gr_script.specs.declared.grammar.After.{After}
use Rattle.gr_script.specs.declared.grammar.After.TheVariants as after
use Rattle.gr_script.specs.declared.grammar.Call.TheVariants.{Between, InValues}
use Rattle.gr_script.specs.declared.grammar.ConditionLine.TheVariants.{Any, All}
use Rattle.gr_script.specs.declared.grammar.NumberLine.TheVariants.{Sum, Product}
use Rattle.gr_script.specs.declared.grammar.Reserved.{Reserved}
use Rattle.gr_script.specs.declared.grammar.Reserved.TheVariants.{Truth, Called}
use Rattle.gr_script.specs.declared.grammar.Sign.TheVariants as sign
use Rattle.gr_script.specs.declared.grammar.Start.{Start}
use Rattle.gr_script.specs.declared.grammar.Start.TheVariants as start
use Rattle.gr_script.specs.declared.token.Symbol.{Symbol}
use Rattle.gr_script.specs.declared.token.Symbol.TheVariants as s
use Rattle.gr_script.specs.declared.token.Token.{Token}
use Rattle.gr_script.specs.declared.token.Token.TheVariants.{Symbol as symbol, Digits as digits, Text as text, Path as path}
use Rattle.gr_script.specs.Token.{Lexeme}

-- the greatest number of 64 bits
abbrev pub greatest : ℕ
greatest = 2 ^ 64 - 1

-- what a word means that is no path by itself: a truth, or a call's name
abbrev pub reserved : List ℕ → Option Reserved
reserved word =
    if bytes_eq word (codes "true") then Some (Truth true)
    else (if bytes_eq word (codes "false") then Some (Truth false)
    else (if bytes_eq word (codes "between") then Some (Called Between)
    else (if bytes_eq word (codes "in_values") then Some (Called InValues)
    else None)))

-- what an operand that begins with a word is, by what the word means
abbrev pub start_by : ℕ → List ℕ → Option Reserved → Start
start_by at word None = start.Leaf (ast.Path at word)
start_by at word (Some (Truth value)) = start.Leaf (ast.Truth at value)
start_by at word (Some (Called call)) = start.Called call

-- A word without a quote: a truth, a call's name, or a path.
abbrev pub word_at : ℕ → List ℕ → Start
word_at at word = start_by at word (reserved word)

-- what an operand that begins with this mark is
abbrev pub start_with : Symbol → Start
start_with s.Open = start.Grouped
start_with s.Not = start.Signed sign.Not
start_with s.Minus = start.Signed sign.Minus
start_with _ = start.Nothing

-- What an operand that begins with this token is. A number above the greatest of 64 bits stands as that one: no text that has one has a tree.
abbrev pub start_at : ℕ → Token → Start
start_at at (symbol mark) = start_with mark
start_at at (digits value) = start.Leaf (ast.Number at (unwrap_or value greatest))
start_at at (text bytes) = start.Leaf (ast.Text at bytes)
start_at at (path word) = word_at at word

-- what an operand that begins with this token is, at the token's place
abbrev pub start_of : Lexeme → Start
start_of t = start_at t.at t.token

-- what this mark is behind an operand
abbrev pub after_mark : Symbol → After
after_mark s.Close = after.Closes
after_mark s.Comma = after.Separates
after_mark s.Or = after.Joins Any join.Or
after_mark s.And = after.Joins All join.And
after_mark s.Without = after.Joins All join.Without
after_mark s.Eq = after.Tests (Compare cmp.Eq)
after_mark s.Ne = after.Tests (Compare cmp.Ne)
after_mark s.Lt = after.Tests (Compare cmp.Lt)
after_mark s.Le = after.Tests (Compare cmp.Le)
after_mark s.Gt = after.Tests (Compare cmp.Gt)
after_mark s.Ge = after.Tests (Compare cmp.Ge)
after_mark s.Match = after.Tests (Find seek.Match)
after_mark s.Prefix = after.Tests (Find seek.Prefix)
after_mark s.Suffix = after.Tests (Find seek.Suffix)
after_mark s.Plus = after.Combines Sum Add
after_mark s.Minus = after.Combines Sum Sub
after_mark s.Star = after.Combines Product Mul
after_mark s.Slash = after.Combines Product Div
after_mark s.Percent = after.Combines Product Rem
after_mark s.Open = after.Nothing
after_mark s.Not = after.Nothing

-- what a token is behind an operand
abbrev pub after_by : Token → After
after_by (symbol mark) = after_mark mark
after_by _ = after.Nothing

-- what a token at its place is behind an operand
abbrev pub after_of : Lexeme → After
after_of t = after_by t.token

-- whether a token is an opening bracket
abbrev pub opens : Token → Bool
opens (symbol s.Open) = true
opens _ = false

-- whether a token is a number above the greatest of 64 bits
abbrev pub is_large : Token → Bool
is_large (digits None) = true
is_large _ = false
