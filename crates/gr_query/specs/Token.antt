-- Tokens of a query, and where they stand.
use Rattle.std.specs.Prelude.{ℕ, suc, ◌+◌, ◌-◌, ◌==◌, ◌&&◌, Bool, nat_lt, if◌then◌else◌, Option, Some, None, option_map, codes, List, [], ◌∷◌, take, drop, length, slice_index}
use Rattle.std.specs.Str.{byte, bytes_eq}
use Rattle.gr_base.specs.declared.compare.Cmp.TheVariants as cmp
use Rattle.gr_ast.specs.declared.operators.FieldOp.{FieldOp}
use Rattle.gr_ast.specs.declared.operators.FieldOp.TheVariants.{Compare, Find}
use Rattle.gr_ast.specs.declared.operators.Seek.TheVariants as seek
use Rattle.gr_text.specs.Cut.{Placed, Cut, cut}
use Rattle.gr_text.specs.Paths.{path_len}
use Rattle.gr_text.specs.Strings.{string_from}
use Rattle.gr_query.specs.Runs.{CharacterRun, run_from}
use Rattle.gr_query.specs.declared.token.Token.{Token}
use Rattle.gr_query.specs.declared.token.Token.TheVariants.{Open, Close, Plus, Minus, Or, Word, Field}

-- a token at its byte place
abbrev pub Lexeme : Type 0
Lexeme = Placed Token

-- a phrase with its opening quote: the text meant, and how many bytes it takes
abbrev pub phrase : Option (List ℕ × ℕ) → Option (List ℕ × ℕ)
phrase string = option_map (λ string. (string.0, suc string.1)) string

-- a run of one character at least: the text meant, and how many bytes it takes
abbrev pub some_run : CharacterRun → Option (List ℕ × ℕ)
some_run run = if run.len == 0 then None else Some (run.text, run.len)

-- the phrase or the run that a field is tested by
abbrev pub text_at : List ℕ → Option (List ℕ × ℕ)
text_at [] = None
text_at (c ∷ cs) = if c == byte "\"" then phrase (string_from cs) else some_run (run_from (c ∷ cs))

-- an op with a second byte, if it is `=`, and without it
abbrev pub longer : ℕ → FieldOp → FieldOp → FieldOp × ℕ
longer second long short = if second == byte "=" then (long, 2) else (short, 1)

-- the op that some bytes begin with, as long as it goes, and how many bytes it has
abbrev pub op_at : List ℕ → FieldOp × ℕ
op_at [] = (Compare cmp.Eq, 0)
op_at (c ∷ cs) =
    if c == byte "!" then (Compare cmp.Ne, 1)
    else (if c == byte "<" then longer (slice_index cs 0) (Compare cmp.Le) (Compare cmp.Lt)
    else (if c == byte ">" then longer (slice_index cs 0) (Compare cmp.Ge) (Compare cmp.Gt)
    else (if c == byte "@" then (Find seek.Match, 1)
    else (if c == byte "^" then (Find seek.Prefix, 1)
    else (if c == byte "$" then (Find seek.Suffix, 1)
    else (Compare cmp.Eq, 0))))))

-- whether a path and a `:` stand first
abbrev pub begins_field : List ℕ → Bool
begins_field bytes = nat_lt 0 (path_len bytes) && slice_index bytes (path_len bytes) == byte ":"

-- a path of so many bytes, a `:`, an op, and what stands behind them
abbrev pub field_with : List ℕ → FieldOp × ℕ → List ℕ → Option (Token × ℕ)
field_with path op rest = option_map (λ text. (Field path op.0 text.0, suc (length path) + op.1 + text.1)) (text_at (drop op.1 rest))

-- a path, a `:`, an op, and a phrase or a run
abbrev pub field_at : List ℕ → Option (Token × ℕ)
field_at bytes = let rest = drop (suc (path_len bytes)) bytes in field_with (take (path_len bytes) bytes) (op_at rest) rest

-- a run that ends in `*`: all before it, unless it is alone
abbrev pub prefix_of : CharacterRun → Option (Token × ℕ)
prefix_of run = if run.len == 1 then None else Some (Word seek.Prefix (take (length run.text - 1) run.text), run.len)

-- a run that begins no field, given its bytes: the word OR, a prefix, or a plain
abbrev pub plain_of : List ℕ → CharacterRun → Option (Token × ℕ)
plain_of bytes run =
    if run.len == 0 then None
    else (if bytes_eq bytes (codes "OR") then Some (Or, run.len)
    else (if run.is_starred then prefix_of run
    else Some (Word seek.Match run.text, run.len)))

-- the word OR, a prefix or a plain
abbrev pub plain_at : List ℕ → Option (Token × ℕ)
plain_at bytes = plain_of (take ((run_from bytes).len) bytes) (run_from bytes)

-- the bracket or the sign that one byte is
abbrev pub mark : ℕ → Option Token
mark c =
    if c == byte "(" then Some Open
    else (if c == byte ")" then Some Close
    else (if c == byte "+" then Some Plus
    else (if c == byte "-" then Some Minus
    else None)))

-- a mark, or what else begins there
abbrev pub or_else : Option Token → Option (Token × ℕ) → Option (Token × ℕ)
or_else None other = other
or_else (Some token) other = Some (token, 1)

-- a phrase that begins no field
abbrev pub phrase_at : List ℕ → Option (Token × ℕ)
phrase_at behind = option_map (λ text. (Word seek.Match text.0, text.1)) (phrase (string_from behind))

-- the token that some bytes begin with, as long as it goes, and how many bytes it has
abbrev pub token_at : List ℕ → Option (Token × ℕ)
token_at [] = None
token_at (c ∷ cs) =
    or_else (mark c)
    (if c == byte "\"" then phrase_at cs
    else (if begins_field (c ∷ cs) then field_at (c ∷ cs)
    else plain_at (c ∷ cs)))

-- a query's tokens
abbrev pub tokens_of : List ℕ → Cut Token
tokens_of query = cut token_at query
