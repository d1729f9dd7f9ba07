-- How the brackets that are open are counted, byte by byte.
use Rattle.std.specs.Prelude.{ℕ, ◌≡◌, ◌≤◌, ◌+◌, ◌-◌, ◌==◌, Bool, true, false, if◌then◌else◌, nat_le, List, [], fold, length}
use Rattle.std.specs.Str.{byte}
use Rattle.gr_cmdline.specs.Arguments.{is_given}
use Rattle.gr_cmdline.specs.declared.brackets.Brackets.{Brackets}
use Rattle.gr_cmdline.specs.declared.brackets.Inside.{Inside}
use Rattle.gr_cmdline.specs.declared.brackets.Inside.TheVariants.{Data, InString, Backslash, Closed}
use Rattle.gr_cmdline.specs.declared.command.Command.{Command}
use Rattle.gr_cmdline.specs.declared.param.Param.TheVariants.{Values}

-- so many brackets are open, and the next byte stands here
abbrev pub at_depth : ℕ → Inside → Brackets
at_depth depth inside = record { depth = depth; inside = inside }

-- a byte outside strings; the count ends where it returns to 0
abbrev pub after_data : ℕ → ℕ → Brackets
after_data depth c =
    if c == byte "[" then at_depth (depth + 1) Data
    else (if c == byte "]" then at_depth (depth - 1) (if nat_le depth 1 then Closed else Data)
    else at_depth depth (if c == byte "\"" then InString else Data))

-- a byte inside a string, where a backslash skips one
abbrev pub after_in_string : ℕ → ℕ → Brackets
after_in_string depth c = at_depth depth (if c == byte "\"" then Data else (if c == byte "\\" then Backslash else InString))

-- how a byte is counted, by where it stands
abbrev pub after_inside : Inside → ℕ → ℕ → Brackets
after_inside Data depth c = after_data depth c
after_inside InString depth c = after_in_string depth c
after_inside Backslash depth c = at_depth depth InString
after_inside Closed depth c = at_depth depth Closed

-- how a byte is counted
abbrev pub after_byte : Brackets → ℕ → Brackets
after_byte count c = after_inside count.inside count.depth c

-- the brackets that are open behind a text
abbrev pub counted : List ℕ → Brackets
counted text = fold after_byte (at_depth 0 Data) text

-- whether the count has returned to 0
abbrev pub is_closed : Inside → Bool
is_closed Data = false
is_closed InString = false
is_closed Backslash = false
is_closed Closed = true

-- what a load keeps beside its data: the brackets that are open behind them, and an empty name; values are not given
pub record IsCounted (command : Command) (text : List ℕ) (count : Brackets) (unnamed : List ℕ) : Type 0 where
  pub counts : count ≡ counted text
  pub bound : count.depth ≤ length text
  pub empty : unnamed ≡ []
  pub awaits : is_given command.args.given Values ≡ false
