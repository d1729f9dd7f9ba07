-- Load data on the lines that follow a load.
use Rattle.std.specs.Prelude.{ℕ, ◌-◌, ◌==◌, ◌&&◌, not, Bool, true, false, if◌then◌else◌, List, [], ◌∷◌, ◌++◌, map}
use Rattle.std.specs.List.{count_by, list_any}
use Rattle.std.specs.Str.{byte, is_utf8}
use Rattle.gr_base.specs.Fault.{fault_named}
use Rattle.gr_base.specs.declared.fault.FaultKind.TheVariants.{LineTooLong, NotText, UnfinishedLoad}
use Rattle.gr_cmdline.specs.Arguments.{is_given}
use Rattle.gr_cmdline.specs.declared.command.Command.{Command}
use Rattle.gr_cmdline.specs.declared.command.Item.{Item}
use Rattle.gr_cmdline.specs.declared.command.Item.TheVariants.{Command as Accepted, Bad}
use Rattle.gr_cmdline.specs.declared.param.Param.TheVariants.{Values}
use Rattle.gr_cmdline.specs.declared.verb.Verb.{Verb}
use Rattle.gr_cmdline.specs.declared.verb.Verb.TheVariants.{Delete, TableCreate, ColumnCreate, Load, Select, Dump}

-- a load that waits for its data: its command, the data so far, and whether a line of them was too long
pub record Waiting : Type 0 where
  pub command : Command
  pub text : List ℕ
  pub too_long : Bool

-- whether a command is a load
abbrev pub is_load : Verb → Bool
is_load TableCreate = false
is_load ColumnCreate = false
is_load Load = true
is_load Delete = false
is_load Select = false
is_load Dump = false

-- a load without values takes the lines that follow
abbrev pub awaits_data : Command → Bool
awaits_data command = is_load command.verb && not (is_given command.args.given Values)

-- where a byte of load data stands: a string runs from a double quote to the next one, and in it a backslash skips one byte
pub data Place : Type 0 where
  outside : Place
  in_string : Place
  behind_backslash : Place

-- the bytes that stand outside strings
abbrev pub outside_from : Place → List ℕ → List ℕ
outside_from outside [] = []
outside_from outside (c ∷ cs) = if c == byte "\"" then outside_from in_string cs else c ∷ outside_from outside cs
outside_from in_string [] = []
outside_from in_string (c ∷ cs) =
    if c == byte "\"" then outside_from outside cs
    else (if c == byte "\\" then outside_from behind_backslash cs else outside_from in_string cs)
outside_from behind_backslash [] = []
outside_from behind_backslash (c ∷ cs) = outside_from in_string cs

-- the beginnings of a list, from that of one byte to the whole
abbrev pub beginnings : List ℕ → List (List ℕ)
beginnings [] = []
beginnings (c ∷ cs) = (c ∷ []) ∷ map (λ front. c ∷ front) (beginnings cs)

-- how many `[` of these bytes are open
abbrev pub open_brackets : List ℕ → ℕ
open_brackets bytes = count_by (λ c. c == byte "[") bytes - count_by (λ c. c == byte "]") bytes

-- whether the number of open `[` outside strings returns to 0 in a text
abbrev pub closes : List ℕ → Bool
closes text = list_any (λ front. open_brackets front == 0) (beginnings (outside_from outside text))

-- data so far are whole: a line that does not begin with `[` alone, or lines up to the one that closes the first `[`
abbrev pub is_whole : List ℕ → Bool
is_whole [] = false
is_whole (c ∷ cs) = if c == byte "[" then closes (c ∷ cs) else true

-- a line behind the data so far
abbrev pub with_line : List ℕ → List ℕ → List ℕ
with_line [] line = line
with_line (c ∷ cs) line = (c ∷ cs) ++ byte "\n" ∷ line

-- a load with its data as the last of its values
abbrev pub with_data : Command → List ℕ → Command
with_data command text = record { verb = command.verb; args = record { suffix = command.args.suffix; given = command.args.given ++ (Values, text) ∷ [] } }

-- what a load gives once its data are taken, whole or not
abbrev pub loaded : Waiting → Bool → Item
loaded waiting whole =
    if waiting.too_long then Bad (fault_named LineTooLong [])
    else (if is_utf8 waiting.text then (if whole then Accepted (with_data waiting.command waiting.text) else Bad (fault_named UnfinishedLoad []))
    else Bad (fault_named NotText []))
