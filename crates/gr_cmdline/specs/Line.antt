-- What one line asks for.
use Rattle.std.specs.Prelude.{ℕ, ◌==◌, ◌&&◌, Bool, true, if◌then◌else◌, nat_lt, Option, Some, None, Result, Ok, Err, List, [], ◌∷◌, length}
use Rattle.std.specs.Str.{byte, is_utf8}
use Rattle.gr_base.specs.Text.{is_blank}
use Rattle.gr_base.specs.declared.fault.FaultKind.TheVariants.{LineTooLong, NotText}
use Rattle.gr_cmdline.specs.Request.{Request, request_of}
use Rattle.gr_cmdline.specs.Binding.{command_of, refused}
use Rattle.gr_cmdline.specs.declared.command.Command.{Command}
use Rattle.gr_cmdline.specs.declared.refused.Refused.{Refused}

-- a line without the one carriage return that may stand at its end
abbrev pub without_return : List ℕ → List ℕ
without_return [] = []
without_return (c ∷ []) = if c == byte "\r" then [] else c ∷ []
without_return (c ∷ d ∷ cs) = c ∷ without_return (d ∷ cs)

-- a line from its first byte that is no blank
abbrev pub from_first : List ℕ → List ℕ
from_first [] = []
from_first (c ∷ cs) = if is_blank c then from_first cs else c ∷ cs

-- a byte in front of others, unless it is a blank and nothing else is there
abbrev pub in_front : ℕ → List ℕ → List ℕ
in_front c cs = if is_blank c && length cs == 0 then [] else c ∷ cs

-- a line up to its last byte that is no blank
abbrev pub up_to_last : List ℕ → List ℕ
up_to_last [] = []
up_to_last (c ∷ cs) = in_front c (up_to_last cs)

-- a line without the blanks at its ends
abbrev pub trimmed : List ℕ → List ℕ
trimmed line = from_first (up_to_last line)

-- an empty line and a comment line ask for nothing
abbrev pub is_skipped : List ℕ → Bool
is_skipped [] = true
is_skipped (c ∷ cs) = c == byte "#"

-- the command that is asked for, where the line can be read
abbrev pub command_asked : Result Request Refused → Result Command Refused
command_asked (Err refusal) = Err refusal
command_asked (Ok asked) = command_of asked

-- the command of a line that is not skipped, of which this is without the blanks at its ends
abbrev pub command_of_line : ℕ → List ℕ → List ℕ → Result Command Refused
command_of_line limit line text =
    if nat_lt limit (length line) then Err (refused LineTooLong [])
    else (if is_utf8 text then command_asked (request_of text) else Err (refused NotText []))

-- what a line asks for, where it asks for something; its length is counted before blanks are dropped
abbrev pub line_of : ℕ → List ℕ → Option (Result Command Refused)
line_of limit line = if is_skipped (trimmed line) then None else Some (command_of_line limit line (trimmed line))
