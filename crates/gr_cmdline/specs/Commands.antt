-- Which commands a text asks for.
use Rattle.std.specs.Prelude.{ℕ, ◌≡◌, ◌==◌, ◌||◌, Bool, true, false, if◌then◌else◌, nat_lt, option_to_list, Option, Some, None, Result, Ok, Err, List, [], ◌∷◌, ◌++◌, IsUtf8, length}
use Rattle.std.specs.List.{slice_split}
use Rattle.std.specs.Str.{byte}
use Rattle.gr_base.specs.Fault.{fault_named}
use Rattle.gr_cmdline.specs.Line.{line_of, trimmed, without_return}
use Rattle.gr_cmdline.specs.LoadData.{Waiting, awaits_data, is_whole, loaded, with_line}
use Rattle.gr_cmdline.specs.Arguments.{AreTexts}
use Rattle.gr_cmdline.specs.declared.command.Command.{Command}
use Rattle.gr_cmdline.specs.declared.command.Item.{Item}
use Rattle.gr_cmdline.specs.declared.command.Item.TheVariants.{Command as Accepted, Bad}
use Rattle.gr_cmdline.specs.declared.refused.Refused.{Refused}

-- a line ends at a line feed
abbrev pub is_line_end : ℕ → Bool
is_line_end c = c == byte "\n"

-- what a line gives, if anything, and the load that waits behind it
pub record Outcome : Type 0 where
  pub item : Option Item
  pub load : Option Waiting

-- what a command gives: a load without values waits for its data
abbrev pub outcome_of_command : Command → Outcome
outcome_of_command command =
    if awaits_data command then record { item = None; load = Some (record { command = command; text = []; too_long = false }) }
    else record { item = Some (Accepted command); load = None }

-- what a line gives that asks for this
abbrev pub outcome_of_line : Option (Result Command Refused) → Outcome
outcome_of_line None = record { item = None; load = None }
outcome_of_line (Some (Err refusal)) = record { item = Some (Bad (fault_named refusal.kind refusal.name)); load = None }
outcome_of_line (Some (Ok command)) = outcome_of_command command

-- what a load gives that has taken a line of data
abbrev pub outcome_of_data : Waiting → Outcome
outcome_of_data waiting =
    if is_whole waiting.text then record { item = Some (loaded waiting true); load = None }
    else record { item = None; load = Some waiting }

-- a line among the data of a load, of which this is without the blanks at its ends; a line of blanks is skipped
abbrev pub outcome_in_load : ℕ → Waiting → List ℕ → List ℕ → Outcome
outcome_in_load limit waiting line [] = record { item = None; load = Some waiting }
outcome_in_load limit waiting line (c ∷ cs) =
    outcome_of_data (record { command = waiting.command; text = with_line waiting.text (c ∷ cs); too_long = waiting.too_long || nat_lt limit (length line) })

-- what a line gives, behind a load that waits for its data or not
abbrev pub outcome_of : ℕ → Option Waiting → List ℕ → Outcome
outcome_of limit None line = outcome_of_line (line_of limit line)
outcome_of limit (Some waiting) line = outcome_in_load limit waiting line (trimmed line)

-- what a load gives whose data end with the text
abbrev pub unfinished : Option Waiting → List Item
unfinished None = []
unfinished (Some waiting) = loaded waiting false ∷ []

-- what the lines of a text give; the last one has no line feed, keeps its carriage return, and counts only where the text has ended
abbrev pub items_of_lines : ℕ → Option Waiting → List (List ℕ) → Bool → List Item
items_of_lines limit load [] ended = []
items_of_lines limit load (line ∷ []) ended =
    if ended then option_to_list (outcome_of limit load line).item ++ unfinished (outcome_of limit load line).load else []
items_of_lines limit load (line ∷ next ∷ others) ended =
    option_to_list (outcome_of limit load (without_return line)).item ++ items_of_lines limit (outcome_of limit load (without_return line)).load (next ∷ others) ended

-- what a text gives behind a load that waits for its data, or none
abbrev pub items_behind : ℕ → Option Waiting → List ℕ → Bool → List Item
items_behind limit load bytes ended = items_of_lines limit load (slice_split is_line_end bytes) ended

-- what a text asks for, each item a command or a line's fault, whether it has ended there or not
abbrev pub commands : ℕ → List ℕ → Bool → List Item
commands limit bytes ended = items_behind limit None bytes ended

-- these items are the first of those
abbrev pub AreFirst : List Item → List Item → Type 0
AreFirst items all = (rest : List Item) × (all ≡ items ++ rest)

-- a command or a line's fault, whose texts are UTF-8 and whose values are not empty
abbrev pub IsItem : Item → Type 0
IsItem (Accepted command) = AreTexts command.args
IsItem (Bad fault) = IsUtf8 fault.name
