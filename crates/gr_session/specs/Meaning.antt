-- What a command means: the changes that it asks for, and what it answers.
use Rattle.std.specs.Prelude.{ℕ, ◌+◌, Bool, true, false, if◌then◌else◌, Some, List, [], codes}
use Rattle.std.specs.Fmt.{decimal}
use Rattle.gr_base.specs.declared.fault.Fault.{Fault}
use Rattle.gr_base.specs.declared.fault.FaultKind.{FaultKind}
use Rattle.gr_base.specs.declared.fault.FaultKind.TheVariants.{NoSuchRecord}
use Rattle.gr_db.specs.declared.entry.Change.{Change}
use Rattle.gr_session.specs.ReplyText.{refusal_line, want_of_memory_line}
use Rattle.gr_session.specs.declared.form.Form.{Form}
use Rattle.gr_session.specs.declared.form.Form.TheVariants.{Plain, Counting, Naming}

-- the changes that a command asks for; and what it answers once all of them are made, where the next one is refused after so many, and to want of memory after so many
pub record Meaning : Type 0 where
  pub changes : List Change
  pub answer : List ℕ
  pub refused : ℕ → Fault → List ℕ
  pub starved : ℕ → List ℕ

-- whether rows are counted
abbrev pub counts : Form → Bool
counts Plain = false
counts Counting = true
counts (Naming name) = false

-- the body of a reply where not all was done: how many rows were entered where they are counted, and otherwise `false`
abbrev pub body_after : Form → ℕ → List ℕ
body_after form made = if counts form then decimal made else codes "false"

-- a fault in the row of this number
abbrev pub in_row : ℕ → Fault → Fault
in_row row fault = record { kind = fault.kind; row = Some row; at = fault.at; name = fault.name }

-- whether a fault is that a record is not there
abbrev pub is_missing : FaultKind → Bool
is_missing NoSuchRecord = true
is_missing other = false

-- a fault; that a record is not there is told by this name
abbrev pub calling : List ℕ → Fault → Fault
calling name fault = if is_missing fault.kind then record { kind = fault.kind; row = fault.row; at = fault.at; name = name } else fault

-- the fault of a command's next change; where rows are counted it says in which, and where a record is named how
abbrev pub fault_after : Form → ℕ → Fault → Fault
fault_after Plain made fault = fault
fault_after Counting made fault = in_row (made + 1) fault
fault_after (Naming name) made fault = calling name fault

-- these changes and this answer, with the other replies written in this form
abbrev pub meaning_in : Form → List Change → List ℕ → Meaning
meaning_in form changes answer = record {
  changes = changes;
  answer = answer;
  refused = λ made fault. refusal_line (fault_after form made fault) (body_after form made);
  starved = λ made. want_of_memory_line (body_after form made);
}

-- a command that is refused as it is read: it asks for nothing
abbrev pub refused_in : Form → Fault → Meaning
refused_in form fault = meaning_in form [] (refusal_line fault (body_after form 0))
