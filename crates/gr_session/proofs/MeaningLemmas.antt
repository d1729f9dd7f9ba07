-- What each item means is written in one form.
use Rattle.std.proofs.Common.{◌≡◌, ℕ, Option, Some, None, Result, Ok, Err, IfOk, List, refl, ap, sym, subst}
use Rattle.gr_base.specs.declared.memory.NoMemory.{NoMemory}
use Rattle.gr_base.specs.declared.fault.Fault.{Fault}
use Rattle.gr_cmdline.specs.Arguments.{value_of}
use Rattle.gr_cmdline.specs.declared.command.Command.{Command}
use Rattle.gr_cmdline.specs.declared.command.Item.{Item}
use Rattle.gr_cmdline.specs.declared.command.Item.TheVariants.{Command as ByCommand, Bad}
use Rattle.gr_cmdline.specs.declared.param.Param.TheVariants.{Filter as OfFilter, Table as OfTable}
use Rattle.gr_cmdline.specs.declared.verb.Verb.{Verb}
use Rattle.gr_cmdline.specs.declared.verb.Verb.TheVariants.{TableCreate, ColumnCreate, Load, Delete, Select, Dump}
use Rattle.gr_base.specs.declared.numbers.TableNo.{TableNo}
use Rattle.gr_db.specs.Db.{Db}
use Rattle.gr_db.specs.declared.entry.Which.{Which}
use Rattle.gr_expr.specs.declared.typed.Expr.{Expr}
use Rattle.gr_schema.specs.Schema.{SchemaDef}
use Rattle.gr_schema.specs.Wishes.{Home, home_named}
use Rattle.gr_session.specs.Checks.{text_of}
use Rattle.gr_session.specs.Commands.{form_by_verb, form_of_command, meaning_by_verb, meaning_of, meaning_unless, meaning_with}
use Rattle.gr_session.specs.Delete.{condition_in, delete_found, delete_in, delete_of, delete_which, name_given, which_in}
use Rattle.gr_session.specs.Fixed.{fixed_fault}
use Rattle.gr_session.specs.Inside.Forms.{form_of}
use Rattle.gr_session.specs.Inside.Kept.{Asks}
use Rattle.gr_session.specs.Load.{load_at}
use Rattle.gr_session.specs.Meaning.{Meaning, body_after, meaning_in}
use Rattle.gr_session.specs.ReplyText.{want_of_memory_line}
use Rattle.gr_select.specs.Select.{select}
use Rattle.gr_select.specs.declared.texts.Texts.{Texts}
use Rattle.gr_session.specs.Select.{select_of, told}
use Rattle.gr_session.specs.declared.parsed.Parsed.{Parsed}
use Rattle.gr_session.specs.declared.asked.Asked.{Asked}
use Rattle.gr_session.specs.declared.form.Form.{Form}
use Rattle.gr_session.specs.declared.form.Form.TheVariants.{Plain, Counting, Naming}

-- a meaning is its changes and its answer, with the other replies written in this form
abbrev pub IsIn : Form → Meaning → Type 0
IsIn form meaning = meaning ≡ meaning_in form meaning.changes meaning.answer

IsIn-load_at : (schema : SchemaDef) (home : Option Home) (command : Command) → IsIn Counting (load_at schema home command)
IsIn-load_at schema (Some home) command = refl
IsIn-load_at schema None command = refl

IsIn-told : (text : Result (List ℕ) Fault) → IsIn Plain (told text)
IsIn-told (Ok text) = refl
IsIn-told (Err fault) = refl

IsIn-select_of : (db : Db) (home : Option Home) (command : Command) (texts : Texts) → IsIn Plain (select_of db home command texts)
IsIn-select_of db (Some home) command texts = IsIn-told (select db home command.args.given texts)
IsIn-select_of db None command texts = refl

IsIn-which : (form : Form) (table : TableNo) (which : Result Which Fault) → IsIn form (delete_which form table which)
IsIn-which form table (Ok which) = refl
IsIn-which form table (Err fault) = refl

IsIn-found : (form : Form) (db : Db) (table : TableNo) (condition : Result Expr Fault) → IsIn form (delete_found form db table condition)
IsIn-found form db table (Ok condition) = refl
IsIn-found form db table (Err fault) = refl

IsIn-delete_in : (form : Form) (db : Db) (home : Home) (command : Command) (texts : Texts) (filter : Option (List ℕ)) → IsIn form (delete_in form db home command texts filter)
IsIn-delete_in form db home command texts (Some filter) = IsIn-found form db home.number (condition_in db.schema home texts)
IsIn-delete_in form db home command texts None = IsIn-which form home.number (which_in home.def command)

IsIn-delete_of : (form : Form) (db : Db) (home : Option Home) (command : Command) (texts : Texts) → IsIn form (delete_of form db home command texts)
IsIn-delete_of form db (Some home) command texts = IsIn-delete_in form db home command texts (value_of command.args.given OfFilter)
IsIn-delete_of form db None command texts = refl

IsIn-verb : (verb : Verb) (db : Db) (command : Command) (texts : Texts) → IsIn (form_by_verb verb command) (meaning_by_verb verb db command texts)
IsIn-verb TableCreate db command texts = refl
IsIn-verb ColumnCreate db command texts = refl
IsIn-verb Load db command texts = IsIn-load_at db.schema (home_named db.schema (text_of command OfTable)) command
IsIn-verb Delete db command texts = IsIn-delete_of (Naming (name_given command)) db (home_named db.schema (text_of command OfTable)) command texts
IsIn-verb Select db command texts = IsIn-select_of db (home_named db.schema (text_of command OfTable)) command texts
IsIn-verb Dump db command texts = refl

IsIn-unless : (fault : Option Fault) (db : Db) (command : Command) (texts : Texts) → IsIn (form_of_command command) (meaning_unless fault db command texts)
IsIn-unless (Some fault) db command texts = refl
IsIn-unless None db command texts = IsIn-verb command.verb db command texts

IsIn-with : (db : Db) (texts : Texts) (item : Item) → IsIn (form_of item) (meaning_with db texts item)
IsIn-with db texts (ByCommand command) = IsIn-unless (fixed_fault command) db command texts
IsIn-with db texts (Bad fault) = refl

-- what an item means is in the item's form
pub IsIn-meaning_of : (db : Db) (parsed : Parsed) → IsIn (form_of parsed.item) (meaning_of db parsed)
IsIn-meaning_of db parsed = IsIn-with db parsed.texts parsed.item

-- the replies to want of memory are in it too
pub starved-meaning_of : (db : Db) (parsed : Parsed) (made : ℕ) → want_of_memory_line (body_after (form_of parsed.item) made) ≡ (meaning_of db parsed).starved made
starved-meaning_of db parsed made = ap (λ (meaning : Meaning). meaning.starved made) (sym (IsIn-meaning_of db parsed))

-- who asks as one meaning says asks as the same one says
pub Asks-same : (db : Db) (meaning whole : Meaning) (result : Result Asked NoMemory) → IfOk result (λ asked. Asks db meaning asked) → meaning ≡ whole → IfOk result (λ asked. Asks db whole asked)
Asks-same db meaning whole result asks same = subst (λ (meaning : Meaning). IfOk result (λ asked. Asks db meaning asked)) same asks
