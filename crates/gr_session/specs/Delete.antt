-- What `delete` asks for and answers.
use Rattle.std.specs.Prelude.{ℕ, ◌==◌, ℤ, pos, negsuc, Bool, false, if◌then◌else◌, Option, Some, None, unwrap_or, Result, Ok, Err, List, [], ◌∷◌, map, codes}
use Rattle.std.specs.Option.{ok_or, option_map}
use Rattle.std.specs.Str.{byte}
use Rattle.gr_base.specs.Failure.{result_map}
use Rattle.gr_base.specs.Fault.{fault_named}
use Rattle.gr_base.specs.declared.fault.Fault.{Fault}
use Rattle.gr_base.specs.declared.fault.FaultKind.{FaultKind}
use Rattle.gr_base.specs.declared.fault.FaultKind.TheVariants.{BadNumber, KeyGiven, LexiconReadOnly, NoSuchTable}
use Rattle.gr_base.specs.declared.numbers.RecordId.{RecordId}
use Rattle.gr_base.specs.declared.numbers.TableNo.{TableNo}
use Rattle.gr_cmdline.specs.Arguments.{value_of}
use Rattle.gr_cmdline.specs.declared.command.Command.{Command}
use Rattle.gr_cmdline.specs.declared.param.Param.TheVariants.{Filter, Id as OfId, Key as OfKey, Table}
use Rattle.gr_db.specs.Db.{Db}
use Rattle.gr_db.specs.declared.entry.Change.{Change}
use Rattle.gr_db.specs.declared.entry.Change.TheVariants.{Delete as DeleteChange, DeleteIf}
use Rattle.gr_db.specs.declared.entry.Which.{Which}
use Rattle.gr_db.specs.declared.entry.Which.TheVariants.{Id, Key as ByKey}
use Rattle.gr_expr.specs.Tables.{record_id}
use Rattle.gr_expr.specs.declared.typed.Expr.{Expr}
use Rattle.gr_plan.specs.Scan.{scan}
use Rattle.gr_schema.specs.Schema.{SchemaDef, is_lexicon}
use Rattle.gr_schema.specs.Wishes.{Home, home_named}
use Rattle.gr_schema.specs.declared.definition.TableDef.{TableDef}
use Rattle.gr_select.specs.Condition.{condition}
use Rattle.gr_select.specs.Numbers.{number_of}
use Rattle.gr_select.specs.declared.texts.Texts.{Texts}
use Rattle.gr_session.specs.Checks.{text_of}
use Rattle.gr_session.specs.Meaning.{Meaning, meaning_in, refused_in}
use Rattle.gr_session.specs.ReplyText.{success_line}
use Rattle.gr_session.specs.declared.form.Form.{Form}
use Rattle.gr_session.specs.declared.form.Form.TheVariants.{Naming}
use Rattle.gr_values.specs.Keys.{text_key}
use Rattle.gr_values.specs.declared.data_type.DataType.{DataType}
use Rattle.gr_values.specs.declared.data_type.DataType.TheVariants.{UInt32}

-- the fault of a key that cannot be read
abbrev pub key_fault : Result Which FaultKind → Result Which Fault
key_fault (Ok which) = Ok which
key_fault (Err kind) = Err (fault_named kind (codes "key"))

-- the record of the key that a text writes; a table without keys takes none
abbrev pub which_of_key : Option DataType → List ℕ → Result Which Fault
which_of_key None text = Err (fault_named KeyGiven [])
which_of_key (Some of) text = key_fault (result_map ByKey (text_key of text))

-- whether a minus stands first
abbrev pub is_signed : List ℕ → Bool
is_signed [] = false
is_signed (c ∷ cs) = c == byte "-"

-- a number as an id
abbrev pub id_at : ℤ → RecordId
id_at (pos n) = record_id n
id_at (negsuc n) = record_id 0

-- the id that decimal digits write
abbrev pub id_of_text : List ℕ → Option RecordId
id_of_text text = if is_signed text then None else option_map id_at (number_of UInt32 text)

-- the record of the id that a text writes
abbrev pub which_of_id : List ℕ → Result Which Fault
which_of_id text = ok_or (option_map Id (id_of_text text)) (fault_named BadNumber (codes "id"))

-- the record that is named, by its key or, where none is given, by its id
abbrev pub which_of : TableDef → Option (List ℕ) → List ℕ → Result Which Fault
which_of home (Some key) id = which_of_key home.key key
which_of home None id = which_of_id id

-- the text that names the record
abbrev pub name_given : Command → List ℕ
name_given command = unwrap_or (value_of command.args.given OfKey) (text_of command OfId)

-- the fault of a lexicon, whose records stay
abbrev pub lexicon_fault : TableDef → Option Fault
lexicon_fault home = if is_lexicon home then Some (fault_named LexiconReadOnly home.name) else None

-- what was found, unless there is a fault
abbrev pub found_unless : {T : Type 0} → Option Fault → Result T Fault → Result T Fault
found_unless (Some fault) found = Err fault
found_unless None found = found

-- the record of a table that a command names
abbrev pub which_in : TableDef → Command → Result Which Fault
which_in home command = found_unless (lexicon_fault home) (which_of home (value_of command.args.given OfKey) (text_of command OfId))

-- one record is to be removed, unless none is named rightly
abbrev pub delete_which : Form → TableNo → Result Which Fault → Meaning
delete_which form table (Err fault) = refused_in form fault
delete_which form table (Ok which) = meaning_in form (DeleteChange table which ∷ []) (success_line (codes "true"))

-- the condition by which records of a table are found
abbrev pub condition_in : SchemaDef → Home → Texts → Result Expr Fault
condition_in schema home texts = found_unless (lexicon_fault home.def) (condition schema home.number texts)

-- each record that a condition finds, by ascending id, is to be removed where the condition still finds it
abbrev pub deletions : Db → TableNo → Expr → List Change
deletions db table condition = map (λ hit. DeleteIf table hit.0 condition) (scan db.tables table condition)

-- the records that a condition finds are to be removed, unless it has a fault
abbrev pub delete_found : Form → Db → TableNo → Result Expr Fault → Meaning
delete_found form db table (Err fault) = refused_in form fault
delete_found form db table (Ok condition) = meaning_in form (deletions db table condition) (success_line (codes "true"))

-- records of a table: those that its filter finds, or where none is given the one that is named
abbrev pub delete_in : Form → Db → Home → Command → Texts → Option (List ℕ) → Meaning
delete_in form db home command texts None = delete_which form home.number (which_in home.def command)
delete_in form db home command texts (Some filter) = delete_found form db home.number (condition_in db.schema home texts)

-- records of a table, which must be there
abbrev pub delete_of : Form → Db → Option Home → Command → Texts → Meaning
delete_of form db None command texts = refused_in form (fault_named NoSuchTable (text_of command Table))
delete_of form db (Some home) command texts = delete_in form db home command texts (value_of command.args.given Filter)

-- what `delete` means; a record that is not there is told by the text that names it
abbrev pub delete : Db → Command → Texts → Meaning
delete db command texts = delete_of (Naming (name_given command)) db (home_named db.schema (text_of command Table)) command texts
