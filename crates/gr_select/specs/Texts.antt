-- The texts of a command that are read by a grammar: what each one is, a tree or refused.
use Rattle.std.specs.Prelude.{ℕ, Option, Some, None, Result, Ok, Err, IfOk, IfSome, List}
use Rattle.gr_ast.specs.Columns.{AreMadeColumns}
use Rattle.gr_ast.specs.Made.{IsMade}
use Rattle.gr_ast.specs.declared.ast.Ast.{Ast}
use Rattle.gr_ast.specs.declared.columns.MatchColumn.{MatchColumn}
use Rattle.gr_cmdline.specs.Arguments.{value_of}
use Rattle.gr_cmdline.specs.declared.param.Param.{Param}
use Rattle.gr_cmdline.specs.declared.param.Param.TheVariants.{Filter, MatchColumns, Query}
use Rattle.gr_query.specs.Text as query
use Rattle.gr_query.specs.Token as of_query
use Rattle.gr_script.specs.Columns as columns
use Rattle.gr_script.specs.Text as script
use Rattle.gr_script.specs.Token as of_script
use Rattle.gr_text.specs.declared.fault.TextRefusal.{TextRefusal}
use Rattle.gr_select.specs.declared.texts.Texts.{Texts}

-- what a text is read as: a tree that it is, or a refusal of it
abbrev pub IsReading : {T : Type 0} → (T → Type 0) → (TextRefusal → Type 0) → Result T TextRefusal → Type 0
IsReading IsTree IsRefusal (Ok tree) = IsTree tree
IsReading IsTree IsRefusal (Err refusal) = IsRefusal refusal

-- what a text is read as, where one is given
abbrev pub IsReadingOf : {T : Type 0} → (List ℕ → Result T TextRefusal → Type 0) → Option (List ℕ) → Option (Result T TextRefusal) → Type 0
IsReadingOf Reads None None = Unit {0}
IsReadingOf Reads None (Some reading) = ⊥
IsReadingOf Reads (Some text) None = ⊥
IsReadingOf Reads (Some text) (Some reading) = Reads text reading

-- a text of match columns, a query and a script, each with what it is read as
abbrev pub ReadsColumns : List ℕ → Result (List MatchColumn) TextRefusal → Type 0
ReadsColumns text = let cut = of_script.tokens_of text in IsReading (columns.IsColumns cut) (λ refusal. columns.AreRefused cut refusal.kind refusal.at)

abbrev pub ReadsQuery : List ℕ → Result Ast TextRefusal → Type 0
ReadsQuery text = let cut = of_query.tokens_of text in IsReading (query.IsQuery cut) (λ refusal. query.IsRefused cut refusal.kind refusal.at)

abbrev pub ReadsScript : List ℕ → Result Ast TextRefusal → Type 0
ReadsScript text = let cut = of_script.tokens_of text in IsReading (script.IsScript cut) (λ refusal. script.IsRefused cut refusal.kind refusal.at)

-- what the texts among a command's values are read as: its match columns, its query and its filter
pub record AreReadings (given : List (Param × List ℕ)) (texts : Texts) : Type 0 where
  pub columns : IsReadingOf ReadsColumns (value_of given MatchColumns) texts.columns
  pub query : IsReadingOf ReadsQuery (value_of given Query) texts.query
  pub filter : IsReadingOf ReadsScript (value_of given Filter) texts.filter

-- a tree that a text was read as
abbrev pub OfTree : {T : Type 0} → (T → Type 0) → Option (Result T TextRefusal) → Type 0
OfTree Holds reading = IfSome reading (λ read. IfOk read Holds)

-- each tree is well made, as typing needs it
pub record AreMade (texts : Texts) : Type 0 where
  pub columns : OfTree AreMadeColumns texts.columns
  pub query : OfTree IsMade texts.query
  pub filter : OfTree IsMade texts.filter
