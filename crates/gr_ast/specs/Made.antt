-- Trees that are well made, as each parser makes them and as typing needs them.
use Rattle.std.specs.Prelude.{◌≡◌, ◌≤◌, length, IsUtf8}
use Rattle.gr_ast.specs.declared.ast.Ast.{Ast, every-Ast}
use Rattle.gr_ast.specs.declared.ast.Ast.TheOpen.{Ast-F}
use Rattle.gr_ast.specs.declared.limits.TheConstants.{BETWEEN_ARGUMENTS, LEAST_IN_VALUES}
use Rattle.gr_ast.specs.declared.operators.Seek.{Seek}
use Rattle.gr_ast.specs.declared.operators.Seek.TheVariants.{Match, Prefix, Suffix}
use Rattle.gr_ast.specs.Trees.{Layer, LinkLayer, TermLayer}

-- a word is sought by itself or by its begin
abbrev pub SeeksWord : Seek → Type 0
SeeksWord Match = Unit {0}
SeeksWord Prefix = Unit {0}
SeeksWord Suffix = ⊥

-- This level of a tree is well made: its texts are UTF-8, its calls have as many arguments as they take, and its word is sought as words are.
abbrev pub IsMadeLayer : Layer → Type 0
IsMadeLayer (Ast-F.Between at args) = length args ≡ BETWEEN_ARGUMENTS
IsMadeLayer (Ast-F.InValues at args) = LEAST_IN_VALUES ≤ length args
IsMadeLayer (Ast-F.Path at text) = IsUtf8 text
IsMadeLayer (Ast-F.Text at bytes) = IsUtf8 bytes
IsMadeLayer (Ast-F.Word at seek text) = SeeksWord seek × IsUtf8 text
IsMadeLayer (Ast-F.FieldTest at path test text) = IsUtf8 path × IsUtf8 text
IsMadeLayer _ = Unit {0}

-- this level is one that a script has: no word, no test of a field, and not all records
abbrev pub IsScriptLayer : Layer → Type 0
IsScriptLayer (Ast-F.Word at seek text) = ⊥
IsScriptLayer (Ast-F.FieldTest at path test text) = ⊥
IsScriptLayer (Ast-F.All at) = ⊥
IsScriptLayer _ = Unit {0}

-- this level is one that a query has: a chain, all records, a word, or a test of a field
abbrev pub IsQueryLayer : Layer → Type 0
IsQueryLayer (Ast-F.Chain at first rest) = Unit {0}
IsQueryLayer (Ast-F.All at) = Unit {0}
IsQueryLayer (Ast-F.Word at seek text) = Unit {0}
IsQueryLayer (Ast-F.FieldTest at path test text) = Unit {0}
IsQueryLayer _ = ⊥

-- of the sign before a condition nothing is asked
abbrev pub AnyLink : LinkLayer → Type 0
AnyLink link = Unit {0}

-- of the sign before a number nothing is asked
abbrev pub AnyTerm : TermLayer → Type 0
AnyTerm term = Unit {0}

-- of each level of the tree this holds
abbrev pub Every : (Layer → Type 0) → Ast → Type 0
Every IsLayer tree = every-Ast IsLayer AnyTerm AnyLink tree

-- each level of the tree is well made
abbrev pub IsMade : Ast → Type 0
IsMade tree = Every IsMadeLayer tree

-- each level of the tree is one that a script has
abbrev pub IsOfScript : Ast → Type 0
IsOfScript tree = Every IsScriptLayer tree

-- each level of the tree is one that a query has
abbrev pub IsOfQuery : Ast → Type 0
IsOfQuery tree = Every IsQueryLayer tree
