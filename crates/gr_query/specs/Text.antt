-- What the tokens of a text are: a query with its tree, or a fault at a place.
use Rattle.std.specs.Prelude.{ℕ, Bool, false}
use Rattle.gr_base.specs.declared.fault.FaultKind.{FaultKind}
use Rattle.gr_base.specs.declared.fault.FaultKind.TheVariants.{BadQuery}
use Rattle.gr_ast.specs.declared.ast.Ast.{Ast}
use Rattle.gr_query.specs.Grammar.{Sentence}
use Rattle.gr_query.specs.declared.token.Token.{Token}
use Rattle.gr_text.specs.Cut.{Cut}
use Rattle.gr_text.specs.Sentences as sentences
use Rattle.gr_text.specs.Fault.{TextFault}

-- no token of a query is a number
abbrev pub has_no_value : Token → Bool
has_no_value token = false

-- what is cut so is a query of this tree
abbrev pub IsQuery : Cut Token → Ast → Type 0
IsQuery cut tree = sentences.IsRead Sentence has_no_value cut tree

-- What is cut so is refused, for this and at this place.
abbrev pub IsRefused : Cut Token → FaultKind → ℕ → Type 0
IsRefused cut kind at = sentences.IsRefused Sentence has_no_value BadQuery cut kind at

-- What is cut so is refused as the fault says. Nothing is said of want of memory.
abbrev pub IsRefusal : Cut Token → TextFault → Type 0
IsRefusal cut fault = sentences.IsRefusal Sentence has_no_value BadQuery cut fault
