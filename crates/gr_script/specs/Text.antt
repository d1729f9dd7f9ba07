-- What the tokens of a text are: a script with its tree, or a fault at a place.
use Rattle.std.specs.Prelude.{ℕ}
use Rattle.gr_base.specs.declared.fault.FaultKind.{FaultKind}
use Rattle.gr_base.specs.declared.fault.FaultKind.TheVariants.{BadScript}
use Rattle.gr_ast.specs.declared.ast.Ast.{Ast}
use Rattle.gr_script.specs.Grammar.{Sentence}
use Rattle.gr_script.specs.Words.{is_large}
use Rattle.gr_script.specs.declared.token.Token.{Token}
use Rattle.gr_text.specs.Cut.{Cut}
use Rattle.gr_text.specs.Sentences as of_grammar
use Rattle.gr_text.specs.Fault.{TextFault}

-- what is cut so is a script of this tree, in which no number is too large
abbrev pub IsScript : Cut Token → Ast → Type 0
IsScript cut tree = of_grammar.IsRead Sentence is_large cut tree

-- What is cut so is refused, for this and at this place: it is no script, or a script in which a number is too large.
abbrev pub IsRefused : Cut Token → FaultKind → ℕ → Type 0
IsRefused cut kind at = of_grammar.IsRefused Sentence is_large BadScript cut kind at

-- What is cut so is refused as the fault says. Nothing is said of want of memory.
abbrev pub IsRefusal : Cut Token → TextFault → Type 0
IsRefusal cut fault = of_grammar.IsRefusal Sentence is_large BadScript cut fault
