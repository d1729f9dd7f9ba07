-- Parts in a row.
use Rattle.std.specs.Prelude.{Option, List}
use Rattle.gr_ast.specs.Made.{AnyLink, AnyTerm, IsMadeLayer}
use Rattle.gr_ast.specs.declared.ast.Combined.{Combined, every-Combined, fold-Combined}
use Rattle.gr_ast.specs.declared.ast.Joined.{Joined, every-Joined, fold-Joined}
use Rattle.gr_ast.specs.declared.operators.Arith.{Arith}
use Rattle.gr_ast.specs.declared.operators.Join.{Join}
use Rattle.gr_base.specs.declared.numbers.TableNo.{TableNo}
use Rattle.gr_bind.specs.Typing.{Part, combined_step, joined_step, step}
use Rattle.gr_bind.specs.declared.column.Column.{Column}
use Rattle.gr_schema.specs.Schema.{SchemaDef}

-- each level of the condition behind a sign is well made
abbrev pub IsMadeLink : Joined → Type 0
IsMadeLink = every-Joined IsMadeLayer AnyTerm AnyLink

-- each level of the number behind a sign is well made
abbrev pub IsMadeTerm : Combined → Type 0
IsMadeTerm = every-Combined IsMadeLayer AnyTerm AnyLink

-- a condition behind its sign, as a part
abbrev pub joined_of : SchemaDef → TableNo → Option (List Column) → Joined → Join × Part
joined_of schema table columns = fold-Joined Part (Arith × Part) (Join × Part) (step schema table columns) combined_step joined_step

-- a number behind its sign, as a part
abbrev pub combined_of : SchemaDef → TableNo → Option (List Column) → Combined → Arith × Part
combined_of schema table columns = fold-Combined Part (Arith × Part) (Join × Part) (step schema table columns) combined_step joined_step
