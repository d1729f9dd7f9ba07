use Rattle.std.proofs.Common.{ap, sym, ◌∙◌}
use Rattle.std.specs.Prelude.{neg_ℤ, pos}
use Rattle.std.specs.Option.{option_map}
use Rattle.gr_ast.specs.declared.ast.Ast.{out-Ast, out-roll-Ast}
use Rattle.gr_ast.specs.declared.ast.Ast.TheOpen.{Ast-F}
use Rattle.gr_ast.specs.declared.ast.Ast.TheVariants as ast
use Rattle.gr_bind.specs.Inside.Literals.{digits_of, literal_in}
use Rattle.gr_expr.specs.declared.typed.Literal.{Literal}
use Rattle.gr_bind.proofs.literals.literal_of.Goals as goal

pub returns-in-Minus : goal.returns-in-Minus
returns-in-Minus c =
    c.negative.ensures
    ∙ ap (option_map (λ n. Literal.Number (neg_ℤ (pos n)))) (c.digits_of.ensures ∙ ap digits_of c.get.ensures)
    ∙ sym (ap literal_in (ap out-Ast (c.in-Minus.is ∙ sym (ast.rolls-Minus c.in-Minus.at c.in-Minus.of)) ∙ out-roll-Ast (Ast-F.Minus c.in-Minus.at c.in-Minus.of)))
