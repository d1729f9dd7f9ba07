-- Trees as parts, level by level.
use Rattle.std.proofs.Common.{◌≡◌, List, [], ◌∷◌, map, refl, sym, ap, subst, ◌∙◌}
use Rattle.std.specs.Prelude.{Option, pos, neg_ℤ, Result}
use Rattle.std.specs.Option.{option_map}
use Rattle.gr_ast.specs.Trees.{Layer, place_in, place_of}
use Rattle.gr_ast.specs.declared.ast.Ast.{Ast, fold_out-Ast, out-Ast, out-roll-Ast, roll-Ast}
use Rattle.gr_ast.specs.declared.ast.Ast.TheFolds.{map-Ast}
use Rattle.gr_ast.specs.declared.ast.Ast.TheOpen.{Ast-F}
use Rattle.gr_ast.specs.declared.ast.Combined.{Combined, fold_out-Combined, out-Combined}
use Rattle.gr_ast.specs.declared.ast.Joined.{Joined, fold_out-Joined, out-Joined}
use Rattle.gr_ast.specs.declared.operators.Arith.{Arith}
use Rattle.gr_ast.specs.declared.operators.Join.{Join}
use Rattle.gr_base.specs.Failure.{result_map, result_then}
use Rattle.gr_base.specs.declared.failure.Failure.{Failure}
use Rattle.gr_base.specs.declared.fault.Fault.{Fault}
use Rattle.gr_base.specs.declared.numbers.TableNo.{TableNo}
use Rattle.gr_bind.specs.Inside.Literals.{digits_in, digits_of, literal_in, literal_of}
use Rattle.gr_bind.specs.Inside.Parts.{combined_of, joined_of}
use Rattle.gr_bind.specs.Inside.Told.{Tells}
use Rattle.gr_bind.specs.Typing.{Part, combined_step, each, joined_step, part_of, step}
use Rattle.gr_bind.specs.declared.column.Column.{Column}
use Rattle.gr_bind.specs.declared.operand.Operand.{Operand}
use Rattle.gr_expr.specs.declared.typed.Literal.{Literal}
use Rattle.gr_schema.specs.Schema.{SchemaDef}

-- what is done with what each of some is made to
pub each_map : {W X Y : Type 0} (typed : X → Result Y Fault) (f : W → X) (ws : List W) → each typed (map f ws) ≡ each (λ w. typed (f w)) ws
each_map typed f [] = refl
each_map typed f (w ∷ ws) = ap (λ r. result_then (λ y. result_map (λ ys. y ∷ ys) r) (typed (f w))) (each_map typed f ws)

module _ (schema : SchemaDef) (table : TableNo) (columns : Option (List Column)) where
  abbrev of_tree : Ast → Part
  of_tree = part_of schema table columns

  -- a level with the parts in it in their places
  abbrev pub at_level : Layer → Ast-F Part (Arith × Part) (Join × Part)
  at_level layer = map-Ast Ast Combined Joined Part (Arith × Part) (Join × Part) of_tree (combined_of schema table columns) (joined_of schema table columns) layer

  -- the part of a level
  abbrev pub level : Layer → Part
  level layer = step schema table columns (at_level layer)

  pub part_is : (d : Ast) → of_tree d ≡ level (out-Ast d)
  part_is d = fold_out-Ast Part (Arith × Part) (Join × Part) (step schema table columns) combined_step joined_step d

  -- what is told of a level is told of its tree
  pub told_at : (d : Ast) (layer : Layer) (r : Result Operand (Failure Fault)) → d ≡ roll-Ast layer → Tells r (level layer).typed → Tells r (of_tree d).typed
  told_at d layer r is told =
      subst (λ (p : Part). Tells r p.typed) (sym (part_is d ∙ ap level (ap out-Ast is ∙ out-roll-Ast layer))) told

  pub joined_of_is : (d : Joined) → joined_of schema table columns d ≡ ((out-Joined d).join, of_tree (out-Joined d).of)
  joined_of_is d = fold_out-Joined Part (Arith × Part) (Join × Part) (step schema table columns) combined_step joined_step d

  pub combined_of_is : (d : Combined) → combined_of schema table columns d ≡ ((out-Combined d).arith, of_tree (out-Combined d).of)
  combined_of_is d = fold_out-Combined Part (Arith × Part) (Join × Part) (step schema table columns) combined_step joined_step d

  -- its place
  place_level : (layer : Layer) → (level layer).at ≡ place_in layer
  place_level (Ast-F.Chain at first rest) = refl
  place_level (Ast-F.Not at of) = refl
  place_level (Ast-F.Minus at of) = refl
  place_level (Ast-F.Compare at cmp left right) = refl
  place_level (Ast-F.Find at seek left right) = refl
  place_level (Ast-F.Calc at first rest) = refl
  place_level (Ast-F.Between at args) = refl
  place_level (Ast-F.InValues at args) = refl
  place_level (Ast-F.Path at text) = refl
  place_level (Ast-F.Number at value) = refl
  place_level (Ast-F.Text at bytes) = refl
  place_level (Ast-F.Truth at value) = refl
  place_level (Ast-F.All at) = refl
  place_level (Ast-F.Word at seek text) = refl
  place_level (Ast-F.FieldTest at path test text) = refl

  pub place_is : (d : Ast) → (of_tree d).at ≡ place_of d
  unfolding place_of
  place_is d = ap (λ (p : Part). p.at) (part_is d) ∙ place_level (out-Ast d)

  -- its digits
  digits_level : (layer : Layer) → (level layer).digits ≡ digits_in layer
  digits_level (Ast-F.Chain at first rest) = refl
  digits_level (Ast-F.Not at of) = refl
  digits_level (Ast-F.Minus at of) = refl
  digits_level (Ast-F.Compare at cmp left right) = refl
  digits_level (Ast-F.Find at seek left right) = refl
  digits_level (Ast-F.Calc at first rest) = refl
  digits_level (Ast-F.Between at args) = refl
  digits_level (Ast-F.InValues at args) = refl
  digits_level (Ast-F.Path at text) = refl
  digits_level (Ast-F.Number at value) = refl
  digits_level (Ast-F.Text at bytes) = refl
  digits_level (Ast-F.Truth at value) = refl
  digits_level (Ast-F.All at) = refl
  digits_level (Ast-F.Word at seek text) = refl
  digits_level (Ast-F.FieldTest at path test text) = refl

  digits_is : (d : Ast) → (of_tree d).digits ≡ digits_of d
  digits_is d = ap (λ (p : Part). p.digits) (part_is d) ∙ digits_level (out-Ast d)

  -- the value that it writes
  literal_level : (layer : Layer) → (level layer).literal ≡ literal_in layer
  literal_level (Ast-F.Chain at first rest) = refl
  literal_level (Ast-F.Not at of) = refl
  literal_level (Ast-F.Minus at of) = ap (option_map (λ n. Literal.Number (neg_ℤ (pos n)))) (digits_is of)
  literal_level (Ast-F.Compare at cmp left right) = refl
  literal_level (Ast-F.Find at seek left right) = refl
  literal_level (Ast-F.Calc at first rest) = refl
  literal_level (Ast-F.Between at args) = refl
  literal_level (Ast-F.InValues at args) = refl
  literal_level (Ast-F.Path at text) = refl
  literal_level (Ast-F.Number at value) = refl
  literal_level (Ast-F.Text at bytes) = refl
  literal_level (Ast-F.Truth at value) = refl
  literal_level (Ast-F.All at) = refl
  literal_level (Ast-F.Word at seek text) = refl
  literal_level (Ast-F.FieldTest at path test text) = refl

  pub literal_is : (d : Ast) → (of_tree d).literal ≡ literal_of d
  literal_is d = ap (λ (p : Part). p.literal) (part_is d) ∙ literal_level (out-Ast d)
