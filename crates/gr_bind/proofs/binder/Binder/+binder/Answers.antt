-- What an operator tells of its parts is told of the tree.
use Rattle.std.proofs.Common.{rules, ◌-◌, drop, length, take, refl, ap, sym, subst, ◌∙◌, arith}
use Rattle.std.specs.Prelude.{Ok}
use Rattle.std.specs.List.{AllByRecursion}
use Rattle.gr_ast.specs.Made.{IsMade}
use Rattle.gr_ast.specs.declared.ast.Ast.{Ast, the_lemmas}
use Rattle.gr_ast.specs.declared.ast.Ast.TheOpen.{Ast-F}
use Rattle.gr_ast.specs.declared.ast.Ast.TheVariants as ast
use Rattle.gr_ast.specs.declared.ast.Combined.{out-Combined}
use Rattle.gr_ast.specs.declared.ast.Joined.{out-Joined}
use Rattle.gr_bind.proofs.Arguments.{first_and_rest, no_arguments, rest_weighs}
use Rattle.gr_bind.proofs.Arms.{all_arm, among_arm, among_none, among_stopped, among_told, between_arm, calc_arm, chain_arm, compare_arm, field_arm, find_arm, link_told, minus_arm, not_arm, number_arm, part_with, path_arm, range_refused, range_told, term_told, text_arm, truth_arm, value_told, word_arm, written}
use Rattle.gr_bind.proofs.Opening.{all_at, layer_at, link_part, parts_at, term_part}
use Rattle.gr_bind.proofs.Rows.{told_all, told_more, told_none, told_stop}
use Rattle.gr_bind.proofs.Telling.{ok_told}
use Rattle.gr_bind.specs.Inside.Folded.{link_at, part_at, term_at, value_at}
use Rattle.gr_bind.specs.Inside.Parts.{IsMadeLink, IsMadeTerm}
use Rattle.gr_bind.specs.Typing.{each}
use Rattle.gr_bind.proofs.binder.Binder.+binder.Goals as goal
use Rattle.gr_bind.proofs.binder.Binder.+binder.Goals.{between-in_default-via-then-args-lt5, between-in_default-via-else-args-lt5+else-args-lt6}

pub operand-part-requires : goal.operand-part-requires
operand-part-requires t c =
    (search (rules, the_lemmas), (c.requires.there, subst IsMade (sym c.get.ensures) ((parts_at c.args.tree.now (Ast-F.Chain c.in-Chain.at c.in-Chain.first c.in-Chain.rest) (c.in-Chain.is ∙ sym (ast.rolls-Chain c.in-Chain.at c.in-Chain.first c.in-Chain.rest)) c.requires.made).0)))

pub operand-links-requires : goal.operand-links-requires
operand-links-requires t c =
    (search (rules, the_lemmas), (c.requires.there, subst (AllByRecursion IsMadeLink) (sym c.as_slice.ensures) ((parts_at c.args.tree.now (Ast-F.Chain c.in-Chain.at c.in-Chain.first c.in-Chain.rest) (c.in-Chain.is ∙ sym (ast.rolls-Chain c.in-Chain.at c.in-Chain.first c.in-Chain.rest)) c.requires.made).1)))

pub operand-part-requires-in-Not : goal.operand-part-requires-in-Not
operand-part-requires-in-Not t c =
    (search (rules, the_lemmas), (c.requires.there, subst IsMade (sym c.get-in-Not.ensures) (parts_at c.args.tree.now (Ast-F.Not c.in-Not.at c.in-Not.of) (c.in-Not.is ∙ sym (ast.rolls-Not c.in-Not.at c.in-Not.of)) c.requires.made)))

pub operand-part-requires-in-Minus : goal.operand-part-requires-in-Minus
operand-part-requires-in-Minus t c =
    (search (rules, the_lemmas), (c.requires.there, subst IsMade (sym c.get-in-Minus.ensures) (parts_at c.args.tree.now (Ast-F.Minus c.in-Minus.at c.in-Minus.of) (c.in-Minus.is ∙ sym (ast.rolls-Minus c.in-Minus.at c.in-Minus.of)) c.requires.made)))

pub operand-part-requires-in-Compare : goal.operand-part-requires-in-Compare
operand-part-requires-in-Compare t c =
    (search (rules, the_lemmas), (c.requires.there, subst IsMade (sym c.get-in-Compare.ensures) ((parts_at c.args.tree.now (Ast-F.Compare c.in-Compare.at c.in-Compare.cmp c.in-Compare.left c.in-Compare.right) (c.in-Compare.is ∙ sym (ast.rolls-Compare c.in-Compare.at c.in-Compare.cmp c.in-Compare.left c.in-Compare.right)) c.requires.made).0)))

pub operand-part-requires-in-Compare-2 : goal.operand-part-requires-in-Compare-2
operand-part-requires-in-Compare-2 t c =
    (search (rules, the_lemmas), (c.requires.there, subst IsMade (sym c.get-in-Compare-2.ensures) ((parts_at c.args.tree.now (Ast-F.Compare c.in-Compare.at c.in-Compare.cmp c.in-Compare.left c.in-Compare.right) (c.in-Compare.is ∙ sym (ast.rolls-Compare c.in-Compare.at c.in-Compare.cmp c.in-Compare.left c.in-Compare.right)) c.requires.made).1)))

pub operand-part-left-requires : goal.operand-part-left-requires
operand-part-left-requires t c =
    (search (rules, the_lemmas), (c.requires.there, subst IsMade (sym c.get-in-Find.ensures) ((parts_at c.args.tree.now (Ast-F.Find c.in-Find.at c.in-Find.seek c.in-Find.left c.in-Find.right) (c.in-Find.is ∙ sym (ast.rolls-Find c.in-Find.at c.in-Find.seek c.in-Find.left c.in-Find.right)) c.requires.made).0)))

pub operand-part-requires-in-Find : goal.operand-part-requires-in-Find
operand-part-requires-in-Find t c =
    (search (rules, the_lemmas), (c.requires.there, subst IsMade (sym c.get-tree.ensures) ((parts_at c.args.tree.now (Ast-F.Find c.in-Find.at c.in-Find.seek c.in-Find.left c.in-Find.right) (c.in-Find.is ∙ sym (ast.rolls-Find c.in-Find.at c.in-Find.seek c.in-Find.left c.in-Find.right)) c.requires.made).1)))

pub operand-part-requires-in-Calc : goal.operand-part-requires-in-Calc
operand-part-requires-in-Calc t c =
    (search (rules, the_lemmas), (c.requires.there, subst IsMade (sym c.get-in-Calc.ensures) ((parts_at c.args.tree.now (Ast-F.Calc c.in-Calc.at c.in-Calc.first c.in-Calc.rest) (c.in-Calc.is ∙ sym (ast.rolls-Calc c.in-Calc.at c.in-Calc.first c.in-Calc.rest)) c.requires.made).0)))

pub operand-terms-requires : goal.operand-terms-requires
operand-terms-requires t c =
    (search (rules, the_lemmas), (c.requires.there, subst (AllByRecursion IsMadeTerm) (sym c.as_slice-in-Calc.ensures) ((parts_at c.args.tree.now (Ast-F.Calc c.in-Calc.at c.in-Calc.first c.in-Calc.rest) (c.in-Calc.is ∙ sym (ast.rolls-Calc c.in-Calc.at c.in-Calc.first c.in-Calc.rest)) c.requires.made).1)))

pub operand-between-requires : goal.operand-between-requires
operand-between-requires t c =
    (search (rules, the_lemmas), (c.requires.there, subst (AllByRecursion IsMade) (sym c.as_slice-in-Between.ensures) (parts_at c.args.tree.now (Ast-F.Between c.in-Between.at c.in-Between.args) (c.in-Between.is ∙ sym (ast.rolls-Between c.in-Between.at c.in-Between.args)) c.requires.made)))

pub operand-in_values-requires : goal.operand-in_values-requires
operand-in_values-requires t c =
    (search (rules, the_lemmas), (c.requires.there, subst (AllByRecursion IsMade) (sym c.as_slice-in-InValues.ensures) (parts_at c.args.tree.now (Ast-F.InValues c.in-InValues.at c.in-InValues.args) (c.in-InValues.is ∙ sym (ast.rolls-InValues c.in-InValues.at c.in-InValues.args)) c.requires.made)))

pub operand-path-requires-clause-text : goal.operand-path-requires-clause-text
operand-path-requires-clause-text t c =
    layer_at c.args.tree.now (Ast-F.Path c.in-Path.at c.in-Path.text) (c.in-Path.is ∙ sym (ast.rolls-Path c.in-Path.at c.in-Path.text)) c.requires.made

pub operand-field-requires-clause-path : goal.operand-field-requires-clause-path
operand-field-requires-clause-path t c =
    (layer_at c.args.tree.now (Ast-F.FieldTest c.in-FieldTest.at c.in-FieldTest.path c.in-FieldTest.test c.in-FieldTest.text) (c.in-FieldTest.is ∙ sym (ast.rolls-FieldTest c.in-FieldTest.at c.in-FieldTest.path c.in-FieldTest.test c.in-FieldTest.text)) c.requires.made).0

pub operand-field-requires-clause-text : goal.operand-field-requires-clause-text
operand-field-requires-clause-text t c =
    (layer_at c.args.tree.now (Ast-F.FieldTest c.in-FieldTest.at c.in-FieldTest.path c.in-FieldTest.test c.in-FieldTest.text) (c.in-FieldTest.is ∙ sym (ast.rolls-FieldTest c.in-FieldTest.at c.in-FieldTest.path c.in-FieldTest.test c.in-FieldTest.text)) c.requires.made).1

pub operand-returns-in-Chain : goal.operand-returns-in-Chain
operand-returns-in-Chain t c =
    chain_arm c.args.self.now c.args.tree.now c.chain.result c.in-Chain.at c.in-Chain.first c.in-Chain.rest c.in-Chain.is c.part.result c.get.result.now c.get.ensures c.part.ensures c.links.result c.as_slice.result.now c.as_slice.ensures c.links.ensures c.chain.ensures

pub operand-returns-in-Calc : goal.operand-returns-in-Calc
operand-returns-in-Calc t c =
    calc_arm c.args.self.now c.args.tree.now c.calculation.result c.in-Calc.at c.in-Calc.first c.in-Calc.rest c.in-Calc.is c.part-in-Calc.result c.get-in-Calc.result.now c.get-in-Calc.ensures c.part-in-Calc.ensures c.terms.result c.as_slice-in-Calc.result.now c.as_slice-in-Calc.ensures c.terms.ensures c.calculation.ensures

pub operand-returns-in-Not : goal.operand-returns-in-Not
operand-returns-in-Not t c =
    not_arm c.args.self.now c.args.tree.now c.not.result c.in-Not.at c.in-Not.of c.in-Not.is c.part-in-Not.result c.get-in-Not.result.now c.get-in-Not.ensures c.part-in-Not.ensures c.not.ensures

pub operand-returns-in-Minus : goal.operand-returns-in-Minus
operand-returns-in-Minus t c =
    minus_arm c.args.self.now c.args.tree.now c.minus.result c.in-Minus.at c.in-Minus.of c.in-Minus.is c.part-in-Minus.result c.get-in-Minus.result.now c.get-in-Minus.ensures c.part-in-Minus.ensures c.minus.ensures

pub operand-returns-in-Compare : goal.operand-returns-in-Compare
operand-returns-in-Compare t c =
    compare_arm c.args.self.now c.args.tree.now c.comparison.result c.in-Compare.at c.in-Compare.cmp c.in-Compare.left c.in-Compare.right c.in-Compare.is c.part-in-Compare.result c.get-in-Compare.result.now c.get-in-Compare.ensures c.part-in-Compare.ensures c.part-in-Compare-2.result c.get-in-Compare-2.result.now c.get-in-Compare-2.ensures c.part-in-Compare-2.ensures c.comparison.ensures

pub operand-returns-in-Find : goal.operand-returns-in-Find
operand-returns-in-Find t c =
    find_arm c.args.self.now c.args.tree.now c.search.result c.in-Find.at c.in-Find.seek c.in-Find.left c.in-Find.right c.in-Find.is c.part-left.result c.get-in-Find.result.now c.get-in-Find.ensures c.part-left.ensures c.part-in-Find.result c.get-tree.result.now c.get-tree.ensures c.part-in-Find.ensures c.search.ensures

pub operand-returns-in-Between : goal.operand-returns-in-Between
operand-returns-in-Between t c =
    between_arm c.args.self.now c.args.tree.now c.between.result c.in-Between.at c.in-Between.args c.as_slice-in-Between.result.now c.in-Between.is c.as_slice-in-Between.ensures c.between.ensures

pub operand-returns-in-InValues : goal.operand-returns-in-InValues
operand-returns-in-InValues t c =
    among_arm c.args.self.now c.args.tree.now c.in_values.result c.in-InValues.at c.in-InValues.args c.as_slice-in-InValues.result.now c.in-InValues.is c.as_slice-in-InValues.ensures c.in_values.ensures

pub operand-returns-in-Path : goal.operand-returns-in-Path
operand-returns-in-Path t c =
    path_arm c.args.self.now c.args.tree.now c.path.result c.in-Path.at c.in-Path.text c.in-Path.is c.path.ensures

pub operand-returns-in-Number : goal.operand-returns-in-Number
operand-returns-in-Number t c =
    number_arm c.args.self.now c.args.tree.now _ c.in-Number.at c.in-Number.value c.in-Number.is (ok_told _ _ (ap Ok (sym c.number.ensures)))

pub operand-returns-in-Text : goal.operand-returns-in-Text
operand-returns-in-Text t c =
    text_arm c.args.self.now c.args.tree.now c.text.result c.in-Text.at c.in-Text.bytes c.in-Text.is c.text.ensures

pub operand-returns-in-Truth : goal.operand-returns-in-Truth
operand-returns-in-Truth t c =
    truth_arm c.args.self.now c.args.tree.now _ c.in-Truth.at c.in-Truth.value c.in-Truth.is (ok_told _ _ refl)

pub operand-returns-in-All : goal.operand-returns-in-All
operand-returns-in-All t c =
    all_arm c.args.self.now c.args.tree.now _ c.in-All.at c.in-All.is (ok_told _ _ refl)

pub operand-returns-in-Word : goal.operand-returns-in-Word
operand-returns-in-Word t c =
    word_arm c.args.self.now c.args.tree.now c.word.result c.in-Word.at c.in-Word.seek c.in-Word.text c.in-Word.is c.word.ensures

pub operand-returns-in-FieldTest : goal.operand-returns-in-FieldTest
operand-returns-in-FieldTest t c =
    field_arm c.args.self.now c.args.tree.now c.field.result c.in-FieldTest.at c.in-FieldTest.path c.in-FieldTest.test c.in-FieldTest.text c.in-FieldTest.is c.field.ensures

pub part-returns : goal.part-returns
part-returns t c =
    part_with c.args.self.now c.args.tree.now c.at-at.result c.operand-operand.result c.at-at.ensures c.operand-operand.ensures

pub links-part-requires : goal.links-part-requires
links-part-requires t c =
    (search (rules, the_lemmas), (c.requires.there, link_part c.link-item.result (subst IsMadeLink (sym c.link-item.is) (all_at IsMadeLink c.args.links.now c.loop-link.link-index c.link-item.result c.loop-link-test.true c.requires.made))))

pub links-loop-link-init : goal.links-loop-link-init
links-loop-link-init t c =
    told_none (link_at c.args.self.now) c.args.links.now _ c.new-others.ensures

pub links-loop-link-preserved : goal.links-loop-link-preserved
links-loop-link-preserved t c =
    told_more (link_at c.args.self.now) c.args.links.now c.loop-link.others c.loop-link.link-index c.loop-link.invariant c.link-item.result c.added.result _ c.loop-link-test.true c.link-item.is (c.added.ensures ((link_at c.args.self.now) c.link-item.result) (link_told c.args.self.now c.link-item.result c.joined.result (c.joined.ensures (part_at c.args.self.now (out-Joined c.link-item.result).of) c.part.ensures))) c.in_ok-others.was

pub links-returns-in_err-others : goal.links-returns-in_err-others
links-returns-in_err-others t c =
    told_stop (link_at c.args.self.now) c.args.links.now c.loop-link.others c.loop-link.link-index c.loop-link.invariant c.link-item.result c.added.result _ _ c.loop-link-test.true c.link-item.is (c.added.ensures ((link_at c.args.self.now) c.link-item.result) (link_told c.args.self.now c.link-item.result c.joined.result (c.joined.ensures (part_at c.args.self.now (out-Joined c.link-item.result).of) c.part.ensures))) c.in_err-others.was (search rules)

pub links-returns : goal.links-returns
links-returns t c =
    told_all (link_at c.args.self.now) c.args.links.now c.loop-link.others c.loop-link.link-index c.loop-link.invariant c.loop-link-test.false

pub terms-part-requires : goal.terms-part-requires
terms-part-requires t c =
    (search (rules, the_lemmas), (c.requires.there, term_part c.term-item.result (subst IsMadeTerm (sym c.term-item.is) (all_at IsMadeTerm c.args.terms.now c.loop-term.term-index c.term-item.result c.loop-term-test.true c.requires.made))))

pub terms-loop-term-init : goal.terms-loop-term-init
terms-loop-term-init t c =
    told_none (term_at c.args.self.now) c.args.terms.now _ c.new-others.ensures

pub terms-loop-term-preserved : goal.terms-loop-term-preserved
terms-loop-term-preserved t c =
    told_more (term_at c.args.self.now) c.args.terms.now c.loop-term.others c.loop-term.term-index c.loop-term.invariant c.term-item.result c.added.result _ c.loop-term-test.true c.term-item.is (c.added.ensures ((term_at c.args.self.now) c.term-item.result) (term_told c.args.self.now c.term-item.result c.combined.result (c.combined.ensures (part_at c.args.self.now (out-Combined c.term-item.result).of) c.part.ensures))) c.in_ok-others.was

pub terms-returns-in_err-others : goal.terms-returns-in_err-others
terms-returns-in_err-others t c =
    told_stop (term_at c.args.self.now) c.args.terms.now c.loop-term.others c.loop-term.term-index c.loop-term.invariant c.term-item.result c.added.result _ _ c.loop-term-test.true c.term-item.is (c.added.ensures ((term_at c.args.self.now) c.term-item.result) (term_told c.args.self.now c.term-item.result c.combined.result (c.combined.ensures (part_at c.args.self.now (out-Combined c.term-item.result).of) c.part.ensures))) c.in_err-others.was (search rules)

pub terms-returns : goal.terms-returns
terms-returns t c =
    told_all (term_at c.args.self.now) c.args.terms.now c.loop-term.others c.loop-term.term-index c.loop-term.invariant c.loop-term-test.false

pub values-part-requires : goal.values-part-requires
values-part-requires t c =
    (search (rules, the_lemmas), (c.requires.there, subst IsMade (sym c.tree-item.is) (all_at IsMade c.args.trees.now c.loop-tree.tree-index c.tree-item.result c.loop-tree-test.true c.requires.made)))

pub values-loop-tree-init : goal.values-loop-tree-init
values-loop-tree-init t c =
    told_none (value_at c.args.self.now c.args.kind) c.args.trees.now _ c.new-values.ensures

pub values-loop-tree-preserved : goal.values-loop-tree-preserved
values-loop-tree-preserved t c =
    told_more (value_at c.args.self.now c.args.kind) c.args.trees.now c.loop-tree.values c.loop-tree.tree-index c.loop-tree.invariant c.tree-item.result c.added.result _ c.loop-tree-test.true c.tree-item.is (c.added.ensures ((value_at c.args.self.now c.args.kind) c.tree-item.result) (value_told c.args.self.now c.args.kind c.tree-item.result c.of_kind.result (c.of_kind.ensures (part_at c.args.self.now c.tree-item.result) c.part.ensures))) c.in_ok-values.was

pub values-returns-in_err-values : goal.values-returns-in_err-values
values-returns-in_err-values t c =
    told_stop (value_at c.args.self.now c.args.kind) c.args.trees.now c.loop-tree.values c.loop-tree.tree-index c.loop-tree.invariant c.tree-item.result c.added.result _ _ c.loop-tree-test.true c.tree-item.is (c.added.ensures ((value_at c.args.self.now c.args.kind) c.tree-item.result) (value_told c.args.self.now c.args.kind c.tree-item.result c.of_kind.result (c.of_kind.ensures (part_at c.args.self.now c.tree-item.result) c.part.ensures))) c.in_err-values.was (search rules)

pub values-returns : goal.values-returns
values-returns t c =
    told_all (value_at c.args.self.now c.args.kind) c.args.trees.now c.loop-tree.values c.loop-tree.tree-index c.loop-tree.invariant c.loop-tree-test.false

pub between-part-value-requires : goal.between-part-value-requires
between-part-value-requires t c =
    (search (rules, the_lemmas), (c.requires.there, subst IsMade (sym c.value-item.is) (all_at IsMade c.args.args.now 0 c.value-item.result (omega arith) c.requires.made)))

pub between-part-requires : goal.between-part-requires
between-part-requires t c =
    (search (rules, the_lemmas), (c.requires.there, subst IsMade (sym c.low-item.is) (all_at IsMade c.args.args.now 1 c.low-item.result (omega arith) c.requires.made)))

pub between-part-requires-in-len5 : goal.between-part-requires-in-len5
between-part-requires-in-len5 t c =
    (search (rules, the_lemmas), (c.requires.there, subst IsMade (sym c.with_low-item.is) (all_at IsMade c.args.args.now 2 c.with_low-item.result (omega arith) c.requires.made)))

pub between-part-requires-in-len5-2 : goal.between-part-requires-in-len5-2
between-part-requires-in-len5-2 t c =
    (search (rules, the_lemmas), (c.requires.there, subst IsMade (sym c.high-item.is) (all_at IsMade c.args.args.now 3 c.high-item.result (omega arith) c.requires.made)))

pub between-part-requires-in-len5-3 : goal.between-part-requires-in-len5-3
between-part-requires-in-len5-3 t c =
    (search (rules, the_lemmas), (c.requires.there, subst IsMade (sym c.with_high-item.is) (all_at IsMade c.args.args.now 4 c.with_high-item.result (omega arith) c.requires.made)))

pub between-returns-in-len5 : goal.between-returns-in-len5
between-returns-in-len5 t c =
    range_told c.args.self.now c.args.at c.args.args.now c.value-item.result c.low-item.result c.with_low-item.result c.high-item.result c.with_high-item.result c.between.result (omega arith) c.value-item.is c.low-item.is c.with_low-item.is c.high-item.is c.with_high-item.is
    (c.between.ensures c.args.at (part_at c.args.self.now c.value-item.result) (part_at c.args.self.now c.low-item.result) (part_at c.args.self.now c.with_low-item.result) (part_at c.args.self.now c.high-item.result) (part_at c.args.self.now c.with_high-item.result) c.part-value.ensures c.part.ensures
    (c.end.ensures (part_at c.args.self.now c.with_low-item.result) c.part-in-len5.ensures (written c.args.self.now c.with_low-item.result)) c.part-in-len5-2.ensures
    (c.end-in-len5.ensures (part_at c.args.self.now c.with_high-item.result) c.part-in-len5-3.ensures (written c.args.self.now c.with_high-item.result)))

pub between-returns-in_default : goal.between-returns-in_default
between-returns-in_default t c =
    elim c.in_default.branch [
      | between-in_default-via-then-args-lt5 w ↦ range_refused c.args.self.now c.args.at c.args.args.now c.refused.result (λ n. absurd (search rules)) c.refused.ensures
      | between-in_default-via-else-args-lt5+else-args-lt6 w ↦ range_refused c.args.self.now c.args.at c.args.args.now c.refused.result (λ n. absurd (search rules)) c.refused.ensures
    ]

pub in_values-part-requires : goal.in_values-part-requires
in_values-part-requires t c =
    (search (rules, the_lemmas), (c.requires.there, subst IsMade (sym c.value-item.is) (all_at IsMade c.args.args.now 0 c.value-item.result (omega arith) c.requires.made)))

pub in_values-values-requires : goal.in_values-values-requires
in_values-values-requires t c =
    (omega (arith, rest_weighs {X = Ast}), (c.requires.there, (subst (AllByRecursion IsMade) (first_and_rest c.args.args.now c.value-item.result (omega arith) c.value-item.is) c.requires.made).1))

pub in_values-returns-in_err-kind-in-len1-up : goal.in_values-returns-in_err-kind-in-len1-up
in_values-returns-in_err-kind-in-len1-up t c =
    among_stopped c.args.self.now c.args.at c.args.args.now c.value-item.result (take (length c.args.args.now - 1) (drop 1 c.args.args.now)) (first_and_rest c.args.args.now c.value-item.result (omega arith) c.value-item.is) c.compared.result (c.compared.ensures (part_at c.args.self.now c.value-item.result) c.part.ensures) _ c.in_err-kind-in-len1-up.was _ (search rules)

pub in_values-returns-in_ok-kind-in-len1-up : goal.in_values-returns-in_ok-kind-in-len1-up
in_values-returns-in_ok-kind-in-len1-up t c =
    among_told c.args.self.now c.args.at c.args.args.now c.value-item.result (take (length c.args.args.now - 1) (drop 1 c.args.args.now)) (first_and_rest c.args.args.now c.value-item.result (omega arith) c.value-item.is) c.compared.result (c.compared.ensures (part_at c.args.self.now c.value-item.result) c.part.ensures) c.in_ok-kind-in-len1-up.kind c.in_ok-kind-in-len1-up.value c.in_ok-kind-in-len1-up.was c.in_values.result
    (c.in_values.ensures (each (value_at c.args.self.now c.in_ok-kind-in-len1-up.kind) (take (length c.args.args.now - 1) (drop 1 c.args.args.now))) c.values.ensures)

pub in_values-returns-in-empty : goal.in_values-returns-in-empty
in_values-returns-in-empty t c =
    among_none c.args.self.now c.args.at c.args.args.now c.refused.result (no_arguments c.args.args.now (omega arith)) c.refused.ensures
