use Rattle.std.proofs.Common.{sym, ap, ◌∙◌}
use mir.Syntax.{w64}
use mir.Val.{to_z, of_z}
use Rattle.std.proofs.lemmas.Int.{to_z-of_z}
use Rattle.gr_values.specs.declared.value.Cell.{Cell}
use Rattle.gr_columns.proofs.KeptCells.{sets_signed, sets_unsigned, sets_truths, sets_texts, sets_refs, sets_ref_lists, sets_int_lists, sets_text_lists}
use Rattle.gr_columns.proofs.Outcomes.{on_ok}
use Rattle.gr_columns.proofs.kept.Kept.set.Goals as goal

pub returns-in-Signed-clause-ok : goal.returns-in-Signed-clause-ok
returns-in-Signed-clause-ok c =
    let same = to_z-of_z w64 c.signed_of.result (record { sfits = c.signed_of.type_inv }) in
    on_ok c.set.result (sets_signed c.args.self.now c.in-Signed.numbers c.set.new.self c.args.i (to_z w64 (of_z w64 c.signed_of.result)) c.args.cell c.in-Signed.is (c.signed_of.ensures ∙ ap Cell.Int (sym same))) c.set.ensures.ok

pub returns-in-Unsigned-clause-ok : goal.returns-in-Unsigned-clause-ok
returns-in-Unsigned-clause-ok c = on_ok c.set-in-Unsigned.result (sets_unsigned c.args.self.now c.in-Unsigned.numbers c.set-in-Unsigned.new.self c.args.i c.unsigned_of.result c.args.cell c.in-Unsigned.is c.unsigned_of.ensures) c.set-in-Unsigned.ensures.ok

pub returns-in-Truths-clause-ok : goal.returns-in-Truths-clause-ok
returns-in-Truths-clause-ok c = on_ok c.set-in-Truths.result (sets_truths c.args.self.now c.in-Truths.truths c.set-in-Truths.new.self c.args.i c.truth_of.result c.args.cell c.in-Truths.is c.truth_of.ensures) c.set-in-Truths.ensures.ok

pub returns-in-Texts-clause-ok : goal.returns-in-Texts-clause-ok
returns-in-Texts-clause-ok c = on_ok c.set-in-Texts.result (sets_texts c.args.self.now c.in-Texts.texts c.set-in-Texts.new.self c.args.i c.text_of.result c.args.cell c.in-Texts.is c.text_of.ensures) c.set-in-Texts.ensures.ok

pub returns-in-Refs-clause-ok : goal.returns-in-Refs-clause-ok
returns-in-Refs-clause-ok c = on_ok c.set-in-Refs.result (sets_refs c.args.self.now c.in-Refs.ids c.set-in-Refs.new.self c.args.i c.id_of.result c.args.cell c.in-Refs.is c.id_of.ensures) c.set-in-Refs.ensures.ok

pub returns-in_ok-from_list-in-RefLists-clause-ok : goal.returns-in_ok-from_list-in-RefLists-clause-ok
returns-in_ok-from_list-in-RefLists-clause-ok c = on_ok c.set-in-RefLists.result (sets_ref_lists c.args.self.now c.in-RefLists.lists c.set-in-RefLists.new.self c.args.i c.in_ok-from_list-in-RefLists.field-0 c.args.cell c.in-RefLists.is (c.ids_of.ensures ∙ ap Cell.RefList (sym c.in_ok-from_list-in-RefLists.ensures))) c.set-in-RefLists.ensures.ok

pub returns-in_ok-from_list-in-IntLists-clause-ok : goal.returns-in_ok-from_list-in-IntLists-clause-ok
returns-in_ok-from_list-in-IntLists-clause-ok c = on_ok c.set-in-IntLists.result (sets_int_lists c.args.self.now c.in-IntLists.lists c.set-in-IntLists.new.self c.args.i c.in_ok-from_list-in-IntLists.field-0 c.args.cell c.in-IntLists.is (c.numbers_of.ensures ∙ ap Cell.IntList (sym c.in_ok-from_list-in-IntLists.ensures))) c.set-in-IntLists.ensures.ok

pub returns-in_ok-from_list-in-TextLists-clause-ok : goal.returns-in_ok-from_list-in-TextLists-clause-ok
returns-in_ok-from_list-in-TextLists-clause-ok c = on_ok c.set-in-TextLists.result (sets_text_lists c.args.self.now c.in-TextLists.lists c.set-in-TextLists.new.self c.args.i c.in_ok-from_list-in-TextLists.field-0 c.args.cell c.in-TextLists.is (c.texts_of.ensures ∙ ap Cell.TextList (sym c.in_ok-from_list-in-TextLists.ensures))) c.set-in-TextLists.ensures.ok
