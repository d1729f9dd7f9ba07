use Rattle.std.proofs.Common.{sym, ap, ◌∙◌}
use Rattle.gr_expr.specs.Tables.{id_in}
use Rattle.gr_table.proofs.Finds.{leads_astray, leads_keyless, leads_nowhere, leads_to}
use Rattle.gr_table.proofs.table.TableRecords.find.Goals as goal

pub returns-in_err-id : goal.returns-in_err-id
returns-in_err-id c = c.from_residual.ensures ∙ sym (leads_nowhere _ _ _ _ _ _ c.self.invariant c.args.key.now c.in_err-id.ensures) ∙ ap (λ table. id_in table.records c.args.key.now) c.self.view_is

pub returns-in-Some : goal.returns-in-Some
returns-in-Some c = sym (leads_to _ _ _ _ _ _ c.self.invariant c.args.key.now c.in_ok-id.id c.in_ok-id.ensures c.in-Some.other (sym c.get.ensures ∙ c.in-Some.is) (sym c.is_same.ensures ∙ c.if-is_same.true)) ∙ ap (λ table. id_in table.records c.args.key.now) c.self.view_is

pub returns-in_default : goal.returns-in_default
returns-in_default c = sym (leads_astray _ _ _ _ _ _ c.self.invariant c.args.key.now c.in_ok-id.id c.in_ok-id.ensures c.in-Some.other (sym c.get.ensures ∙ c.in-Some.is) (sym c.is_same.ensures ∙ c.if-is_same.false)) ∙ ap (λ table. id_in table.records c.args.key.now) c.self.view_is

pub returns-in_default-2 : goal.returns-in_default-2
returns-in_default-2 c = sym (leads_keyless _ _ _ _ _ _ c.self.invariant c.args.key.now c.in_ok-id.id c.in_ok-id.ensures (sym c.get.ensures ∙ c.in_default.is)) ∙ ap (λ table. id_in table.records c.args.key.now) c.self.view_is
