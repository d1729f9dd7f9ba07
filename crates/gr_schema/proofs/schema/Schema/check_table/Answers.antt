use Rattle.std.proofs.Common.{◌≡◌, ◌∙◌, ap, sym}
use Rattle.std.specs.Prelude.{Some}
use Rattle.std.specs.Option.{option_map}
use Rattle.gr_base.specs.Fault.{fault_named}
use Rattle.gr_schema.specs.Wishes.{table_fault}
use Rattle.gr_schema.proofs.ToldLemmas.{table_told}
use Rattle.gr_schema.proofs.schema.Schema.check_table.Goals as goal

pub returns-in-Some-clause-text : goal.returns-in-Some-clause-text
returns-in-Some-clause-text c = λ text.
    table_told c.args.self.now c.args.wish.now c.named.result text
    (sym c.table_fault.ensures ∙ ap (option_map (λ fault. fault_named fault.0 fault.1.now)) c.in-Some.is ∙ ap Some (sym (c.named.ensures ∙ ap (fault_named c.in-Some.kind) c.in_ok-name.ensures)))
