use Rattle.std.proofs.Common.{◌≡◌, ◌∙◌, Err, Result, ap, subst, sym}
use Rattle.serde_json.specs.View.{view}
use Rattle.gr_base.specs.declared.failure.Failure.TheVariants.{Refused}
use Rattle.gr_base.specs.declared.fault.Fault.{Fault}
use Rattle.gr_values.specs.declared.value.Key.{Key}
use Rattle.gr_rows.specs.Inside.Told.{Tells}
use Rattle.gr_rows.specs.Members.{row_fault}
use Rattle.gr_rows.proofs.KeyLemmas.{key_refused}
use Rattle.gr_rows.proofs.key.filled_key.Goals as goal

pub returns-in-Err-Refused-clause-told : goal.returns-in-Err-Refused-clause-told
returns-in-Err-Refused-clause-told c =
    let kind = c.in-Err-Refused.kind in
    let read : c.read_key.result ≡ Err (Refused kind) = c.in-Err-Refused.is ∙ ap Err c.in-Err-Refused.field-0-is in
    let meant = key_refused c.args.row c.args.of (view c.args.value) kind (c.read_key.ensures.exact.refused kind read) in
    subst (λ (m : Result Key Fault). Tells c.row_refused.result m) (ap (λ name. Err (row_fault kind c.args.row name)) c.key_fault_name.ensures ∙ sym meant) c.row_refused.ensures
