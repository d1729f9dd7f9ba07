use Rattle.std.proofs.Common.{◌++◌, ap, ◌∙◌}
use Rattle.gr_dump.proofs.IndexLemmas.{names-joined}
use Rattle.gr_dump.proofs.indexes.with_field_names.Goals as goal

pub returns : goal.returns
returns c =
    names-joined c.args.home.now c.args.fields.now c.in-Some.others.now c.in-Some.first.now c.loop-field.field-index c.args.text.items c.in_ok-text.text.items c.loop-field.text.items
    c.in-Some.ensures.cases.0 (c.in_ok-text.ensures ∙ ap (λ name. c.args.text.items ++ name) c.field_name.ensures) c.loop-field.invariant c.loop-field-test.false
