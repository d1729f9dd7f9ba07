use Rattle.std.proofs.Common.{◌≡◌, ◌∙◌, ap, sym}
use Rattle.std.specs.Option.{option_map}
use Rattle.gr_schema.proofs.FewLemmas.{few_read}
use Rattle.gr_schema.proofs.schema.Schema.index_fields.Goals as goal

pub returns-in-Some-clause-few : goal.returns-in-Some-clause-few
returns-in-Some-clause-few c =
    rw c.fields_read.ensures
    (few_read c.args.self.now c.args.table c.args.index.0 c.args.index.1 c.in-Some.column.now c.column_at.ensures.sound
    (sym c.column_at.ensures.exact ∙ ap (option_map (λ column. column.now)) c.in-Some.is))
