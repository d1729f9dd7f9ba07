use Rattle.std.proofs.Common.{◌≡◌, ◌∙◌}
use Rattle.std.specs.Option.{option_copied}
use Rattle.gr_db.specs.Wants.{record_wants}
use Rattle.gr_root.proofs.FitLemmas.{record-fits}
use Rattle.gr_root.proofs.put.add_records.Goals as goal

pub walk-requires-clause-fit : goal.walk-requires-clause-fit
walk-requires-clause-fit c =
    let same : c.as_slice.result.now ≡ record_wants c.args.schema.now c.args.table (option_copied c.args.key) c.args.settings.now = c.as_slice.ensures.value ∙ c.in_ok-wants.ensures in
    rw same (record-fits c.args.schema.now c.args.table (option_copied c.args.key) c.args.settings.now c.requires.valid)
