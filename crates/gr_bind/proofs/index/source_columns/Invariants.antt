use Rattle.std.proofs.Common.{◌≡◌, take}
use Rattle.std.specs.List.{filter_map}
use Rattle.gr_bind.specs.Columns.{source_column}
use Rattle.gr_bind.proofs.index.source_columns.Given as goal

abbrev pub invariant-loop-source : goal.invariant-loop-source
invariant-loop-source l = l.columns ≡ filter_map (source_column l.schema l.table l.weight l.tokenizer) (take l.source-index l.sources)
