use Rattle.std.proofs.Common.{ap, ◌∙◌}
use Rattle.std.specs.Prelude.{is_some}
use Rattle.gr_expr.specs.Tables.{record_in}
use Rattle.gr_table.proofs.Seen.{is_seen}
use Rattle.gr_table.proofs.table.TableRecords.is_alive.Goals as goal

pub returns : goal.returns
returns c = c.get.ensures ∙ is_seen _ _ _ _ _ _ c.self.invariant c.args.id.0 ∙ ap (λ table. is_some (record_in table.records c.args.id.0)) c.self.view_is
