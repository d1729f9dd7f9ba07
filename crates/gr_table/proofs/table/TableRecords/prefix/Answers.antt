use Rattle.std.proofs.Common.{ap, subst, ◌∙◌}
use Rattle.gr_table.specs.Masks.{AreWithPrefix}
use Rattle.gr_table.specs.Table.{TableOf}
use Rattle.gr_table.proofs.Outcomes.{if_ok}
use Rattle.gr_table.proofs.Prefixes.{prefix_seen}
use Rattle.gr_table.proofs.table.TableRecords.prefix.Goals as goal

pub returns : goal.returns
returns c =
    if_ok c.prefix_ids.result
    (λ ids are. subst (λ (table : TableOf). AreWithPrefix table.records c.args.prefix.now ids) c.self.view_is
    (prefix_seen _ _ _ _ _ _ c.self.invariant (ap (λ (table : TableOf). table.key) c.self.view_is ∙ c.requires) c.args.prefix.now ids are))
    c.prefix_ids.ensures
