use Rattle.std.proofs.Common.{ap, sym, ◌∙◌}
use Rattle.std.specs.Option.{option_and_then}
use Rattle.gr_expr.specs.Tables.{record_in}
use Rattle.gr_table.proofs.Seen.{record_seen, seen_alive, seen_dead}
use Rattle.gr_table.proofs.table.TableRecords.key.Goals as goal

pub returns-then-get : goal.returns-then-get
returns-then-get c =
    c.as_ref.ensures.value ∙ c.get-then-get.ensures
    ∙ sym (ap (λ table. option_and_then (λ found. found.key) (record_in table.records c.args.id.0)) (sym c.self.view_is)
    ∙ ap (option_and_then (λ found. found.key)) (record_seen _ _ _ _ _ _ c.self.invariant c.args.id.0 ∙ seen_alive _ _ _ _ _ _ c.self.invariant c.args.id.0 (sym c.get.ensures ∙ c.if-get.true)))

pub returns-else-get : goal.returns-else-get
returns-else-get c =
    sym (ap (λ table. option_and_then (λ found. found.key) (record_in table.records c.args.id.0)) (sym c.self.view_is)
    ∙ ap (option_and_then (λ found. found.key)) (record_seen _ _ _ _ _ _ c.self.invariant c.args.id.0 ∙ seen_dead _ _ _ _ _ _ c.self.invariant c.args.id.0 (sym c.get.ensures ∙ c.if-get.false)))
