use Rattle.std.proofs.Common.{ap, sym, ◌∙◌}
use Rattle.std.specs.Map.{set_value}
use Rattle.indexmap.specs.IndexMap.{insert_entry}
use Rattle.gr_drill.proofs.CountLemmas.{counted-before, counted-first}
use Rattle.gr_drill.specs.Inside.Lent.{is_same_lent}
use Rattle.gr_drill.specs.Inside.Tally.{lent_groups}
use Rattle.gr_drill.proofs.tally.count.Goals as goal

pub returns-in-Some : goal.returns-in-Some
returns-in-Some c =
    let before = c.args.tally.now.entries in
    ap lent_groups ((c.get_mut.follows.holds c.one_more.result).0 ∙ ap (set_value (is_same_lent c.args.key) before) c.one_more.ensures)
    ∙ counted-before before c.args.key c.in-Some.count.now (sym c.in-Some.ensures.value)

pub returns-in_ok-insert-in-None : goal.returns-in_ok-insert-in-None
returns-in_ok-insert-in-None c =
    let before = c.args.tally.now.entries in
    ap lent_groups (c.in_ok-insert-in-None.ensures.entries ∙ ap (λ entries. insert_entry is_same_lent entries c.args.key 1) (ap (λ tally. tally.entries) c.get_mut.follows.holds-at-none))
    ∙ counted-first before c.args.key (sym c.in-None.ensures.value)
