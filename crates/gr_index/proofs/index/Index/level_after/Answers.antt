use Rattle.std.proofs.Common.{◌≡◌, ◌+◌, ◌-◌, ◌<◌, take, drop, length, ap, sym, subst, ◌∙◌, arith}
use Rattle.gr_index.proofs.IndexLemmas.{first_level_at, level_stays, level_up}
use Rattle.gr_index.proofs.LocatedLemmas.{no_part}
use Rattle.gr_index.proofs.index.Index.level_after.Goals as goal

pub returns-else-goes_up : goal.returns-else-goes_up
returns-else-goes_up c =
    let parts = c.args.self.now.parts in
    let start = c.args.start in
    let stop = c.args.stop in
    let first = c.level_at-level.ensures.exact no_part ∙ sym (first_level_at parts start stop no_part c.requires.order (omega arith)) in
    level_stays (take start parts) (take (stop - start) (drop start parts)) parts c.level_at-level.result first (sym c.goes_up.ensures ∙ c.if-goes_up.false)
