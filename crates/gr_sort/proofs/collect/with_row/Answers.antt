use Rattle.std.proofs.Common.{◌≡◌, false, is_lt, map, subst}
use Rattle.gr_sort.specs.Inside.Place.{last_of}
use Rattle.gr_sort.specs.Inside.Rows.{keyed_cmp, keyed_row}
use Rattle.gr_sort.proofs.KeptLemmas.{first-late}
use Rattle.gr_sort.proofs.collect.with_row.Goals as goal

pub returns-then-is_late-clause-exact : goal.returns-then-is_late-clause-exact
returns-then-is_late-clause-exact c =
    let cmp = keyed_cmp c.args.keys.now in
    let row = keyed_row c.args.row in
    let late = subst (λ rows. is_lt (cmp row (last_of c.args.most (map keyed_row rows) row)) ≡ false) c.deref.ensures.value (c.is_late.ensures c.if-is_late.true) in
    first-late cmp c.args.most (map keyed_row c.args.kept.rows.items) row (c.requires c.if-kept.true) late
