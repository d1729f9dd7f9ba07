use Rattle.std.proofs.Common.{◌≡◌, ◌∙◌, ◌∷◌, ◌++◌, ◌≤◌, [], ap, arith, length, map, subst, sym, take}
use Rattle.std.proofs.lemmas.List.{length-map}
use Rattle.gr_sort.specs.Inside.Place.{IsBounded}
use Rattle.gr_sort.specs.Inside.Rows.{keyed_cmp, keyed_row}
use Rattle.gr_sort.specs.Order.{in_order}
use Rattle.gr_sort.proofs.KeptLemmas.{IsBounded-cut, IsBounded-push}
use Rattle.gr_sort.proofs.OrderLemmas.{in_order-again}
use Rattle.gr_sort.proofs.RowLemmas.{keyed-cut, keyed-push}
use Rattle.gr_sort.proofs.TotalLemmas.{keyed_weak}
use Rattle.gr_sort.proofs.collect.with_early_row.Goals as goal

pub returns-then-len-lt-LEAST_ROOM-clause-kept : goal.returns-then-len-lt-LEAST_ROOM-clause-kept
returns-then-len-lt-LEAST_ROOM-clause-kept c = λ cut.
    let cmp = keyed_cmp c.args.keys.now in
    let rows = c.args.kept.rows.items in
    subst (IsBounded cmp c.args.most) (sym (keyed-push rows c.push.new.self.items c.args.row c.in_ok-push.ensures.items))
    (IsBounded-push cmp (keyed_weak c.args.keys.now) c.args.most (map keyed_row rows) (keyed_row c.args.row) (c.requires cut))

are_all : (c : goal.After-truncate) → map keyed_row c.push.new.self.items ≡ map keyed_row c.args.kept.rows.items ++ keyed_row c.args.row ∷ []
are_all c = keyed-push c.args.kept.rows.items c.push.new.self.items c.args.row c.in_ok-push.ensures.items

cut : (c : goal.After-truncate) → map keyed_row c.truncate.new.self.items ≡ take c.args.most (in_order (keyed_cmp c.args.keys.now) (map keyed_row c.args.kept.rows.items ++ keyed_row c.args.row ∷ []))
cut c =
    keyed-cut c.args.keys.now c.push.new.self.items c.sort.new.rows.items c.truncate.new.self.items (map keyed_row c.args.kept.rows.items ++ keyed_row c.args.row ∷ []) c.args.most (are_all c) c.in_ok-sort.ensures
    c.truncate.ensures.items

pub returns-clause-exact : goal.returns-clause-exact
returns-clause-exact c =
    let cmp = keyed_cmp c.args.keys.now in
    ap (λ rows. take c.args.most (in_order cmp rows)) (cut c)
    ∙ in_order-again cmp (keyed_weak c.args.keys.now) c.args.most (map keyed_row c.args.kept.rows.items ++ keyed_row c.args.row ∷ [])

pub returns-clause-kept : goal.returns-clause-kept
returns-clause-kept c = λ is_cut.
    let cmp = keyed_cmp c.args.keys.now in
    let all = map keyed_row c.args.kept.rows.items ++ keyed_row c.args.row ∷ [] in
    let enough : c.args.most ≤ length all = omega (arith, length-map c.push.new.self.items keyed_row, ap length (are_all c)) in
    subst (IsBounded cmp c.args.most) (sym (cut c)) (IsBounded-cut cmp (keyed_weak c.args.keys.now) c.args.most all enough)
