use Rattle.std.proofs.Common.{◌≡◌, ◌∙◌, ◌+◌, ◌-◌, [], ap, arith, drop, eqb-true, length, map, min, refl, sym, take}
use Rattle.std.proofs.lemmas.Result.{IfOk-weaker}
use Rattle.gr_print.specs.Block.{hits_within}
use Rattle.gr_sort.specs.Inside.Rows.{keyed_row}
use Rattle.gr_sort.specs.Order.{hit_cmp, ordered}
use Rattle.gr_sort.specs.declared.row.Row.{Row}
use Rattle.gr_sort.proofs.KeptLemmas.{length-in_order}
use Rattle.gr_sort.proofs.RowLemmas.{first_enough, first_hits, no_elements, ordered-none}
use Rattle.gr_sort.proofs.WindowLemmas.{part_of}
use Rattle.gr_sort.proofs.sorting.sorted.Goals as goal

pub returns-then-is_empty : goal.returns-then-is_empty
returns-then-is_empty g c =
    let tables = g.R.Rows.tables c.args.rows.now in
    let hits = c.args.hits.now in
    let span = c.args.span in
    let none : c.args.keys.now ≡ [] = no_elements c.args.keys.now (eqb-true (length c.args.keys.now) 0 (sym c.is_empty.ensures ∙ c.if-is_empty.true)) in
    let end : c.min-end.result ≡ min (span.first + span.count) (length hits) = omega arith in
    c.in_ok-from_slice.ensures.items ∙ part_of hits hits span.first span.count c.min-first.result c.min-end.result end (omega arith) refl
    ∙ ap (hits_within span) (sym (ap (λ keys. ordered tables keys hits) none ∙ ordered-none tables hits c.requires))

pub hits_of-requires-clause-within : goal.hits_of-requires-clause-within
hits_of-requires-clause-within g c =
    first_enough (g.R.Rows.tables c.args.rows.now) c.args.keys.now c.args.hits.now c.deref.result.now (map keyed_row c.in_ok-kept.kept.items) c.min-end.result
    (ap (map keyed_row) c.deref.ensures.value ∙ c.in_ok-sort.ensures) c.in_ok-kept.ensures (omega arith)

pub returns : goal.returns
returns g c =
    let tables = g.R.Rows.tables c.args.rows.now in
    let hits = c.args.hits.now in
    let span = c.args.span in
    let all = ordered tables c.args.keys.now hits in
    let shown = map (λ (row : Row). row.hit) c.deref.result.now in
    let end : c.min-end.result ≡ min (span.first + span.count) (length all) = omega (arith, length-in_order (hit_cmp tables c.args.keys.now) hits) in
    let begins : c.min-first.result ≡ min span.first c.min-end.result = omega arith in
    let same = first_hits tables c.args.keys.now hits c.deref.result.now (map keyed_row c.in_ok-kept.kept.items) c.min-end.result
    (ap (map keyed_row) c.deref.ensures.value ∙ c.in_ok-sort.ensures) c.in_ok-kept.ensures in
    IfOk-weaker c.hits_of.result (λ made. made.items ≡ take (c.min-end.result - c.min-first.result) (drop c.min-first.result shown)) (λ made. made.items ≡ hits_within span all)
    (λ made is. is ∙ part_of shown all span.first span.count c.min-first.result c.min-end.result end begins same) c.hits_of.ensures
