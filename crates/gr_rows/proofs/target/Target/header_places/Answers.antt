use Rattle.std.proofs.Common.{◌≡◌, ◌∷◌, [], ◌∙◌, Err, List, Result, ap, rules, subst, sym, ℕ}
use Rattle.std.specs.Vec.Iter.{into_iter_items}
use Rattle.serde_json.specs.View.{items_view, view}
use Rattle.gr_base.specs.Failure.{result_map}
use Rattle.gr_base.specs.declared.fault.Fault.{Fault}
use Rattle.gr_rows.specs.Inside.Places.{names_in}
use Rattle.gr_rows.specs.Inside.Told.{Tells}
use Rattle.gr_rows.specs.Names.{header_name, header_names, names_after}
use Rattle.gr_rows.proofs.NamesLemmas.{names_first}
use Rattle.gr_rows.proofs.Telling.{as_err, err_then}
use Rattle.gr_rows.proofs.target.Target.header_places.Goals as goal

pub loop-element-init : goal.loop-element-init
loop-element-init c =
    let schema = c.args.self.now.schema.now in
    let home = c.args.self.now.home.now in
    let gives : into_iter_items c.into_iter-element-iterator.result ≡ c.args.header.items = c.into_iter-element-iterator.ensures.into_iter_gives.0 in
    record {
      can_next = tt;
      finite = tt;
      taken =
          ap (λ before. names_after schema home before (header_names (items_view c.args.header.items))) (sym c.new-places.ensures.exact)
          ∙ ap (λ values. names_after schema home (names_in c.new-places.result) (header_names (items_view values))) (sym gives);
      sound = c.new-places.ensures.sound schema home;
    }

pub returns-in_err-places-clause-told : goal.returns-in_err-places-clause-told
returns-in_err-places-clause-told c =
    let schema = c.args.self.now.schema.now in
    let home = c.args.self.now.home.now in
    let before = names_in c.loop-element.places in
    let left = header_names (items_view (into_iter_items c.next.new.self)) in
    let why = c.in_err-places.field-0.0 in
    let next : into_iter_items c.loop-element.element-iterator ≡ c.in-Some.element ∷ into_iter_items c.next.new.self = search rules in
    let ask = rw next at c.loop-element.invariant.taken in
    let meant = names_after schema home before (header_name (view c.in-Some.element) ∷ []) in
    let is : c.from_residual.result ≡ Err why = search rules in
    as_err (result_map names_in c.from_residual.result) why _ (ap (result_map names_in) is)
    (subst (λ (m : Result (List (List ℕ)) Fault). Tells (Err why) m) (sym (ask ∙ names_first schema home before (header_name (view c.in-Some.element)) left))
    (err_then (result_map names_in c.with_element.result) meant c.with_element.ensures.told (λ now. names_after schema home now left) why (ap (result_map names_in) c.in_err-places.was)))
