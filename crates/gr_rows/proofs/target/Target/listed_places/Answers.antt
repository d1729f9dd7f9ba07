use Rattle.std.proofs.Common.{◌≡◌, ◌+◌, ◌∷◌, [], ◌∙◌, Err, List, Result, ap, arith, drop, length, lit<, map, rules, subst, sym, ℕ}
use Rattle.std.specs.List.{slice_split}
use Rattle.std.specs.Str.Iter.{split_has_more, split_pattern, split_text}
use Rattle.std.proofs.lemmas.Iterator.Consumers.{YieldsList-end, YieldsList-turn}
use Rattle.std.proofs.lemmas.Iterator.Splits.{YieldsList-from_str_split}
use Rattle.std.proofs.lemmas.List.{drop_all, length_push}
use Rattle.gr_base.specs.Failure.{result_map, result_then}
use Rattle.gr_base.specs.declared.fault.Fault.{Fault}
use Rattle.gr_rows.specs.Inside.Places.{names_in}
use Rattle.gr_rows.specs.Inside.Told.{Tells}
use Rattle.gr_rows.specs.Names.{is_comma, names_after, trimmed}
use Rattle.gr_rows.proofs.NamesLemmas.{given, listed_first}
use Rattle.gr_rows.proofs.Telling.{as_err, err_then, ok_told}
use Rattle.gr_rows.proofs.target.Target.listed_places.Goals as goal

pub loop-name-init : goal.loop-name-init
loop-name-init c =
    let schema = c.args.self.now.schema.now in
    let home = c.args.self.now.home.now in
    record {
      can_next = tt;
      finite = tt;
      taken = ap (λ before. names_after schema home before (given (map trimmed (slice_split is_comma c.args.columns.now)))) (sym c.new-places.ensures.exact);
      sound = c.new-places.ensures.sound schema home;
    }

pub returns-in_err-places-clause-told : goal.returns-in_err-places-clause-told
returns-in_err-places-clause-told c =
    let schema = c.args.self.now.schema.now in
    let home = c.args.self.now.home.now in
    let before = names_in c.loop-name.places in
    let parts = slice_split is_comma c.args.columns.now in
    let n = length c.loop-name.yielded in
    let why = c.in_err-places.field-0.0 in
    let start = c.into_iter-name-iterator.ensures.into_iter_gives in
    let all = YieldsList-from_str_split 44 c.args.columns.now (lit< tt) (ap split_text start ∙ c.split-name-items.ensures.text) (ap split_has_more start ∙ c.split-name-items.ensures.has_more) (ap split_pattern start ∙ c.split-name-items.ensures.pattern) in
    let turn = YieldsList-turn all c.loop-name.yielded _ c.loop-name.yielded_by _ _ c.in-Some.name c.in-Some.is c.next.ensures.steps in
    let told : Tells (result_map names_in c.with_listed.result) (names_after schema home before (given (trimmed c.in-Some.name.now ∷ []))) =
    subst (λ name. Tells (result_map names_in c.with_listed.result) (names_after schema home before (given (name ∷ [])))) c.trimmed.ensures c.with_listed.ensures.told in
    let is : c.from_residual.result ≡ Err why = search rules in
    as_err (result_map names_in c.from_residual.result) why _ (ap (result_map names_in) is)
    (subst (λ (m : Result (List (List ℕ)) Fault). Tells (Err why) m) (sym (c.loop-name.invariant.taken ∙ listed_first schema home before parts n c.in-Some.name.now turn.0 turn.1))
    (err_then (result_map names_in c.with_listed.result) _ told (λ now. names_after schema home now (given (map trimmed (drop (n + 1) parts)))) why (ap (result_map names_in) c.in_err-places.was)))

pub loop-name-preserved : goal.loop-name-preserved
loop-name-preserved c =
    let schema = c.args.self.now.schema.now in
    let home = c.args.self.now.home.now in
    let before = names_in c.loop-name.places in
    let made = names_in c.in_ok-places.places in
    let parts = slice_split is_comma c.args.columns.now in
    let n = length c.loop-name.yielded in
    let start = c.into_iter-name-iterator.ensures.into_iter_gives in
    let all = YieldsList-from_str_split 44 c.args.columns.now (lit< tt) (ap split_text start ∙ c.split-name-items.ensures.text) (ap split_has_more start ∙ c.split-name-items.ensures.has_more) (ap split_pattern start ∙ c.split-name-items.ensures.pattern) in
    let turn = YieldsList-turn all c.loop-name.yielded _ c.loop-name.yielded_by _ _ c.in-Some.name c.in-Some.is c.next.ensures.steps in
    let told : Tells (result_map names_in c.with_listed.result) (names_after schema home before (given (trimmed c.in-Some.name.now ∷ []))) =
    subst (λ name. Tells (result_map names_in c.with_listed.result) (names_after schema home before (given (name ∷ [])))) c.trimmed.ensures c.with_listed.ensures.told in
    let found = told.exact.found made (ap (result_map names_in) c.in_ok-places.was) in
    record {
      can_next = tt;
      finite = tt;
      taken =
          c.loop-name.invariant.taken
          ∙ listed_first schema home before parts n c.in-Some.name.now turn.0 turn.1
          ∙ ap (result_then (λ now. names_after schema home now (given (map trimmed (drop (n + 1) parts))))) found
          ∙ ap (λ k. names_after schema home made (given (map trimmed (drop k parts)))) (sym (length_push c.loop-name.yielded c.in-Some.name));
      sound = c.in_ok-places.ensures.sound;
    }

pub returns-clause-told : goal.returns-clause-told
returns-clause-told c =
    let schema = c.args.self.now.schema.now in
    let home = c.args.self.now.home.now in
    let before = names_in c.loop-name.places in
    let parts = slice_split is_comma c.args.columns.now in
    let n = length c.loop-name.yielded in
    let start = c.into_iter-name-iterator.ensures.into_iter_gives in
    let all = YieldsList-from_str_split 44 c.args.columns.now (lit< tt) (ap split_text start ∙ c.split-name-items.ensures.text) (ap split_has_more start ∙ c.split-name-items.ensures.has_more) (ap split_pattern start ∙ c.split-name-items.ensures.pattern) in
    let done = YieldsList-end all c.loop-name.yielded _ c.loop-name.yielded_by _ _ c.in-None.is c.next.ensures.steps in
    ok_told before _
    (c.loop-name.invariant.taken ∙ ap (λ rest. names_after schema home before (given (map trimmed rest))) (drop_all n parts (omega (arith, done.1))))
