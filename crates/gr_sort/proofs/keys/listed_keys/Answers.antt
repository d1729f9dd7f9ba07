use Rattle.std.proofs.Common.{◌≡◌, ◌∷◌, [], ◌∙◌, Err, ap, arith, drop, length, lit<, map, rules, subst, sym}
use Rattle.std.specs.List.{slice_split}
use Rattle.std.specs.Str.Iter.{split_has_more, split_pattern, split_text}
use Rattle.std.proofs.lemmas.Iterator.Consumers.{YieldsList-end, YieldsList-turn}
use Rattle.std.proofs.lemmas.Iterator.Splits.{YieldsList-from_str_split}
use Rattle.std.proofs.lemmas.List.{length_push}
use Rattle.gr_print.specs.Columns.{is_comma, listed, trimmed}
use Rattle.gr_sort.specs.Inside.Named.{Adds, AreSortable}
use Rattle.gr_sort.proofs.KeyLemmas.{AreSortable-none, given, taken-all, taken-more, taken-stops, total}
use Rattle.gr_sort.proofs.keys.listed_keys.Goals as goal

pub loop-item-init : goal.loop-item-init
loop-item-init c =
    let schema = c.args.schema.now in
    let none : c.from_vec-made.result ≡ [] = c.from_vec-made.ensures ∙ c.new.ensures.items in
    record {
      can_next = tt;
      finite = tt;
      taken = ap (λ before. total schema c.args.table before (listed c.args.text.now)) (sym none);
      fit = subst (AreSortable schema) (sym none) (AreSortable-none schema);
    }

pub returns-in_err-made-clause-exact : goal.returns-in_err-made-clause-exact
returns-in_err-made-clause-exact c =
    let schema = c.args.schema.now in
    let before = c.loop-item.made in
    let parts = slice_split is_comma c.args.text.now in
    let n = length c.loop-item.yielded in
    let why = c.in_err-made.field-0.0 in
    let start = c.into_iter-item-iterator.ensures.into_iter_gives in
    let all = YieldsList-from_str_split 44 c.args.text.now (lit< tt) (ap split_text start ∙ c.split-item-items.ensures.text) (ap split_has_more start ∙ c.split-item-items.ensures.has_more) (ap split_pattern start ∙ c.split-item-items.ensures.pattern) in
    let turn = YieldsList-turn all c.loop-item.yielded _ c.loop-item.yielded_by _ _ c.in-Some.item c.in-Some.is c.next.ensures.steps in
    let told : Adds schema c.args.table before (given (trimmed c.in-Some.item.now ∷ [])) (Err why) =
    subst (λ result. Adds schema c.args.table before (given (trimmed c.in-Some.item.now ∷ [])) result) c.in_err-made.was
    (subst (λ name. Adds schema c.args.table before (given (name ∷ [])) c.with_listed.result) c.trimmed.ensures c.with_listed.ensures.exact) in
    let is : c.from_residual.result ≡ Err why = search rules in
    subst (λ result. Adds schema c.args.table [] (listed c.args.text.now) result) (sym is)
    (taken-stops schema c.args.table (listed c.args.text.now) parts n before c.loop-item.invariant.taken c.in-Some.item.now why turn.0 turn.1 told)

pub loop-item-preserved : goal.loop-item-preserved
loop-item-preserved c =
    let schema = c.args.schema.now in
    let before = c.loop-item.made in
    let made = c.in_ok-made.made in
    let parts = slice_split is_comma c.args.text.now in
    let n = length c.loop-item.yielded in
    let start = c.into_iter-item-iterator.ensures.into_iter_gives in
    let all = YieldsList-from_str_split 44 c.args.text.now (lit< tt) (ap split_text start ∙ c.split-item-items.ensures.text) (ap split_has_more start ∙ c.split-item-items.ensures.has_more) (ap split_pattern start ∙ c.split-item-items.ensures.pattern) in
    let turn = YieldsList-turn all c.loop-item.yielded _ c.loop-item.yielded_by _ _ c.in-Some.item c.in-Some.is c.next.ensures.steps in
    let told = subst (λ result. Adds schema c.args.table before (given (trimmed c.in-Some.item.now ∷ [])) result) c.in_ok-made.was
    (subst (λ name. Adds schema c.args.table before (given (name ∷ [])) c.with_listed.result) c.trimmed.ensures c.with_listed.ensures.exact) in
    record {
      can_next = tt;
      finite = tt;
      taken =
          taken-more schema c.args.table (listed c.args.text.now) parts n before c.loop-item.invariant.taken c.in-Some.item.now made turn.0 turn.1 told
          ∙ ap (λ k. total schema c.args.table made (given (map trimmed (drop k parts)))) (sym (length_push c.loop-item.yielded c.in-Some.item));
      fit = c.in_ok-made.ensures.fit;
    }

pub returns-clause-exact : goal.returns-clause-exact
returns-clause-exact c =
    let parts = slice_split is_comma c.args.text.now in
    let n = length c.loop-item.yielded in
    let start = c.into_iter-item-iterator.ensures.into_iter_gives in
    let all = YieldsList-from_str_split 44 c.args.text.now (lit< tt) (ap split_text start ∙ c.split-item-items.ensures.text) (ap split_has_more start ∙ c.split-item-items.ensures.has_more) (ap split_pattern start ∙ c.split-item-items.ensures.pattern) in
    let done = YieldsList-end all c.loop-item.yielded _ c.loop-item.yielded_by _ _ c.in-None.is c.next.ensures.steps in
    taken-all c.args.schema.now c.args.table (listed c.args.text.now) parts n c.loop-item.made c.loop-item.invariant.taken (omega (arith, done.1))
