use Rattle.std.proofs.Common.{◌≡◌, ◌∷◌, ◌++◌, [], ◌∙◌, ap, arith, drop, length, lit<, map, refl, subst, sym}
use Rattle.std.specs.List.{slice_split}
use Rattle.std.specs.Str.Iter.{split_has_more, split_pattern, split_text}
use Rattle.std.proofs.lemmas.Iterator.Consumers.{YieldsList-end, YieldsList-turn}
use Rattle.std.proofs.lemmas.Iterator.Splits.{YieldsList-from_str_split}
use Rattle.std.proofs.lemmas.List.{length_push}
use Rattle.gr_print.specs.Columns.{is_comma, listed, trimmed}
use Rattle.gr_drill.proofs.ListedLemmas.{given, names-all, names-more}
use Rattle.gr_drill.proofs.names.listed.Goals as goal

pub loop-item-init : goal.loop-item-init
loop-item-init c = record {
  can_next = tt;
  finite = tt;
  taken = ap (λ names. map (λ name. name.now) names ++ listed c.args.text.now) c.new-names.ensures.items;
}

pub loop-item-preserved : goal.loop-item-preserved
loop-item-preserved c =
    let parts = slice_split is_comma c.args.text.now in
    let n = length c.loop-item.yielded in
    let start = c.into_iter-item-iterator.ensures.into_iter_gives in
    let all = YieldsList-from_str_split 44 c.args.text.now (lit< tt) (ap split_text start ∙ c.split-item-items.ensures.text) (ap split_has_more start ∙ c.split-item-items.ensures.has_more) (ap split_pattern start ∙ c.split-item-items.ensures.pattern) in
    let turn = YieldsList-turn all c.loop-item.yielded _ c.loop-item.yielded_by _ _ c.in-Some.item c.in-Some.is c.next.ensures.steps in
    record {
      can_next = tt;
      finite = tt;
      taken =
          ap (λ k. map (λ name. name.now) c.push_name.new.names.items ++ given (map trimmed (drop k parts))) (length_push c.loop-item.yielded c.in-Some.item)
          ∙ names-more (listed c.args.text.now) (map (λ name. name.now) c.loop-item.names.items) (map (λ name. name.now) c.push_name.new.names.items) parts n c.in-Some.item.now turn.0 turn.1
          c.loop-item.invariant.taken (c.in_ok-push_name.ensures ∙ ap (λ name. map (λ name. name.now) c.loop-item.names.items ++ given (name ∷ [])) c.trimmed.ensures);
    }

pub returns : goal.returns
returns c =
    let parts = slice_split is_comma c.args.text.now in
    let n = length c.loop-item.yielded in
    let start = c.into_iter-item-iterator.ensures.into_iter_gives in
    let all = YieldsList-from_str_split 44 c.args.text.now (lit< tt) (ap split_text start ∙ c.split-item-items.ensures.text) (ap split_has_more start ∙ c.split-item-items.ensures.has_more) (ap split_pattern start ∙ c.split-item-items.ensures.pattern) in
    let done = YieldsList-end all c.loop-item.yielded _ c.loop-item.yielded_by _ _ c.in-None.is c.next.ensures.steps in
    names-all (listed c.args.text.now) (map (λ name. name.now) c.loop-item.names.items) parts n (omega (arith, done.1)) c.loop-item.invariant.taken
