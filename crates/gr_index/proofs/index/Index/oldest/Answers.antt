use Rattle.std.proofs.Common.{◌≡◌, ◌+◌, ◌-◌, ◌≤◌, ap, subst, refl, ◌∙◌, arith}
use Rattle.std.specs.List.{count_by}
use Rattle.std.proofs.lemmas.List.{take_all}
use Rattle.gr_index.specs.declared.limits.TheConstants.{FOLDED_SEGMENTS}
use Rattle.gr_index.specs.Levels.{Levels, is_of_level}
use Rattle.gr_index.specs.Inside.Located.{IsOldest}
use Rattle.gr_index.proofs.IndexLemmas.{oldest_at}
use Rattle.gr_index.proofs.index.Index.oldest.Goals as goal

pub overflow_add-result : goal.overflow_add-result
overflow_add-result c =
    let parts = c.self.inside.parts in
    let start = c.count_above-start.result in
    let len = c.len-len.ensures in
    let all = c.count.ensures ∙ ap (count_by (is_of_level c.args.level)) (take_all (c.len-len.result - 0) parts (omega (arith, len))) in
    let not_few = c.if-count-lt-FOLDED_SEGMENTS.false in
    let o = oldest_at c.args.level parts start (start + 16) c.self.invariant.older c.count_above-start.ensures (omega (arith, all, not_few)) refl in
    let bound = o.bound in
    omega (arith, bound, len)

pub returns : goal.returns
returns c =
    let parts = c.self.inside.parts in
    let start = c.count_above-start.result in
    let len = c.len-len.ensures in
    let all = c.count.ensures ∙ ap (count_by (is_of_level c.args.level)) (take_all (c.len-len.result - 0) parts (omega (arith, len))) in
    let not_few = c.if-count-lt-FOLDED_SEGMENTS.false in
    let o = oldest_at c.args.level parts start (start + 16) c.self.invariant.older c.count_above-start.ensures (omega (arith, all, not_few)) refl in
    subst (λ (v : Levels). IsOldest c.args.level v.parts start (start + 16)) c.self.view_is o
