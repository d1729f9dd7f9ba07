use Rattle.std.proofs.Common.{◌≡◌, ◌+◌, ◌<◌, get_or, length, ap, sym, subst, ◌∙◌}
use Rattle.std.specs.List.{count_by}
use Rattle.gr_index.specs.Levels.{Levels, is_of_level}
use Rattle.gr_index.proofs.IndexLemmas.{first_of_level}
use Rattle.gr_index.proofs.LocatedLemmas.{no_part}
use Rattle.gr_index.proofs.index.Index.level_above.Goals as goal

pub level_at-requires : goal.level_at-requires
level_at-requires c =
    let some = subst (λ (v : Levels). 0 < count_by (is_of_level c.args.level) v.parts) (sym c.self.view_is) c.requires in
    let first = first_of_level c.args.level c.self.inside.parts c.count_above-at.result c.self.invariant.older c.count_above-at.ensures some in
    subst (λ (v : Levels). c.count_above-at.result < length v.parts) c.self.view_is first.0

pub returns-clause-next : goal.returns-clause-next
returns-clause-next c =
    let some = subst (λ (v : Levels). 0 < count_by (is_of_level c.args.level) v.parts) (sym c.self.view_is) c.requires in
    let first = first_of_level c.args.level c.self.inside.parts c.count_above-at.result c.self.invariant.older c.count_above-at.ensures some in
    ap (λ n. n + 1) (c.level_at.ensures.exact no_part ∙ (ap (λ (v : Levels). (get_or v.parts c.count_above-at.result no_part).level) (sym c.self.view_is) ∙ first.1 no_part))

pub returns-clause-bound : goal.returns-clause-bound
returns-clause-bound c =
    let some = subst (λ (v : Levels). 0 < count_by (is_of_level c.args.level) v.parts) (sym c.self.view_is) c.requires in
    let first = first_of_level c.args.level c.self.inside.parts c.count_above-at.result c.self.invariant.older c.count_above-at.ensures some in
    subst (λ n. n < 16) (c.level_at.ensures.exact no_part ∙ (ap (λ (v : Levels). (get_or v.parts c.count_above-at.result no_part).level) (sym c.self.view_is) ∙ first.1 no_part)) c.level_at.ensures.bound
