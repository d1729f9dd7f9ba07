use Rattle.std.proofs.Common.{sym, subst}
use Rattle.std.proofs.lemmas.List.{nil_from_length}
use Rattle.gr_hits.proofs.PartsLemmas.{IsLater, hits_part, parts_found, parts_missing}
use Rattle.gr_hits.proofs.parts.parts_at.Goals as goal
use Rattle.gr_hits.proofs.parts.parts_at.Goals.{in_default-via-in-Some+else-hit-id, in_default-via-in_default}

pub count_before-requires : goal.count_before-requires
count_before-requires c = hits_part c.args.hits.now c.args.id.0 c.requires

pub returns-in-Some : goal.returns-in-Some
returns-in-Some c =
    parts_found c.args.hits.now c.args.id c.count_before.result _ c.split_at.result.1.now c.in-Some.above.now c.in-Some.hit.now c.requires c.split_at.ensures.front c.split_at.ensures.back c.count_before.ensures.exact c.in-Some.ensures.cases.0 c.if-hit-id.true

pub returns-in_default : goal.returns-in_default
returns-in_default c =
    parts_missing c.args.hits.now c.args.id c.count_before.result _ c.split_at.result.1.now c.requires c.split_at.ensures.front c.split_at.ensures.back c.count_before.ensures.exact (elim c.in_default.branch [
      | in_default-via-in-Some+else-hit-id w ↦ subst (IsLater c.args.id) (sym w.in-Some.ensures.cases.0) w.if-hit-id.false
      | in_default-via-in_default w ↦ subst (IsLater c.args.id) (sym (nil_from_length _ w.in_default.ensures.cases)) tt
    ])
