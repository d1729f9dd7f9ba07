use Rattle.std.proofs.Common.{◌≡◌, ◌∙◌, List, ap, map, subst}
use Rattle.std.proofs.lemmas.Result.{IfOk-weaker}
use Rattle.gr_base.specs.declared.numbers.RecordId.{RecordId}
use Rattle.gr_db.specs.Changed.{AreChanged}
use Rattle.gr_expr.specs.Tables.{record_id}
use Rattle.gr_root.specs.Root.{Rooted}
use Rattle.gr_root.proofs.ReadersLemmas.{changed-ids}
use Rattle.gr_root.proofs.root.Root.changed.Goals as goal

pub returns : goal.returns
returns c =
    let root = c.self.inside in
    IfOk-weaker c.ids_of.result
    (λ ids. ids ≡ map record_id c.as_slice.result.now)
    (AreChanged c.args.self.now.journal c.args.table c.args.from)
    (λ ids are. subst (λ (seen : Rooted). AreChanged seen.journal c.args.table c.args.from ids) c.self.view_is
    (changed-ids root.journal root.touched c.args.table c.args.from c.in_ok-numbers.numbers.items c.once-numbers.result.items ids c.self.invariant.touched c.in_ok-numbers.ensures c.once-numbers.ensures
    (are ∙ ap (map record_id) c.as_slice.ensures.value)))
    c.ids_of.ensures
