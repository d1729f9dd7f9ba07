use Rattle.std.proofs.Common.{◌≡◌, ◌∙◌, ◌+◌, ◌∷◌, ap, drop, sym}
use Rattle.std.proofs.lemmas.List.{drop_more}
use Rattle.gr_db.specs.declared.want.Want.{Want}
use Rattle.gr_root.proofs.WalkLemmas.{on-way-ended}
use Rattle.gr_root.proofs.walk.walk.Goals as goal

pub returns-in-Err-clause-ended : goal.returns-in-Err-clause-ended
returns-in-Err-clause-ended c =
    let wants = c.args.wants.now in
    let i = c.loop-want.want-index in
    let first : drop i wants ≡ c.want-item.result ∷ drop (i + 1) wants =
    drop_more wants i c.want-item.result c.loop-want-test.true ∙ ap (λ (w : Want). w ∷ drop (i + 1) wants) (sym c.want-item.is) in
    on-way-ended c.args.limit c.args.schema.now c.args.tables.now c.loop-want.tables c.step.new.tables wants (drop i wants) (drop (i + 1) wants) c.want-item.result
    c.loop-want.added.items c.step.new.added.items c.in-Err.failure c.loop-want.invariant first c.in-Err.ensures
