use Rattle.std.proofs.Common.{◌≡◌, List, subst, sym}
use Rattle.std.proofs.lemmas.Result.{IfOk-weaker}
use Rattle.std.specs.List.{AllByRecursion}
use Rattle.gr_db.specs.Wants.{new_index_wants}
use Rattle.gr_db.specs.declared.want.Want.{Want}
use Rattle.gr_root.specs.Inside.Sound.{records_in}
use Rattle.gr_root.specs.Inside.Walk.{IsWantFor, db_of}
use Rattle.gr_root.proofs.TokenLemmas.{new-index-fits}
use Rattle.gr_root.proofs.create.role_wants.Goals as goal

pub returns-clause-fit : goal.returns-clause-fit
returns-clause-fit c =
    let fits = new-index-fits c.args.schema.now (records_in c.args.tables.now) c.args.index c.args.role.now c.requires c.target_given-given.ensures in
    IfOk-weaker c.new_index_wants.result
    (λ wants. wants.items ≡ new_index_wants (db_of c.args.schema.now c.args.tables.now) c.args.index c.args.role.now)
    (λ wants. AllByRecursion (IsWantFor c.args.schema.now) wants.items)
    (λ wants are. subst (λ (ws : List Want). AllByRecursion (IsWantFor c.args.schema.now) ws) (sym are) fits)
    c.new_index_wants.ensures
