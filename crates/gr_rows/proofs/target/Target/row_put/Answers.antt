use Rattle.std.proofs.Common.{◌∙◌, ap, option_copied, option_map, subst, sym}
use Rattle.serde_json.proofs.Views.{view-Object}
use Rattle.serde_json.specs.Data.{Data}
use Rattle.serde_json.specs.View.{view}
use Rattle.gr_rows.specs.Inside.Places.{names_in}
use Rattle.gr_rows.specs.Inside.Told.{Tells}
use Rattle.gr_rows.specs.Members.{row_put}
use Rattle.gr_rows.proofs.target.Target.row_put.Goals as goal

pub returns-in_default-Object-clause-told : goal.returns-in_default-Object-clause-told
returns-in_default-Object-clause-told c =
    let told = rw c.in_default-Object.members-is at c.object_put.ensures.told in
    subst (λ (d : Data). Tells c.object_put.result (row_put c.args.self.now.schema.now c.args.self.now.home.now (option_map names_in (option_copied c.args.places)) c.args.row d))
    (sym (ap view c.in_default-Object.is-1 ∙ view-Object c.in_default-Object.members)) told
