use Rattle.std.proofs.Common.{◌≡◌, ◌∙◌, None, Some, ap, slice_get, subst, sym}
use Rattle.std.specs.Option.{option_copied}
use Rattle.gr_db.specs.Entry.{IsReadableTarget}
use Rattle.gr_root.specs.Inside.Sound.{records_in}
use Rattle.gr_root.proofs.ReadableLemmas.{none-readable, table-readable}
use Rattle.gr_root.proofs.create.target_given.Goals as goal
use Rattle.gr_schema.specs.declared.definition.Role.{Role}

pub returns-in-Some : goal.returns-in-Some
returns-in-Some c =
    let there : slice_get c.args.tables.now c.in-Index.target.0 ≡ Some c.in-Some.found.now = sym c.get.ensures ∙ ap option_copied c.in-Some.is in
    subst (λ (role : Role). IsReadableTarget (records_in c.args.tables.now) role) (sym c.in-Index.is) (table-readable c.args.tables.now c.in-Index.target c.in-Some.found.now there c.given.ensures.sound)

pub returns-in-None : goal.returns-in-None
returns-in-None c =
    let none : slice_get c.args.tables.now c.in-Index.target.0 ≡ None = sym c.get.ensures ∙ ap option_copied c.in-None.is in
    subst (λ (role : Role). IsReadableTarget (records_in c.args.tables.now) role) (sym c.in-Index.is) (none-readable c.args.tables.now c.in-Index.target none)
