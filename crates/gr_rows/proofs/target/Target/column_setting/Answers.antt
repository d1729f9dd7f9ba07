use Rattle.std.proofs.Common.{Err, Option, Result, option_map, rules, subst}
use Rattle.serde_json.specs.View.{view}
use Rattle.gr_base.specs.declared.fault.Fault.{Fault}
use Rattle.gr_db.specs.Wants.{Setting}
use Rattle.gr_values.specs.Values.{cell_of}
use Rattle.gr_values.specs.declared.value.Given.{Given}
use Rattle.gr_rows.specs.Inside.Told.{Tells}
use Rattle.gr_rows.specs.Members.{in_member}
use Rattle.gr_rows.proofs.PutLemmas.{in_member-map}
use Rattle.gr_rows.proofs.SlotLemmas.{column_slot_named, shape_sound}
use Rattle.gr_rows.proofs.Telling.{as_err, err_map}
use Rattle.gr_rows.proofs.target.Target.column_setting.Goals as goal

pub read_cell-read-requires : goal.read_cell-read-requires
read_cell-read-requires c =
    let schema = c.args.self.now.schema.now in
    let home = c.args.self.now.home.now in
    shape_sound schema c.requires.target.sound c.args.self.now.table home c.args.column c.args.shape c.requires.target.home_there.there
    (column_slot_named schema home c.args.name.now c.args.column c.args.shape c.requires.named).shaped

pub returns-in_err-given-clause-told : goal.returns-in_err-given-clause-told
returns-in_err-given-clause-told c =
    let why = c.in_err-given.field-0.0 in
    let cell = cell_of c.args.shape (view c.args.value) in
    as_err c.from_residual.result why _ (search rules)
    (subst (λ (m : Result (Option Setting) Fault). Tells (Err why) m) (in_member-map (option_map {T = Given} {U = Setting} (λ value. (c.args.column, value))) c.args.row c.args.name.now cell)
    (err_map c.in_member.result (in_member c.args.row c.args.name.now cell) (c.in_member.ensures.told cell c.read_cell-read.ensures.exact) (option_map {T = Given} {U = Setting} (λ value. (c.args.column, value))) why c.in_err-given.was))
