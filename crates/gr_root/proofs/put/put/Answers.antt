use Rattle.std.proofs.Common.{◌≡◌, ◌∙◌, List, subst, sym}
use Rattle.std.specs.Option.{option_copied}
use Rattle.std.specs.Prelude.{Err, Ok}
use Rattle.gr_db.specs.Wants.{Setting, put_wants}
use Rattle.gr_db.specs.declared.entry.Change.TheVariants.{Put}
use Rattle.gr_root.specs.Inside.Make.{Makes}
use Rattle.gr_root.specs.Inside.Put.{IsPutIn}
use Rattle.gr_root.specs.Inside.Walk.{IsEnded, db_of}
use Rattle.gr_root.specs.declared.make.Made.{Made}
use Rattle.gr_root.proofs.PutLemmas.{made-put, unmade-put}
use Rattle.gr_root.proofs.put.put.Goals as goal
use Rattle.gr_schema.specs.Schema.{SchemaDef}
use Rattle.gr_table.specs.Table.{TableOf}

pub returns-in-Err : goal.returns-in-Err
returns-in-Err c kept same =
    let key = option_copied c.args.key in
    let old : c.new-working.result ≡ c.args.tables.now = c.new-working.ensures ∙ c.in_ok-try_clone.ensures in
    let home : c.get-home.result.now ≡ c.args.schema.now = c.get-home.ensures in
    let there : IsEnded c.args.limits.records c.get-home.result.now c.new-working.result (put_wants (db_of c.get-home.result.now c.new-working.result) c.args.table key c.args.settings.now) c.in-Err.failure = c.in-Err.ensures in
    let ended : IsEnded c.args.limits.records c.args.schema.now c.args.tables.now (put_wants (db_of c.args.schema.now c.args.tables.now) c.args.table key c.args.settings.now) c.in-Err.failure =
    subst (λ (s : SchemaDef). IsEnded c.args.limits.records s c.args.tables.now (put_wants (db_of s c.args.tables.now) c.args.table key c.args.settings.now) c.in-Err.failure) home
    (subst (λ (ts : List TableOf). IsEnded c.args.limits.records c.get-home.result.now ts (put_wants (db_of c.get-home.result.now ts) c.args.table key c.args.settings.now) c.in-Err.failure) old there) in
    subst (λ (settings : List Setting). Makes c.args.limits c.args.schema.now c.args.tables.now (Put c.args.table key settings) (Err c.in-Err.failure)) (sym same)
    (unmade-put c.args.limits c.args.schema.now c.args.tables.now c.args.table key c.args.settings.now c.in-Err.failure ended)

pub returns-in_ok-into_kept-in-Ok : goal.returns-in_ok-into_kept-in-Ok
returns-in_ok-into_kept-in-Ok c kept same =
    let key = option_copied c.args.key in
    let made : Made = record { schema = c.in_ok-try_clone-in-Ok.field-0; tables = c.in_ok-into_kept-in-Ok.field-0; touched = c.in-Ok.touched } in
    let old : c.new-working.result ≡ c.args.tables.now = c.new-working.ensures ∙ c.in_ok-try_clone.ensures in
    let home : c.get-home.result.now ≡ c.args.schema.now = c.get-home.ensures in
    let there : IsPutIn c.args.limits.records c.get-home.result.now c.new-working.result c.put_in.new.tables c.args.table key c.args.settings.now c.in-Ok.touched = c.in-Ok.ensures in
    let done : IsPutIn c.args.limits.records c.args.schema.now c.args.tables.now c.put_in.new.tables c.args.table key c.args.settings.now c.in-Ok.touched =
    subst (λ (s : SchemaDef). IsPutIn c.args.limits.records s c.args.tables.now c.put_in.new.tables c.args.table key c.args.settings.now c.in-Ok.touched) home
    (subst (λ (ts : List TableOf). IsPutIn c.args.limits.records c.get-home.result.now ts c.put_in.new.tables c.args.table key c.args.settings.now c.in-Ok.touched) old there) in
    subst (λ (settings : List Setting). Makes c.args.limits c.args.schema.now c.args.tables.now (Put c.args.table key settings) (Ok made)) (sym same)
    (made-put c.args.limits c.args.schema.now c.args.tables.now c.put_in.new.tables c.args.table key c.args.settings.now made done c.in_ok-try_clone-in-Ok.ensures c.in_ok-into_kept-in-Ok.ensures)
