use Rattle.std.proofs.Common.{◌≡◌, ◌∙◌, true, false, is_some, ap, refl, sym}
use Rattle.gr_db.specs.Apply.{kept}
use Rattle.gr_expr.specs.Tables.{record_at}
use Rattle.gr_root.specs.Inside.Sound.{records_in}
use Rattle.gr_root.specs.Inside.Walk.{db_of}
use Rattle.gr_root.proofs.SetLemmas.{alive-in, place-there, set-fits, set-nothing, set-one, shapes-taken}
use Rattle.gr_root.proofs.TakenLemmas.{on_ok}
use Rattle.gr_root.proofs.put.set_cell.Goals as goal

pub returns-then-not-is_alive : goal.returns-then-not-is_alive
returns-then-not-is_alive c =
    let none : is_some (record_at (records_in c.args.tables.now) c.args.table c.args.id) ≡ false = sym c.is_alive.ensures ∙ c.if-not-is_alive.true in
    set-nothing c.args.schema.now c.args.tables.now c.args.table c.args.id c.args.setting.now none c.requires.formed

pub take-requires : goal.take-requires
take-requires c = place-there c.args.schema.now c.args.tables.now c.args.table c.requires.there c.requires.formed

pub set-requires-clause-alive : goal.set-requires-clause-alive
set-requires-clause-alive c =
    let alive : is_some (record_at (records_in c.args.tables.now) c.args.table c.args.id) ≡ true = sym c.is_alive.ensures ∙ c.if-not-is_alive.false in
    alive-in c.args.tables.now c.args.table c.args.id c.in_ok-found.found c.in_ok-found.ensures.was alive

pub set-requires-clause-fits : goal.set-requires-clause-fits
set-requires-clause-fits c =
    let db = db_of c.args.schema.now c.args.tables.now in
    set-fits db c.column_target.result c.args.schema.now c.args.table c.args.setting.now c.in_ok-found.found.shapes c.in_ok-cell.cell
    (shapes-taken c.args.schema.now c.args.tables.now c.args.table c.in_ok-found.found c.in_ok-found.ensures.was c.requires.there c.requires.formed)
    (c.in_ok-cell.ensures db refl) c.requires.fits

pub returns : goal.returns
returns c =
    let db = db_of c.args.schema.now c.args.tables.now in
    on_ok c.put.result
    (λ put. set-one c.args.schema.now c.args.tables.now c.take.new.self c.put.new.self c.args.table c.args.id c.args.setting.now c.in_ok-found.found _ c.in_ok-cell.cell
    c.in_ok-found.ensures put c.in_ok-set.ensures
    (c.in_ok-cell.ensures db refl ∙ ap (λ to. kept db to c.args.setting.now.1) c.column_target.ensures)
    c.requires.formed)
    c.put.ensures
