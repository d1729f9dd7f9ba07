use Rattle.std.proofs.Common.{◌≡◌, ◌∙◌, length, sym}
use Rattle.gr_root.specs.Inside.Create.{IsTableMade}
use Rattle.gr_root.proofs.CreateLemmas.{as-many, made-table, unmade-table}
use Rattle.gr_root.proofs.create.create_table.Goals as goal
use Rattle.gr_schema.specs.Schema.{SchemaDef}
use Rattle.gr_schema.specs.Wishes.{IsAnswer, table_fault, table_of}
use Rattle.std.proofs.Common.{Some, Err, None, ap, subst}

pub table_made-requires-clause-long : goal.table_made-requires-clause-long
table_made-requires-clause-long c =
    as-many c.args.schema.now c.args.tables.now c.requires.base.formed ∙ ap (λ (s : SchemaDef). length s.tables) (sym c.get-schema.ensures)

pub returns-in_ok-table_made-in-Ok : goal.returns-in_ok-table_made-in-Ok
returns-in_ok-table_made-in-Ok c =
    let same : c.get-schema.result.now ≡ c.args.schema.now = c.get-schema.ensures in
    let made : IsTableMade c.args.schema.now c.args.tables.now c.in-Ok.def c.in_ok-table_made-in-Ok.field-0 =
    subst (λ (s : SchemaDef). IsTableMade s c.args.tables.now c.in-Ok.def c.in_ok-table_made-in-Ok.field-0) same c.in_ok-table_made-in-Ok.ensures in
    let faultless : table_fault c.args.schema.now c.args.wish.now ≡ None = ap (λ (s : SchemaDef). table_fault s c.args.wish.now) (sym same) ∙ c.in-Ok.ensures.exact.0 in
    made-table c.args.limits c.args.schema.now c.args.tables.now c.args.wish.now c.in-Ok.def c.in_ok-table_made-in-Ok.field-0 c.requires.base faultless c.in-Ok.ensures.exact.1 made

pub returns-in-Err : goal.returns-in-Err
returns-in-Err c =
    let answer = subst (λ (s : SchemaDef). IsAnswer (table_fault s c.args.wish.now) (Some (table_of c.args.wish.now)) (Err c.in-Err.failure)) c.get-schema.ensures c.in-Err.ensures.exact in
    unmade-table c.args.limits c.args.schema.now c.args.tables.now c.args.wish.now c.in-Err.failure answer (c.in-Err.ensures.text c.requires.text)
