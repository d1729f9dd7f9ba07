use Rattle.std.proofs.Common.{◌≡◌, ◌∙◌, Err, Ok, None, Some, ap, subst, sym}
use Rattle.gr_base.specs.declared.numbers.TableNo.{TableNo}
use Rattle.gr_root.specs.Inside.Create.{MakesColumn}
use Rattle.gr_root.specs.Inside.Make.{IsBase}
use Rattle.gr_root.proofs.CreateLemmas.{made-column, unmade-column}
use Rattle.gr_root.proofs.create.create_column.Goals as goal
use Rattle.gr_schema.specs.Schema.{SchemaDef}
use Rattle.gr_schema.specs.Wishes.{IsAnswer, column_fault, column_of}
use Rattle.gr_schema.specs.declared.definition.ColumnDef.{ColumnDef}

pub returns-in-Ok : goal.returns-in-Ok
returns-in-Ok c =
    let same : c.get-schema.result.now ≡ c.args.schema.now = c.get-schema.ensures in
    let exact = subst (λ (s : SchemaDef). IsAnswer (column_fault s c.args.wish.now) (column_of s c.args.wish.now) (Ok (c.in-Ok.table, c.in-Ok.def))) same c.in-Ok.ensures.exact in
    let done = subst (λ (s : SchemaDef). MakesColumn c.args.limits s c.args.tables.now c.in-Ok.table c.in-Ok.def c.column_made.result) same c.column_made.ensures in
    made-column c.args.limits c.args.schema.now c.args.tables.now c.args.wish.now c.in-Ok.table c.in-Ok.def c.column_made.result exact.0 exact.1 done

pub returns-in-Err : goal.returns-in-Err
returns-in-Err c =
    let answer = subst (λ (s : SchemaDef). IsAnswer (column_fault s c.args.wish.now) (column_of s c.args.wish.now) (Err c.in-Err.failure)) c.get-schema.ensures c.in-Err.ensures.exact in
    unmade-column c.args.limits c.args.schema.now c.args.tables.now c.args.wish.now c.in-Err.failure answer (c.in-Err.ensures.text c.requires.text)
