use Rattle.std.proofs.Common.{◌≡◌, ◌∙◌, List, Option, ap, map, subst, sym}
use Rattle.std.proofs.lemmas.Result.{err_from_is_err_and}
use Rattle.std.specs.Prelude.{IfSome}
use Rattle.gr_db.specs.Changed.{place_of}
use Rattle.gr_db.specs.declared.want.Added.{Added}
use Rattle.gr_root.specs.Inside.Create.{HasBlank}
use Rattle.gr_root.proofs.CreateLemmas.{IsBlank, blank-formed, blank-within, column-place, column-shape, made-ended, made-walked, wants-are}
use Rattle.gr_root.proofs.create.column_made.Goals as goal
use Rattle.gr_schema.specs.Schema.{SchemaDef, column_no}
use Rattle.gr_schema.specs.Sound.{IsSound}
use Rattle.gr_values.specs.Types.{IsShape}
use Rattle.gr_values.specs.declared.data_type.Shape.{Shape}

pub with_blank-requires-clause-there : goal.with_blank-requires-clause-there
with_blank-requires-clause-there c = column-place c.args.schema.now c.args.tables.now c.args.table c.args.def c.requires.wished c.requires.base.formed

pub with_blank-requires-clause-shape : goal.with_blank-requires-clause-shape
with_blank-requires-clause-shape c =
    subst (λ (o : Option Shape). IfSome o IsShape) (sym c.shape_of-shape.ensures)
    (column-shape c.args.schema.now c.args.table c.args.def c.requires.wished (subst IsSound c.in_ok-grown.ensures.exact c.in_ok-grown.ensures.sound))

pub walk-requires-clause-formed : goal.walk-requires-clause-formed
walk-requires-clause-formed c =
    let is : IsBlank c.args.schema.now c.in_ok-grown.grown c.args.tables.now c.in_ok-working.working c.args.table c.args.def = record {
      wished = c.requires.wished;
      grown = c.in_ok-grown.ensures.exact;
      blank = subst (λ (o : Option Shape). HasBlank c.args.tables.now c.in_ok-working.working c.args.table o) c.shape_of-shape.ensures c.in_ok-working.ensures;
    } in
    blank-formed c.args.schema.now c.in_ok-grown.grown c.args.tables.now c.in_ok-working.working c.args.table c.args.def is c.requires.base.formed

pub walk-requires-clause-within : goal.walk-requires-clause-within
walk-requires-clause-within c =
    let is : IsBlank c.args.schema.now c.in_ok-grown.grown c.args.tables.now c.in_ok-working.working c.args.table c.args.def = record {
      wished = c.requires.wished;
      grown = c.in_ok-grown.ensures.exact;
      blank = subst (λ (o : Option Shape). HasBlank c.args.tables.now c.in_ok-working.working c.args.table o) c.shape_of-shape.ensures c.in_ok-working.ensures;
    } in
    blank-within c.args.limits.records c.args.schema.now c.in_ok-grown.grown c.args.tables.now c.in_ok-working.working c.args.table c.args.def is c.requires.base.within

pub returns-in_ok-places_of-in-Ok : goal.returns-in_ok-places_of-in-Ok
returns-in_ok-places_of-in-Ok c =
    let is : IsBlank c.args.schema.now c.in_ok-grown.grown c.args.tables.now c.in_ok-working.working c.args.table c.args.def = record {
      wished = c.requires.wished;
      grown = c.in_ok-grown.ensures.exact;
      blank = subst (λ (o : Option Shape). HasBlank c.args.tables.now c.in_ok-working.working c.args.table o) c.shape_of-shape.ensures c.in_ok-working.ensures;
    } in
    let are = c.as_slice.ensures.value
    ∙ wants-are c.args.schema.now c.in_ok-grown.grown c.args.tables.now c.in_ok-working.working c.args.table c.args.def (column_no c.column_count.result) c.in_ok-wants.wants.items is c.column_count.ensures c.in_ok-wants.ensures.exact in
    made-walked c.args.limits c.args.schema.now c.in_ok-grown.grown c.args.tables.now c.in_ok-working.working c.walk.new.tables c.args.table c.args.def c.as_slice.result.now c.in-Ok.news.items _
    is are c.in-Ok.ensures.walked c.in_ok-of-in-Ok.ensures c.in_ok-into_kept-in-Ok.ensures
    (c.in_ok-places_of-in-Ok.ensures ∙ ap (λ (news : List Added). map place_of news) c.as_slice-in-Ok.ensures.value)

pub returns-in-Err : goal.returns-in-Err
returns-in-Err c =
    let is : IsBlank c.args.schema.now c.in_ok-grown.grown c.args.tables.now c.in_ok-working.working c.args.table c.args.def = record {
      wished = c.requires.wished;
      grown = c.in_ok-grown.ensures.exact;
      blank = subst (λ (o : Option Shape). HasBlank c.args.tables.now c.in_ok-working.working c.args.table o) c.shape_of-shape.ensures c.in_ok-working.ensures;
    } in
    let are = c.as_slice.ensures.value
    ∙ wants-are c.args.schema.now c.in_ok-grown.grown c.args.tables.now c.in_ok-working.working c.args.table c.args.def (column_no c.column_count.result) c.in_ok-wants.wants.items is c.column_count.ensures c.in_ok-wants.ensures.exact in
    made-ended c.args.limits c.args.schema.now c.in_ok-grown.grown c.args.tables.now c.in_ok-working.working c.args.table c.args.def c.as_slice.result.now c.in-Err.failure is are c.in-Err.ensures.ended

pub returns-in_err-wants : goal.returns-in_err-wants
returns-in_err-wants c =
    let p = err_from_is_err_and c.from_residual-in_err-wants.result c.from_residual-in_err-wants.ensures.1 in
    rw (p.1, p.2) tt

pub returns-in_err-places_of-in-Ok : goal.returns-in_err-places_of-in-Ok
returns-in_err-places_of-in-Ok c =
    let p = err_from_is_err_and c.from_residual-in_err-places_of-in-Ok.result c.from_residual-in_err-places_of-in-Ok.ensures.1 in
    rw (p.1, p.2) tt
