use Rattle.std.proofs.Common.{◌≡◌, ◌<◌, ◌^◌, None, length, ◌∙◌, ◌++◌, ◌∷◌, [], ap, arith, length-append, sym, subst}
use Rattle.gr_schema.specs.Schema.{column_named, column_no}
use Rattle.gr_schema.specs.declared.definition.TableDef.{TableDef}
use Rattle.gr_schema.proofs.NamesLemmas.{numbered_free, numbered_made}
use Rattle.gr_schema.proofs.table.Table.with.Goals as goal

pub added-requires : goal.added-requires
added-requires c =
    rw c.in_ok-name.ensures
    (numbered_free (λ column. column.name) column_no c.self.inside.names c.self.inside.def.columns c.args.column.name c.self.invariant.0
    (subst (λ def. column_named def c.args.column.name ≡ None) (sym c.self.view_is) c.requires.new))

pub invariant_of-result : goal.invariant_of-result
invariant_of-result c =
    let few : length c.self.inside.def.columns < 2 ^ 31 = subst (λ (def : TableDef). length def.columns < 2 ^ 31) (sym c.self.view_is) c.requires.few in
    let columns = c.in_ok-columns.ensures ∙ ap (λ one. c.self.inside.def.columns ++ one ∷ []) c.in_ok-shared.ensures.ok in (
      numbered_made (λ column. column.name) c.self.inside.names c.in_ok-names.names c.self.inside.def.columns c.in_ok-columns.columns c.args.column c.in_ok-name.name _
          c.self.invariant.0 (rw c.in_ok-name.ensures (numbered_free (λ column. column.name) column_no c.self.inside.names c.self.inside.def.columns c.args.column.name c.self.invariant.0 (subst (λ def. column_named def c.args.column.name ≡ None) (sym c.self.view_is) c.requires.new))) c.in_ok-name.ensures (omega (arith, few, c.len-number.ensures)) c.in_ok-names.ensures columns,
      rw columns (simp length-append (omega (arith, few))),
    )
