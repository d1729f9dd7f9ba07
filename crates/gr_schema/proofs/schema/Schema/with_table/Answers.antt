use Rattle.std.proofs.Common.{◌≡◌, ◌<◌, ◌^◌, ◌∷◌, ◌++◌, [], ◌∙◌, ap, length, sym, subst, arith}
use Rattle.gr_schema.specs.Inside.Held.{list_of}
use Rattle.gr_schema.specs.Schema.{SchemaDef}
use Rattle.gr_schema.specs.Wishes.{IsTableFor}
use Rattle.gr_schema.proofs.HeldLemmas.{extends_table_made, held_table_made, table_unnamed}
use Rattle.gr_schema.proofs.schema.Schema.with_table.Goals as goal

pub added-requires : goal.added-requires
added-requires c =
    let wished : IsTableFor (record { tables = c.self.inside.tables; indexes = list_of c.self.inside.indexes }) c.args.def =
    subst (λ (s : SchemaDef). IsTableFor s c.args.def) (sym c.self.view_is) c.requires.wished in
    rw c.in_ok-name.ensures (table_unnamed c.self.inside.names _ c.args.def c.self.invariant wished)

pub invariant_of-result : goal.invariant_of-result
invariant_of-result c =
    let wished : IsTableFor (record { tables = c.self.inside.tables; indexes = list_of c.self.inside.indexes }) c.args.def =
    subst (λ (s : SchemaDef). IsTableFor s c.args.def) (sym c.self.view_is) c.requires.wished in
    let few : length c.self.inside.tables < 2 ^ 31 = subst (λ (s : SchemaDef). length s.tables < 2 ^ 31) (sym c.self.view_is) c.requires.few in
    held_table_made c.self.inside.names c.in_ok-names.names c.self.inside.tables c.in_ok-tables.tables (list_of c.self.inside.indexes) (list_of c.in_ok-indexes.indexes) c.args.def c.in_ok-name.name _
    c.self.invariant wished few c.in_ok-name.ensures (omega (arith, few, c.len-number.ensures)) c.in_ok-names.ensures
    (c.in_ok-tables.ensures ∙ ap (λ one. c.self.inside.tables ++ one ∷ []) (c.in_ok-kept.ensures.ok ∙ c.new-table.ensures))
    c.in_ok-indexes.ensures

pub returns-clause-extends : goal.returns-clause-extends
returns-clause-extends c =
    extends_table_made c.args.self.now c.self.inside.tables c.in_ok-tables.tables (list_of c.self.inside.indexes) (list_of c.in_ok-indexes.indexes) c.args.def c.self.view_is
    (c.in_ok-tables.ensures ∙ ap (λ one. c.self.inside.tables ++ one ∷ []) (c.in_ok-kept.ensures.ok ∙ c.new-table.ensures))
    c.in_ok-indexes.ensures
