use Rattle.std.proofs.Common.{◌≡◌, ◌∷◌, [], ◌++◌, Ok, List, ap, sym, subst, ◌∙◌}
use Rattle.gr_print.specs.Inside.Named.{Adds, ArePrintable}
use Rattle.gr_print.specs.declared.out_column.OutColumn.{OutColumn}
use Rattle.gr_print.proofs.NamedLemmas.{Adds-one, ArePrintable-more}
use Rattle.gr_print.proofs.names.with_name.Goals as goal

pub returns-clause-exact : goal.returns-clause-exact
returns-clause-exact c =
    let schema = c.args.schema.now in
    let more = c.in_ok-columns_named.field-0 in
    let same : c.from_vec.result ≡ c.args.made ++ more =
    c.from_vec.ensures ∙ c.in_ok-append.ensures.items ∙ ap (λ (xs : List OutColumn). xs ++ c.into_vec-more.result.items) c.into_vec-columns.ensures
    ∙ ap (λ (xs : List OutColumn). c.args.made ++ xs) c.into_vec-more.ensures in
    subst (λ (all : List OutColumn). Adds schema c.args.table c.args.made (c.args.name.now ∷ []) (Ok all)) (sym same)
    (Adds-one schema c.args.table c.args.made more c.args.name.now c.in_ok-columns_named.ensures.exact)

pub returns-clause-fit : goal.returns-clause-fit
returns-clause-fit c =
    let schema = c.args.schema.now in
    let more = c.in_ok-columns_named.field-0 in
    let same : c.from_vec.result ≡ c.args.made ++ more =
    c.from_vec.ensures ∙ c.in_ok-append.ensures.items ∙ ap (λ (xs : List OutColumn). xs ++ c.into_vec-more.result.items) c.into_vec-columns.ensures
    ∙ ap (λ (xs : List OutColumn). c.args.made ++ xs) c.into_vec-more.ensures in
    subst (ArePrintable schema) (sym same) (ArePrintable-more schema c.args.made more c.requires.fit c.in_ok-columns_named.ensures.fit)
