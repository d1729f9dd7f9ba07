use Rattle.std.proofs.Common.{◌≡◌, ◌∷◌, [], ◌++◌, Ok, List, ℕ, cond, subst, ◌∙◌}
use Rattle.gr_print.specs.Columns.{all_name}
use Rattle.gr_print.specs.Inside.Named.{Adds}
use Rattle.gr_schema.specs.Schema.{is_keyed}
use Rattle.gr_schema.specs.Words.{id_name, key_name}
use Rattle.gr_print.specs.declared.out_column.OutColumn.{OutColumn}
use Rattle.gr_print.proofs.NamedLemmas.{Adds-then}
use Rattle.gr_print.proofs.names.default_columns.Goals as goal

pub returns-clause-exact : goal.returns-clause-exact
returns-clause-exact c = λ home there.
    let schema = c.args.schema.now in
    let keys : List (List ℕ) = cond (is_keyed home) (key_name ∷ []) [] in
    let none : c.from_vec-none.result ≡ [] = c.from_vec-none.ensures ∙ c.new.ensures.items in
    let id : Adds schema c.args.table [] (id_name ∷ []) (Ok c.in_ok-id.id) =
    subst (λ (before : List OutColumn). Adds schema c.args.table before (id_name ∷ []) (Ok c.in_ok-id.id)) none c.in_ok-id.ensures.exact in
    Adds-then schema c.args.table [] c.in_ok-id.id (id_name ∷ []) (keys ++ all_name ∷ []) c.with_name-2.result id
    (Adds-then schema c.args.table c.in_ok-id.id c.in_ok-key.key keys (all_name ∷ []) c.with_name-2.result (c.in_ok-key.ensures.exact home there) c.with_name-2.ensures.exact)
