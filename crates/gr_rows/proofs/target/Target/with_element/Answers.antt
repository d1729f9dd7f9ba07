use Rattle.std.proofs.Common.{◌≡◌, ◌∷◌, [], ◌∙◌, List, Result, Some, ap, rules, string_bytes, subst, sym, ℕ}
use Rattle.serde_json.specs.Data.{string}
use Rattle.serde_json.specs.View.{view}
use Rattle.serde_json.specs.declared.value.Value.{the_lemmas}
use Rattle.gr_base.specs.Failure.{result_map}
use Rattle.gr_base.specs.declared.fault.Fault.{Fault}
use Rattle.gr_rows.specs.Inside.Places.{names_in}
use Rattle.gr_rows.specs.Inside.Told.{Tells}
use Rattle.gr_rows.specs.Names.{header_name, names_after}
use Rattle.gr_rows.proofs.NamesLemmas.{name_alone}
use Rattle.gr_rows.proofs.target.Target.with_element.Goals as goal

pub returns-in-String-clause-told : goal.returns-in-String-clause-told
returns-in-String-clause-told c =
    let schema = c.args.self.now.schema.now in
    let home = c.args.self.now.home.now in
    let before = names_in c.args.places in
    let seen : view c.args.element ≡ string (string_bytes c.in-String.name) = rw c.in-String.is (search (rules, the_lemmas)) in
    subst (λ (m : Result (List (List ℕ)) Fault). Tells (result_map names_in c.with_name.result) m)
    (name_alone schema home before c.as_str.result.now
    ∙ ap (λ name. names_after schema home before (Some name ∷ [])) c.as_str.ensures.value
    ∙ ap (λ d. names_after schema home before (header_name d ∷ [])) (sym seen))
    c.with_name.ensures.told
