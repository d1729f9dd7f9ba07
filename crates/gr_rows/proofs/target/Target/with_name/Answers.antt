use Rattle.std.proofs.Common.{◌++◌, ◌∷◌, [], ◌∙◌, Err, List, Ok, Result, Some, ap, cond, nat_eq, subst, sym, ℕ}
use Rattle.std.specs.HashSet.{contains}
use Rattle.gr_base.specs.Failure.{result_map}
use Rattle.gr_base.specs.Fault.{fault_named}
use Rattle.gr_base.specs.declared.fault.Fault.{Fault}
use Rattle.gr_base.specs.declared.fault.FaultKind.TheVariants.{BadRow}
use Rattle.gr_rows.specs.Inside.Places.{names_in}
use Rattle.gr_rows.specs.Inside.Told.{Tells}
use Rattle.gr_rows.proofs.PlacesLemmas.{meant_column, meant_key}
use Rattle.gr_rows.proofs.target.Target.with_name.Goals as goal

pub returns-in-Some-Key-clause-told : goal.returns-in-Some-Key-clause-told
returns-in-Some-Key-clause-told c =
    let slot = sym c.slot_named.ensures ∙ c.in-Some-Key.is ∙ ap Some c.in-Some-Key.field-0-is in
    subst (λ (m : Result (List (List ℕ)) Fault). Tells (result_map names_in c.with_key.result) m)
    (sym (meant_key c.args.self.now.schema.now c.args.self.now.home.now c.args.places c.requires.sound c.args.name.now slot))
    c.with_key.ensures.told

pub returns-in_ok-name-in-Some-Column-clause-told : goal.returns-in_ok-name-in-Some-Column-clause-told
returns-in_ok-name-in-Some-Column-clause-told c =
    let slot = sym c.slot_named.ensures ∙ c.in-Some-Column.is ∙ ap Some c.in-Some-Column.field-0-is in
    let column = c.in-Some-Column.column in
    let same = c.in_ok-name-in-Some-Column.ensures ∙ c.as_bytes.ensures.value in
    subst (λ (m : Result (List (List ℕ)) Fault). Tells (result_map names_in c.with_column.result) m)
    (ap (λ name. cond {A = Result (List (List ℕ)) Fault} (contains nat_eq c.args.places.taken column.0) (Err (fault_named BadRow [])) (Ok (names_in c.args.places ++ name ∷ []))) same
    ∙ sym (meant_column c.args.self.now.schema.now c.args.self.now.home.now c.args.places c.requires.sound c.args.name.now column c.in-Some-Column.shape slot))
    c.with_column.ensures.told
