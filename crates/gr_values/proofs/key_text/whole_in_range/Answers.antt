use Rattle.std.proofs.Common.{FitsSigned, sym, ap, subst, ◌∙◌}
use Rattle.std.proofs.lemmas.Int.{to_z-of_z}
use Rattle.std.specs.Int.{w128}
use Rattle.std.specs.Option.{ok_or}
use Rattle.gr_base.specs.Failure.{result_then}
use Rattle.gr_base.specs.declared.fault.FaultKind.TheVariants.{BadValue}
use Rattle.gr_values.specs.Values.{in_range}
use Rattle.gr_values.proofs.Digits.{found, refused}
use Rattle.gr_values.proofs.key_text.whole_in_range.Goals as goal

pub returns-in-Ok-clause-exact : goal.returns-in-Ok-clause-exact
returns-in-Ok-clause-exact c =
    let said = c.in-Ok.ensures.value.0 in
    let fits : FitsSigned w128 c.in-Ok.number = subst (λ z. FitsSigned w128 z) (sym said.1) said.0.1 in
    c.checked.ensures.exact ∙ ap (in_range c.args.range) (to_z-of_z w128 c.in-Ok.number fits)
    ∙ ap (λ o. result_then (in_range c.args.range) (ok_or o BadValue)) (sym (found c.args.text.now c.parse.result _ c.parse.ensures.value.0 c.requires.whole c.in-Ok.is))

pub returns-in-Err-clause-exact : goal.returns-in-Err-clause-exact
returns-in-Err-clause-exact c = sym (refused c.args.range c.args.text.now c.parse.result _ c.requires.narrow c.parse.ensures.value.0 c.requires.whole c.in-Err.is)
