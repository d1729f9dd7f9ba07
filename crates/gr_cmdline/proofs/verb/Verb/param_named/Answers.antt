use Rattle.std.proofs.Common.{◌≡◌, None, Some, ap, find, sym, ◌∙◌}
use Rattle.std.specs.Option.{option_or}
use Rattle.std.proofs.lemmas.List.Folds.{find-append}
use Rattle.gr_cmdline.specs.Names.{has_name}
use Rattle.gr_cmdline.specs.Parameters.{by_name, order}
use Rattle.gr_cmdline.proofs.verb.Verb.param_named.Goals as goal

pub returns-in-Some-clause-value : goal.returns-in-Some-clause-value
returns-in-Some-clause-value c =
    let first : Some c.in-Some.param ≡ find (λ param. has_name param c.args.name.now) (order c.args.self) = c.in-Some.ensures ∙ ap (find (λ param. has_name param c.args.name.now)) c.order.ensures in
    ap (λ found. option_or found (find (λ param. has_name param c.args.name.now) (by_name c.args.self))) first ∙ sym (find-append (λ param. has_name param c.args.name.now) (order c.args.self) (by_name c.args.self))

pub returns-in-None-clause-value : goal.returns-in-None-clause-value
returns-in-None-clause-value c =
    let first : None ≡ find (λ param. has_name param c.args.name.now) (order c.args.self) = c.in-None.ensures ∙ ap (find (λ param. has_name param c.args.name.now)) c.order.ensures in
    c.first_named-in-None.ensures ∙ ap (find (λ param. has_name param c.args.name.now)) c.by_name.ensures
    ∙ ap (λ found. option_or found (find (λ param. has_name param c.args.name.now) (by_name c.args.self))) first
    ∙ sym (find-append (λ param. has_name param c.args.name.now) (order c.args.self) (by_name c.args.self))
