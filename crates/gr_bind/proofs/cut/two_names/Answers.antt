use Rattle.std.proofs.Common.{◌≡◌, ℕ, List, ◌∷◌, ap, sym, subst, ◌∙◌}
use Rattle.std.specs.Prelude.{None}
use Rattle.gr_bind.proofs.Cutting.{more_names}
use Rattle.gr_bind.specs.Inside.Names.{two_of}
use Rattle.gr_schema.specs.Paths.{is_dot}
use Rattle.gr_bind.proofs.cut.two_names.Goals as goal

pub returns-in-Some : goal.returns-in-Some
returns-in-Some c =
    subst (λ (names : List (List ℕ)). None ≡ two_of names)
    (sym (c.in_ok-first.ensures ∙ ap (λ (names : List (List ℕ)). c.in_ok-first.first.now ∷ names) c.in-Some.ensures))
    (more_names is_dot c.in_ok-first.first.now c.in-Some.field-0.0.now c.in-Some.field-0.1.now)
