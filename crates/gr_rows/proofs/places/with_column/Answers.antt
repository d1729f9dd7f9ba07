use Rattle.std.proofs.Common.{◌≡◌, ◌++◌, ◌∷◌, [], ◌∙◌, Bool, Err, List, Ok, Result, ap, arith, cond, false, nat_eq, not, refl, rules, sym, true, ℕ}
use Rattle.std.specs.HashSet.{contains}
use Rattle.gr_base.specs.Fault.{fault_named}
use Rattle.gr_base.specs.declared.fault.Fault.{Fault}
use Rattle.gr_base.specs.declared.fault.FaultKind.TheVariants.{BadRow}
use Rattle.gr_rows.specs.Inside.Places.{names_in}
use Rattle.gr_rows.proofs.PlacesLemmas.{names_pushed, sound_column}
use Rattle.gr_rows.proofs.Telling.{ok_told}
use Rattle.gr_rows.proofs.places.with_column.Goals as goal

not_held : (added held : Bool) → added ≡ not held → added ≡ true → held ≡ false
not_held true false is e = refl
not_held true true is e = absurd (cc)
not_held false held is e = absurd (cc)

pub returns-clause-told : goal.returns-clause-told
returns-clause-told c =
    let added : c.in_ok-insert.field-0 ≡ true = first_of (cc, search rules, grind arith) in
    let free : contains nat_eq c.args.places.taken c.args.named.column.0 ≡ false = not_held c.in_ok-insert.field-0 _ c.in_ok-insert.ensures.added added in
    let names = names_pushed c.args.places.columns.items c.push.new.self.items c.args.places.key c.args.named c.in_ok-push.ensures.items c.requires in
    ok_told _ _
    (ap (λ b. cond {A = Result (List (List ℕ)) Fault} b (Err (fault_named BadRow [])) (Ok (names_in c.args.places ++ c.args.named.name ∷ []))) free ∙ ap Ok (sym names))

pub returns-clause-sound : goal.returns-clause-sound
returns-clause-sound c = λ schema home sound one.
    let added : c.in_ok-insert.field-0 ≡ true = first_of (cc, search rules, grind arith) in
    let free : contains nat_eq c.args.places.taken c.args.named.column.0 ≡ false = not_held c.in_ok-insert.field-0 _ c.in_ok-insert.ensures.added added in
    sound_column schema home c.args.places (record { key = c.args.places.key; columns = c.push.new.self; taken = c.insert.new.self }) c.args.named sound one free
    (λ number. c.in_ok-insert.ensures.updates.0 number) c.in_ok-push.ensures.items refl
