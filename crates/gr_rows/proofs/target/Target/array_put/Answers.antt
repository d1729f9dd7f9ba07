use Rattle.std.proofs.Common.{◌≡◌, ◌∙◌, [], Err, List, Ok, Option, Result, ap, arith, length, ok_or, option_and_then, option_map, rules, subst, sym}
use Rattle.serde_json.specs.View.{view}
use Rattle.gr_base.specs.Failure.{result_then}
use Rattle.gr_base.specs.declared.fault.Fault.{Fault}
use Rattle.gr_base.specs.declared.fault.FaultKind.TheVariants.{BadRow}
use Rattle.gr_rows.specs.Inside.Places.{names_in}
use Rattle.gr_rows.specs.Inside.Told.{Tells}
use Rattle.gr_rows.specs.Members.{Member, put_of, row_fault, settings_of, value_given}
use Rattle.gr_rows.specs.declared.places.Named.{Named}
use Rattle.gr_rows.specs.declared.put.Put.{Put}
use Rattle.gr_rows.proofs.ArrayLemmas.{array_members, column_members, members_once, other_count}
use Rattle.gr_rows.proofs.DistinctLemmas.{AreDistinct-from_numbers}
use Rattle.gr_rows.proofs.PutLemmas.{key_fails, put_made, settings_fail}
use Rattle.gr_rows.proofs.SettingsLemmas.{set_apart}
use Rattle.gr_rows.proofs.Telling.{as_err}
use Rattle.gr_rows.proofs.target.Target.array_put.Goals as goal

pub returns-then-len-count-clause-told : goal.returns-then-len-count-clause-told
returns-then-len-count-clause-told c =
    let schema = c.args.self.now.schema.now in
    let home = c.args.self.now.home.now in
    let none = other_count (names_in c.args.places.now) c.args.values.items (λ same. c.if-len-count.true (omega (arith, same, c.len.ensures, c.count.ensures))) in
    subst (λ (m : Result Put Fault). Tells c.row_refused.result m)
    (ap (λ (o : Option (List Member)). result_then (put_of schema home c.args.row) (ok_or o (row_fault BadRow c.args.row []))) (sym none)) c.row_refused.ensures

pub returns-in_err-key-clause-told : goal.returns-in_err-key-clause-told
returns-in_err-key-clause-told c =
    let schema = c.args.self.now.schema.now in
    let home = c.args.self.now.home.now in
    let same : length c.args.values.items ≡ length (names_in c.args.places.now) = omega (arith, c.if-len-count.false, c.len.ensures, c.count.ensures) in
    let has = array_members schema home c.args.row c.args.places.now c.args.values.items c.requires.sound same in
    let given = ap (λ o. option_and_then value_given (option_map view o)) c.take_at-value.ensures.value ∙ has.key in
    as_err c.from_residual.result c.in_err-key.field-0.0 _ (search rules)
    (subst (λ (o : Option (List Member)). Tells (Err c.in_err-key.field-0.0) (result_then (put_of schema home c.args.row) (ok_or o (row_fault BadRow c.args.row [])))) (sym has.by)
    (key_fails schema home c.args.row has.members _ c.row_key.result c.in_err-key.field-0.0 given c.row_key.ensures.told c.in_err-key.was))

pub returns-in_err-settings-clause-told : goal.returns-in_err-settings-clause-told
returns-in_err-settings-clause-told c =
    let schema = c.args.self.now.schema.now in
    let home = c.args.self.now.home.now in
    let same : length c.args.values.items ≡ length (names_in c.args.places.now) = omega (arith, c.if-len-count.false, c.len.ensures, c.count.ensures) in
    let has = array_members schema home c.args.row c.args.places.now c.args.values.items c.requires.sound same in
    let given = ap (λ o. option_and_then value_given (option_map view o)) c.take_at-value.ensures.value ∙ has.key in
    let left = c.take_at-value.new.values.items in
    let sets =
    ap (λ (columns : List Named). settings_of schema home c.args.row (column_members columns left)) c.as_slice.ensures.value
    ∙ ap (λ values. settings_of schema home c.args.row (column_members c.args.places.now.columns.items values)) c.take_at-value.ensures.others
    ∙ has.sets in
    as_err c.from_residual-in_err-settings.result c.in_err-settings.field-0.0 _ (search rules)
    (subst (λ (o : Option (List Member)). Tells (Err c.in_err-settings.field-0.0) (result_then (put_of schema home c.args.row) (ok_or o (row_fault BadRow c.args.row [])))) (sym has.by)
    (settings_fail schema home c.args.row has.members _ c.row_key.result c.in_ok-key.key _ c.array_settings.result c.in_err-settings.field-0.0
    given c.row_key.ensures.told c.in_ok-key.was sets c.array_settings.ensures.told c.in_err-settings.was))

pub returns-clause-told : goal.returns-clause-told
returns-clause-told c =
    let schema = c.args.self.now.schema.now in
    let home = c.args.self.now.home.now in
    let same : length c.args.values.items ≡ length (names_in c.args.places.now) = omega (arith, c.if-len-count.false, c.len.ensures, c.count.ensures) in
    let has = array_members schema home c.args.row c.args.places.now c.args.values.items c.requires.sound same in
    let given = ap (λ o. option_and_then value_given (option_map view o)) c.take_at-value.ensures.value ∙ has.key in
    let left = c.take_at-value.new.values.items in
    let sets =
    ap (λ (columns : List Named). settings_of schema home c.args.row (column_members columns left)) c.as_slice.ensures.value
    ∙ ap (λ values. settings_of schema home c.args.row (column_members c.args.places.now.columns.items values)) c.take_at-value.ensures.others
    ∙ has.sets in
    subst (λ (o : Option (List Member)). Tells {T = Put} (Ok (record { key = c.in_ok-key.key; settings = c.in_ok-settings.settings })) (result_then (put_of schema home c.args.row) (ok_or o (row_fault BadRow c.args.row [])))) (sym has.by)
    (put_made schema home c.args.row has.members _ c.row_key.result c.in_ok-key.key _ c.array_settings.result c.in_ok-settings.settings
    given c.row_key.ensures.told c.in_ok-key.was sets c.array_settings.ensures.told c.in_ok-settings.was)

pub returns-clause-valid : goal.returns-clause-valid
returns-clause-valid c =
    let schema = c.args.self.now.schema.now in
    let home = c.args.self.now.home.now in
    let columns = c.args.places.now.columns.items in
    let left = c.take_at-value.new.values.items in
    let settings = c.in_ok-settings.settings in
    let told = subst (λ (columns : List Named). Tells c.array_settings.result (settings_of schema home c.args.row (column_members columns left))) c.as_slice.ensures.value c.array_settings.ensures.told in
    let apart = set_apart schema home c.args.row (column_members columns left) settings (members_once schema home columns left c.requires.sound.named c.requires.sound.different) (told.exact.found settings c.in_ok-settings.was) in
    record {
      home = home;
      there = c.requires.target.home_there;
      keyed = c.in_ok-key.ensures.fits;
      settings_fit = c.in_ok-settings.ensures.each;
      distinct = AreDistinct-from_numbers settings apart;
    }
