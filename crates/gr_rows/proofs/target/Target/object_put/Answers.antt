use Rattle.std.proofs.Common.{◌∙◌, ap, option_and_then, option_map, rules, sym}
use Rattle.serde_json.proofs.Views.{view-lookup}
use Rattle.serde_json.specs.View.{view}
use Rattle.gr_rows.specs.Members.{settings_of, value_given}
use Rattle.gr_rows.specs.Names.{key_name}
use Rattle.gr_rows.proofs.DistinctLemmas.{AreDistinct-from_numbers}
use Rattle.gr_rows.proofs.ObjectLemmas.{key_removed, key_value-found, members_at, names_once}
use Rattle.gr_rows.proofs.PutLemmas.{key_fails, put_made, settings_fail}
use Rattle.gr_rows.proofs.SettingsLemmas.{set_apart}
use Rattle.gr_rows.proofs.Telling.{as_err}
use Rattle.gr_rows.proofs.target.Target.object_put.Goals as goal

pub returns-in_err-key-clause-told : goal.returns-in_err-key-clause-told
returns-in_err-key-clause-told c =
    let schema = c.args.self.now.schema.now in
    let home = c.args.self.now.home.now in
    let entries = c.args.members.entries in
    let given = ap (option_and_then value_given) (ap (option_map view) c.remove-value.ensures.value ∙ view-lookup key_name entries) ∙ sym (key_value-found entries) in
    as_err c.from_residual.result c.in_err-key.field-0.0 _ (search rules)
    (key_fails schema home c.args.row (members_at entries) _ c.row_key.result c.in_err-key.field-0.0 given c.row_key.ensures.told c.in_err-key.was)

pub returns-in_err-settings-clause-told : goal.returns-in_err-settings-clause-told
returns-in_err-settings-clause-told c =
    let schema = c.args.self.now.schema.now in
    let home = c.args.self.now.home.now in
    let entries = c.args.members.entries in
    let given = ap (option_and_then value_given) (ap (option_map view) c.remove-value.ensures.value ∙ view-lookup key_name entries) ∙ sym (key_value-found entries) in
    let sets = ap (λ left. settings_of schema home c.args.row (members_at left)) c.remove-value.ensures.entries ∙ sym (key_removed schema home c.args.row entries) in
    as_err c.from_residual-in_err-settings.result c.in_err-settings.field-0.0 _ (search rules)
    (settings_fail schema home c.args.row (members_at entries) _ c.row_key.result c.in_ok-key.key _ c.object_settings.result c.in_err-settings.field-0.0
    given c.row_key.ensures.told c.in_ok-key.was sets c.object_settings.ensures.told c.in_err-settings.was)

pub returns-clause-told : goal.returns-clause-told
returns-clause-told c =
    let schema = c.args.self.now.schema.now in
    let home = c.args.self.now.home.now in
    let entries = c.args.members.entries in
    let given = ap (option_and_then value_given) (ap (option_map view) c.remove-value.ensures.value ∙ view-lookup key_name entries) ∙ sym (key_value-found entries) in
    let sets = ap (λ left. settings_of schema home c.args.row (members_at left)) c.remove-value.ensures.entries ∙ sym (key_removed schema home c.args.row entries) in
    put_made schema home c.args.row (members_at entries) _ c.row_key.result c.in_ok-key.key _ c.object_settings.result c.in_ok-settings.settings
    given c.row_key.ensures.told c.in_ok-key.was sets c.object_settings.ensures.told c.in_ok-settings.was

pub returns-clause-valid : goal.returns-clause-valid
returns-clause-valid c =
    let schema = c.args.self.now.schema.now in
    let home = c.args.self.now.home.now in
    let left = c.remove-value.new.self.entries in
    let settings = c.in_ok-settings.settings in
    let apart = set_apart schema home c.args.row (members_at left) settings (names_once left c.remove-value.ensures.ordered) (c.object_settings.ensures.told.exact.found settings c.in_ok-settings.was) in
    record {
      home = home;
      there = c.requires.home_there;
      keyed = c.in_ok-key.ensures.fits;
      settings_fit = c.in_ok-settings.ensures.each;
      distinct = AreDistinct-from_numbers settings apart;
    }
