use Rattle.std.proofs.Common.{◌≡◌, ◌∷◌, List, rules, subst, ℕ}
use Rattle.serde_json.specs.View.{view}
use Rattle.gr_db.specs.Entry.{IsSetting}
use Rattle.gr_rows.specs.Inside.Told.{Tells}
use Rattle.gr_rows.specs.Members.{member_setting}
use Rattle.gr_rows.proofs.SettingsLemmas.{AreSet-more, AreSet-refused, each_more}
use Rattle.gr_rows.proofs.Telling.{as_err}
use Rattle.gr_rows.proofs.target.Target.object_settings.Goals as goal

pub returns-in_err-setting-clause-told : goal.returns-in_err-setting-clause-told
returns-in_err-setting-clause-told c =
    let schema = c.args.self.now.schema.now in
    let home = c.args.self.now.home.now in
    let why = c.in_err-setting.field-0.0 in
    let next : c.loop-name.name-iterator ≡ (c.in-Some.name, c.in-Some.value) ∷ c.next.new.self = search rules in
    let told = subst (λ (name : List ℕ). Tells c.member_setting.result (member_setting schema home c.args.row (name, view c.in-Some.value))) c.as_str.ensures.value c.member_setting.ensures.told in
    as_err c.from_residual.result why _ (search rules)
    (AreSet-refused c.member_setting.result why told c.in_err-setting.was (rw next at c.loop-name.invariant.set))

pub loop-name-preserved : goal.loop-name-preserved
loop-name-preserved c =
    let schema = c.args.self.now.schema.now in
    let home = c.args.self.now.home.now in
    let next : c.loop-name.name-iterator ≡ (c.in-Some.name, c.in-Some.value) ∷ c.next.new.self = search rules in
    let told = subst (λ (name : List ℕ). Tells c.member_setting.result (member_setting schema home c.args.row (name, view c.in-Some.value))) c.as_str.ensures.value c.member_setting.ensures.told in
    record {
      can_next = tt;
      finite = tt;
      set = AreSet-more c.in_ok-setting.setting (told.exact.found c.in_ok-setting.setting c.in_ok-setting.was) c.in_ok-push_setting.ensures (rw next at c.loop-name.invariant.set);
      each = rw c.in_ok-push_setting.ensures (each_more (IsSetting schema c.args.self.now.table) c.loop-name.settings.items c.in_ok-setting.setting c.loop-name.invariant.each c.in_ok-setting.ensures.fits);
    }
