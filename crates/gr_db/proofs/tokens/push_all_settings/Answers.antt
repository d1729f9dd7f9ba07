use Rattle.std.proofs.Common.{◌≡◌}
use Rattle.gr_db.specs.Entry.{IsReadableSetting}
use Rattle.gr_db.proofs.WantsLemmas.{all-shown-at}
use Rattle.gr_db.proofs.tokens.push_all_settings.Goals as goal

pub push_setting_wants-requires : goal.push_setting_wants-requires
push_setting_wants-requires c =
    rw c.setting-item.is (all-shown-at IsReadableSetting (λ s. s.now) c.args.settings.now c.loop-setting.setting-index c.setting-item.result c.loop-setting-test.true c.requires)
