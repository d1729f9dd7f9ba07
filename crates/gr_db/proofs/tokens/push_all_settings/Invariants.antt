use Rattle.std.proofs.Common.{◌≡◌, ◌++◌, map, take}
use Rattle.std.specs.List.{flat_map}
use Rattle.gr_db.specs.Wants.{setting_wants}
use Rattle.gr_db.proofs.tokens.push_all_settings.Given as goal

-- the wants so far are those of the settings so far
abbrev pub invariant-loop-setting : goal.invariant-loop-setting
invariant-loop-setting l = l.wants.items ≡ l.initial.wants.items ++ flat_map (setting_wants l.schema l.table) (map (λ setting. setting.now) (take l.setting-index l.settings))
