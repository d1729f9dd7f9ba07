use Rattle.std.proofs.Common.{◌≡◌, ◌∙◌, ap, map}
use Rattle.std.specs.List.{AllByRecursion}
use Rattle.gr_db.specs.Entry.{IsReadableSetting}
use Rattle.gr_db.specs.Wants.{by_column}
use Rattle.gr_db.proofs.ByColumnLemmas.{all-by_column}
use Rattle.gr_db.proofs.tokens.token_wants.Goals as goal

pub push_all_settings-requires : goal.push_all_settings-requires
push_all_settings-requires c =
    let same : map (λ s. s.now) c.as_slice.result.now ≡ by_column c.args.settings.now = ap (map (λ s. s.now)) c.as_slice.ensures.value ∙ c.in_ok-sorted.ensures in
    rw same (all-by_column IsReadableSetting c.args.settings.now c.requires.texts)
