use Rattle.std.proofs.Common.{string_bytes, subst}
use Rattle.std.proofs.lemmas.Str.{IsUtf8-string_bytes}
use Rattle.gr_cmdline.specs.Arguments.{AreTexts, data_value, unless_empty}
use Rattle.gr_cmdline.proofs.Giving.{IsText-given, texts-append, texts-data}
use Rattle.gr_cmdline.proofs.args.Args.is_given.Goals as goal

pub returns-clause-texts : goal.returns-clause-texts
returns-clause-texts c =
    let loaded = string_bytes c.self.inside.loaded in
    subst AreTexts c.self.view_is
    (record {
      suffix = IsText-given c.self.inside.suffix c.self.invariant.1;
      given = texts-append c.self.inside.given.items (data_value (unless_empty loaded)) c.self.invariant.0 (texts-data loaded (IsUtf8-string_bytes c.self.inside.loaded));
    })
