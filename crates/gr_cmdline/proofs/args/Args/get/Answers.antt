use Rattle.std.proofs.Common.{◌∙◌, ap, string_bytes}
use Rattle.gr_cmdline.specs.Arguments.{Arguments, data_value, unless_empty, value_of}
use Rattle.gr_cmdline.proofs.Giving.{value_of-first, value_of-second}
use Rattle.gr_cmdline.proofs.args.Args.get.Goals as goal

pub returns-in-Some : goal.returns-in-Some
returns-in-Some c =
    value_of-first c.self.inside.given.items (data_value (unless_empty (string_bytes c.self.inside.loaded))) c.args.param c.in-Some.value.now
    (c.in-Some.ensures ∙ ap (λ items. value_of items c.args.param) c.as_slice.ensures.value)
    ∙ ap (λ (args : Arguments). value_of args.given c.args.param) c.self.view_is

pub returns-in-None : goal.returns-in-None
returns-in-None c =
    c.data_as.ensures ∙ ap (λ text. value_of (data_value (unless_empty text)) c.args.param) c.as_str.ensures.value
    ∙ value_of-second c.self.inside.given.items (data_value (unless_empty (string_bytes c.self.inside.loaded))) c.args.param
    (c.in-None.ensures ∙ ap (λ items. value_of items c.args.param) c.as_slice.ensures.value)
    ∙ ap (λ (args : Arguments). value_of args.given c.args.param) c.self.view_is
