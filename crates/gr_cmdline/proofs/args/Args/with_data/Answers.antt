use Rattle.std.proofs.Common.{◌≡◌, ◌++◌, ◌∷◌, [], ◌∙◌, ap, false, string_bytes, sym}
use Rattle.gr_cmdline.specs.Arguments.{Arguments, data_value, unless_empty, is_given}
use Rattle.gr_cmdline.specs.declared.param.Param.TheVariants.{Values}
use Rattle.gr_cmdline.proofs.Giving.{unless_empty-filled, not_loaded}
use Rattle.gr_cmdline.proofs.args.Args.with_data.Goals as goal

pub returns : goal.returns
returns c =
    let given = c.self.inside.given.items in
    let suffix = unless_empty c.self.inside.suffix in
    let loaded = unless_empty (string_bytes c.self.inside.loaded) in
    let none : is_given (given ++ data_value loaded) Values ≡ false = ap (λ (args : Arguments). is_given args.given Values) c.self.view_is ∙ c.requires.none in
    ap (λ text. record { suffix = suffix; given = given ++ data_value text }) (unless_empty-filled (string_bytes c.args.text) c.requires.filled)
    ∙ ap (λ given. record { suffix = suffix; given = given ++ (Values, string_bytes c.args.text) ∷ [] }) (sym (not_loaded given loaded none))
    ∙ ap (λ (args : Arguments). record { suffix = args.suffix; given = args.given ++ (Values, string_bytes c.args.text) ∷ [] }) c.self.view_is
