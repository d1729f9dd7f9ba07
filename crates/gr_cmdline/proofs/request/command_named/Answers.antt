use Rattle.std.proofs.Common.{◌≡◌, ◌∙◌, [], Some, ap, option_map}
use Rattle.gr_cmdline.specs.Inside.Bindings.{command_with, no_bindings, with_arguments}
use Rattle.gr_cmdline.specs.Inside.Reading.{arguments_in}
use Rattle.gr_cmdline.specs.Line.{command_asked}
use Rattle.gr_cmdline.specs.Names.{verb_named}
use Rattle.gr_cmdline.specs.Request.{request_with}
use Rattle.gr_cmdline.proofs.Arguing.{IfOk-told}
use Rattle.gr_cmdline.proofs.BindingsLemmas.{command_with-asked}
use Rattle.gr_cmdline.proofs.request.command_named.Goals as goal

pub returns-in-Ok : goal.returns-in-Ok
returns-in-Ok c =
    let left = arguments_in c.args.cursor.now in
    let bound = rw c.in-Ok.is at c.in_ok-bind.ensures in
    let start : c.new-bindings.result ≡ no_bindings (verb_named c.args.name) = c.new-bindings.ensures ∙ ap no_bindings (c.verb_named.ensures ∙ ap verb_named c.as_str.ensures) in
    let all : option_map (with_arguments (no_bindings (verb_named c.args.name))) left ≡ Some c.bind.new.bindings = rw start at bound in
    IfOk-told c.into_command.result (command_with c.bind.new.bindings c.args.name []) (command_asked (request_with c.args.name left))
    (command_with-asked c.args.name left c.bind.new.bindings all) (rw c.new.ensures at c.into_command.ensures)
