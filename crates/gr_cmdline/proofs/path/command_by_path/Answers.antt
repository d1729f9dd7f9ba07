use Rattle.std.proofs.Common.{◌≡◌, ◌∙◌, ap, map}
use Rattle.std.specs.List.{after_first, before_first}
use Rattle.form_urlencoded.specs.Form.{raw_pairs}
use Rattle.gr_cmdline.specs.Binding.{command_of}
use Rattle.gr_cmdline.specs.Inside.Bindings.{command_with, no_bindings, with_arguments}
use Rattle.gr_cmdline.specs.Names.{verb_named}
use Rattle.gr_cmdline.specs.Request.{argument_of_pair, is_dot, is_question, request_by_path}
use Rattle.gr_cmdline.proofs.Arguing.{IfOk-told}
use Rattle.gr_cmdline.proofs.BindingsLemmas.{command_with-read}
use Rattle.gr_cmdline.proofs.path.command_by_path.Goals as goal

pub returns : goal.returns
returns c =
    let path = c.args.path.now in
    let name = c.around_dot.result.0.now in
    let suffix = c.around_dot.result.1.now in
    let read = map argument_of_pair (raw_pairs c.as_bytes.result.now) in
    let bindings = c.bind_pairs.new.bindings in
    let is_name : name ≡ before_first is_dot (before_first is_question path) = c.around_dot.ensures.before ∙ ap (before_first is_dot) c.around_question.ensures.before in
    let is_suffix : suffix ≡ after_first is_dot (before_first is_question path) = c.around_dot.ensures.behind ∙ ap (after_first is_dot) c.around_question.ensures.before in
    let is_pairs : c.as_bytes.result.now ≡ after_first is_question path = c.as_bytes.ensures.value ∙ c.around_question.ensures.behind in
    let start : c.new-bindings.result ≡ no_bindings (verb_named name) = c.new-bindings.ensures ∙ ap no_bindings c.verb_named.ensures in
    let all : bindings ≡ with_arguments (no_bindings (verb_named name)) read = c.in_ok-bind_pairs.ensures ∙ ap (λ start. with_arguments start read) start in
    IfOk-told c.into_command.result (command_with bindings name suffix) (command_of (request_by_path path))
    (command_with-read name suffix read bindings all
    ∙ ap (λ name. command_of (record { name = name; suffix = suffix; arguments = read })) is_name
    ∙ ap (λ suffix. command_of (record { name = before_first is_dot (before_first is_question path); suffix = suffix; arguments = read })) is_suffix
    ∙ ap (λ pairs. command_of (record { name = before_first is_dot (before_first is_question path); suffix = after_first is_dot (before_first is_question path); arguments = map argument_of_pair (raw_pairs pairs) })) is_pairs)
    (rw (c.lent.ensures, c.lent-2.ensures) at c.into_command.ensures)
