use Rattle.std.proofs.Common.{◌≡◌, ◌++◌, ap, codes, ◌∙◌}
use Rattle.std.specs.Fmt.{decimal}
use Rattle.json.specs.Print.{quoted}
use Rattle.gr_base.specs.Fault.{code_of, fault_text}
use Rattle.gr_session.specs.Inside.Body.{body_text}
use Rattle.gr_session.proofs.ReplyTextLemmas.{refusal_line-pieces}
use Rattle.gr_session.proofs.reply.refusal.Goals as goal

pub returns : goal.returns
returns c =
    let fault = c.args.fault.now in
    let text : c.as_text.result.now ≡ fault_text fault = c.as_text.ensures ∙ c.in_ok-text.ensures.exact in
    let number : c.from.result ≡ code_of fault.kind = c.from.ensures ∙ c.code.ensures in
    let written : c.extend_from_slice-2.new.self.items ≡ ((((codes "[[" ++ decimal (code_of fault.kind)) ++ codes ",") ++ quoted (fault_text fault)) ++ codes "],") =
    c.in_ok-extend_from_slice-2.ensures.items
    ∙ ap (λ line. line ++ codes "],")
    (c.in_ok-line-2.ensures
    ∙ ap (λ shown. c.extend_from_slice.new.self.items ++ quoted shown) text
    ∙ ap (λ line. line ++ quoted (fault_text fault))
    (c.in_ok-extend_from_slice.ensures.items
    ∙ ap (λ line. line ++ codes ",")
    (c.in_ok-push_number.ensures ∙ ap (λ n. c.in_ok-line.line.items ++ decimal n) number ∙ ap (λ line. line ++ decimal (code_of fault.kind)) c.in_ok-line.ensures))) in
    rw (← refusal_line-pieces fault c.extend_from_slice-2.new.self.items (body_text c.args.body) written) c.ended.ensures
