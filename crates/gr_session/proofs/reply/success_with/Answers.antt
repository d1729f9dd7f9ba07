use Rattle.std.proofs.Common.{◌≡◌, ap, ◌++◌, codes, ◌∙◌}
use Rattle.gr_session.proofs.ReplyTextLemmas.{success_line-body}
use Rattle.gr_session.proofs.reply.success_with.Goals as goal

pub returns : goal.returns
returns c =
    let body = c.args.body.now in
    let written : c.extend_from_slice-2.new.self.items ≡ ((codes "[[0]," ++ body) ++ codes "]\n") =
    c.in_ok-extend_from_slice-2.ensures.items
    ∙ ap (λ line. line ++ codes "]\n")
    (c.in_ok-extend_from_slice.ensures.items
    ∙ ap (λ bytes. c.in_ok-line.line.items ++ bytes) c.as_slice-2.ensures
    ∙ ap (λ line. line ++ body) c.in_ok-line.ensures) in
    rw (← success_line-body body c.extend_from_slice-2.new.self.items written) c.from_vec.ensures
