use Rattle.std.proofs.Common.{◌≡◌, [], ◌∷◌, ◌++◌, ap, ◌∙◌}
use Rattle.std.proofs.lemmas.List.{append-nil}
use Rattle.json.specs.Print.{print, print_from, quoted}
use Rattle.json.specs.Token.{string}
use Rattle.gr_session.proofs.reply.with_quoted.Goals as goal

pub returns : goal.returns
unfolding print_from
returns c =
    let line = c.args.line.items in
    let text = c.args.text.now in
    let before : c.string.new.self.before ≡ line = c.in_ok-string.ensures.room.0 ∙ c.new-writer.ensures.before in
    let tokens : c.string.new.self.tokens ≡ string text ∷ [] = c.in_ok-string.ensures.ok ∙ ap (λ held. held ++ string text ∷ []) c.new-writer.ensures.tokens in
    c.into_inner.ensures.items ∙ ap (λ first. first ++ print c.string.new.self.tokens) before ∙ ap (λ held. line ++ print held) tokens ∙ ap (λ last. line ++ last) (append-nil (quoted text))
