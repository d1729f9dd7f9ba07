use Rattle.std.proofs.Common.{◌≡◌, ◌∙◌, IsUtf8, ap, false, string_bytes, subst, sym, true}
use Rattle.std.proofs.lemmas.Str.{IsUtf8-string_bytes}
use Rattle.gr_cmdline.specs.LoadData.{Waiting, loaded, with_data}
use Rattle.gr_cmdline.specs.declared.command.Item.TheVariants.{Command as Accepted}
use Rattle.gr_cmdline.proofs.Loading.{loaded-no_text, loaded-text}
use Rattle.gr_cmdline.proofs.load.Load.into_item.Goals as goal

pub returns-then-whole-clause-exact : goal.returns-then-whole-clause-exact
returns-then-whole-clause-exact c =
    let taken = ap (λ bytes. bytes.items) c.in-Ok.ensures.ok in
    let bytes : string_bytes c.in-Ok.text ≡ c.args.self.text = taken ∙ ap (λ (waiting : Waiting). waiting.text) c.self.view_is in
    let short : c.args.self.too_long ≡ false = ap (λ (waiting : Waiting). waiting.too_long) (sym c.self.view_is) ∙ c.if-self.false in
    c.asked.ensures.exact
    ∙ ap (λ text. Accepted (with_data c.self.inside.command text)) taken
    ∙ ap (λ (waiting : Waiting). Accepted (with_data waiting.command waiting.text)) c.self.view_is
    ∙ sym (loaded-text c.args.self true short (subst IsUtf8 bytes (IsUtf8-string_bytes c.in-Ok.text)))
    ∙ ap (loaded c.args.self) (sym c.if-whole.true)

pub returns-else-whole-clause-exact : goal.returns-else-whole-clause-exact
returns-else-whole-clause-exact c =
    let bytes : string_bytes c.in-Ok.text ≡ c.args.self.text = ap (λ bytes. bytes.items) c.in-Ok.ensures.ok ∙ ap (λ (waiting : Waiting). waiting.text) c.self.view_is in
    let short : c.args.self.too_long ≡ false = ap (λ (waiting : Waiting). waiting.too_long) (sym c.self.view_is) ∙ c.if-self.false in
    c.bad-else-whole.ensures.exact
    ∙ sym (loaded-text c.args.self false short (subst IsUtf8 bytes (IsUtf8-string_bytes c.in-Ok.text)))
    ∙ ap (loaded c.args.self) (sym c.if-whole.false)

pub returns-in-Err-clause-exact : goal.returns-in-Err-clause-exact
returns-in-Err-clause-exact c =
    let bytes : c.self.inside.text.items ≡ c.args.self.text = ap (λ (waiting : Waiting). waiting.text) c.self.view_is in
    let short : c.args.self.too_long ≡ false = ap (λ (waiting : Waiting). waiting.too_long) (sym c.self.view_is) ∙ c.if-self.false in
    c.bad-in-Err.ensures.exact
    ∙ sym (loaded-no_text c.args.self c.args.whole short (λ text. let ok = c.in-Err.ensures.succeeds (subst IsUtf8 (sym bytes) text) in cc))
