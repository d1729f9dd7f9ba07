-- What a load gives for its data.
use Rattle.std.proofs.Common.{◌≡◌, Bool, false, cond, ℕ, List, [], IsUtf8, ap, ◌∙◌, ⊎_elim}
use Rattle.std.proofs.lemmas.Bool.{cases_Bool}
use Rattle.std.proofs.lemmas.Str.{IsUtf8-from_is_utf8, is_utf8-from_IsUtf8}
use Rattle.std.specs.Str.{is_utf8}
use Rattle.gr_base.specs.Fault.{fault_named}
use Rattle.gr_base.specs.declared.fault.FaultKind.TheVariants.{LineTooLong, NotText, UnfinishedLoad}
use Rattle.gr_cmdline.specs.LoadData.{Waiting, loaded, with_data}
use Rattle.gr_cmdline.specs.declared.command.Item.TheVariants.{Command as Accepted, Bad}

-- data that are text
pub loaded-text : (waiting : Waiting) (whole : Bool) → waiting.too_long ≡ false → IsUtf8 waiting.text → loaded waiting whole ≡ cond whole (Accepted (with_data waiting.command waiting.text)) (Bad (fault_named UnfinishedLoad []))
loaded-text waiting whole short text =
    ap (λ (b : Bool). cond b (Bad (fault_named LineTooLong [])) (cond (is_utf8 waiting.text) (cond whole (Accepted (with_data waiting.command waiting.text)) (Bad (fault_named UnfinishedLoad []))) (Bad (fault_named NotText [])))) short
    ∙ ap (λ (b : Bool). cond b (cond whole (Accepted (with_data waiting.command waiting.text)) (Bad (fault_named UnfinishedLoad []))) (Bad (fault_named NotText []))) (is_utf8-from_IsUtf8 waiting.text text)

-- bytes that are no text are not tested as text
pub no_text : (bytes : List ℕ) → (IsUtf8 bytes → ⊥) → is_utf8 bytes ≡ false
no_text bytes none = ⊎_elim (λ yes. absurd (none (IsUtf8-from_is_utf8 bytes yes))) (λ no. no) (cases_Bool (is_utf8 bytes))

-- data that are no text
pub loaded-no_text : (waiting : Waiting) (whole : Bool) → waiting.too_long ≡ false → (IsUtf8 waiting.text → ⊥) → loaded waiting whole ≡ Bad (fault_named NotText [])
loaded-no_text waiting whole short none =
    ap (λ (b : Bool). cond b (Bad (fault_named LineTooLong [])) (cond (is_utf8 waiting.text) (cond whole (Accepted (with_data waiting.command waiting.text)) (Bad (fault_named UnfinishedLoad []))) (Bad (fault_named NotText [])))) short
    ∙ ap (λ (b : Bool). cond b (cond whole (Accepted (with_data waiting.command waiting.text)) (Bad (fault_named UnfinishedLoad []))) (Bad (fault_named NotText []))) (no_text waiting.text none)
