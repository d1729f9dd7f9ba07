use Rattle.std.proofs.Common.{◌≡◌, IsUtf8, sym, subst, ◌∙◌}
use Rattle.std.proofs.lemmas.Result.{IfOk-weaker}
use Rattle.gr_values.specs.Tokens.{given_tokens}
use Rattle.gr_values.proofs.Printed.{print-given_tokens}
use Rattle.gr_values.proofs.Written.{IsWhole, IsWhole-written}
use Rattle.gr_values.proofs.shown.given_text.Goals as goal

pub returns : goal.returns
returns c =
    let whole : IsWhole c.into_inner.result.items (given_tokens c.args.key_of c.args.value.now) =
    IsWhole-written _ (c.new-writer.ensures.before ∙ c.new.ensures.items) c.new-writer.ensures.tokens c.in_ok-write_given.ensures c.into_inner.ensures.items c.into_inner.ensures.utf8 in
    record {
      exact = IfOk-weaker c.from_vec.result (λ made. made ≡ c.into_inner.result.items) _
          (λ made same. same ∙ whole.bytes_are ∙ print-given_tokens c.args.key_of c.args.value.now) c.from_vec.ensures;
      utf8 = IfOk-weaker c.from_vec.result (λ made. made ≡ c.into_inner.result.items) _ (λ made same. subst IsUtf8 (sym same) whole.utf8) c.from_vec.ensures;
    }
