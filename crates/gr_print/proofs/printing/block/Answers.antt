use Rattle.std.proofs.Common.{◌≡◌, IsUtf8, sym, subst, ◌∙◌}
use Rattle.std.proofs.lemmas.Result.{IfOk-weaker}
use Rattle.gr_print.specs.Inside.Tokens.{block_tokens}
use Rattle.gr_print.proofs.BlockLemmas.{print-block_tokens}
use Rattle.gr_values.proofs.Written.{IsWhole, IsWhole-written}
use Rattle.gr_print.proofs.printing.block.Goals as goal

pub returns : goal.returns
returns g c =
    let tables = g.R.Rows.tables c.args.rows.now in
    let whole : IsWhole c.into_inner.result.items (block_tokens c.args.schema.now tables c.args.columns.now c.args.found c.args.shown.now) =
    IsWhole-written _ (c.new-writer.ensures.before ∙ c.new.ensures.items) c.new-writer.ensures.tokens c.in_ok-write_block.ensures c.into_inner.ensures.items c.into_inner.ensures.utf8 in
    record {
      exact = IfOk-weaker c.from_vec.result (λ made. made ≡ c.into_inner.result.items) _
          (λ made same. same ∙ whole.bytes_are ∙ print-block_tokens c.args.schema.now tables c.args.columns.now c.args.found c.args.shown.now) c.from_vec.ensures;
      utf8 = IfOk-weaker c.from_vec.result (λ made. made ≡ c.into_inner.result.items) _ (λ made same. subst IsUtf8 (sym same) whole.utf8) c.from_vec.ensures;
    }
