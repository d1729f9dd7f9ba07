use Rattle.std.proofs.Common.{◌≡◌, ◌∙◌}
use Rattle.std.proofs.lemmas.Result.{IfOk-weaker}
use Rattle.gr_drill.specs.Inside.Tokens.{block_tokens}
use Rattle.gr_drill.proofs.BlockLemmas.{print-block_tokens}
use Rattle.gr_values.proofs.Written.{IsWhole, IsWhole-written}
use Rattle.gr_drill.proofs.block.block.Goals as goal

pub returns : goal.returns
returns g c =
    let tables = g.R.Rows.tables c.args.rows.now in
    let whole : IsWhole c.into_inner.result.items (block_tokens c.args.schema.now tables c.args.of c.args.columns.now c.args.found c.args.shown.now) =
    IsWhole-written _ (c.new-writer.ensures.before ∙ c.new.ensures.items) c.new-writer.ensures.tokens c.in_ok-write_block.ensures c.into_inner.ensures.items c.into_inner.ensures.utf8 in
    IfOk-weaker c.from_vec.result (λ made. made ≡ c.into_inner.result.items) _
    (λ made same. same ∙ whole.bytes_are ∙ print-block_tokens c.args.schema.now tables c.args.of c.args.columns.now c.args.found c.args.shown.now) c.from_vec.ensures
