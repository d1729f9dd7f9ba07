use Rattle.std.proofs.Common.{◌≡◌, ◌++◌, ◌∷◌, [], ap, ◌∙◌}
use Rattle.std.proofs.lemmas.Result.{IfOk-weaker}
use Rattle.std.specs.List.{join_with_byte}
use Rattle.gr_dump.specs.Dump.{column_words, sources_text}
use Rattle.gr_dump.specs.Words.{index_flags}
use Rattle.gr_dump.proofs.IndexLemmas.{index-made}
use Rattle.gr_dump.proofs.indexes.with_line_of.Goals as goal

pub returns : goal.returns
returns c =
    let schema = c.args.schema.now in
    let home = c.args.home.now in
    let column = c.args.column.now in
    let text = c.args.text.items in
    let at = c.in-Index in
    let words = c.in_ok-text.ensures
    ∙ ap (λ flags. text ++ join_with_byte 32 (column_words home column flags c.table_name.result.now)) (c.as_bytes-flags.ensures.value ∙ c.index_flags.ensures)
    ∙ ap (λ holds. text ++ join_with_byte 32 (column_words home column (index_flags at.section at.position) holds)) c.table_name.ensures in
    let sources = c.in_ok-text-3.ensures ∙ ap (λ fields. c.in_ok-text-2.text.items ++ sources_text schema at.target fields) c.as_slice.ensures in
    IfOk-weaker c.with_bytes-2.result (λ made. made.items ≡ c.in_ok-text-3.text.items ++ 10 ∷ []) _
    (λ made same.
    index-made schema home column at.target at.sources at.position at.section text c.in_ok-text.text.items c.in_ok-text-2.text.items c.in_ok-text-3.text.items made.items at.is words
    c.in_ok-text-2.ensures sources same) c.with_bytes-2.ensures
