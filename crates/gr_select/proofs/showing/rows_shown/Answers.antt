use Rattle.std.proofs.Common.{◌≡◌, ℕ, List, IfOk, ap, length, subst, ◌∙◌}
use Rattle.gr_print.specs.Block.{block, hits_within, window}
use Rattle.gr_sort.specs.Order.{ordered}
use Rattle.gr_select.proofs.showing.rows_shown.Goals as goal

pub returns : goal.returns
returns g c =
    let schema = c.args.schema.now in
    let tables = g.R.Rows.tables c.args.rows.now in
    let layout = c.args.layout.now in
    let hits = c.args.hits.now in
    let span : c.span_of-span.result ≡ window (length hits) layout.offset layout.limit = c.span_of-span.ensures in
    let keys : c.as_slice.result.now ≡ layout.keys = c.as_slice.ensures in
    let columns : c.as_slice-columns.result.now ≡ layout.columns = c.as_slice-columns.ensures in
    let shown : c.in_ok-shown.shown.items ≡ hits_within (window (length hits) layout.offset layout.limit) (ordered tables layout.keys hits) =
    c.in_ok-shown.ensures ∙ ap (λ span. hits_within span (ordered tables c.as_slice.result.now hits)) span ∙ ap (λ keys. hits_within (window (length hits) layout.offset layout.limit) (ordered tables keys hits)) keys in
    let printed : block schema tables c.as_slice-columns.result.now (length hits) c.as_slice-2.result.now ≡ block schema tables layout.columns (length hits) (hits_within (window (length hits) layout.offset layout.limit) (ordered tables layout.keys hits)) =
    ap (λ columns. block schema tables columns (length hits) c.as_slice-2.result.now) columns
    ∙ ap (block schema tables layout.columns (length hits)) (c.as_slice-2.ensures.value ∙ shown) in
    subst (λ (printed : List ℕ). IfOk c.block.result (λ text. text ≡ printed)) printed c.block.ensures.exact
