use Rattle.std.proofs.Common.{◌≡◌, ◌++◌, ◌∷◌, [], ap, ◌∙◌}
use Rattle.std.proofs.lemmas.Result.{IfOk-weaker}
use Rattle.gr_dump.proofs.HeadLemmas.{head-made}
use Rattle.gr_dump.proofs.loads.with_head.Goals as goal

pub returns : goal.returns
returns c =
    IfOk-weaker c.with_bytes-3.result (λ made. made.items ≡ c.in_ok-text-4.text.items ++ 44 ∷ 10 ∷ []) _
    (λ made same.
    head-made c.args.home.now c.args.columns.now c.args.text.items c.in_ok-text.text.items c.in_ok-text-2.text.items c.in_ok-text-3.text.items c.in_ok-text-4.text.items made.items
    c.in_ok-text.ensures (c.in_ok-text-2.ensures ∙ ap (λ name. c.in_ok-text.text.items ++ 32 ∷ name) c.as_slice.ensures) c.in_ok-text-3.ensures c.in_ok-text-4.ensures same) c.with_bytes-3.ensures
