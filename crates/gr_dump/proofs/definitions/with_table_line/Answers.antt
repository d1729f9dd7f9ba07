use Rattle.std.proofs.Common.{◌≡◌, ◌++◌, ◌∷◌, [], sym}
use Rattle.std.proofs.lemmas.Result.{IfOk-weaker}
use Rattle.gr_dump.proofs.TableLemmas.{table_line-made}
use Rattle.gr_dump.proofs.definitions.with_table_line.Goals as goal

pub returns : goal.returns
returns c =
    IfOk-weaker c.with_bytes.result (λ made. made.items ≡ c.in_ok-text-2.text.items ++ 10 ∷ []) _
    (λ made same. table_line-made c.args.home.now c.args.text.items c.in_ok-text.text.items c.in_ok-text-2.text.items made.items (sym c.if-is_some.ensures) c.in_ok-text.ensures c.in_ok-text-2.ensures same) c.with_bytes.ensures
