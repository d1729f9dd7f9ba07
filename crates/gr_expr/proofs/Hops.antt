-- Hops, one by one.
use Rattle.std.proofs.Common.{◌≡◌, ℕ, suc, ◌-◌, ◌<◌, List, [], ◌∷◌, None, length, get_or, drop, drop-cons, refl, ap, ◌∙◌, arith}
use Rattle.std.specs.Option.{option_and_then}
use Rattle.gr_base.specs.declared.numbers.RecordId.{RecordId}
use Rattle.gr_base.specs.declared.numbers.TableNo.{TableNo}
use Rattle.gr_values.specs.declared.path.Hop.{Hop}
use Rattle.gr_expr.specs.Paths.{hop_end, hops_end, hops_table}
use Rattle.gr_expr.specs.Tables.{Records}

-- the next hop leads nowhere, and so do they all
pub hops_stop : (tables : List Records) (table : TableNo) (hops : List Hop) (i : ℕ) (d : Hop) (id : RecordId) → i < length hops → hop_end tables table id (get_or hops i d) ≡ None → hops_end tables table (drop i hops) id ≡ None
hops_stop tables table hops i d id inside stops =
    ap (λ left. hops_end tables table left id) (drop-cons hops i d inside)
    ∙ ap (option_and_then (hops_end tables (get_or hops i d).to (drop (suc i) hops))) stops

-- hops lead to the table of the last one
pub hops_table-last : (table : TableNo) (hops : List Hop) (d : Hop) → 0 < length hops → (get_or hops (length hops - 1) d).to ≡ hops_table table hops
hops_table-last table [] d some = absurd (omega (arith, some))
hops_table-last table (hop ∷ []) d some = refl
hops_table-last table (hop ∷ next ∷ hops) d some =
    let before : length (hop ∷ next ∷ hops) - 1 ≡ suc (length (next ∷ hops) - 1) = omega arith in
    ap (λ k. (get_or (hop ∷ next ∷ hops) k d).to) before ∙ hops_table-last hop.to (next ∷ hops) d (omega arith)
