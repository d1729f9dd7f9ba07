use Rattle.std.proofs.Common.{◌≡◌, ◌⊎◌, ◌∙◌, List, Ok, ap, inl, inr, length, subst, sym}
use Rattle.std.specs.Iterator.Adapters.{zip_first, zip_second}
use Rattle.std.specs.Slice.Iter.{iter_rest}
use Rattle.std.specs.Vec.Iter.{into_iter_items}
use Rattle.gr_rows.specs.Members.{Member, settings_of}
use Rattle.gr_rows.proofs.ArrayLemmas.{column_members, members_done}
use Rattle.gr_rows.proofs.SettingsLemmas.{AreSet, AreSet-all}
use Rattle.gr_rows.proofs.Telling.{ok_told}
use Rattle.gr_rows.proofs.target.Target.array_settings.Goals as goal

pub returns-clause-told : goal.returns-clause-told
returns-clause-told c =
    let schema = c.args.self.now.schema.now in
    let home = c.args.self.now.home.now in
    let it = c.loop-named.named-iterator in
    let ended : (length (iter_rest (zip_first it)) ≡ 0) ⊎ (length (into_iter_items (zip_second it)) ≡ 0) =
    elim c.in-None.ensures.steps [ inl h ↦ inl h.1.0 | inr h ↦ inr (sym c.loop-named.invariant.lengths ∙ h.1.0) ] in
    let done = members_done (iter_rest (zip_first it)) (into_iter_items (zip_second it)) ended in
    ok_told c.from_vec.result _
    (AreSet-all c.loop-named.settings.items (subst (λ (left : List Member). AreSet schema home c.args.row (settings_of schema home c.args.row (column_members c.args.columns.now c.args.values.items)) c.loop-named.settings.items left) done c.loop-named.invariant.set)
    ∙ ap Ok (sym c.from_vec.ensures))
