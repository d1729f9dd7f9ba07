use Rattle.std.proofs.Common.{◌≡◌, ◌-◌, ◌∷◌, Some, length, sym, ap, ◌∙◌}
use Rattle.gr_text.specs.Strings.{string_from}
use Rattle.gr_text.proofs.Quoted.{AreRead, AreRead-piece, AreRead-escaped, mark-piece, string_from-closed, string_from-ended, string_from-mark_ended}
use Rattle.gr_text.proofs.Utf8.{ReadsText-found}
use Rattle.gr_text.proofs.strings.string_from.Goals as goal

pub returns-in_default-clause-exact : goal.returns-in_default-clause-exact
returns-in_default-clause-exact c =
    let read : AreRead c.args.bytes.now c.push_piece.new.text.items c.in_ok-behind.behind.now = rw (c.in_ok-behind.ensures.pushed, c.in_ok-behind.ensures.rest) (AreRead-piece c.pieces.invariant) in
    sym (string_from-ended read c.in_default.ensures.cases)

pub returns-then-mark-eq34-clause-exact : goal.returns-then-mark-eq34-clause-exact
returns-then-mark-eq34-clause-exact c =
    let read : AreRead c.args.bytes.now c.push_piece.new.text.items (c.in-Some.mark.now ∷ c.in-Some.others.now) = rw (c.in_ok-behind.ensures.pushed, ← c.in-Some.ensures.cases.0, c.in_ok-behind.ensures.rest) (AreRead-piece c.pieces.invariant) in
    ap (λ text. Some (text, length c.args.bytes.now - length c.in-Some.others.now)) c.in_ok-text.ensures ∙ sym (string_from-closed read c.if-mark-eq34.true)

pub returns-in_default-split_first-clause-exact : goal.returns-in_default-split_first-clause-exact
returns-in_default-split_first-clause-exact c =
    let read : AreRead c.args.bytes.now c.push_piece.new.text.items (c.in-Some.mark.now ∷ c.in-Some.others.now) = rw (c.in_ok-behind.ensures.pushed, ← c.in-Some.ensures.cases.0, c.in_ok-behind.ensures.rest) (AreRead-piece c.pieces.invariant) in
    sym (string_from-mark_ended read c.if-mark-eq34.false c.in_default-split_first.ensures.cases)

pub pieces-preserved : goal.pieces-preserved
pieces-preserved c =
    let read : AreRead c.args.bytes.now c.push_piece.new.text.items (c.in-Some.mark.now ∷ c.in-Some-split_first.escaped.now ∷ c.in-Some-split_first.others.now) = rw (c.in_ok-behind.ensures.pushed, ← c.in-Some-split_first.ensures.cases.0, ← c.in-Some.ensures.cases.0, c.in_ok-behind.ensures.rest) (AreRead-piece c.pieces.invariant) in
    let mark = mark-piece c.pieces.rest.now c.in-Some.mark.now c.in-Some.others.now (rw (← c.in_ok-behind.ensures.rest) c.in-Some.ensures.cases.0) in
    rw c.in_ok-push.ensures.items (AreRead-escaped read mark c.if-mark-eq34.false)

pub returns-then-mark-eq34-clause-text : goal.returns-then-mark-eq34-clause-text
returns-then-mark-eq34-clause-text c =
    let found : Some (c.in_ok-text.text, length c.args.bytes.now - length c.in-Some.others.now) ≡ string_from c.args.bytes.now = returns-then-mark-eq34-clause-exact c in
    λ utf8. (ReadsText-found found utf8).text

pub returns-then-mark-eq34-clause-rest : goal.returns-then-mark-eq34-clause-rest
returns-then-mark-eq34-clause-rest c =
    let found : Some (c.in_ok-text.text, length c.args.bytes.now - length c.in-Some.others.now) ≡ string_from c.args.bytes.now = returns-then-mark-eq34-clause-exact c in
    λ utf8. (ReadsText-found found utf8).rest
