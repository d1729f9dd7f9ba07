use Rattle.std.proofs.Common.{◌≡◌, drop, length, suc, sym, ap, ◌∙◌, arith}
use Rattle.gr_query.proofs.Ends.{IsHeld-found, IsHeld-mark}
use Rattle.gr_query.proofs.tokenizer.TokenToken.token_at.Goals as goal

pub returns-in-40-clause-held : goal.returns-in-40-clause-held
returns-in-40-clause-held c = IsHeld-mark c.in-Some.ensures.cases.0 (omega (arith, c.in-40.is)) tt c.requires

pub returns-in-41-clause-held : goal.returns-in-41-clause-held
returns-in-41-clause-held c = IsHeld-mark c.in-Some.ensures.cases.0 (omega (arith, c.in-41.is)) tt c.requires

pub returns-in-43-clause-held : goal.returns-in-43-clause-held
returns-in-43-clause-held c = IsHeld-mark c.in-Some.ensures.cases.0 (omega (arith, c.in-43.is)) tt c.requires

pub returns-in-45-clause-held : goal.returns-in-45-clause-held
returns-in-45-clause-held c = IsHeld-mark c.in-Some.ensures.cases.0 (omega (arith, c.in-45.is)) tt c.requires

pub returns-in-Some-field_parts-clause-held : goal.returns-in-Some-field_parts-clause-held
returns-in-Some-field_parts-clause-held c =
    let parts = c.in-Some-field_parts.ensures in
    let kept : c.in-Some-field_parts.rest.now ≡ drop (suc (length c.in-Some-field_parts.path.now)) c.args.bytes.now = parts.rest ∙ ap (λ n. drop (suc n) c.args.bytes.now) (sym parts.counted) in
    IsHeld-found c.args.bytes.now c.field_with.result (omega arith) kept parts.within c.field_with.ensures.held
