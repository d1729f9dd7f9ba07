use Rattle.std.proofs.Common.{◌≡◌, ◌<◌, sym, ap, ◌∙◌, length}
use Rattle.std.proofs.lemmas.Bool.{eqb-false, eqb-true}
use Rattle.gr_text.specs.Lexing.{IsHeld, behind, found_in}
use Rattle.gr_text.proofs.Next.{IsBehindWhiteSpace, above, begun, behind-none, ended, strange}
use Rattle.gr_text.proofs.lexer.next_found.Goals as goal

pub returns-then-is_empty-clause-found : goal.returns-then-is_empty-clause-found
returns-then-is_empty-clause-found g c =
    let cut : IsBehindWhiteSpace c.args.bytes.now c.split_at.result.1.now c.white_space_len-blanks.result = record { counted = c.white_space_len-blanks.ensures.exact; kept = c.split_at.ensures.back } in
    let none : length c.split_at.result.1.now ≡ 0 = eqb-true (length c.split_at.result.1.now) 0 (sym c.if-is_empty.ensures) in
    sym (ap found_in (ended g.T.Token.starts c.args.at cut none))

pub returns-then-is_empty-clause-left : goal.returns-then-is_empty-clause-left
returns-then-is_empty-clause-left g c =
    let cut : IsBehindWhiteSpace c.args.bytes.now c.split_at.result.1.now c.white_space_len-blanks.result = record { counted = c.white_space_len-blanks.ensures.exact; kept = c.split_at.ensures.back } in
    let none : length c.split_at.result.1.now ≡ 0 = eqb-true (length c.split_at.result.1.now) 0 (sym c.if-is_empty.ensures) in
    behind-none g.T.Token.starts c.args.at cut (ended g.T.Token.starts c.args.at cut none)

pub returns-in-Some-clause-found : goal.returns-in-Some-clause-found
returns-in-Some-clause-found g c =
    let held : IsHeld g.T.Token.IsText c.split_at.result.1.now (c.in-Some.token, c.in-Some.len) = rw c.in-Some.is at c.in_ok-token.ensures.held in
    let cut : IsBehindWhiteSpace c.args.bytes.now c.split_at.result.1.now c.white_space_len-blanks.result = record { counted = c.white_space_len-blanks.ensures.exact; kept = c.split_at.ensures.back } in
    sym (ap found_in (begun g.T.Token.starts c.args.at cut (sym c.in_ok-token.ensures.exact ∙ c.in-Some.is) held.some held.within))

pub returns-in-Some-clause-left : goal.returns-in-Some-clause-left
returns-in-Some-clause-left g c =
    let held : IsHeld g.T.Token.IsText c.split_at.result.1.now (c.in-Some.token, c.in-Some.len) = rw c.in-Some.is at c.in_ok-token.ensures.held in
    let cut : IsBehindWhiteSpace c.args.bytes.now c.split_at.result.1.now c.white_space_len-blanks.result = record { counted = c.white_space_len-blanks.ensures.exact; kept = c.split_at.ensures.back } in
    sym (ap behind (begun g.T.Token.starts c.args.at cut (sym c.in_ok-token.ensures.exact ∙ c.in-Some.is) held.some held.within))

pub returns-in-None-clause-found : goal.returns-in-None-clause-found
returns-in-None-clause-found g c =
    let cut : IsBehindWhiteSpace c.args.bytes.now c.split_at.result.1.now c.white_space_len-blanks.result = record { counted = c.white_space_len-blanks.ensures.exact; kept = c.split_at.ensures.back } in
    let some : 0 < length c.split_at.result.1.now = above (length c.split_at.result.1.now) (eqb-false (length c.split_at.result.1.now) 0 (sym c.if-is_empty.ensures)) in
    sym (ap found_in (strange g.T.Token.starts c.args.at cut some (sym c.in_ok-token.ensures.exact ∙ c.in-None.is)))

pub returns-in-None-clause-left : goal.returns-in-None-clause-left
returns-in-None-clause-left g c =
    let cut : IsBehindWhiteSpace c.args.bytes.now c.split_at.result.1.now c.white_space_len-blanks.result = record { counted = c.white_space_len-blanks.ensures.exact; kept = c.split_at.ensures.back } in
    let some : 0 < length c.split_at.result.1.now = above (length c.split_at.result.1.now) (eqb-false (length c.split_at.result.1.now) 0 (sym c.if-is_empty.ensures)) in
    behind-none g.T.Token.starts c.args.at cut (strange g.T.Token.starts c.args.at cut some (sym c.in_ok-token.ensures.exact ∙ c.in-None.is))
