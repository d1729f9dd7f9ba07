use Rattle.std.proofs.Common.{◌≡◌, ◌<◌, ◌≤◌, length, suc, sym, ap, subst, ◌∙◌, arith}
use Rattle.gr_table.specs.Inside.Seen.{seen}
use Rattle.gr_table.proofs.Lists.{length-first}
use Rattle.gr_table.proofs.Wants.{is_added, is_full}
use Rattle.gr_table.proofs.table.TableRecords.want.Goals as goal

pub returns-then-self-limit : goal.returns-then-self-limit
returns-then-self-limit c =
    let given : c.self.inside.given ≡ length c.args.self.now.records =
    sym (length-first c.self.inside.given (λ i. seen c.self.inside.alive c.self.inside.keys c.self.inside.columns.items (suc i))) ∙ ap (λ table. length table.records) c.self.view_is in
    is_full c.args.limit c.args.self.now _ (sym c.in_default.is ∙ c.found.ensures) c.requires.room (subst (λ n. c.args.limit ≤ n) given c.if-self-limit.true)

pub add-requires-clause-room : goal.add-requires-clause-room
add-requires-clause-room c =
    let given : c.self.inside.given ≡ length c.args.self.now.records =
    sym (length-first c.self.inside.given (λ i. seen c.self.inside.alive c.self.inside.keys c.self.inside.columns.items (suc i))) ∙ ap (λ table. length table.records) c.self.view_is in
    omega (arith, given, c.if-self-limit.false, c.ranges.limit.fits)

pub returns : goal.returns
returns c =
    let given : c.self.inside.given ≡ length c.args.self.now.records =
    sym (length-first c.self.inside.given (λ i. seen c.self.inside.alive c.self.inside.keys c.self.inside.columns.items (suc i))) ∙ ap (λ table. length table.records) c.self.view_is in
    is_added c.args.limit c.args.self.now _ c.add.new.self c.in_ok-id.id (sym c.in_default.is ∙ c.found.ensures) (subst (λ n. n < c.args.limit) given c.if-self-limit.false) c.in_ok-id.ensures
