use Rattle.std.proofs.Common.{◌≡◌, ◌+◌, ◌<◌, ◌^◌, length, suc, sym, ap, subst, ◌∙◌, arith, true}
use Rattle.std.proofs.Math.Facts.{Fits-of_lt}
use Rattle.gr_columns.specs.Places.{SetsPlace}
use Rattle.gr_table.specs.Inside.Seen.{seen}
use Rattle.gr_table.specs.Inside.Trees.{map_of}
use Rattle.gr_table.proofs.Lists.{length-first}
use Rattle.gr_table.proofs.Tables.{held_next, held_torn, key_free, table_next}
use Rattle.gr_table.proofs.table.TableRecords.add.Goals as goal

pub overflow_add-id : goal.overflow_add-id
overflow_add-id c =
    let given : c.self.inside.given ≡ length c.args.self.now.records =
    sym (length-first c.self.inside.given (λ i. seen c.self.inside.alive c.self.inside.keys c.self.inside.columns.items (suc i))) ∙ ap (λ table. length table.records) c.self.view_is in
    let below : c.self.inside.given + 1 < 2 ^ 32 = omega (arith, given, c.requires.room) in
    Fits-of_lt below

pub put_key-requires : goal.put_key-requires
put_key-requires c = key_free _ _ _ _ _ _ c.self.invariant c.args.self.now c.self.view_is _ c.requires.keyed c.requires.missing

pub invariant_of-self : goal.invariant_of-self
invariant_of-self c =
    rw c.in_err-put_key.ensures.err
    (held_torn _ _ _ _ _ _ c.self.invariant c.args.self.now c.self.view_is _ c.requires.keyed c.requires.missing c.put_key.new.keys c.in_err-put_key.ensures.elsewhere c.in_err-put_key.ensures.keyless)

pub invariant_of-self-2 : goal.invariant_of-self-2
invariant_of-self-2 c =
    held_next _ _ _ _ _ _ c.self.invariant c.args.self.now c.self.view_is _ c.requires.keyed c.requires.missing c.put_key.new.keys c.in_ok-put_key.ensures.elsewhere c.in_ok-put_key.ensures.keyless c.set.new.self (map_of c.put_key.new.tree)
    c.in_ok-put_key.ensures.ok (subst (λ a. SetsPlace a c.set.new.self (c.self.inside.given + 1) true) c.in_ok-alive.ensures c.in_ok-set.ensures.ok)

pub returns : goal.returns
returns c =
    table_next _ _ _ _ _ _ c.self.invariant c.args.self.now c.self.view_is _ c.requires.keyed c.requires.missing c.put_key.new.keys c.in_ok-put_key.ensures.elsewhere c.in_ok-put_key.ensures.keyless c.set.new.self (map_of c.put_key.new.tree)
    c.in_ok-put_key.ensures.ok (subst (λ a. SetsPlace a c.set.new.self (c.self.inside.given + 1) true) c.in_ok-alive.ensures c.in_ok-set.ensures.ok)
