use Rattle.std.proofs.Common.{map, subst}
use Rattle.std.specs.Option.{option_to_list}
use Rattle.gr_base.specs.declared.numbers.RecordId.{RecordId}
use Rattle.gr_print.specs.Shown.{key_referred}
use Rattle.gr_print.proofs.WrittenLemmas.{living-end, living-more}
use Rattle.gr_values.specs.Tokens.{Appends, key_token}
use Rattle.gr_print.proofs.values.write_keys.Goals as goal

pub loop-id-preserved : goal.loop-id-preserved
loop-id-preserved g c =
    let none : RecordId = record { 0 = 0 } in
    living-more key_token (key_referred (g.R.Rows.tables c.args.rows.now) c.args.to) c.args.ids.now c.loop-id.id-index none c.loop-id-test.true c.loop-id.invariant
    (subst (λ key. Appends c.loop-id.writer c.write_living.new.writer (map key_token (option_to_list key))) c.key_referred.ensures c.in_ok-write_living.ensures)

pub returns : goal.returns
returns g c =
    living-end key_token (key_referred (g.R.Rows.tables c.args.rows.now) c.args.to) c.args.ids.now c.loop-id.id-index c.loop-id-test.false c.loop-id.invariant c.in_ok-close_array.ensures
