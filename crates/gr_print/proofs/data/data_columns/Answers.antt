use Rattle.std.proofs.Common.{◌≡◌, ◌-◌, ◌∷◌, [], ◌++◌, arith, List, Some, ap, length, sym, ◌∙◌}
use Rattle.std.proofs.lemmas.List.{append-nil, length_push, take_all}
use Rattle.std.specs.Option.{option_copied, option_to_list}
use Rattle.gr_print.specs.declared.out_column.OutColumn.{OutColumn}
use Rattle.gr_print.proofs.DataLemmas.{AreMade, AreMade-more, AreMade-none, found_is}
use Rattle.gr_schema.specs.Schema.{table_at}
use Rattle.gr_print.proofs.data.data_columns.Goals.{In_ok-column}
use Rattle.gr_print.proofs.data.data_columns.Goals as goal

pub loop-def-init : goal.loop-def-init
loop-def-init c =
    let home = c.in-Some.home.now in
    let there : table_at c.args.schema.now c.args.table ≡ Some home = sym c.def.ensures ∙ ap option_copied c.in-Some.is in
    let all : c.into_iter-def-iterator.result ≡ home.columns =
    c.into_iter-def-iterator.ensures.into_iter_gives ∙ c.iter-def-items.ensures ∙ take_all (c.len.result - 0) home.columns (omega arith) in
    let made = AreMade-none c.args.schema.now c.args.table home c.new-made.result.items c.into_iter-def-iterator.result there c.new-made.ensures.items all in
    record { exact = made.exact; left = made.left; fit = made.fit }

-- one more column, with what is found of it
taken : (c : In_ok-column) (after : List OutColumn) → after ≡ c.loop-def.made.items ++ option_to_list c.in_ok-column.field-0
    → AreMade c.args.schema.now c.args.table (length (c.loop-def.yielded ++ c.in-Some-def.def ∷ [])) after c.next.new.self
taken c after same =
    let schema = c.args.schema.now in
    let table = c.args.table in
    let home = c.in-Some.home.now in
    let n = length c.loop-def.yielded in
    let def = c.in-Some-def.def.now in
    let rest = c.next.new.self in
    let found = c.in_ok-column.field-0 in
    let there : table_at schema table ≡ Some home = sym c.def.ensures ∙ ap option_copied c.in-Some.is in
    let sound = c.indexes-sound.ensures.sound in
    let here = c.in-Some-def.ensures.steps in
    let left = c.loop-def.invariant.left home there ∙ here in
    let before : AreMade schema table n c.loop-def.made.items c.loop-def.def-iterator =
    record { exact = c.loop-def.invariant.exact; left = c.loop-def.invariant.left; fit = c.loop-def.invariant.fit } in
    AreMade-more schema sound table home there n def rest left _ c.loop-def.made.items after c.loop-def.def-iterator found (length_push c.loop-def.yielded c.in-Some-def.def) here
    (found_is schema sound table home there n def rest left found (λ at first. c.in_ok-column.ensures home n there at first)) same before

pub loop-def-preserved : goal.loop-def-preserved
loop-def-preserved c =
    let before = c.loop-def.made.items in
    let same : before ≡ before ++ option_to_list c.in_ok-column.field-0 = sym (append-nil before) ∙ ap (λ found. before ++ option_to_list found) (sym c.in_default-2.is) in
    let made = taken (goal.at.loop-def-preserved c).In_ok-column before same in
    record { exact = made.exact; left = made.left; fit = made.fit }

pub loop-def-preserved-in-Continue-branch-3 : goal.loop-def-preserved-in-Continue-branch-3
loop-def-preserved-in-Continue-branch-3 c =
    let before = c.loop-def.made.items in
    let same : c.push.new.self.items ≡ before ++ option_to_list c.in_ok-column.field-0 = c.in_ok-push.ensures.items ∙ ap (λ found. before ++ option_to_list found) (sym c.in-Some-2.is) in
    let made = taken (goal.at.loop-def-preserved-in-Continue-branch-3 c).In_ok-column c.push.new.self.items same in
    record { exact = made.exact; left = made.left; fit = made.fit }
