use Rattle.std.proofs.Common.{◌≡◌, ◌∙◌, false, true, ap, sym}
use Rattle.std.specs.Option.{option_map}
use Rattle.std.specs.Prelude.{Some, is_some}
use Rattle.gr_schema.specs.Schema.{column_named}
use Rattle.gr_schema.specs.Wishes.{home_named, home_of, is_column_name}
use Rattle.gr_schema.proofs.WishLemmas.{column_wished, refusal_told, role_granted, role_refused}
use Rattle.gr_schema.proofs.schema.Schema.check_column.Goals as goal

pub returns-in-Err-clause-exact : goal.returns-in-Err-clause-exact
returns-in-Err-clause-exact c =
    let found : home_named c.args.self.now c.args.wish.now.table ≡ Some (home_of c.in-Some.no c.in-Some.home.now) =
    sym (c.home.ensures ∙ ap (home_named c.args.self.now) c.as_slice.ensures) ∙ ap (option_map (λ found. home_of found.0 found.1.now)) c.in-Some.is in
    let named : is_column_name c.args.wish.now.name ≡ true = sym (c.is_column_name.ensures ∙ ap is_column_name c.as_slice-name.ensures) ∙ c.if-not-is_column_name.false in
    let free : is_some (column_named c.in-Some.home.now c.args.wish.now.name) ≡ false =
    sym (c.is_some.ensures ∙ ap is_some (c.column.ensures ∙ ap (column_named c.in-Some.home.now) c.as_slice-name.ensures)) ∙ c.if-is_some.false in
    role_refused c.args.self.now c.args.wish.now (home_of c.in-Some.no c.in-Some.home.now) c.role.result c.in-Err.failure found named free c.role.ensures c.in-Err.is

pub returns-in-Err-clause-text : goal.returns-in-Err-clause-text
returns-in-Err-clause-text c = λ text.
    let found : home_named c.args.self.now c.args.wish.now.table ≡ Some (home_of c.in-Some.no c.in-Some.home.now) =
    sym (c.home.ensures ∙ ap (home_named c.args.self.now) c.as_slice.ensures) ∙ ap (option_map (λ found. home_of found.0 found.1.now)) c.in-Some.is in
    let named : is_column_name c.args.wish.now.name ≡ true = sym (c.is_column_name.ensures ∙ ap is_column_name c.as_slice-name.ensures) ∙ c.if-not-is_column_name.false in
    let free : is_some (column_named c.in-Some.home.now c.args.wish.now.name) ≡ false =
    sym (c.is_some.ensures ∙ ap is_some (c.column.ensures ∙ ap (column_named c.in-Some.home.now) c.as_slice-name.ensures)) ∙ c.if-is_some.false in
    refusal_told c.args.self.now c.args.wish.now c.in-Err.failure text
    (role_refused c.args.self.now c.args.wish.now (home_of c.in-Some.no c.in-Some.home.now) c.role.result c.in-Err.failure found named free c.role.ensures c.in-Err.is)

pub returns-in_ok-name-in-Ok-clause-wished : goal.returns-in_ok-name-in-Ok-clause-wished
returns-in_ok-name-in-Ok-clause-wished c =
    let found : home_named c.args.self.now c.args.wish.now.table ≡ Some (home_of c.in-Some.no c.in-Some.home.now) =
    sym (c.home.ensures ∙ ap (home_named c.args.self.now) c.as_slice.ensures) ∙ ap (option_map (λ found. home_of found.0 found.1.now)) c.in-Some.is in
    let named : is_column_name c.args.wish.now.name ≡ true = sym (c.is_column_name.ensures ∙ ap is_column_name c.as_slice-name.ensures) ∙ c.if-not-is_column_name.false in
    let free : is_some (column_named c.in-Some.home.now c.args.wish.now.name) ≡ false =
    sym (c.is_some.ensures ∙ ap is_some (c.column.ensures ∙ ap (column_named c.in-Some.home.now) c.as_slice-name.ensures)) ∙ c.if-is_some.false in
    column_wished c.args.self.now c.args.wish.now c.in-Some.no _
    (role_granted c.args.self.now c.args.wish.now (home_of c.in-Some.no c.in-Some.home.now) c.role.result c.in-Ok.role c.in_ok-name-in-Ok.name found named free c.role.ensures c.in-Ok.is c.in_ok-name-in-Ok.ensures)
