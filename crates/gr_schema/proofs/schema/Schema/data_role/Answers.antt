use Rattle.std.proofs.Common.{◌≡◌, ◌||◌, ◌==◌, not, Bool, false, true, List, ℕ, length, ap, sym, ◌∙◌}
use Rattle.std.specs.Option.{option_map_or}
use Rattle.gr_schema.specs.declared.definition.Role.{Role}
use Rattle.gr_schema.specs.Flags.{flags_of}
use Rattle.gr_schema.specs.Wishes.{fits_flags, fits_source, fits_vector, kind_named, role_of}
use Rattle.gr_schema.proofs.WishLemmas.{fits_data, fits_no_source, role_data, source_broken, source_kept, type_broken}
use Rattle.gr_schema.proofs.schema.Schema.data_role.Goals as goal

pub returns-in_default : goal.returns-in_default
returns-in_default c = λ home.
    let fits = fits_data c.args.self.now (flags_of c.args.wish.now.flags) c.args.wish.now.kind c.args.vector c.requires.data c.requires.list
    ∙ ap (λ o. option_map_or (λ kind. not c.args.vector || fits_vector kind) o false) (sym (c.kind.ensures ∙ ap (kind_named c.args.self.now) c.as_slice.ensures) ∙ c.in_default.is) in
    type_broken {X = Role} c.args.self.now home c.args.wish.now (role_of c.args.self.now home c.args.wish.now) _ fits c.refused.ensures

pub returns-then-not-fits_role : goal.returns-then-not-fits_role
returns-then-not-fits_role c = λ home.
    let fits = fits_data c.args.self.now (flags_of c.args.wish.now.flags) c.args.wish.now.kind c.args.vector c.requires.data c.requires.list
    ∙ ap (λ o. option_map_or (λ kind. not c.args.vector || fits_vector kind) o false) (sym (c.kind.ensures ∙ ap (kind_named c.args.self.now) c.as_slice.ensures) ∙ c.in-Some.is)
    ∙ (sym c.fits_role.ensures ∙ c.if-not-fits_role.true) in
    type_broken {X = Role} c.args.self.now home c.args.wish.now (role_of c.args.self.now home c.args.wish.now) _ fits c.refused-then-not-fits_role.ensures

pub returns-then-not-is_empty : goal.returns-then-not-is_empty
returns-then-not-is_empty c = λ home.
    let fits = fits_data c.args.self.now (flags_of c.args.wish.now.flags) c.args.wish.now.kind c.args.vector c.requires.data c.requires.list
    ∙ ap (λ o. option_map_or (λ kind. not c.args.vector || fits_vector kind) o false) (sym (c.kind.ensures ∙ ap (kind_named c.args.self.now) c.as_slice.ensures) ∙ c.in-Some.is)
    ∙ (sym c.fits_role.ensures ∙ c.if-not-fits_role.false) in
    let given = fits_no_source c.args.self.now home c.args.wish.now c.requires.data
    ∙ ap (λ b. not (not b)) (sym (c.is_empty.ensures ∙ ap (λ (s : List ℕ). length s == 0) c.as_slice-2.ensures) ∙ c.if-not-is_empty.true) in
    source_broken {X = Role} c.args.self.now home c.args.wish.now (role_of c.args.self.now home c.args.wish.now) _ fits given c.refused-then-not-is_empty.ensures

pub returns : goal.returns
returns c = λ home.
    let kind = sym (c.kind.ensures ∙ ap (kind_named c.args.self.now) c.as_slice.ensures) ∙ c.in-Some.is in
    let fits = fits_data c.args.self.now (flags_of c.args.wish.now.flags) c.args.wish.now.kind c.args.vector c.requires.data c.requires.list
    ∙ ap (λ o. option_map_or (λ kind. not c.args.vector || fits_vector kind) o false) kind
    ∙ (sym c.fits_role.ensures ∙ c.if-not-fits_role.false) in
    let given = fits_no_source c.args.self.now home c.args.wish.now c.requires.data
    ∙ ap (λ b. not (not b)) (sym (c.is_empty.ensures ∙ ap (λ (s : List ℕ). length s == 0) c.as_slice-2.ensures) ∙ c.if-not-is_empty.false) in
    source_kept {X = Role} c.args.self.now home c.args.wish.now (role_of c.args.self.now home c.args.wish.now) c.data_role.result fits given
    (role_data c.args.self.now home c.args.wish.now c.args.vector c.in-Some.kind c.data_role.result c.requires.data c.requires.list kind c.data_role.ensures)
