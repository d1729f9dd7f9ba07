use Rattle.std.proofs.Common.{◌≡◌, ◌∙◌, ◌&&◌, true, List, ℕ, ap, subst, sym}
use Rattle.gr_schema.specs.Flags.{are_flags, fit_table, flags_of}
use Rattle.gr_schema.specs.Inside.Flags.{AreMeant, flags_fit}
use Rattle.gr_schema.specs.Wishes.{home_of, role_of}
use Rattle.gr_schema.specs.declared.definition.Role.{Role}
use Rattle.gr_schema.specs.declared.definition.TableDef.{TableDef}
use Rattle.gr_schema.proofs.WishLemmas.{flags_fit_table, flags_kept}
use Rattle.gr_schema.proofs.schema.Schema.role.Goals as goal

pub returns-in-Scalar : goal.returns-in-Scalar
returns-in-Scalar c =
    let meant : AreMeant (flags_of c.args.wish.now.flags) c.in-Some.flags = subst (λ (s : List ℕ). AreMeant (flags_of s) c.in-Some.flags) c.as_slice.ensures c.in-Some.ensures.1 in
    let flags : are_flags (flags_of c.args.wish.now.flags) ≡ true = ap (λ (s : List ℕ). are_flags (flags_of s)) (sym c.as_slice.ensures) ∙ c.in-Some.ensures.0 in
    let fits : fit_table c.args.home.now (flags_of c.args.wish.now.flags) ≡ true =
    sym (flags_fit_table c.args.home.now (flags_of c.args.wish.now.flags) c.in-Some.flags meant) ∙ sym (c.fit_table.ensures ∙ ap (λ (t : TableDef). flags_fit t c.in-Some.flags) c.def.ensures) ∙ c.if-not-fit_table.false in
    flags_kept {X = Role} c.args.self.now (home_of c.args.no c.args.home.now) c.args.wish.now (role_of c.args.self.now (home_of c.args.no c.args.home.now) c.args.wish.now) _
    (ap (λ b. b && fit_table c.args.home.now (flags_of c.args.wish.now.flags)) flags ∙ fits) (c.data_role.ensures (home_of c.args.no c.args.home.now))

pub returns-in-Vector : goal.returns-in-Vector
returns-in-Vector c =
    let meant : AreMeant (flags_of c.args.wish.now.flags) c.in-Some.flags = subst (λ (s : List ℕ). AreMeant (flags_of s) c.in-Some.flags) c.as_slice.ensures c.in-Some.ensures.1 in
    let flags : are_flags (flags_of c.args.wish.now.flags) ≡ true = ap (λ (s : List ℕ). are_flags (flags_of s)) (sym c.as_slice.ensures) ∙ c.in-Some.ensures.0 in
    let fits : fit_table c.args.home.now (flags_of c.args.wish.now.flags) ≡ true =
    sym (flags_fit_table c.args.home.now (flags_of c.args.wish.now.flags) c.in-Some.flags meant) ∙ sym (c.fit_table.ensures ∙ ap (λ (t : TableDef). flags_fit t c.in-Some.flags) c.def.ensures) ∙ c.if-not-fit_table.false in
    flags_kept {X = Role} c.args.self.now (home_of c.args.no c.args.home.now) c.args.wish.now (role_of c.args.self.now (home_of c.args.no c.args.home.now) c.args.wish.now) _
    (ap (λ b. b && fit_table c.args.home.now (flags_of c.args.wish.now.flags)) flags ∙ fits) (c.data_role-in-Vector.ensures (home_of c.args.no c.args.home.now))

pub returns-in-Index : goal.returns-in-Index
returns-in-Index c =
    let meant : AreMeant (flags_of c.args.wish.now.flags) c.in-Some.flags = subst (λ (s : List ℕ). AreMeant (flags_of s) c.in-Some.flags) c.as_slice.ensures c.in-Some.ensures.1 in
    let flags : are_flags (flags_of c.args.wish.now.flags) ≡ true = ap (λ (s : List ℕ). are_flags (flags_of s)) (sym c.as_slice.ensures) ∙ c.in-Some.ensures.0 in
    let fits : fit_table c.args.home.now (flags_of c.args.wish.now.flags) ≡ true =
    sym (flags_fit_table c.args.home.now (flags_of c.args.wish.now.flags) c.in-Some.flags meant) ∙ sym (c.fit_table.ensures ∙ ap (λ (t : TableDef). flags_fit t c.in-Some.flags) c.def.ensures) ∙ c.if-not-fit_table.false in
    flags_kept {X = Role} c.args.self.now (home_of c.args.no c.args.home.now) c.args.wish.now (role_of c.args.self.now (home_of c.args.no c.args.home.now) c.args.wish.now) _
    (ap (λ b. b && fit_table c.args.home.now (flags_of c.args.wish.now.flags)) flags ∙ fits) c.index_role.ensures
