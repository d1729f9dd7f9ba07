use Rattle.std.proofs.Common.{◌≡◌, ◌∙◌, List, ℕ, ap, sym}
use Rattle.std.specs.Option.{option_map}
use Rattle.std.specs.Prelude.{if◌then◌else◌, None, Some, is_some}
use Rattle.std.proofs.lemmas.Option.{cond_some}
use Rattle.gr_schema.specs.Flags.{flags_of}
use Rattle.gr_schema.specs.Wishes.{are_sources, home_of, role_of, sources_of, target_named}
use Rattle.gr_schema.specs.declared.definition.Role.{Role}
use Rattle.gr_schema.proofs.WishLemmas.{cond_none, fits_sources, fits_target, role_index, source_broken, source_kept, type_broken}
use Rattle.gr_schema.proofs.schema.Schema.index_role.Goals as goal

pub returns-in_default : goal.returns-in_default
returns-in_default c =
    let target : target_named c.args.self.now c.args.wish.now.kind ≡ None =
    sym (c.target.ensures ∙ ap (target_named c.args.self.now) c.as_slice.ensures) ∙ ap (option_map (λ found. home_of found.0 found.1.now)) c.in_default.is in
    type_broken {X = Role} c.args.self.now (home_of c.args.no c.args.home.now) c.args.wish.now (role_of c.args.self.now (home_of c.args.no c.args.home.now) c.args.wish.now) _
    (fits_target c.args.self.now (flags_of c.args.wish.now.flags) c.args.wish.now.kind c.requires.0 ∙ ap is_some target) c.refused.ensures

pub returns-in-Some-2 : goal.returns-in-Some-2
returns-in-Some-2 c =
    let target : target_named c.args.self.now c.args.wish.now.kind ≡ Some (home_of c.in-Some.over c.in-Some.target.now) =
    sym (c.target.ensures ∙ ap (target_named c.args.self.now) c.as_slice.ensures) ∙ ap (option_map (λ found. home_of found.0 found.1.now)) c.in-Some.is in
    let read = cond_some _ _ c.in-Some-2.sources
    (sym (c.in_ok-sources.ensures ∙ ap (λ (s : List ℕ). if are_sources (home_of c.args.no c.args.home.now) c.in-Some.target.now c.args.section s then Some (sources_of (home_of c.args.no c.args.home.now) c.in-Some.target.now s) else None) c.as_slice-2.ensures) ∙ c.in-Some-2.is) in
    source_kept {X = Role} c.args.self.now (home_of c.args.no c.args.home.now) c.args.wish.now (role_of c.args.self.now (home_of c.args.no c.args.home.now) c.args.wish.now) _
    (fits_target c.args.self.now (flags_of c.args.wish.now.flags) c.args.wish.now.kind c.requires.0 ∙ ap is_some target)
    (fits_sources c.args.self.now (home_of c.args.no c.args.home.now) (home_of c.in-Some.over c.in-Some.target.now) c.args.wish.now c.args.section c.requires.0 c.requires.2 target ∙ read.0)
    (role_index c.args.self.now (home_of c.args.no c.args.home.now) (home_of c.in-Some.over c.in-Some.target.now) c.args.wish.now c.args.position c.args.section c.in-Some-2.sources c.requires.0 c.requires.1 c.requires.2 target (sym read.1))

pub returns-in-None : goal.returns-in-None
returns-in-None c =
    let target : target_named c.args.self.now c.args.wish.now.kind ≡ Some (home_of c.in-Some.over c.in-Some.target.now) =
    sym (c.target.ensures ∙ ap (target_named c.args.self.now) c.as_slice.ensures) ∙ ap (option_map (λ found. home_of found.0 found.1.now)) c.in-Some.is in
    let read = cond_none _ _
    (sym (c.in_ok-sources.ensures ∙ ap (λ (s : List ℕ). if are_sources (home_of c.args.no c.args.home.now) c.in-Some.target.now c.args.section s then Some (sources_of (home_of c.args.no c.args.home.now) c.in-Some.target.now s) else None) c.as_slice-2.ensures) ∙ c.in-None.is) in
    source_broken {X = Role} c.args.self.now (home_of c.args.no c.args.home.now) c.args.wish.now (role_of c.args.self.now (home_of c.args.no c.args.home.now) c.args.wish.now) _
    (fits_target c.args.self.now (flags_of c.args.wish.now.flags) c.args.wish.now.kind c.requires.0 ∙ ap is_some target)
    (fits_sources c.args.self.now (home_of c.args.no c.args.home.now) (home_of c.in-Some.over c.in-Some.target.now) c.args.wish.now c.args.section c.requires.0 c.requires.2 target ∙ read)
    c.refused-in-None.ensures
