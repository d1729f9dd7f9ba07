use Rattle.std.proofs.Common.{◌≡◌, ◌∷◌, [], ◌∙◌, Bool, true, false, List, ap, sym, subst}
use Rattle.std.specs.Prelude.{if◌then◌else◌, IfOk, Option}
use Rattle.std.specs.List.{slice_split}
use Rattle.gr_base.specs.declared.limits.TheConstants.{MOST_SOURCES}
use Rattle.gr_values.specs.declared.path.Field.{Field}
use Rattle.gr_schema.specs.Inside.Sources.{sources_added}
use Rattle.gr_schema.specs.Schema.{is_lexicon}
use Rattle.gr_schema.specs.Wishes.{home_of, is_comma}
use Rattle.gr_schema.specs.declared.definition.TableDef.{TableDef}
use Rattle.gr_schema.proofs.SourcesLemmas.{sources_read}
use Rattle.gr_schema.proofs.sources.read_sources.Goals as goal

pub returns-then-is_lexicon : goal.returns-then-is_lexicon
returns-then-is_lexicon c =
    let lexicon : is_lexicon c.args.sides.home.now ≡ true = sym (c.is_lexicon.ensures ∙ ap (λ (t : TableDef). is_lexicon t) c.def.ensures) ∙ c.if-is_lexicon.true in
    subst (λ (o : Option (List Field)). IfOk c.listed.result (λ read. read ≡ o))
    (ap (λ m. sources_added (home_of c.args.sides.no c.args.sides.home.now) c.args.sides.target.now m [] (slice_split is_comma c.args.source.now)) c.most_sources-most.ensures
    ∙ ap (λ b. sources_added (home_of c.args.sides.no c.args.sides.home.now) c.args.sides.target.now (if c.args.section then MOST_SOURCES else 1) [] (if b then slice_split is_comma c.args.source.now else c.args.source.now ∷ [])) (sym lexicon)
    ∙ sources_read (home_of c.args.sides.no c.args.sides.home.now) c.args.sides.target.now c.args.section c.args.source.now)
    c.listed.ensures

pub returns-else-is_lexicon : goal.returns-else-is_lexicon
returns-else-is_lexicon c =
    let lexicon : is_lexicon c.args.sides.home.now ≡ false = sym (c.is_lexicon.ensures ∙ ap (λ (t : TableDef). is_lexicon t) c.def.ensures) ∙ c.if-is_lexicon.false in
    subst (λ (o : Option (List Field)). IfOk c.with_last.result (λ read. read ≡ o))
    (ap (λ fields. sources_added (home_of c.args.sides.no c.args.sides.home.now) c.args.sides.target.now c.most_sources-most.result fields (c.args.source.now ∷ [])) c.new.ensures.items
    ∙ ap (λ m. sources_added (home_of c.args.sides.no c.args.sides.home.now) c.args.sides.target.now m [] (c.args.source.now ∷ [])) c.most_sources-most.ensures
    ∙ ap (λ b. sources_added (home_of c.args.sides.no c.args.sides.home.now) c.args.sides.target.now (if c.args.section then MOST_SOURCES else 1) [] (if b then slice_split is_comma c.args.source.now else c.args.source.now ∷ [])) (sym lexicon)
    ∙ sources_read (home_of c.args.sides.no c.args.sides.home.now) c.args.sides.target.now c.args.section c.args.source.now)
    c.with_last.ensures
