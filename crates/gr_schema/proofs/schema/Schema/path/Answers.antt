use Rattle.std.proofs.Common.{◌≡◌, ◌∷◌, ◌∙◌, ap, sym}
use Rattle.std.specs.List.{slice_split}
use Rattle.std.specs.Option.{option_map}
use Rattle.gr_schema.specs.Inside.Ways.{after_hops}
use Rattle.gr_schema.specs.Paths.{is_dot, path_from, way_along}
use Rattle.gr_schema.proofs.WayLemmas.{after_hops_push, way_goes, way_stops}
use Rattle.gr_schema.proofs.schema.Schema.path.Goals as goal

pub returns-in_default-hop : goal.returns-in_default-hop
returns-in_default-hop c =
    sym (ap (option_map (path_from c.args.table))
    (c.names.invariant
    ∙ ap (option_map (after_hops c.names.hops.items))
    (ap (way_along c.args.self.now c.names.at) c.in-Some.ensures.pieces
    ∙ way_stops c.args.self.now is_dot c.names.at c.in-Some.name.now c.in-Some.after.now (sym c.hop.ensures ∙ c.in_default-hop.is))))

pub names-preserved : goal.names-preserved
names-preserved c =
    c.names.invariant
    ∙ ap (option_map (after_hops c.names.hops.items))
    (ap (way_along c.args.self.now c.names.at) c.in-Some.ensures.pieces
    ∙ way_goes c.args.self.now is_dot c.names.at c.in-Some.name.now c.in-Some.after.now c.in-Some-hop.hop (sym c.hop.ensures ∙ c.in-Some-hop.is))
    ∙ after_hops_push c.names.hops.items c.in-Some-hop.hop (way_along c.args.self.now c.in-Some-hop.hop.to (slice_split is_dot c.in-Some.after.now))
    ∙ ap (λ hops. option_map (after_hops hops) (way_along c.args.self.now c.in-Some-hop.hop.to (slice_split is_dot c.in-Some.after.now))) (sym c.in_ok-push.ensures.items)
