use Rattle.std.proofs.Common.{◌≡◌, ◌∙◌, ◌++◌, List, [], ap, arith, take}
use Rattle.std.proofs.lemmas.List.{take_all}
use Rattle.std.specs.List.{flat_map}
use Rattle.std.specs.Option.{option_map_or}
use Rattle.gr_db.specs.Wants.{source_wants}
use Rattle.gr_db.specs.declared.want.Want.{Want}
use Rattle.gr_expr.specs.Tables.{record_at}
use Rattle.gr_values.specs.declared.path.Field.{Field}
use Rattle.gr_db.proofs.NewIndexLemmas.{elements-more, record-by-source}
use Rattle.gr_db.proofs.index_wants.push_record.Goals as goal

pub loop-source-preserved : goal.loop-source-preserved
loop-source-preserved g c =
    let found = record_at (g.R.Rows.tables c.args.rows.now) c.args.target c.args.id in
    let wanted = λ (source : Field). option_map_or (λ one. source_wants c.args.schema.now c.args.index one source) found [] in
    elements-more wanted c.args.wants.now.items c.loop-source.wants.items c.push_source.new.wants.items c.args.sources.now c.loop-source.source-index Field.Id c.loop-source-test.true c.loop-source.invariant c.in_ok-push_source.ensures

pub returns : goal.returns
returns g c =
    let found = record_at (g.R.Rows.tables c.args.rows.now) c.args.target c.args.id in
    let wanted = λ (source : Field). option_map_or (λ one. source_wants c.args.schema.now c.args.index one source) found [] in
    let whole : take c.loop-source.source-index c.args.sources.now ≡ c.args.sources.now = take_all c.loop-source.source-index c.args.sources.now (omega arith) in
    c.loop-source.invariant ∙ ap (λ sources. c.args.wants.now.items ++ flat_map wanted sources) whole ∙ ap (λ (ws : List Want). c.args.wants.now.items ++ ws) (record-by-source c.args.schema.now c.args.index c.args.sources.now found)
