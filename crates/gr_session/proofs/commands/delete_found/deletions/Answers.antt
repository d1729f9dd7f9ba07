use Rattle.std.proofs.Common.{◌≡◌, ℕ, List, ap, map, ◌∙◌}
use Rattle.gr_base.specs.declared.numbers.RecordId.{RecordId}
use Rattle.gr_db.specs.Apply.{replay}
use Rattle.gr_db.proofs.Grows.{extends-itself}
use Rattle.gr_db.specs.declared.entry.Change.TheVariants.{DeleteIf}
use Rattle.gr_expr.specs.declared.typed.Expr.{Expr}
use Rattle.gr_plan.specs.Scan.{scan}
use Rattle.gr_session.proofs.DeleteLemmas.{Fits-deletions}
use Rattle.gr_session.proofs.commands.delete_found.deletions.Goals as goal

pub hits-requires : goal.hits-requires
hits-requires c =
    let db = replay c.args.root.now.journal in
    c.requires.fits db (extends-itself db.schema) c.requires.fitting

pub returns : goal.returns
returns c = λ home form plain there.
    let db = replay c.args.root.now.journal in
    let table = c.args.table in
    let condition : c.in_ok-condition.condition ≡ c.args.condition = c.in_ok-condition.ensures in
    let hits : c.as_slice.result.now ≡ scan db.tables table c.args.condition = c.as_slice.ensures.exact ∙ c.in_ok-hits.ensures in
    record {
      changes =
          c.in_ok-changes.ensures
          ∙ ap (λ (condition : Expr). map (λ hit. DeleteIf table hit.0 condition) c.as_slice.result.now) condition
          ∙ ap (λ (hits : List (RecordId × ℕ)). map (λ hit. DeleteIf table hit.0 c.args.condition) hits) hits;
      answer = c.in_ok-answer.ensures;
      fit = Fits-deletions db table home c.args.condition there c.requires.fits;
    }
