use Rattle.std.proofs.Common.{◌≡◌, ◌∙◌, ◌++◌, ◌∷◌, [], ℕ, List, ap}
use Rattle.std.proofs.lemmas.Result.{IfOk-weaker}
use Rattle.std.specs.List.{flat_map}
use Rattle.gr_select.specs.Inside.Layouts.{behind_comma}
use Rattle.gr_select.specs.Select.{body, db_of, groups_shown, rows_shown}
use Rattle.gr_select.proofs.BlocksLemmas.{bracketed-first}
use Rattle.gr_sort.specs.Order.{ordered}
use Rattle.gr_select.proofs.showing.body.Goals as goal

pub returns : goal.returns
returns g c =
    let tables = g.R.Rows.tables c.args.rows.now in
    let db = db_of c.args.schema.now tables in
    let layout = c.args.layout.now in
    let hits = c.args.hits.now in
    let rows = rows_shown db layout.rows hits in
    let groups = groups_shown db layout.groups (ordered tables layout.rows.keys hits) in
    let shown : c.as_slice-2.result.now ≡ rows = c.as_slice-2.ensures ∙ c.in_ok-shown.ensures in
    let opened : c.push.new.self.items ≡ [] ++ 91 ∷ [] = c.in_ok-push.ensures.items ∙ ap (λ text. text ++ 91 ∷ []) c.in_ok-text.ensures.items in
    let begun : c.extend_from_slice.new.self.items ≡ ([] ++ 91 ∷ []) ++ rows =
    c.in_ok-extend_from_slice.ensures.items ∙ ap (λ text. text ++ c.as_slice-2.result.now) opened ∙ ap (λ text. ([] ++ 91 ∷ []) ++ text) shown in
    let grouped : c.push_groups.new.text.items ≡ (([] ++ 91 ∷ []) ++ rows) ++ flat_map behind_comma groups =
    c.in_ok-push_groups.ensures ∙ ap (λ text. text ++ flat_map behind_comma groups) begun in
    let written : c.push-2.new.self.items ≡ body db layout hits =
    c.in_ok-push-2.ensures.items ∙ ap (λ text. text ++ 93 ∷ []) grouped ∙ bracketed-first rows groups in
    IfOk-weaker c.from_vec.result (λ made. made ≡ c.push-2.new.self.items) (λ made. made ≡ body db layout hits) (λ made same. same ∙ written) c.from_vec.ensures
