use Rattle.std.proofs.Common.{◌≡◌, ◌∙◌, ◌<◌, ◌++◌, ◌+◌, [], ◌∷◌, ℕ, Bor, List, Err, Ok, ap, arith, drop, get_or, length, map, refl, rules, subst, sym}
use Rattle.std.proofs.lemmas.List.{length-map}
use Rattle.gr_base.specs.Failure.{Answers, result_map}
use Rattle.gr_drill.specs.Drilldowns.{alone, gathered, sort_key}
use Rattle.gr_drill.specs.declared.drilldown.GroupSortKey.{GroupSortKey}
use Rattle.gr_drill.proofs.GatheredLemmas.{Answers-alone, Answers-fault, at-map, gathered-all, gathered-more, gathered-stops, total, total-first}
use Rattle.gr_drill.proofs.order.each_key.Goals as goal

pub loop-text-init : goal.loop-text-init
loop-text-init c =
    let make = (λ (text : List ℕ). result_map alone (sort_key c.args.schema.now c.args.to text)) in
    let all = map (λ text. text.now) c.args.texts.now in
    record {
      taken = subst (λ (made : List GroupSortKey). total make made all ≡ gathered make all) (sym c.new-keys.ensures.items) (total-first make all);
    }

pub returns-in_err-sort_key-clause-exact : goal.returns-in_err-sort_key-clause-exact
returns-in_err-sort_key-clause-exact c =
    let make = (λ (text : List ℕ). result_map alone (sort_key c.args.schema.now c.args.to text)) in
    let show : Bor (List ℕ) → List ℕ = λ text. text.now in
    let all = map show c.args.texts.now in
    let n = c.loop-text.text-index in
    let why = c.in_err-sort_key.field-0.0 in
    let here : n < length all = omega (arith, length-map c.args.texts.now show, c.loop-text-test.true) in
    let is : c.from_residual.result ≡ Err why = search rules in
    subst (λ result. Answers result (gathered make all)) (sym is)
    (gathered-stops make all n c.loop-text.keys.items (get_or c.args.texts.now n (record { ref_ptr = (0, 0); now = [] })).now c.loop-text.invariant.taken here
    (at-map show c.args.texts.now n _ _ c.loop-text-test.true) why (Answers-fault (sort_key c.args.schema.now c.args.to (get_or c.args.texts.now n (record { ref_ptr = (0, 0); now = [] })).now) why c.in_err-sort_key.ensures.exact))

pub loop-text-preserved : goal.loop-text-preserved
loop-text-preserved c =
    let make = (λ (text : List ℕ). result_map alone (sort_key c.args.schema.now c.args.to text)) in
    let show : Bor (List ℕ) → List ℕ = λ text. text.now in
    let all = map show c.args.texts.now in
    let n = c.loop-text.text-index in
    let here : n < length all = omega (arith, length-map c.args.texts.now show, c.loop-text-test.true) in
    let keys = c.loop-text.keys.items in
    let key : GroupSortKey = c.in_ok-sort_key.field-0 in
    let text = (get_or c.args.texts.now n (record { ref_ptr = (0, 0); now = [] })).now in
    record {
      taken =
          subst (λ (items : List GroupSortKey). total make items (drop (n + 1) all) ≡ gathered make all) (sym c.in_ok-push.ensures.items)
          (gathered-more make all n keys text c.loop-text.invariant.taken here (at-map show c.args.texts.now n _ _ c.loop-text-test.true) (key ∷ [])
          (Answers-alone (sort_key c.args.schema.now c.args.to text) key c.in_ok-sort_key.ensures.exact));
    }

pub returns-clause-exact : goal.returns-clause-exact
returns-clause-exact c =
    let make = (λ (text : List ℕ). result_map alone (sort_key c.args.schema.now c.args.to text)) in
    let show : Bor (List ℕ) → List ℕ = λ text. text.now in
    let all = map show c.args.texts.now in
    subst (λ (made : List GroupSortKey). Answers (Ok made) (gathered make all)) (sym c.from_vec.ensures)
    (gathered-all make all c.loop-text.text-index c.loop-text.keys.items (omega (arith, length-map c.args.texts.now show, c.loop-text-test.false)) c.loop-text.invariant.taken)
