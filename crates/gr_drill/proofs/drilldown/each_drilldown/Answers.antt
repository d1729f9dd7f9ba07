use Rattle.std.proofs.Common.{◌≡◌, ◌∙◌, ◌<◌, ◌++◌, ◌+◌, [], ◌∷◌, ℕ, Bor, List, Err, Ok, ap, arith, drop, get_or, length, map, refl, rules, subst, sym}
use Rattle.std.proofs.lemmas.List.{length-map}
use Rattle.std.specs.List.{AllByRecursion}
use Rattle.std.specs.Option.{option_copied}
use Rattle.gr_base.specs.Failure.{Answers, result_map}
use Rattle.gr_drill.specs.Drilldowns.{alone, drilldown_of, gathered}
use Rattle.gr_drill.specs.Inside.Fitting.{IsShowableFor}
use Rattle.gr_drill.specs.declared.drilldown.Drilldown.{Drilldown}
use Rattle.gr_drill.proofs.GatheredLemmas.{Answers-alone, Answers-fault, all-append, at-map, gathered-all, gathered-more, gathered-stops, total, total-first}
use Rattle.gr_drill.proofs.drilldown.each_drilldown.Goals as goal

pub loop-key-init : goal.loop-key-init
loop-key-init c =
    let make = (λ (key : List ℕ). result_map alone (drilldown_of c.args.schema.now c.args.table (option_copied c.args.columns) (option_copied c.args.order) key)) in
    let all = map (λ key. key.now) c.args.keys.now in
    record {
      taken = subst (λ (made : List Drilldown). total make made all ≡ gathered make all) (sym c.new-made.ensures.items) (total-first make all);
      fit = subst (λ (made : List Drilldown). AllByRecursion (IsShowableFor c.args.schema.now) made) (sym c.new-made.ensures.items) tt;
    }

pub returns-in_err-drilldown_of-clause-exact : goal.returns-in_err-drilldown_of-clause-exact
returns-in_err-drilldown_of-clause-exact c =
    let make = (λ (key : List ℕ). result_map alone (drilldown_of c.args.schema.now c.args.table (option_copied c.args.columns) (option_copied c.args.order) key)) in
    let show : Bor (List ℕ) → List ℕ = λ key. key.now in
    let all = map show c.args.keys.now in
    let n = c.loop-key.key-index in
    let why = c.in_err-drilldown_of.field-0.0 in
    let here : n < length all = omega (arith, length-map c.args.keys.now show, c.loop-key-test.true) in
    let is : c.from_residual.result ≡ Err why = search rules in
    subst (λ result. Answers result (gathered make all)) (sym is)
    (gathered-stops make all n c.loop-key.made.items (get_or c.args.keys.now n (record { ref_ptr = (0, 0); now = [] })).now c.loop-key.invariant.taken here
    (at-map show c.args.keys.now n _ _ c.loop-key-test.true) why (Answers-fault (drilldown_of c.args.schema.now c.args.table (option_copied c.args.columns) (option_copied c.args.order) (get_or c.args.keys.now n (record { ref_ptr = (0, 0); now = [] })).now) why c.in_err-drilldown_of.ensures.exact))

pub loop-key-preserved : goal.loop-key-preserved
loop-key-preserved c =
    let make = (λ (key : List ℕ). result_map alone (drilldown_of c.args.schema.now c.args.table (option_copied c.args.columns) (option_copied c.args.order) key)) in
    let show : Bor (List ℕ) → List ℕ = λ key. key.now in
    let all = map show c.args.keys.now in
    let n = c.loop-key.key-index in
    let here : n < length all = omega (arith, length-map c.args.keys.now show, c.loop-key-test.true) in
    let made = c.loop-key.made.items in
    let one : Drilldown = c.in_ok-drilldown_of.field-0 in
    let key = (get_or c.args.keys.now n (record { ref_ptr = (0, 0); now = [] })).now in
    record {
      taken =
          subst (λ (items : List Drilldown). total make items (drop (n + 1) all) ≡ gathered make all) (sym c.in_ok-push.ensures.items)
          (gathered-more make all n made key c.loop-key.invariant.taken here (at-map show c.args.keys.now n _ _ c.loop-key-test.true) (one ∷ [])
          (Answers-alone (drilldown_of c.args.schema.now c.args.table (option_copied c.args.columns) (option_copied c.args.order) key) one c.in_ok-drilldown_of.ensures.exact));
      fit =
          subst (λ (items : List Drilldown). AllByRecursion (IsShowableFor c.args.schema.now) items) (sym c.in_ok-push.ensures.items)
          (all-append (IsShowableFor c.args.schema.now) made (one ∷ []) c.loop-key.invariant.fit (c.in_ok-drilldown_of.ensures.fit, tt));
    }

pub returns-clause-exact : goal.returns-clause-exact
returns-clause-exact c =
    let make = (λ (key : List ℕ). result_map alone (drilldown_of c.args.schema.now c.args.table (option_copied c.args.columns) (option_copied c.args.order) key)) in
    let show : Bor (List ℕ) → List ℕ = λ key. key.now in
    let all = map show c.args.keys.now in
    subst (λ (made : List Drilldown). Answers (Ok made) (gathered make all)) (sym c.from_vec.ensures)
    (gathered-all make all c.loop-key.key-index c.loop-key.made.items (omega (arith, length-map c.args.keys.now show, c.loop-key-test.false)) c.loop-key.invariant.taken)
