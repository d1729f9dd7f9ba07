use Rattle.std.proofs.Common.{◌≡◌, ◌∙◌, ◌<◌, ◌++◌, ◌+◌, [], ◌∷◌, ℕ, Bor, List, Err, Ok, ap, arith, drop, get_or, length, map, refl, rules, subst, sym}
use Rattle.std.proofs.lemmas.List.{length-map}
use Rattle.std.specs.List.{AllByRecursion}
use Rattle.gr_base.specs.Failure.{Answers, result_map}
use Rattle.gr_drill.specs.Drilldowns.{columns_named, gathered}
use Rattle.gr_drill.specs.Inside.Fitting.{IsShownFor}
use Rattle.gr_drill.specs.declared.drilldown.GroupColumn.{GroupColumn}
use Rattle.gr_drill.proofs.GatheredLemmas.{all-append, at-map, gathered-all, gathered-more, gathered-stops, total, total-first}
use Rattle.gr_drill.proofs.columns.each_named.Goals as goal

pub loop-name-init : goal.loop-name-init
loop-name-init c =
    let make = columns_named c.args.schema.now c.args.to in
    let all = map (λ name. name.now) c.args.names.now in
    record {
      taken = subst (λ (made : List GroupColumn). total make made all ≡ gathered make all) (sym c.new-made.ensures.items) (total-first make all);
      fit = subst (λ (made : List GroupColumn). AllByRecursion (IsShownFor c.args.schema.now) made) (sym c.new-made.ensures.items) tt;
    }

pub returns-in_err-columns_named-clause-exact : goal.returns-in_err-columns_named-clause-exact
returns-in_err-columns_named-clause-exact c =
    let make = columns_named c.args.schema.now c.args.to in
    let show : Bor (List ℕ) → List ℕ = λ name. name.now in
    let all = map show c.args.names.now in
    let n = c.loop-name.name-index in
    let why = c.in_err-columns_named.field-0.0 in
    let here : n < length all = omega (arith, length-map c.args.names.now show, c.loop-name-test.true) in
    let is : c.from_residual.result ≡ Err why = search rules in
    subst (λ result. Answers result (gathered make all)) (sym is)
    (gathered-stops make all n c.loop-name.made.items (get_or c.args.names.now n (record { ref_ptr = (0, 0); now = [] })).now c.loop-name.invariant.taken here
    (at-map show c.args.names.now n _ _ c.loop-name-test.true) why c.in_err-columns_named.ensures.exact)

pub loop-name-preserved : goal.loop-name-preserved
loop-name-preserved c =
    let make = columns_named c.args.schema.now c.args.to in
    let show : Bor (List ℕ) → List ℕ = λ name. name.now in
    let all = map show c.args.names.now in
    let n = c.loop-name.name-index in
    let here : n < length all = omega (arith, length-map c.args.names.now show, c.loop-name-test.true) in
    let made = c.loop-name.made.items in
    let more : List GroupColumn = c.in_ok-columns_named.field-0 in
    let appended : c.append.new.self.items ≡ made ++ more = c.in_ok-append.ensures.items ∙ ap (λ items. made ++ items) c.into_vec-more.ensures in
    record {
      taken =
          subst (λ (items : List GroupColumn). total make items (drop (n + 1) all) ≡ gathered make all) (sym appended)
          (gathered-more make all n made (get_or c.args.names.now n (record { ref_ptr = (0, 0); now = [] })).now c.loop-name.invariant.taken here
          (at-map show c.args.names.now n _ _ c.loop-name-test.true) more c.in_ok-columns_named.ensures.exact);
      fit =
          subst (λ (items : List GroupColumn). AllByRecursion (IsShownFor c.args.schema.now) items) (sym appended)
          (all-append (IsShownFor c.args.schema.now) made more c.loop-name.invariant.fit c.in_ok-columns_named.ensures.fit);
    }

pub returns-clause-exact : goal.returns-clause-exact
returns-clause-exact c =
    let make = columns_named c.args.schema.now c.args.to in
    let show : Bor (List ℕ) → List ℕ = λ name. name.now in
    let all = map show c.args.names.now in
    subst (λ (made : List GroupColumn). Answers (Ok made) (gathered make all)) (sym c.from_vec.ensures)
    (gathered-all make all c.loop-name.name-index c.loop-name.made.items (omega (arith, length-map c.args.names.now show, c.loop-name-test.false)) c.loop-name.invariant.taken)
