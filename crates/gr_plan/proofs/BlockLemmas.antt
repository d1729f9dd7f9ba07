-- The scores of a block, joined as those of a record are, and its hits.
use Rattle.std.proofs.Common.{◌≡◌, ℕ, zero, suc, ◌+◌, ◌-◌, ◌*◌, ◌<◌, ◌≤◌, Bool, true, false, inl, inr, List, [], ◌∷◌, ◌++◌, is_some, map, min, refl, sym, ap, ap₂, subst, ◌∙◌, arith, add-one, append-nil, append_assoc}
use Rattle.std.specs.Prelude.{◌==◌, nat_lt, ◌&&◌, if◌then◌else◌}
use Rattle.std.specs.Int.{bit_at}
use Rattle.std.proofs.lemmas.Bool.{cases_eq, eq-eqb, ne_eqb}
use Rattle.std.specs.List.{AllByRecursion}
use Rattle.gr_expr.specs.declared.Arith.{Arith}
use Rattle.gr_base.specs.declared.numbers.RecordId.{RecordId}
use Rattle.gr_base.specs.declared.numbers.TableNo.{TableNo}
use Rattle.gr_columns.specs.declared.places.TheConstants.{BLOCK_CELLS}
use Rattle.gr_expr.specs.declared.Join.{Join}
use Rattle.gr_expr.specs.declared.Join.TheVariants.{And, Or, Without}
use Rattle.gr_expr.specs.declared.typed.CombinedTerm.{CombinedTerm}
use Rattle.gr_expr.specs.declared.typed.Expr.{Expr, roll-Expr}
use Rattle.gr_expr.specs.declared.typed.Expr.TheFolds.{fold-roll-Expr, map-Expr}
use Rattle.gr_expr.specs.declared.typed.Expr.TheOpen.{Expr-F}
use Rattle.gr_expr.specs.declared.typed.JoinedExpr.{JoinedExpr}
use Rattle.gr_expr.specs.declared.typed.Term.{Term}
use Rattle.gr_expr.specs.Score.{combined_of, combined_step, joined, joined_of, joined_step, score_of, score_step, worth_of, worth_step}
use Rattle.gr_expr.specs.Seeks.{one_if}
use Rattle.gr_expr.specs.Tables.{Records, record_id, record_in, records_of}
use Rattle.gr_expr.specs.Values.{Worth}
use Rattle.gr_plan.specs.declared.planes.Planes.{Planes}
use Rattle.gr_plan.specs.Inside.Planes.{AreScores, IsWhere, score_in}

-- the score of a condition, of which one level is known
pub score-layer : (tables : List Records) (id : RecordId) (condition : Expr) (layer : Expr-F Expr Term CombinedTerm JoinedExpr) → condition ≡ roll-Expr layer
    → score_of tables id condition ≡ score_step tables id (map-Expr Expr Term CombinedTerm JoinedExpr ℕ Worth (Arith × Worth) (Join × ℕ) (score_of tables id) (worth_of tables id) (combined_of tables id) (joined_of tables id) layer)
score-layer tables id condition layer is = ap (score_of tables id) is ∙ fold-roll-Expr ℕ Worth (Arith × Worth) (Join × ℕ) (score_step tables id) (worth_step tables id) combined_step joined_step layer

module _ (tables : List Records) (table : TableNo) (block : ℕ) where
  pub AreScores-same : (score same : RecordId → ℕ) (planes : Planes) → ((id : RecordId) → score id ≡ same id) → AreScores tables table block score planes → AreScores tables table block same planes
  AreScores-same score same planes each are = λ place within.
      let id = BLOCK_CELLS * block + place in
      are place within ∙ ap (λ one. if is_some (record_in (records_of tables table) id) then one else 0) (each (record_id id))

  pub AreScores-once : (holds : RecordId → Bool) (mask : ℕ) (planes : Planes) → ((place : ℕ) → score_in planes place ≡ bit_at mask place) → IsWhere tables table block holds mask → AreScores tables table block (λ id. one_if (holds id)) planes
  AreScores-once holds mask planes once is = λ place within. once place ∙ is place within

  absent_there : (there : Bool) (score : ℕ) → (if there then 1 else 0) - min 1 (if there then score else 0) ≡ (if there then one_if (score == 0) else 0)
  absent_there true score = elim (cases_eq score 0) [
    | inl none ↦ rw (eq-eqb score 0 none) (omega (arith, none))
    | inr some ↦ rw (ne_eqb score 0 some) (omega (arith, some))
  ]
  absent_there false score = refl

  pub AreScores-absent : (score : RecordId → ℕ) (of : Planes) (mask : ℕ) (planes : Planes) → ((place : ℕ) → place < BLOCK_CELLS → score_in planes place ≡ bit_at mask place - min 1 (score_in of place))
      → AreScores tables table block score of → IsWhere tables table block (λ id. true) mask → AreScores tables table block (λ id. one_if (score id == 0)) planes
  AreScores-absent score of mask planes absent are alive = λ place within.
      let id = BLOCK_CELLS * block + place in
      absent place within
      ∙ ap₂ (λ (bit one : ℕ). bit - min 1 one) (alive place within) (are place within)
      ∙ absent_there (is_some (record_in (records_of tables table) id)) (score (record_id id))

  joined_there : (join : Join) (there : Bool) (left right : ℕ) → joined join (if there then left else 0) (if there then right else 0) ≡ (if there then joined join left right else 0)
  joined_there join true left right = refl
  joined_there And false left right = refl
  joined_there Or false left right = refl
  joined_there Without false left right = refl

  pub AreScores-joined : (join : Join) (score other : RecordId → ℕ) (left right made : Planes) → ((place : ℕ) → place < BLOCK_CELLS → score_in made place ≡ joined join (score_in left place) (score_in right place))
      → AreScores tables table block score left → AreScores tables table block other right → AreScores tables table block (λ id. joined join (score id) (other id)) made
  AreScores-joined join score other left right made each are also = λ place within.
      let id = BLOCK_CELLS * block + place in
      each place within
      ∙ ap₂ (joined join) (are place within) (also place within)
      ∙ joined_there join (is_some (record_in (records_of tables table) id)) (score (record_id id)) (other (record_id id))
