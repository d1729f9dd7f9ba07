-- What a mask says of a term that reads a column.
use Rattle.std.proofs.Common.{◌≡◌, ℕ, ◌+◌, ◌*◌, ℤ, Bool, true, false, List, [], Option, Some, None, is_some, slice_get, refl, sym, ap, ap₂, subst, ◌∙◌, min, bit_and, arith}
use Rattle.std.specs.Prelude.{◌&&◌, if◌then◌else◌, MatchOption}
use Rattle.std.specs.declared.cmp.Ordering.{Ordering}
use Rattle.std.specs.declared.cmp.Ordering.TheVariants.{Less, Equal, Greater}
use Rattle.std.specs.Int.{bit_at}
use Rattle.std.specs.Option.{option_and_then, option_flatten, option_map_or}
use Rattle.std.specs.Ordering.{int_cmp, ordering_reverse}
use Rattle.std.proofs.lemmas.Cmp.{int_cmp_total}
use Rattle.std.proofs.lemmas.Nat.Bits.{bit_at_and}
use Rattle.gr_expr.specs.declared.Arith.{Arith}
use Rattle.gr_expr.specs.declared.Join.{Join}
use Rattle.gr_base.specs.Compare.{is_met}
use Rattle.gr_base.specs.declared.compare.Cmp.{Cmp}
use Rattle.gr_base.specs.declared.compare.Cmp.TheVariants.{Eq, Ne, Lt, Le, Gt, Ge}
use Rattle.gr_base.specs.declared.numbers.ColumnNo.{ColumnNo}
use Rattle.gr_base.specs.declared.numbers.RecordId.{RecordId}
use Rattle.gr_base.specs.declared.numbers.TableNo.{TableNo}
use Rattle.gr_columns.specs.declared.places.TheConstants.{BLOCK_CELLS}
use Rattle.gr_columns.specs.Masks.{compares_cell}
use Rattle.gr_expr.specs.declared.typed.Literal.{Literal}
use Rattle.gr_expr.specs.declared.typed.Expr.TheOpen.{Term-F}
use Rattle.gr_expr.specs.declared.typed.Term.{Term, fold-roll-Term, out-Term, out-roll-Term}
use Rattle.gr_expr.specs.declared.typed.Term.TheVariants as term
use Rattle.gr_expr.specs.Fits.{EachCell, FitsField, FitsPath, FitsTermLayer}
use Rattle.gr_expr.specs.Inside.Parts.{FitsTerm}
use Rattle.gr_expr.specs.Paths.{end_table, hops_table}
use Rattle.gr_expr.specs.Score.{combined_step, holds, joined_step, score_step, worth_of, worth_step}
use Rattle.gr_expr.specs.Seeks.{one_if}
use Rattle.gr_expr.specs.Tables.{Record, Records, cell_at, record_id, record_in, records_of}
use Rattle.gr_expr.specs.Values.{Worth, cell_worth, path_worth}
use Rattle.gr_expr.proofs.Opening.{term_layer}
use Rattle.gr_table.specs.Masks.{compares_in}
use Rattle.gr_values.specs.declared.path.Field.{Field}
use Rattle.gr_values.specs.declared.path.Path.{Path}
use Rattle.gr_values.specs.declared.value.Cell.{Cell}
use Rattle.gr_values.specs.Fits.{IsCellOf}
use Rattle.gr_plan.specs.Inside.Leaves.{ReadsColumn, turned}
use Rattle.gr_plan.specs.Inside.Planes.{IsWhere, score_if_there}
use Rattle.gr_plan.specs.Masks.{IsMask}
use Rattle.gr_plan.proofs.PlaneLemmas.{bit_is}

-- Sides exchanged

met_turned : (cmp : Cmp) (ordering : Ordering) → is_met (turned cmp) ordering ≡ is_met cmp (ordering_reverse ordering)
met_turned Eq Less = refl
met_turned Eq Equal = refl
met_turned Eq Greater = refl
met_turned Ne Less = refl
met_turned Ne Equal = refl
met_turned Ne Greater = refl
met_turned Lt Less = refl
met_turned Lt Equal = refl
met_turned Lt Greater = refl
met_turned Le Less = refl
met_turned Le Equal = refl
met_turned Le Greater = refl
met_turned Gt Less = refl
met_turned Gt Equal = refl
met_turned Gt Greater = refl
met_turned Ge Less = refl
met_turned Ge Equal = refl
met_turned Ge Greater = refl

pub holds_turned : (cmp : Cmp) (number : ℤ) (worth : Worth) → holds (turned cmp) worth (Some (Literal.Number number)) ≡ holds cmp (Some (Literal.Number number)) worth
holds_turned cmp number None = refl
holds_turned cmp number (Some (Literal.Number value)) = met_turned cmp (int_cmp value number) ∙ ap (is_met cmp) (sym (int_cmp_total.antisymm number value))
holds_turned cmp number (Some (Literal.Text text)) = refl
holds_turned cmp number (Some (Literal.Truth truth)) = refl

-- Masks of what holds

module _ (tables : List Records) (table : TableNo) (block : ℕ) where
  pub IsWhere-same : (holds same : RecordId → Bool) (mask : ℕ) → ((id : RecordId) → holds id ≡ same id) → IsWhere tables table block holds mask → IsWhere tables table block same mask
  IsWhere-same holds same mask each is = λ place within.
      let id = BLOCK_CELLS * block + place in
      is place within ∙ ap (λ truth. if is_some (record_in (records_of tables table) id) then one_if truth else 0) (each (record_id id))

  both_there : (there one other : Bool) → min (if there then one_if one else 0) (if there then one_if other else 0) ≡ (if there then one_if (one && other) else 0)
  both_there true true true = refl
  both_there true true false = refl
  both_there true false true = refl
  both_there true false false = refl
  both_there false one other = refl

  pub IsWhere-both : (one other : RecordId → Bool) (mask more : ℕ) → IsWhere tables table block one mask → IsWhere tables table block other more → IsWhere tables table block (λ id. one id && other id) (bit_and mask more)
  IsWhere-both one other mask more is also = λ place within.
      let id = BLOCK_CELLS * block + place in
      bit_at_and mask more place
      ∙ ap₂ min (is place within) (also place within)
      ∙ both_there (is_some (record_in (records_of tables table) id)) (one (record_id id)) (other (record_id id))

-- Terms

module _ (tables : List Records) (id : RecordId) where
  pub worth-cell : (path : Path) → worth_of tables id (term.Cell path) ≡ path_worth tables id path
  worth-cell path = ap (worth_of tables id) (sym (term.rolls-Cell path)) ∙ fold-roll-Term ℕ Worth (Arith × Worth) (Join × ℕ) (score_step tables id) (worth_step tables id) combined_step joined_step (Term-F.Cell path)

  pub worth-number : (of : Term) (number : ℤ) → of ≡ term.Literal (Literal.Number number) → worth_of tables id of ≡ Some (Literal.Number number)
  worth-number of number is =
      ap (worth_of tables id) (is ∙ sym (term.rolls-Literal (Literal.Number number)))
      ∙ fold-roll-Term ℕ Worth (Arith × Worth) (Join × ℕ) (score_step tables id) (worth_step tables id) combined_step joined_step (Term-F.Literal (Literal.Number number))

-- Comparisons

module _ (tables : List Records) (table : TableNo) (block : ℕ) where
  -- the records whose value compares so with a number
  abbrev IsWhereMet : Cmp → Term → ℤ → ℕ → Type 0
  IsWhereMet cmp of number = IsWhere tables table block (λ id. holds cmp (worth_of tables id of) (Some (Literal.Number number)))

  abbrev IsWhereCompared : Cmp → Term → Term → ℕ → Type 0
  IsWhereCompared cmp left right = IsWhere tables table block (λ id. holds cmp (worth_of tables id left) (worth_of tables id right))

  pub IsWhere-ended : (cmp other : Cmp) (left right : Term) (number passed : ℤ) (mask : ℕ) → right ≡ term.Literal (Literal.Number number) → other ≡ cmp → passed ≡ number → IsWhereMet other left passed mask → IsWhereCompared cmp left right mask
  IsWhere-ended cmp other left right number passed mask is meant same found =
      IsWhere-same tables table block (λ id. holds cmp (worth_of tables id left) (Some (Literal.Number number))) (λ id. holds cmp (worth_of tables id left) (worth_of tables id right)) mask
      (λ id. ap (holds cmp (worth_of tables id left)) (sym (worth-number tables id right number is)))
      (subst (λ cmp. IsWhereMet cmp left number mask) meant (subst (λ number. IsWhereMet other left number mask) same found))

  pub IsWhere-turned : (cmp other : Cmp) (left right : Term) (number passed : ℤ) (mask : ℕ) → left ≡ term.Literal (Literal.Number number) → other ≡ turned cmp → passed ≡ number → IsWhereMet other right passed mask → IsWhereCompared cmp left right mask
  IsWhere-turned cmp other left right number passed mask is exchanged same found =
      IsWhere-same tables table block (λ id. holds (turned cmp) (worth_of tables id right) (Some (Literal.Number number))) (λ id. holds cmp (worth_of tables id left) (worth_of tables id right)) mask
      (λ id. holds_turned cmp number (worth_of tables id right) ∙ ap (λ worth. holds cmp worth (worth_of tables id right)) (sym (worth-number tables id left number is)))
      (subst (λ cmp. IsWhereMet cmp right number mask) exchanged (subst (λ number. IsWhereMet other right number mask) same found))

-- The column

-- a cell compares with a number as its worth does; a reference is worth its key, and none stands here
holds-cell : (tables : List Records) (path : Path) (cmp : Cmp) (number : ℤ) (cell : Cell) → path.shape.reference ≡ false → IsCellOf path.shape cell → compares_cell cmp number cell ≡ holds cmp (cell_worth tables path cell) (Some (Literal.Number number))
holds-cell tables path cmp number (Cell.Bool truth) plain fits = refl
holds-cell tables path cmp number (Cell.Int value) plain fits = refl
holds-cell tables path cmp number (Cell.Text text) plain fits = refl
holds-cell tables path cmp number (Cell.Ref id) plain fits = let reference : path.shape.reference ≡ true = fits.reference in absurd (cc (plain, reference))
holds-cell tables path cmp number (Cell.RefList ids) plain fits = refl
holds-cell tables path cmp number (Cell.IntList numbers) plain fits = refl
holds-cell tables path cmp number (Cell.TextList texts) plain fits = refl

-- what a path that hops nowhere is worth
path_worth-cell : (tables : List Records) (table : TableNo) (id : RecordId) (path : Path) (column : ColumnNo) (cell : Cell) → path.through ≡ [] → path.last ≡ Field.Column column → path.table ≡ table
    → cell_at tables table id column ≡ Some cell → path_worth tables id path ≡ cell_worth tables path cell
path_worth-cell tables table id path column cell through last here found = rw (last, through, here, found) refl

term_path : (tables : List Records) (of : Term) (path : Path) → of ≡ term.Cell path → FitsTerm tables of → FitsPath tables path
term_path tables of path is fits = subst (FitsTermLayer tables) (ap out-Term (is ∙ sym (term.rolls-Cell path)) ∙ out-roll-Term (Term-F.Cell path)) (term_layer tables of fits)

each_cell : (tables : List Records) (table : TableNo) (path : Path) (column : ColumnNo) → path.through ≡ [] → path.last ≡ Field.Column column → path.table ≡ table → FitsPath tables path → EachCell tables table column (IsCellOf path.shape)
each_cell tables table path column through last here fits =
    let field : EachCell tables (end_table path) column (IsCellOf path.shape) = subst (FitsField tables (end_table path) path.shape) last fits.field in
    subst (λ table. EachCell tables table column (IsCellOf path.shape)) (ap (hops_table path.table) through ∙ here) field

module _ (tables : List Records) (table : TableNo) (of : Term) (column : ColumnNo) (reads : ReadsColumn table of column) (cmp : Cmp) (number : ℤ) (fits : FitsTerm tables of) where
  abbrev met : RecordId → Bool
  met id = holds cmp (worth_of tables id of) (Some (Literal.Number number))

  met-cell : (id : RecordId) (cell : Option Cell) → cell_at tables table id column ≡ cell → MatchOption cell ⊥ (IsCellOf reads.path.shape) → one_if (option_map_or (compares_cell cmp number) cell false) ≡ one_if (met id)
  met-cell id None is shaped = absurd shaped
  met-cell id (Some cell) is shaped =
      let worth = ap (worth_of tables id) reads.is ∙ worth-cell tables id reads.path ∙ path_worth-cell tables table id reads.path column cell reads.through reads.last reads.here is in
      ap one_if (holds-cell tables reads.path cmp number cell reads.plain shaped ∙ ap (λ worth. holds cmp worth (Some (Literal.Number number))) (sym worth))

  met-record : (id : ℕ) (found : Option Record) → record_in (records_of tables table) id ≡ found
      → one_if (option_map_or (compares_cell cmp number) (option_and_then (λ (found : Record). option_flatten (slice_get found.cells column.0)) found) false) ≡ (if is_some found then one_if (met (record_id id)) else 0)
  met-record id None is = refl
  met-record id (Some found) is =
      let cell : cell_at tables table (record_id id) column ≡ option_flatten (slice_get found.cells column.0) = ap (option_and_then (λ (found : Record). option_flatten (slice_get found.cells column.0))) is in
      let shaped = each_cell tables table reads.path column reads.through reads.last reads.here (term_path tables of reads.path reads.is fits) (record_id id) (ap is_some is) in
      met-cell (record_id id) (option_flatten (slice_get found.cells column.0)) cell (subst (λ cell. MatchOption cell ⊥ (IsCellOf reads.path.shape)) cell shaped)

  -- the mask of a column is set where the comparison holds
  pub IsWhere-column : (block mask : ℕ) (passed : ℤ) → passed ≡ number → IsMask tables table column block cmp passed mask → IsWhere tables table block met mask
  IsWhere-column block mask passed same found = λ place within.
      let is : IsMask tables table column block cmp number mask = subst (λ number. IsMask tables table column block cmp number mask) same found in
      let id = BLOCK_CELLS * block + place in
      bit_is mask place (compares_in (records_of tables table) column cmp number id) (is.bits place within) ∙ met-record id (record_in (records_of tables table) id) refl
