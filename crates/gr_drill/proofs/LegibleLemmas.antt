-- Groups of values that fit can be shown.
use Rattle.std.proofs.Common.{rules, ◌≡◌, ℕ, ℤ, pos, zero, suc, ◌+◌, Bool, true, false, cond, not, List, [], ◌∷◌, ◌++◌, map, filter, fold, take, drop, Option, Some, None, is_some, IsUtf8, Ordering, is_lt, refl, ap, sym, subst}
use Rattle.std.specs.List.{AllByRecursion, cons_option, filter_map, flat_map}
use Rattle.std.specs.Option.{option_and_then, option_map, option_map_or, option_to_list}
use Rattle.std.specs.Prelude.{IfSome}
use Rattle.gr_base.specs.declared.numbers.RecordId.{RecordId}
use Rattle.gr_base.specs.declared.numbers.TableNo.{TableNo}
use Rattle.gr_drill.specs.Block.{Numbered, numbered_from}
use Rattle.gr_drill.specs.Fits.{IsShown}
use Rattle.gr_drill.specs.Groups.{cell_keys, counted, counted_at, field_keys, firsts, group_of, grouped, is_same_group, reference_key, value_key}
use Rattle.gr_drill.specs.Inside.Legible.{AreLegible, IsLegible}
use Rattle.gr_drill.proofs.GatheredLemmas.{all-append}
use Rattle.gr_drill.specs.declared.drilldown.GroupColumn.{GroupColumn}
use Rattle.gr_expr.specs.Fits.{FitsPath}
use Rattle.gr_expr.specs.Paths.{cell_of_end, end_of, end_table, key_of_end, referred}
use Rattle.gr_expr.specs.Tables.{Records, cell_at, key_at, record_at}
use Rattle.gr_expr.specs.Values.{key_or_none, key_worth, no_key}
use Rattle.gr_expr.specs.declared.groups.Group.{Group}
use Rattle.gr_expr.specs.declared.groups.GroupKey.{GroupKey}
use Rattle.gr_expr.specs.declared.typed.Literal.{Literal}
use Rattle.gr_print.specs.Inside.Legible.{AreKeysLegible}
use Rattle.gr_print.specs.Inside.Legible as cell
use Rattle.gr_print.proofs.LegibleLemmas.{AreKeysLegible-path, cell-legible, key-legible}
use Rattle.gr_sort.specs.Order.{in_order, put}
use Rattle.gr_values.specs.Defaults.{default_of, list_default, plain_default}
use Rattle.gr_values.specs.Shown.{IsKeyText}
use Rattle.gr_values.specs.Types.{is_bool, range_of, text_limit}
use Rattle.gr_values.specs.declared.data_type.DataType.{DataType}
use Rattle.gr_values.specs.declared.data_type.Shape.{Shape}
use Rattle.gr_values.specs.declared.path.Field.{Field}
use Rattle.gr_values.specs.declared.path.Path.{Path}
use Rattle.gr_values.specs.declared.value.Cell.{Cell}
use Rattle.gr_values.specs.declared.value.Key.{Key}

-- the names of columns that can be shown
pub names-text : (tables : List Records) (columns : List GroupColumn) → AllByRecursion (IsShown tables) columns → AllByRecursion (λ column. IsUtf8 column.name) columns
names-text tables [] all = tt
names-text tables (column ∷ columns) all = (all.0.name, names-text tables columns all.1)

-- Lists

all-filter : {X : Type 0} (P : X → Type 0) (keep : X → Bool) (xs : List X) → AllByRecursion P xs → AllByRecursion P (filter keep xs)
all-filter P keep [] all = tt
all-filter P keep (x ∷ xs) all =
    elim (keep x) as (λ b. AllByRecursion P (cond b (x ∷ filter keep xs) (filter keep xs))) [ true ↦ (all.0, all-filter P keep xs all.1) | false ↦ all-filter P keep xs all.1 ]

all-put : {X : Type 0} (P : X → Type 0) (cmp : X → X → Ordering) (ys : List X) (x : X) → AllByRecursion P ys → P x → AllByRecursion P (put cmp ys x)
all-put P cmp [] x all here = (here, tt)
all-put P cmp (y ∷ ys) x all here =
    elim (is_lt (cmp x y)) as (λ b. AllByRecursion P (cond b (x ∷ y ∷ ys) (y ∷ put cmp ys x))) [ true ↦ (here, all) | false ↦ (all.0, all-put P cmp ys x all.1 here) ]

all-fold : {X : Type 0} (P : X → Type 0) (cmp : X → X → Ordering) (xs done : List X) → AllByRecursion P done → AllByRecursion P xs → AllByRecursion P (fold (put cmp) done xs)
all-fold P cmp [] done all more = all
all-fold P cmp (x ∷ xs) done all more = all-fold P cmp xs (put cmp done x) (all-put P cmp done x all more.0) more.1

-- what holds of all holds of all in order
pub all-in_order : {X : Type 0} (P : X → Type 0) (cmp : X → X → Ordering) (xs : List X) → AllByRecursion P xs → AllByRecursion P (in_order cmp xs)
all-in_order P cmp xs all = all-fold P cmp xs [] tt all

pub all-take : {X : Type 0} (P : X → Type 0) (n : ℕ) (xs : List X) → AllByRecursion P xs → AllByRecursion P (take n xs)
all-take P zero xs all = tt
all-take P (suc n) [] all = tt
all-take P (suc n) (x ∷ xs) all = (all.0, all-take P n xs all.1)

pub all-drop : {X : Type 0} (P : X → Type 0) (n : ℕ) (xs : List X) → AllByRecursion P xs → AllByRecursion P (drop n xs)
all-drop P zero xs all = all
all-drop P (suc n) [] all = tt
all-drop P (suc n) (x ∷ xs) all = all-drop P n xs all.1

-- What hits have in common

empty_written : IsUtf8 []
empty_written = search rules

legible-plain : (of : DataType) → cell.IsLegible (plain_default of)
legible-plain of = go (is_bool of) (is_some (range_of of))
  where
    go : (truth number : Bool) → cell.IsLegible (cond truth (Cell.Bool false) (cond number (Cell.Int (pos 0)) (Cell.Text [])))
    go true number = tt
    go false true = tt
    go false false = empty_written

legible-list : (shape : Shape) → cell.IsLegible (list_default shape)
legible-list shape = go shape.reference (is_some (range_of shape.of))
  where
    go : (reference number : Bool) → cell.IsLegible (cond reference (Cell.RefList []) (cond number (Cell.IntList []) (Cell.TextList [])))
    go true number = tt
    go false true = tt
    go false false = tt

legible-default : (shape : Shape) → cell.IsLegible (default_of shape)
legible-default shape = go shape.list shape.reference
  where
    go : (list reference : Bool) → cell.IsLegible (cond list (list_default shape) (cond reference (Cell.Ref (record { 0 = 0 })) (plain_default shape.of)))
    go true reference = legible-list shape
    go false true = tt
    go false false = legible-plain shape.of

-- a key that is there, or none
legible-key : (tables : List Records) (of : DataType) (key : Option Key) → IfSome key IsKeyText → AllByRecursion (IsLegible tables) (option_to_list (option_map value_key (key_or_none of key)))
legible-key tables of (Some (Key.Number number)) text = (tt, tt)
legible-key tables of (Some (Key.Text s)) text = (text, tt)
legible-key tables of None text = by_limit (is_some (text_limit of))
  where
    by_limit : (b : Bool) → AllByRecursion (IsLegible tables) (option_to_list (option_map value_key (cond b (Some (Literal.Text [])) None)))
    by_limit true = (empty_written, tt)
    by_limit false = tt

module _ (tables : List Records) (path : Path) (fits : FitsPath tables path) where
  legible-reference : (to : Option TableNo) → AreKeysLegible tables to → (id : RecordId) → AllByRecursion (IsLegible tables) (option_to_list (reference_key tables to id))
  legible-reference None keys id = tt
  legible-reference (Some table) keys id =
      elim (is_some (record_at tables table id)) as (λ b. AllByRecursion (IsLegible tables) (option_to_list (option_map (GroupKey.Ref table) (cond b (Some id) None)))) [ true ↦ (keys id, tt) | false ↦ tt ]

  legible-references : (to : Option TableNo) → AreKeysLegible tables to → (ids : List RecordId) → AllByRecursion (IsLegible tables) (filter_map (reference_key tables to) ids)
  legible-references to keys [] = tt
  legible-references to keys (id ∷ ids) = go (reference_key tables to id) (legible-reference to keys id) (legible-references to keys ids)
    where
      go : (o : Option GroupKey) → AllByRecursion (IsLegible tables) (option_to_list o) → AllByRecursion (IsLegible tables) (filter_map (reference_key tables to) ids)
          → AllByRecursion (IsLegible tables) (cons_option o (filter_map (reference_key tables to) ids))
      go None one more = more
      go (Some key) one more = (one.0, more)

  legible-numbers : (numbers : List ℤ) → AllByRecursion (IsLegible tables) (map GroupKey.Number numbers)
  legible-numbers [] = tt
  legible-numbers (number ∷ numbers) = (tt, legible-numbers numbers)

  legible-texts : (texts : List (List ℕ)) → AllByRecursion IsUtf8 texts → AllByRecursion (IsLegible tables) (map GroupKey.Text texts)
  legible-texts [] all = tt
  legible-texts (text ∷ texts) all = (all.0, legible-texts texts all.1)

  legible-cell : (to : Option TableNo) → AreKeysLegible tables to → (held : Cell) → cell.IsLegible held → AllByRecursion (IsLegible tables) (cell_keys tables to held)
  legible-cell to keys (Cell.Bool truth) text = (tt, tt)
  legible-cell to keys (Cell.Int number) text = (tt, tt)
  legible-cell to keys (Cell.Text s) text = (text, tt)
  legible-cell to keys (Cell.Ref id) text = legible-reference to keys id
  legible-cell to keys (Cell.RefList ids) text = legible-references to keys ids
  legible-cell to keys (Cell.IntList numbers) text = legible-numbers numbers
  legible-cell to keys (Cell.TextList texts) text = legible-texts texts text

  legible-end : (id : RecordId) (field : Field) → path.last ≡ field → AllByRecursion (IsLegible tables) (field_keys tables id path field)
  legible-end id Field.Id last = (tt, tt)
  legible-end id Field.Key last = legible-key tables path.shape.of (key_of_end tables id path) (key-legible tables path (end_of tables id path) fits last)
  legible-end id (Field.Column column) last =
      legible-cell path.to (AreKeysLegible-path tables path fits) (cell_of_end tables id path column)
      (go (option_and_then (λ end. cell_at tables (end_table path) end column) (end_of tables id path)) (cell-legible tables path (end_of tables id path) column fits last))
    where
      go : (o : Option Cell) → IfSome o cell.IsLegible → cell.IsLegible (option_map_or (λ held. held) o (default_of path.shape))
      go (Some held) text = text
      go None text = legible-default path.shape

  legible-counted : (hits : List (RecordId × ℕ)) → AllByRecursion (IsLegible tables) (counted tables path hits)
  legible-counted [] = tt
  legible-counted (hit ∷ hits) = all-append (IsLegible tables) (counted_at tables hit.0 path) (counted tables path hits) (legible-end hit.0 path.last refl) (legible-counted hits)

legible-firsts : (tables : List Records) (keys : List GroupKey) → AllByRecursion (IsLegible tables) keys → AllByRecursion (IsLegible tables) (firsts keys)
legible-firsts tables [] all = tt
legible-firsts tables (key ∷ keys) all = (all.0, all-filter (IsLegible tables) (λ other. not (is_same_group key other)) (firsts keys) (legible-firsts tables keys all.1))

legible-numbered : (tables : List Records) (all keys : List GroupKey) (n : ℕ) → AllByRecursion (IsLegible tables) keys → AreLegible tables (numbered_from n (map (group_of all) keys))
legible-numbered tables all [] n each = tt
legible-numbered tables all (key ∷ keys) n each = (each.0, legible-numbered tables all keys (n + 1) each.1)

-- the groups of hits can be shown
pub legible-groups : (tables : List Records) (path : Path) → FitsPath tables path → (hits : List (RecordId × ℕ)) → AreLegible tables (numbered_from 1 (grouped (counted tables path hits)))
legible-groups tables path fits hits =
    let keys = counted tables path hits in
    legible-numbered tables keys (firsts keys) 1 (legible-firsts tables keys (legible-counted tables path fits hits))
