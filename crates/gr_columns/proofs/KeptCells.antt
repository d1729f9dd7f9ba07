-- Cells that are kept by kind: look-ups, and what a change of a kind's values sets.
use Rattle.std.proofs.Common.{◌≡◌, ℕ, ℤ, pos, Bool, List, map, get_or, sym, ap, ◌∙◌, subst, inl, inr}
use Rattle.std.specs.Prelude.{◌≢◌}
use Rattle.std.proofs.Math.ListN.{get_or-map}
use Rattle.std.proofs.lemmas.Bool.{cases_eq}
use Rattle.gr_base.specs.declared.numbers.RecordId.{RecordId}
use Rattle.gr_values.specs.declared.data_type.Shape.{Shape}
use Rattle.gr_values.specs.declared.value.Cell.{Cell}
use Rattle.gr_columns.specs.declared.kept.Kept.{Kept}
use Rattle.gr_columns.specs.declared.kept.Kept.TheVariants.{Signed, Unsigned, Truths, Texts, Refs, RefLists, IntLists, TextLists}
use Rattle.gr_values.specs.Fits.{IsCellOf}
use Rattle.gr_columns.specs.Places.{value_at, SetsPlace}
use Rattle.gr_columns.specs.Inside.Kept.{kept_at, IsKeptOf, SetsKept}

module _ {X : Type 0} (f : X → Cell) where
  -- a cell that is made of a value
  pub at_map : (places : X × List X) (i : ℕ) → get_or (map f places.1) i (f places.0) ≡ f (value_at places i)
  at_map places i = get_or-map f places.1 i places.0

  module _ (old new : X × List X) (i : ℕ) (value : X) (cell : Cell) (is : cell ≡ f value) (sets : SetsPlace old new i value) where
    pub map_here : get_or (map f new.1) i (f new.0) ≡ cell
    map_here = at_map new i ∙ ap f sets.here ∙ sym is

    pub map_elsewhere : (other : ℕ) → other ≢ i → get_or (map f new.1) other (f new.0) ≡ get_or (map f old.1) other (f old.0)
    map_elsewhere other differ = at_map new other ∙ ap f (sets.elsewhere other differ) ∙ sym (at_map old other)

pub sets_signed : (old : Kept) (numbers new : ℤ × List ℤ) (i : ℕ) (value : ℤ) (cell : Cell) → old ≡ Signed numbers → cell ≡ Cell.Int value → SetsPlace numbers new i value → SetsKept old (Signed new) i cell
sets_signed old numbers new i value cell was is sets = subst (λ (kept : Kept). SetsKept kept (Signed new) i cell) (sym was) (record { blank = ap Cell.Int sets.default; lanes = λ of h. h; here = map_here Cell.Int numbers new i value cell is sets; elsewhere = map_elsewhere Cell.Int numbers new i value cell is sets })

pub sets_unsigned : (old : Kept) (numbers new : ℕ × List ℕ) (i value : ℕ) (cell : Cell) → old ≡ Unsigned numbers → cell ≡ Cell.Int (pos value) → SetsPlace numbers new i value → SetsKept old (Unsigned new) i cell
sets_unsigned old numbers new i value cell was is sets = subst (λ (kept : Kept). SetsKept kept (Unsigned new) i cell) (sym was) (record { blank = ap (λ number. Cell.Int (pos number)) sets.default; lanes = λ of h. h; here = map_here (λ number. Cell.Int (pos number)) numbers new i value cell is sets; elsewhere = map_elsewhere (λ number. Cell.Int (pos number)) numbers new i value cell is sets })

pub sets_truths : (old : Kept) (truths new : Bool × List Bool) (i : ℕ) (value : Bool) (cell : Cell) → old ≡ Truths truths → cell ≡ Cell.Bool value → SetsPlace truths new i value → SetsKept old (Truths new) i cell
sets_truths old truths new i value cell was is sets = subst (λ (kept : Kept). SetsKept kept (Truths new) i cell) (sym was) (record { blank = ap Cell.Bool sets.default; lanes = λ of h. h; here = map_here Cell.Bool truths new i value cell is sets; elsewhere = map_elsewhere Cell.Bool truths new i value cell is sets })

pub sets_texts : (old : Kept) (texts new : List ℕ × List (List ℕ)) (i : ℕ) (value : List ℕ) (cell : Cell) → old ≡ Texts texts → cell ≡ Cell.Text value → SetsPlace texts new i value → SetsKept old (Texts new) i cell
sets_texts old texts new i value cell was is sets = subst (λ (kept : Kept). SetsKept kept (Texts new) i cell) (sym was) (record { blank = ap Cell.Text sets.default; lanes = λ of h. h; here = map_here Cell.Text texts new i value cell is sets; elsewhere = map_elsewhere Cell.Text texts new i value cell is sets })

pub sets_refs : (old : Kept) (ids new : RecordId × List RecordId) (i : ℕ) (value : RecordId) (cell : Cell) → old ≡ Refs ids → cell ≡ Cell.Ref value → SetsPlace ids new i value → SetsKept old (Refs new) i cell
sets_refs old ids new i value cell was is sets = subst (λ (kept : Kept). SetsKept kept (Refs new) i cell) (sym was) (record { blank = ap Cell.Ref sets.default; lanes = λ of h. h; here = map_here Cell.Ref ids new i value cell is sets; elsewhere = map_elsewhere Cell.Ref ids new i value cell is sets })

pub sets_ref_lists : (old : Kept) (lists new : List RecordId × List (List RecordId)) (i : ℕ) (value : List RecordId) (cell : Cell) → old ≡ RefLists lists → cell ≡ Cell.RefList value → SetsPlace lists new i value → SetsKept old (RefLists new) i cell
sets_ref_lists old lists new i value cell was is sets = subst (λ (kept : Kept). SetsKept kept (RefLists new) i cell) (sym was) (record { blank = ap Cell.RefList sets.default; lanes = λ of h. h; here = map_here Cell.RefList lists new i value cell is sets; elsewhere = map_elsewhere Cell.RefList lists new i value cell is sets })

pub sets_int_lists : (old : Kept) (lists new : List ℤ × List (List ℤ)) (i : ℕ) (value : List ℤ) (cell : Cell) → old ≡ IntLists lists → cell ≡ Cell.IntList value → SetsPlace lists new i value → SetsKept old (IntLists new) i cell
sets_int_lists old lists new i value cell was is sets = subst (λ (kept : Kept). SetsKept kept (IntLists new) i cell) (sym was) (record { blank = ap Cell.IntList sets.default; lanes = λ of h. h; here = map_here Cell.IntList lists new i value cell is sets; elsewhere = map_elsewhere Cell.IntList lists new i value cell is sets })

pub sets_text_lists : (old : Kept) (lists new : List (List ℕ) × List (List (List ℕ))) (i : ℕ) (value : List (List ℕ)) (cell : Cell) → old ≡ TextLists lists → cell ≡ Cell.TextList value → SetsPlace lists new i value → SetsKept old (TextLists new) i cell
sets_text_lists old lists new i value cell was is sets = subst (λ (kept : Kept). SetsKept kept (TextLists new) i cell) (sym was) (record { blank = ap Cell.TextList sets.default; lanes = λ of h. h; here = map_here Cell.TextList lists new i value cell is sets; elsewhere = map_elsewhere Cell.TextList lists new i value cell is sets })

-- what is kept is for the shape after a cell of it was set
pub kept_set : (shape : Shape) (old new : Kept) (i : ℕ) (cell : Cell) → IsKeptOf shape old → IsCellOf shape cell → SetsKept old new i cell → IsKeptOf shape new
kept_set shape old new i cell are is sets = record {
  blank = sets.blank ∙ are.blank;
  lanes = sets.lanes shape.of are.lanes;
  fits = λ n. elim (cases_eq n i) as (λ _. IsCellOf shape (kept_at new n)) [
    | inl same ↦ subst (IsCellOf shape) (sym (ap (kept_at new) same ∙ sets.here)) is
    | inr differ ↦ subst (IsCellOf shape) (sym (sets.elsewhere n differ)) (are.fits n)
  ];
}
