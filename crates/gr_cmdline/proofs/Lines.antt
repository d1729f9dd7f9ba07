-- How the lines of a text stand in it, and that the items of a text's beginning begin the text's items.
use Rattle.std.proofs.Common.{◌≡◌, ℕ, ◌<◌, Bool, true, false, Option, Some, None, List, [], ◌∷◌, ◌++◌, length, option_to_list, refl, ap, sym, ◌∙◌, append_assoc, arith}
use Rattle.std.specs.List.{All, slice_split}
use Rattle.std.proofs.lemmas.List.{append-nil}
use Rattle.std.proofs.lemmas.List.Elements.{All-nil, All-push}
use Rattle.std.proofs.lemmas.List.Splits.{slice_split_at, slice_split_none, length-slice_split}
use Rattle.std.proofs.lemmas.Bool.{eqb-true}
use Rattle.gr_cmdline.specs.Commands.{AreFirst, is_line_end, items_behind, items_of_lines, outcome_of, unfinished}
use Rattle.gr_cmdline.specs.Line.{without_return}
use Rattle.gr_cmdline.specs.LoadData.{Waiting}

items_of_lines-cons : (limit : ℕ) (load : Option Waiting) (line : List ℕ) (lines : List (List ℕ)) (ended : Bool) → 0 < length lines
    → items_of_lines limit load (line ∷ lines) ended ≡ option_to_list (outcome_of limit load (without_return line)).item ++ items_of_lines limit (outcome_of limit load (without_return line)).load lines ended
items_of_lines-cons limit load line [] ended some = absurd (omega arith)
items_of_lines-cons limit load line (next ∷ others) ended some = refl

-- a line that ends is read first, and then the rest
pub items_behind-line : (limit : ℕ) (load : Option Waiting) (line rest : List ℕ) (ended : Bool) → All (λ c. is_line_end c ≡ false) line
    → items_behind limit load (line ++ 10 ∷ rest) ended ≡ option_to_list (outcome_of limit load (without_return line)).item ++ items_behind limit (outcome_of limit load (without_return line)).load rest ended
items_behind-line limit load line rest ended none =
    ap (λ lines. items_of_lines limit load lines ended) (slice_split_at is_line_end line 10 rest none refl)
    ∙ items_of_lines-cons limit load line (slice_split is_line_end rest) ended (omega (arith, length-slice_split is_line_end rest))

-- the last line needs no line feed
pub items_behind-last : (limit : ℕ) (load : Option Waiting) (line : List ℕ) → All (λ c. is_line_end c ≡ false) line → items_behind limit load line true ≡ option_to_list (outcome_of limit load line).item ++ unfinished (outcome_of limit load line).load
items_behind-last limit load line none = ap (λ lines. items_of_lines limit load lines true) (slice_split_none is_line_end line none)

-- a line that can go on gives nothing yet
pub items_behind-open : (limit : ℕ) (load : Option Waiting) (line : List ℕ) → All (λ c. is_line_end c ≡ false) line → items_behind limit load line false ≡ []
items_behind-open limit load line none = ap (λ lines. items_of_lines limit load lines false) (slice_split_none is_line_end line none)

-- at the end of a text a load that waits is unfinished
pub items_behind-end : (limit : ℕ) (load : Option Waiting) → items_behind limit load [] true ≡ unfinished load
items_behind-end limit None = refl
items_behind-end limit (Some waiting) = refl

prefix_past : (limit : ℕ) (load : Option Waiting) (line bytes more : List ℕ) (ended : Bool) → All (λ c. is_line_end c ≡ false) line
    → AreFirst (items_behind limit (outcome_of limit load (without_return line)).load bytes false) (items_behind limit (outcome_of limit load (without_return line)).load (bytes ++ more) ended)
    → AreFirst (items_behind limit load (line ++ 10 ∷ bytes) false) (items_behind limit load (line ++ (10 ∷ (bytes ++ more))) ended)
prefix_past limit load line bytes more ended none (rest, same) =
    let t = outcome_of limit load (without_return line) in (
      rest,
      items_behind-line limit load line (bytes ++ more) ended none
          ∙ ap (λ items. option_to_list t.item ++ items) same
          ∙ sym (append_assoc (option_to_list t.item) (items_behind limit t.load bytes false) rest)
          ∙ ap (λ items. items ++ rest) (sym (items_behind-line limit load line bytes false none)),
    )

prefix_from : (limit : ℕ) (load : Option Waiting) (line bytes more : List ℕ) (ended : Bool) → All (λ c. is_line_end c ≡ false) line
    → AreFirst (items_behind limit load (line ++ bytes) false) (items_behind limit load (line ++ (bytes ++ more)) ended)
prefix_from limit load line [] more ended none = (items_behind limit load (line ++ more) ended, let e : items_behind limit load (line ++ []) false ≡ [] = rw append-nil (items_behind-open limit load line none) in rw e)
prefix_from limit load line (c ∷ bytes) more ended none =
    elim (is_line_end c) as (λ b. is_line_end c ≡ b → AreFirst (items_behind limit load (line ++ c ∷ bytes) false) (items_behind limit load (line ++ (c ∷ (bytes ++ more))) ended)) [
      | true ↦ λ e. rw (eqb-true c 10 e) (prefix_past limit load line bytes more ended none (prefix_from limit (outcome_of limit load (without_return line)).load [] bytes more ended (All-nil (λ x. is_line_end x ≡ false))))
      | false ↦ λ e.
          let longer = prefix_from limit load (line ++ c ∷ []) bytes more ended (All-push (λ x. is_line_end x ≡ false) line c none e) in
          rw (append_assoc line (c ∷ []) (bytes ++ more), append_assoc line (c ∷ []) bytes) at longer
    ] refl

-- the items of a beginning, without its end, begin the items of the whole
pub items_behind-prefix : (limit : ℕ) (load : Option Waiting) (bytes more : List ℕ) (ended : Bool) → AreFirst (items_behind limit load bytes false) (items_behind limit load (bytes ++ more) ended)
items_behind-prefix limit load bytes more ended = prefix_from limit load [] bytes more ended (All-nil (λ x. is_line_end x ≡ false))
