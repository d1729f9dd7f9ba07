-- Loads, of which the rows are written one after the other.
use Rattle.std.proofs.Common.{◌≡◌, ℕ, suc, ◌+◌, ◌<◌, Bool, true, false, cond, List, [], ◌∷◌, ◌++◌, length, take, get_or, Option, Some, None, is_some, append_assoc, arith, codes, refl, ap, sym, ◌∙◌}
use Rattle.std.proofs.lemmas.List.{append-nil, length-take-le, take_more}
use Rattle.std.proofs.lemmas.Option.{slice_get-get_or}
use Rattle.std.specs.Option.{option_flatten}
use Rattle.gr_dump.specs.Inside.Begun.{head, is_later, lead, led}
use Rattle.gr_dump.specs.Loads.{load_of, row_lines, rows_from}
use Rattle.gr_expr.specs.Tables.{Record, Records, record_id, record_in}
use Rattle.gr_print.specs.Block.{row_text}
use Rattle.gr_print.specs.declared.out_column.OutColumn.{OutColumn}
use Rattle.gr_schema.specs.declared.definition.TableDef.{TableDef}

-- a row after others
later-true : (rows : List (List ℕ)) → is_later true rows ≡ true
later-true [] = refl
later-true (row ∷ rows) = refl

pub is_later-more : (later : Bool) (rows : List (List ℕ)) (row : List ℕ) → is_later later (rows ++ row ∷ []) ≡ true
is_later-more later [] row = refl
is_later-more later (first ∷ rows) row = refl

regrouped : (start row rest feed end : List ℕ) → (start ++ ((row ++ rest) ++ feed)) ++ end ≡ ((start ++ row) ++ rest) ++ (feed ++ end)
regrouped start row rest feed end = simp append_assoc

module _ (home : TableDef) (columns : List OutColumn) where
  led-more : (later : Bool) (rows : List (List ℕ)) (row : List ℕ)
      → led home columns later (rows ++ row ∷ []) ≡ led home columns later rows ++ (lead home columns (is_later later rows) ++ row)
  led-more later [] row = append-nil (lead home columns later ++ row)
  led-more later (first ∷ rows) row =
      ap (λ rest. (lead home columns later ++ first) ++ rest) (led-more true rows row ∙ ap (λ b. led home columns true rows ++ (lead home columns b ++ row)) (later-true rows))
      ∙ sym (append_assoc (lead home columns later ++ first) (led home columns true rows) (lead home columns true ++ row))

  -- rows as lines
  rows-end : (row : List ℕ) (rows : List (List ℕ)) → row_lines (row ∷ rows) ≡ (row ++ led home columns true rows) ++ codes "\n"
  rows-end row [] = ap (λ text. text ++ codes "\n") (sym (append-nil row))
  rows-end row (next ∷ rows) =
      ap (λ rest. ((row ++ codes ",") ++ codes "\n") ++ rest) (rows-end next rows)
      ∙ simp append_assoc

  -- the rows of a load, and its end
  load_of-led : (rows : List (List ℕ)) → load_of home columns rows ≡ led home columns false rows ++ cond (is_later false rows) (codes "\n]\n") []
  load_of-led [] = refl
  load_of-led (row ∷ rows) =
      ap (λ lines. (head home columns ++ lines) ++ codes "]\n") (rows-end row rows)
      ∙ regrouped (head home columns) row (led home columns true rows) (codes "\n") (codes "]\n")

  pub load-ended : (rows : List (List ℕ)) (later : Bool) (before held made : List ℕ) → later ≡ is_later false rows → held ≡ before ++ led home columns false rows
      → made ≡ held ++ cond later (codes "\n]\n") [] → made ≡ before ++ load_of home columns rows
  load-ended rows later before held made known so_far ends =
      ends ∙ ap (λ text. text ++ cond later (codes "\n]\n") []) so_far
      ∙ append_assoc before (led home columns false rows) (cond later (codes "\n]\n") [])
      ∙ ap (λ b. before ++ (led home columns false rows ++ cond b (codes "\n]\n") [])) known
      ∙ ap (λ text. before ++ text) (sym (load_of-led rows))

  -- one row more is written
  pub load-more : (rows others : List (List ℕ)) (row : List ℕ) (later : Bool) (before held made : List ℕ) → later ≡ is_later false rows → held ≡ before ++ led home columns false rows
      → others ≡ rows ++ row ∷ [] → made ≡ held ++ (lead home columns later ++ row) → made ≡ before ++ led home columns false others
  load-more rows others row later before held made known so_far more one =
      one ∙ ap (λ text. text ++ (lead home columns later ++ row)) so_far
      ∙ append_assoc before (led home columns false rows) (lead home columns later ++ row)
      ∙ ap (λ b. before ++ (led home columns false rows ++ (lead home columns b ++ row))) known
      ∙ ap (λ text. before ++ text) (sym (led-more false rows row) ∙ ap (led home columns false) (sym more))

-- records and more records after them
rows_from-append : (tables : List Records) (columns : List OutColumn) (n m : ℕ) (xs ys : Records) → m ≡ n + length xs
    → rows_from tables columns n (xs ++ ys) ≡ rows_from tables columns n xs ++ rows_from tables columns m ys
rows_from-append tables columns n m [] ys at = let same : n ≡ m = omega arith in ap (λ k. rows_from tables columns k ys) same
rows_from-append tables columns n m (None ∷ xs) ys at = rows_from-append tables columns (n + 1) m xs ys (omega arith)
rows_from-append tables columns n m (Some found ∷ xs) ys at =
    ap (λ rest. row_text tables columns (record_id n, 0) ∷ rest) (rows_from-append tables columns (n + 1) m xs ys (omega arith))

module _ (tables : List Records) (columns : List OutColumn) (records : Records) (n : ℕ) (here : n < length records) where
  -- the record of the next id
  next_is : record_in records (n + 1) ≡ get_or records n None
  next_is =
      let e : n + 1 ≡ suc n = omega arith in
      ap (record_in records) e ∙ ap option_flatten (slice_get-get_or records n None here)

  rows-next : (found : Option Record) → get_or records n None ≡ found
      → rows_from tables columns 1 (take (n + 1) records) ≡ rows_from tables columns 1 (take n records) ++ rows_from tables columns (n + 1) (found ∷ [])
  rows-next found is =
      let long : length (take n records) ≡ n = length-take-le n records (omega arith) in
      ap (rows_from tables columns 1) (take_more records n None here ∙ ap (λ x. take n records ++ x ∷ []) is)
      ∙ rows_from-append tables columns 1 (n + 1) (take n records) (found ∷ []) (omega arith)

  -- one record more: a row where it is there
  pub rows-dead : is_some (record_in records (n + 1)) ≡ false → rows_from tables columns 1 (take (n + 1) records) ≡ rows_from tables columns 1 (take n records)
  rows-dead dead = go (get_or records n None) refl (ap is_some (sym next_is) ∙ dead)
    where
      go : (found : Option Record) → get_or records n None ≡ found → is_some found ≡ false → rows_from tables columns 1 (take (n + 1) records) ≡ rows_from tables columns 1 (take n records)
      go None is none = rows-next None is ∙ append-nil (rows_from tables columns 1 (take n records))
      go (Some found) is none = absurd (cc)

  pub rows-alive : is_some (record_in records (n + 1)) ≡ true
      → rows_from tables columns 1 (take (n + 1) records) ≡ rows_from tables columns 1 (take n records) ++ row_text tables columns (record_id (n + 1), 0) ∷ []
  rows-alive alive = go (get_or records n None) refl (ap is_some (sym next_is) ∙ alive)
    where
      go : (found : Option Record) → get_or records n None ≡ found → is_some found ≡ true
          → rows_from tables columns 1 (take (n + 1) records) ≡ rows_from tables columns 1 (take n records) ++ row_text tables columns (record_id (n + 1), 0) ∷ []
      go None is some = absurd (cc)
      go (Some found) is some = rows-next (Some found) is
