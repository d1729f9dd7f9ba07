-- The rows that have been taken, and those that are still to come.
use Rattle.std.proofs.Common.{◌≡◌, ℕ, ◌+◌, List, [], ◌∷◌, ◌++◌, append_assoc, append-nil, Option, Some, None, Ok, Err, refl, sym, ap, ◌∙◌}
use Rattle.serde_json.specs.View.{items_view, view}
use Rattle.serde_json.specs.declared.value.Value.{Value}
use Rattle.gr_base.specs.declared.fault.Fault.{Fault}
use Rattle.gr_schema.specs.Schema.{SchemaDef}
use Rattle.gr_schema.specs.declared.definition.TableDef.{TableDef}
use Rattle.gr_rows.specs.Members.{row_put}
use Rattle.gr_rows.specs.Rows.{row_before, rows_from}
use Rattle.gr_rows.specs.declared.load.LoadRows.{LoadRows}
use Rattle.gr_rows.specs.declared.put.Put.{Put}

-- puts already taken, before what the other rows ask for
abbrev pub after : List Put → LoadRows → LoadRows
after taken others = record { puts = taken ++ others.puts; fault = others.fault }

module _ (schema : SchemaDef) (home : TableDef) (names : Option (List (List ℕ))) where
  -- so many rows have asked for these puts, all is what the rows ask for, and these rows are still to come
  pub record AreTaken (count : ℕ) (puts : List Put) (all : LoadRows) (left : List Value) : Type 0 where
    pub ask : all ≡ after puts (rows_from schema home names (count + 1) (items_view left))

  -- before the first row
  pub AreTaken-none : (values : List Value) → AreTaken 0 [] (rows_from schema home names 1 (items_view values)) values
  AreTaken-none values = record { ask = refl }

  one_more : (puts : List Put) (put : Put) (others : LoadRows) → after puts (row_before (Ok put) others) ≡ after (puts ++ put ∷ []) others
  one_more puts put others = ap (λ all. record { puts = all; fault = others.fault }) (sym (append_assoc puts (put ∷ []) others.puts))

  -- one more row
  pub AreTaken-more : {count : ℕ} {puts : List Put} {all : LoadRows} {value : Value} {left : List Value} (put : Put)
      → row_put schema home names (count + 1) (view value) ≡ Ok put → AreTaken count puts all (value ∷ left) → AreTaken (count + 1) (puts ++ put ∷ []) all left
  AreTaken-more {count = count} {puts = puts} {left = left} put found taken = record {
    ask = taken.ask
        ∙ ap (λ r. after puts (row_before r (rows_from schema home names (count + 1 + 1) (items_view left)))) found
        ∙ one_more puts put (rows_from schema home names (count + 1 + 1) (items_view left));
  }

  -- the next row is refused
  pub AreTaken-refused : {count : ℕ} {puts : List Put} {all : LoadRows} {value : Value} {left : List Value} (why : Fault)
      → row_put schema home names (count + 1) (view value) ≡ Err why → AreTaken count puts all (value ∷ left) → record { puts = puts; fault = Some why } ≡ all
  AreTaken-refused {count = count} {puts = puts} {left = left} why found taken =
      ap (λ all. record { puts = all; fault = Some why }) (sym (append-nil puts))
      ∙ sym (taken.ask ∙ ap (λ r. after puts (row_before r (rows_from schema home names (count + 1 + 1) (items_view left)))) found)

  -- all rows are taken
  pub AreTaken-all : {count : ℕ} {puts : List Put} {all : LoadRows} → AreTaken count puts all [] → record { puts = puts; fault = None } ≡ all
  AreTaken-all {puts = puts} taken = ap (λ all. record { puts = all; fault = None }) (sym (append-nil puts)) ∙ sym taken.ask
