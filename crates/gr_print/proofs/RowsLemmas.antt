-- What is written after a text.
use Rattle.std.proofs.Common.{◌≡◌, ℕ, List, [], ◌∷◌, ◌++◌, map, ap, ◌∙◌}
use Rattle.json.specs.Print.{print, quoted}
use Rattle.json.specs.Token.{Token, string}
use Rattle.json.specs.Written.{Written}
use Rattle.gr_expr.specs.Tables.{Records}
use Rattle.gr_print.specs.Block.{Hit, row_text}
use Rattle.gr_print.specs.Inside.Tokens.{array_of, row_tokens}
use Rattle.gr_print.specs.declared.out_column.OutColumn.{OutColumn}
use Rattle.gr_print.proofs.BlockLemmas.{Shows-row, Shows-string}
use Rattle.gr_print.proofs.PrintLemmas.{Shows-array_of, print-Shows}
use Rattle.gr_values.specs.Shown.{bracketed}
use Rattle.gr_values.specs.Tokens.{Appends}

-- the bytes that a writer gives which held a text before
pub written-after : {old new : Written} {ts : List Token} (text bytes shown : List ℕ) → old.before ≡ text → old.tokens ≡ [] → Appends old new ts
    → bytes ≡ new.before ++ print new.tokens → print ts ≡ shown → bytes ≡ text ++ shown
written-after {old} {new} {ts} text bytes shown holds empty all is prints =
    is ∙ ap (λ held. held ++ print new.tokens) (all.before ∙ holds)
    ∙ ap (λ us. text ++ print us) (all.tokens ∙ ap (λ held. held ++ ts) empty)
    ∙ ap (λ s. text ++ s) prints

-- a row is printed
pub print-row_tokens : (tables : List Records) (columns : List OutColumn) (hit : Hit) → print (row_tokens tables columns hit) ≡ row_text tables columns hit
print-row_tokens tables columns hit = print-Shows _ _ (Shows-row tables columns hit)

-- names are printed
pub print-names : (columns : List OutColumn) → print (array_of (λ column. string column.name ∷ []) columns) ≡ bracketed (map (λ column. quoted column.name) columns)
print-names columns =
    print-Shows _ _ (Shows-array_of (λ (column : OutColumn). string column.name ∷ []) (λ (column : OutColumn). quoted column.name) (λ (column : OutColumn). Shows-string column.name) columns)
