-- The head of a load.
use Rattle.std.proofs.Common.{◌≡◌, ℕ, List, ◌∷◌, ◌++◌, map, append_assoc, codes, ap, ◌∙◌}
use Rattle.std.specs.Str.{byte}
use Rattle.json.specs.Print.{quoted}
use Rattle.gr_dump.specs.Inside.Begun.{head}
use Rattle.gr_print.specs.declared.out_column.OutColumn.{OutColumn}
use Rattle.gr_schema.specs.declared.definition.TableDef.{TableDef}
use Rattle.gr_values.specs.Shown.{bracketed}

-- the names of columns
abbrev pub names_of : List OutColumn → List ℕ
names_of columns = bracketed (map (λ column. quoted column.name) columns)

one_text : (text load name begins names close : List ℕ) → ((((text ++ load) ++ name) ++ begins) ++ names) ++ close ≡ text ++ (load ++ (name ++ (begins ++ (names ++ close))))
one_text text load name begins names close = simp append_assoc

three_lines : (name feed begins names comma : List ℕ) → name ++ ((feed ++ begins) ++ (names ++ (comma ++ feed))) ≡ ((name ++ feed) ++ begins) ++ ((names ++ comma) ++ feed)
three_lines name feed begins names comma = simp append_assoc

pub head-made : (home : TableDef) (columns : List OutColumn) (text one two three four made : List ℕ) → one ≡ text ++ codes "load --table" → two ≡ one ++ byte " " ∷ home.name
    → three ≡ two ++ codes "\n[\n" → four ≡ three ++ names_of columns → made ≡ four ++ codes ",\n" → made ≡ text ++ head home columns
head-made home columns text one two three four made a b c d e =
    e ∙ ap (λ t. t ++ codes ",\n") (d ∙ ap (λ t. t ++ names_of columns) (c ∙ ap (λ t. t ++ codes "\n[\n") (b ∙ ap (λ t. t ++ byte " " ∷ home.name) a)))
    ∙ one_text text (codes "load --table") (byte " " ∷ home.name) (codes "\n[\n") (names_of columns) (codes ",\n")
    ∙ ap (λ rest. text ++ (codes "load --table" ++ byte " " ∷ rest)) (three_lines home.name (codes "\n") (codes "[\n") (names_of columns) (codes ","))
