-- The lines of index columns.
use Rattle.std.proofs.Common.{◌≡◌, ℕ, ◌≤◌, Bool, List, [], ◌∷◌, ◌++◌, length, map, take, append_assoc, codes, ap, sym, ◌∙◌}
use Rattle.std.proofs.lemmas.List.{append-nil, take_all}
use Rattle.std.specs.List.{flat_map, join_with_byte}
use Rattle.std.specs.Str.{byte}
use Rattle.gr_base.specs.declared.numbers.TableNo.{TableNo}
use Rattle.gr_dump.specs.Dump.{column_words, index_line_of, sources_text}
use Rattle.gr_dump.specs.Words.{field_name, index_flags, table_name}
use Rattle.gr_schema.specs.Schema.{SchemaDef}
use Rattle.gr_schema.specs.declared.definition.ColumnDef.{ColumnDef}
use Rattle.gr_schema.specs.declared.definition.Role.TheVariants.{Index}
use Rattle.gr_schema.specs.declared.definition.TableDef.{TableDef}
use Rattle.gr_values.specs.declared.path.Field.{Field}

-- the first name, and each other one with the byte before it
join-cons : {X : Type 0} (between : ℕ) (name : X → List ℕ) (x : X) (xs : List X) → join_with_byte between (map name (x ∷ xs)) ≡ name x ++ flat_map (λ other. between ∷ name other) xs
join-cons between name x [] = sym (append-nil (name x))
join-cons between name x (next ∷ xs) = ap (λ rest. name x ++ (between ∷ rest)) (join-cons between name next xs)

-- all names
pub names-joined : (home : TableDef) (fields others : List Field) (first : Field) (n : ℕ) (text one made : List ℕ) → fields ≡ first ∷ others → one ≡ text ++ field_name home first
    → made ≡ one ++ flat_map (λ field. byte "," ∷ field_name home field) (take n others) → length others ≤ n → made ≡ text ++ join_with_byte (byte ",") (map (field_name home) fields)
names-joined home fields others first n text one made all a b end =
    b ∙ ap (λ xs. one ++ flat_map (λ field. byte "," ∷ field_name home field) xs) (take_all n others end)
    ∙ ap (λ t. t ++ flat_map (λ field. byte "," ∷ field_name home field) others) a
    ∙ append_assoc text (field_name home first) (flat_map (λ field. byte "," ∷ field_name home field) others)
    ∙ ap (λ t. text ++ t) (sym (join-cons (byte ",") (field_name home) first others))
    ∙ ap (λ xs. text ++ join_with_byte (byte ",") (map (field_name home) xs)) (sym all)

one_text : (text words space sources feed : List ℕ) → (((text ++ words) ++ space) ++ sources) ++ feed ≡ text ++ (words ++ (space ++ (sources ++ feed)))
one_text text words space sources feed = simp append_assoc

one_line : (home column flags holds sources feed : List ℕ) → (home ++ 32 ∷ (column ++ 32 ∷ (flags ++ 32 ∷ holds))) ++ (32 ∷ (sources ++ feed)) ≡ (home ++ 32 ∷ (column ++ 32 ∷ (flags ++ 32 ∷ (holds ++ 32 ∷ sources)))) ++ feed
one_line home column flags holds sources feed = simp append_assoc

-- an index column
pub index-made : (schema : SchemaDef) (home : TableDef) (column : ColumnDef) (target : TableNo) (sources : List Field) (position section : Bool) (text one two three made : List ℕ)
    → column.role ≡ Index target sources position section
    → one ≡ text ++ join_with_byte (byte " ") (column_words home column (index_flags section position) (table_name schema target))
    → two ≡ one ++ codes " " → three ≡ two ++ sources_text schema target sources → made ≡ three ++ codes "\n" → made ≡ text ++ index_line_of schema home column column.role
index-made schema home column target sources position section text one two three made role a b c d =
    let words : List ℕ = join_with_byte (byte " ") (column_words home column (index_flags section position) (table_name schema target)) in
    d ∙ ap (λ t. t ++ codes "\n") (c ∙ ap (λ t. t ++ sources_text schema target sources) (b ∙ ap (λ t. t ++ codes " ") a))
    ∙ one_text text words (codes " ") (sources_text schema target sources) (codes "\n")
    ∙ ap (λ line. text ++ (codes "column_create " ++ line)) (one_line home.name column.name (index_flags section position) (table_name schema target) (sources_text schema target sources) (codes "\n"))
    ∙ ap (λ role. text ++ index_line_of schema home column role) (sym role)
