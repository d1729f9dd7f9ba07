-- What the tokens of a block print.
use Rattle.std.proofs.Common.{◌≡◌, ℕ, ℤ, Bool, true, false, cond, List, [], ◌∷◌, ◌++◌, map, Option, Some, None, codes, is_some, append_assoc, refl, ap, subst}
use Rattle.std.specs.Fmt.{decimal, signed_decimal}
use Rattle.std.specs.List.{flat_map}
use Rattle.std.specs.Option.{option_and_then, option_map_or}
use Rattle.json.specs.Print.{print, quoted}
use Rattle.json.specs.Token.{Token, begin_array, boolean, end_array, null, number, string}
use Rattle.gr_base.specs.declared.numbers.RecordId.{RecordId}
use Rattle.gr_expr.specs.Paths.{end_of, end_table}
use Rattle.gr_expr.specs.Tables.{Records, key_at}
use Rattle.gr_print.specs.Block.{Hit, block, column_text, item_text, item_type, row_text}
use Rattle.gr_print.specs.Inside.Tokens.{array_of, block_tokens, column_tokens, field_tokens, item_tokens, key_or_empty, row_tokens}
use Rattle.gr_print.specs.Shown.{field_text}
use Rattle.gr_print.specs.declared.out_column.OutColumn.{OutColumn}
use Rattle.gr_print.specs.declared.out_column.OutItem.{OutItem}
use Rattle.gr_print.specs.declared.out_column.OutItem.TheVariants.{At, Score}
use Rattle.gr_print.proofs.PrintLemmas.{Shows, ShowsEach-map, ShowsEach-none, ShowsEach-one, ShowsEach-tokens, Shows-array, Shows-array_of, Shows-token, print-Shows}
use Rattle.gr_schema.specs.Schema.{SchemaDef}
use Rattle.gr_values.specs.Shown.{bracketed, empty_reference, given_text, key_text, truth_text}
use Rattle.gr_values.specs.Tokens.{array_tokens, empty_token, given_tokens, key_token, number_token}
use Rattle.gr_values.specs.Types.{text_limit}
use Rattle.gr_values.specs.declared.data_type.DataType.{DataType}
use Rattle.gr_values.specs.declared.path.Field.{Field}
use Rattle.gr_values.specs.declared.path.Path.{Path}
use Rattle.gr_values.specs.declared.value.Given.{Given}
use Rattle.gr_values.specs.declared.value.Key.{Key}

pub Shows-number : (z : ℤ) → Shows (number_token z ∷ []) (signed_decimal z)
Shows-number z = Shows-token (number_token z) (signed_decimal z) refl refl refl

pub Shows-count : (n : ℕ) → Shows (number (decimal n) ∷ []) (decimal n)
Shows-count n = Shows-token (number (decimal n)) (decimal n) refl refl refl

pub Shows-string : (s : List ℕ) → Shows (string s ∷ []) (quoted s)
Shows-string s = Shows-token (string s) (quoted s) refl refl refl

Shows-key : (key : Key) → Shows (key_token key ∷ []) (key_text key)
Shows-key (Key.Number z) = Shows-number z
Shows-key (Key.Text s) = Shows-string s

pub Shows-truth : (b : Bool) → Shows (boolean b ∷ []) (truth_text b)
Shows-truth true = Shows-token (boolean true) (truth_text true) refl refl refl
Shows-truth false = Shows-token (boolean false) (truth_text false) refl refl refl

Shows-empty : (of : DataType) → Shows (empty_token (Some of) ∷ []) (empty_reference (Some of))
Shows-empty of = by_limit (is_some (text_limit of))
  where
    by_limit : (b : Bool) → Shows (cond b (string []) null ∷ []) (cond b (codes "\"\"") (codes "null"))
    by_limit true = Shows-token (string []) (codes "\"\"") refl refl refl
    by_limit false = Shows-token null (codes "null") refl refl refl

Shows-list : {X : Type 0} (token : X → Token) (text : X → List ℕ) (shows : (x : X) → Shows (token x ∷ []) (text x)) (xs : List X) → Shows (array_tokens (map token xs)) (bracketed (map text xs))
Shows-list token text shows xs = Shows-array (map token xs) (map text xs) (ShowsEach-tokens token text shows xs)

Shows-given : (of : DataType) (given : Given) → Shows (given_tokens (Some of) given) (given_text (Some of) given)
Shows-given of (Given.Bool b) = Shows-truth b
Shows-given of (Given.Int z) = Shows-number z
Shows-given of (Given.Text s) = Shows-string s
Shows-given of (Given.Ref None) = Shows-empty of
Shows-given of (Given.Ref (Some key)) = Shows-key key
Shows-given of (Given.RefList keys) = Shows-list key_token key_text Shows-key keys
Shows-given of (Given.IntList zs) = Shows-list number_token signed_decimal Shows-number zs
Shows-given of (Given.TextList texts) = Shows-list string quoted Shows-string texts

pub Shows-key_or_empty : (of : DataType) (key : Option Key) → Shows (key_or_empty of key ∷ []) (option_map_or key_text key (empty_reference (Some of)))
Shows-key_or_empty of None = Shows-empty of
Shows-key_or_empty of (Some key) = Shows-key key

pub Shows-field : (tables : List Records) (id : RecordId) (path : Path) (field : Field) → Shows (field_tokens tables (end_of tables id path) path field) (field_text tables id path field)
Shows-field tables id path Field.Id = Shows-count _
Shows-field tables id path Field.Key = Shows-key_or_empty path.shape.of (option_and_then (key_at tables (end_table path)) (end_of tables id path))
Shows-field tables id path (Field.Column column) = Shows-given path.shape.of _

Shows-item : (tables : List Records) (hit : Hit) (item : OutItem) → Shows (item_tokens tables hit item) (item_text tables hit item)
Shows-item tables hit (At path) = Shows-field tables hit.0 path path.last
Shows-item tables hit Score = Shows-count hit.1

pub Shows-row : (tables : List Records) (columns : List OutColumn) (hit : Hit) → Shows (row_tokens tables columns hit) (row_text tables columns hit)
Shows-row tables columns hit =
    Shows-array_of (λ column. item_tokens tables hit column.item) (λ column. item_text tables hit column.item) (λ column. Shows-item tables hit column.item) columns

Shows-column : (schema : SchemaDef) (column : OutColumn) → Shows (column_tokens schema column) (column_text schema column)
Shows-column schema column =
    Shows-array (string column.name ∷ string (item_type schema column.item) ∷ []) (quoted column.name ∷ quoted (item_type schema column.item) ∷ [])
    (ShowsEach-one (string column.name ∷ []) (string (item_type schema column.item) ∷ []) _ _ (Shows-string column.name)
    (ShowsEach-one (string (item_type schema column.item) ∷ []) [] _ _ (Shows-string (item_type schema column.item)) ShowsEach-none))

-- the parts of a block
Shows-block : (schema : SchemaDef) (tables : List Records) (columns : List OutColumn) (found : ℕ) (shown : List Hit)
    → Shows (block_tokens schema tables columns found shown) (block schema tables columns found shown)
Shows-block schema tables columns found shown =
    let head : List Token = begin_array ∷ number (decimal found) ∷ end_array ∷ [] in
    let names : List Token = array_of (column_tokens schema) columns in
    let rows : List Token = flat_map (row_tokens tables columns) shown in
    let all = Shows-array (head ++ (names ++ rows)) _
    (ShowsEach-one head (names ++ rows) _ _
    (Shows-array (number (decimal found) ∷ []) (decimal found ∷ []) (ShowsEach-one (number (decimal found) ∷ []) [] _ _ (Shows-count found) ShowsEach-none))
    (ShowsEach-one names rows _ _ (Shows-array_of (column_tokens schema) (column_text schema) (Shows-column schema) columns)
    (ShowsEach-map (row_tokens tables columns) (row_text tables columns) (Shows-row tables columns) shown))) in
    subst (λ ts. Shows ts (block schema tables columns found shown)) (ap (λ ts. begin_array ∷ (head ++ ts)) (append_assoc names rows (end_array ∷ []))) all

-- a block is printed
pub print-block_tokens : (schema : SchemaDef) (tables : List Records) (columns : List OutColumn) (found : ℕ) (shown : List Hit)
    → print (block_tokens schema tables columns found shown) ≡ block schema tables columns found shown
print-block_tokens schema tables columns found shown = print-Shows _ _ (Shows-block schema tables columns found shown)
