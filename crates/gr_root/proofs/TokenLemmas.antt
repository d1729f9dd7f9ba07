-- What texts want in lexicons: each token is a key of the lexicon.
use Rattle.std.proofs.Common.{◌≡◌, ℕ, ◌+◌, ◌<◌, ◌≤◌, ◌&&◌, zero, suc, Bool, true, false, cond, nat_lt, nat_le, Option, Some, None, is_some, List, [], ◌∷◌, ◌++◌, drop, filter, get_or, length, length-append, map, take, refl, ap, sym, ◌∙◌, arith, subst}
use Rattle.std.proofs.lemmas.Bool.{eqb-true}
use Rattle.std.proofs.lemmas.Bool.Decides.{nat_tests}
use Rattle.std.proofs.lemmas.List.{length-drop}
use Rattle.std.proofs.lemmas.List.Splits.{slice_split_first}
use Rattle.std.proofs.lemmas.List.Sums.{fails_before_first, passes_at_first}
use Rattle.std.proofs.lemmas.Str.{IsCharBoundary-after_ascii, IsCharBoundary-before_ascii, IsUtf8-append, IsUtf8-drop, IsUtf8-encode, IsUtf8-take, len_utf8_bounds, length-encode, scalars-chars}
use Rattle.std.specs.List.{AllByRecursion, filter_map, flat_map, position_or_len, slice_split}
use Rattle.std.specs.Option.{option_and_then, option_map_or}
use Rattle.std.specs.Prelude.{IfSome, IsUtf8, MatchOption, encode_utf8}
use Rattle.std.specs.Char.{IsScalar}
use Rattle.std.specs.Str.{chars}
use Rattle.std.proofs.Math.Utf8.{scalar, scalars}
use Rattle.gr_base.specs.declared.numbers.ColumnNo.{ColumnNo}
use Rattle.gr_base.specs.declared.numbers.TableNo.{TableNo}
use Rattle.gr_db.specs.Db.{Db}
use Rattle.gr_db.specs.Entry.{AreReadable, IsReadable, IsReadableGiven, IsReadableNew, IsReadableSetting, IsReadableTarget}
use Rattle.gr_db.specs.Keys.{IsKeyFor}
use Rattle.gr_db.specs.Wants.{Setting, by_column, index_wants, indexes_on, key_wants, new_index_wants, setting_wants, source_wants, text_in, text_of_key, text_wants, token_wants}
use Rattle.gr_db.specs.declared.want.Added.{Added}
use Rattle.gr_db.specs.declared.want.Want.{Want}
use Rattle.gr_expr.specs.Tables.{Record, Records, record_id, record_in, records_of}
use Rattle.gr_root.specs.Inside.Walk.{IsWantFor}
use Rattle.gr_root.proofs.FitLemmas.{all-append, all-by_column, all-flat_map}
use Rattle.gr_schema.specs.Fields.{is_short_text}
use Rattle.gr_schema.specs.Schema.{SchemaDef, table_at}
use Rattle.gr_schema.specs.Sound.{IsSound}
use Rattle.gr_schema.specs.declared.definition.Role.{Role}
use Rattle.gr_schema.specs.declared.definition.Role.TheVariants.{Scalar, Vector, Index}
use Rattle.gr_schema.specs.declared.definition.TableDef.{TableDef}
use Rattle.gr_tokens.specs.Tokens.{bigrams, is_space, is_word, tokens, words}
use Rattle.gr_tokens.specs.declared.tokenizer.Tokenizer.{Tokenizer}
use Rattle.gr_tokens.specs.declared.tokenizer.Tokenizer.TheVariants.{Delimit, Bigram}
use Rattle.gr_values.specs.Fits.{IsKeyOf, IsTextKey}
use Rattle.gr_values.specs.declared.data_type.DataType.{DataType}
use Rattle.gr_values.specs.declared.data_type.DataType.TheVariants.{Bool as Truth, Int8, Int16, Int32, Int64, UInt8, UInt16, UInt32, UInt64, ShortText, Text, LongText}
use Rattle.gr_values.specs.declared.path.Field.{Field}
use Rattle.gr_values.specs.declared.value.Given.{Given}
use Rattle.gr_values.specs.declared.value.Key.{Key}

both-true : (a b : Bool) → (a && b) ≡ true → (a ≡ true) × (b ≡ true)
both-true true true is = (refl, refl)
both-true true false is = absurd cc
both-true false b is = absurd cc

-- Words

-- the whole text where no byte is a space
one-piece : (text : List ℕ) → ((k : ℕ) → k < length text → is_space (get_or text k 0) ≡ false) → slice_split is_space text ≡ text ∷ []
one-piece [] none = refl
one-piece (byte ∷ text) none =
    let first : is_space byte ≡ false = none 0 (omega arith) in
    let rest : slice_split is_space text ≡ text ∷ [] = one-piece text (λ k below. none (suc k) (omega arith)) in
    cc

-- the pieces of a text, by whether it has a space
pieces-by : (text : List ℕ) (b : Bool) → nat_lt (position_or_len is_space text) (length text) ≡ b
    → ((more : List ℕ) → length more < length text → IsUtf8 more → AllByRecursion IsUtf8 (slice_split is_space more))
    → IsUtf8 text → AllByRecursion IsUtf8 (slice_split is_space text)
pieces-by text true is pieces utf8 =
    let k = position_or_len is_space text in
    let below : k < length text = grind (arith, nat_tests) in
    let space : get_or text k 0 ≡ 32 = eqb-true _ _ (passes_at_first is_space text 0 below) in
    let ascii : get_or text k 0 < 128 = omega arith in
    let front : IsUtf8 (take k text) = IsUtf8-take text k utf8 (IsCharBoundary-before_ascii text k below ascii) in
    let back : IsUtf8 (drop (k + 1) text) = IsUtf8-drop text (k + 1) utf8 (IsCharBoundary-after_ascii text k utf8 below ascii) in
    let shorter : length (drop (k + 1) text) < length text = omega (arith, length-drop (k + 1) text) in
    subst (AllByRecursion IsUtf8) (sym (slice_split_first is_space text 0 below)) (front, pieces (drop (k + 1) text) shorter back)
pieces-by text false is pieces utf8 =
    let far : length text ≤ position_or_len is_space text = grind (arith, nat_tests) in
    let none : (k : ℕ) → k < length text → is_space (get_or text k 0) ≡ false = λ k below. fails_before_first is_space text k 0 (omega arith) in
    subst (AllByRecursion IsUtf8) (sym (one-piece text none)) (utf8, tt)

pieces-within : (most : ℕ) (text : List ℕ) → length text < most → IsUtf8 text → AllByRecursion IsUtf8 (slice_split is_space text)
pieces-within zero text within utf8 = absurd (omega arith)
pieces-within (suc most) text within utf8 =
    pieces-by text (nat_lt (position_or_len is_space text) (length text)) refl (λ more shorter good. pieces-within most more (omega arith) good) utf8

word-key : (piece : List ℕ) → IsUtf8 piece → is_word piece ≡ true → IsTextKey ShortText piece
word-key piece utf8 is =
    let both = both-true (nat_le 1 (length piece)) (nat_le (length piece) 4096) is in
    let low : nat_le 1 (length piece) ≡ true = both.0 in
    let high : nat_le (length piece) 4096 ≡ true = both.1 in
    record { short = refl; utf8 = utf8; given = grind (arith, nat_tests); within = grind (arith, nat_tests) }

kept-by : (piece : List ℕ) (rest : List (List ℕ)) (b : Bool) → is_word piece ≡ b → IsUtf8 piece → AllByRecursion (IsTextKey ShortText) rest → AllByRecursion (IsTextKey ShortText) (cond b (piece ∷ rest) rest)
kept-by piece rest true is utf8 all = (word-key piece utf8 is, all)
kept-by piece rest false is utf8 all = all

words-kept : (pieces : List (List ℕ)) → AllByRecursion IsUtf8 pieces → AllByRecursion (IsTextKey ShortText) (filter is_word pieces)
words-kept [] all = tt
words-kept (piece ∷ pieces) all = kept-by piece (filter is_word pieces) (is_word piece) refl all.0 (words-kept pieces all.1)

words-fit : (text : List ℕ) → IsUtf8 text → AllByRecursion (IsTextKey ShortText) (words text)
unfolding words
words-fit text utf8 = words-kept (slice_split is_space text) (pieces-within (suc (length text)) text (omega arith) utf8)

-- Bigrams

one-fits : (c : ℕ) → IsScalar c → IsTextKey ShortText (encode_utf8 c)
one-fits c is =
    let bounds = len_utf8_bounds c in
    let low = bounds.0 in
    let high = bounds.1 in
    let long = length-encode c in
    record { short = refl; utf8 = IsUtf8-encode c is; given = omega arith; within = omega arith }

two-fit : (c d : ℕ) → IsScalar c → IsScalar d → IsTextKey ShortText (encode_utf8 c ++ encode_utf8 d)
two-fit c d first second =
    let one = one-fits c first in
    let other = one-fits d second in
    let above : 1 ≤ length (encode_utf8 c) = one.given in
    let few : length (encode_utf8 c) ≤ 4 = omega (arith, length-encode c, (len_utf8_bounds c).1) in
    let fewer : length (encode_utf8 d) ≤ 4 = omega (arith, length-encode d, (len_utf8_bounds d).1) in
    let long : length (encode_utf8 c ++ encode_utf8 d) ≡ length (encode_utf8 c) + length (encode_utf8 d) = length-append (encode_utf8 c) (encode_utf8 d) in
    record { short = refl; utf8 = IsUtf8-append (encode_utf8 c) (encode_utf8 d) one.utf8 other.utf8; given = omega arith; within = omega arith }

bigrams-fit : (cs : List ℕ) → scalars cs ≡ true → AllByRecursion (IsTextKey ShortText) (bigrams cs)
unfolding bigrams
bigrams-fit [] are = tt
bigrams-fit (last ∷ []) are = (one-fits last (both-true (scalar last) true are).0, tt)
bigrams-fit (first ∷ second ∷ more) are =
    let both = both-true (scalar first) (scalars (second ∷ more)) are in
    let next = both-true (scalar second) (scalars more) both.1 in
    (two-fit first second both.0 next.0, bigrams-fit (second ∷ more) both.1)

-- each token of a text is a key of a table of short texts
pub tokens-fit : (tokenizer : Tokenizer) (text : List ℕ) → IsUtf8 text → AllByRecursion (IsTextKey ShortText) (tokens tokenizer text)
tokens-fit Delimit text utf8 = words-fit text utf8
tokens-fit Bigram text utf8 = bigrams-fit (chars text) (scalars-chars text utf8)

-- Lexicons

short-text : (key : Option DataType) → is_short_text key ≡ true → key ≡ Some ShortText
short-text None is = absurd cc
short-text (Some Truth) is = absurd cc
short-text (Some Int8) is = absurd cc
short-text (Some Int16) is = absurd cc
short-text (Some Int32) is = absurd cc
short-text (Some Int64) is = absurd cc
short-text (Some UInt8) is = absurd cc
short-text (Some UInt16) is = absurd cc
short-text (Some UInt32) is = absurd cc
short-text (Some UInt64) is = absurd cc
short-text (Some ShortText) is = refl
short-text (Some Text) is = absurd cc
short-text (Some LongText) is = absurd cc

token-in : (schema : SchemaDef) (table : TableNo) (home : TableDef) (token : List ℕ) → table_at schema table ≡ Some home → home.key ≡ Some ShortText → IsTextKey ShortText token
    → (let want : Want = record { table = table; key = Some (Key.Text token) } in IsWantFor schema want)
token-in schema table home token found keyed fits =
    let here : IsKeyFor home (Some (Key.Text token)) = subst (λ (o : Option DataType). MatchOption o ⊥ (λ of. IsKeyOf of (Key.Text token))) (sym keyed) fits in
    subst (λ (o : Option TableDef). MatchOption o ⊥ (λ home. IsKeyFor home (Some (Key.Text token)))) (sym found) here

tokens-in : (schema : SchemaDef) (table : TableNo) (home : TableDef) (ts : List (List ℕ)) → table_at schema table ≡ Some home → home.key ≡ Some ShortText → AllByRecursion (IsTextKey ShortText) ts
    → AllByRecursion (IsWantFor schema) (map (λ token. let want : Want = record { table = table; key = Some (Key.Text token) } in want) ts)
tokens-in schema table home [] found keyed all = tt
tokens-in schema table home (token ∷ ts) found keyed all = (token-in schema table home token found keyed all.0, tokens-in schema table home ts found keyed all.1)

lexicon-by : (schema : SchemaDef) (text : List ℕ) (table : TableNo) (home : TableDef) (o : Option Tokenizer) → home.tokenizer ≡ o → table_at schema table ≡ Some home → IsSound schema → IsUtf8 text
    → AllByRecursion (IsWantFor schema) (option_map_or (λ tokenizer. map (λ token. let want : Want = record { table = table; key = Some (Key.Text token) } in want) (tokens tokenizer text)) o [])
lexicon-by schema text table home None cut found sound utf8 = tt
lexicon-by schema text table home (Some tokenizer) cut found sound utf8 =
    let keyed : home.key ≡ Some ShortText = short-text home.key ((sound.tables table.0 home found).lexicon (ap is_some cut)) in
    tokens-in schema table home (tokens tokenizer text) found keyed (tokens-fit tokenizer text utf8)

index-by : (schema : SchemaDef) (text : List ℕ) (table : TableNo) (o : Option TableDef) → table_at schema table ≡ o → IsSound schema → IsUtf8 text
    → AllByRecursion (IsWantFor schema) (option_map_or (λ home. option_map_or (λ tokenizer. map (λ token. let want : Want = record { table = table; key = Some (Key.Text token) } in want) (tokens tokenizer text)) home.tokenizer []) o [])
index-by schema text table None found sound utf8 = tt
index-by schema text table (Some home) found sound utf8 = lexicon-by schema text table home home.tokenizer refl found sound utf8

-- what an index wants of a text
pub index-fits : (schema : SchemaDef) (text : List ℕ) (index : TableNo × ColumnNo) → IsSound schema → IsUtf8 text → AllByRecursion (IsWantFor schema) (index_wants schema text index)
index-fits schema text index sound utf8 = index-by schema text index.0 (table_at schema index.0) refl sound utf8

each-fits : (schema : SchemaDef) (text : List ℕ) (indexes : List (TableNo × ColumnNo)) → IsSound schema → IsUtf8 text → AllByRecursion (IsWantFor schema) (flat_map (index_wants schema text) indexes)
each-fits schema text [] sound utf8 = tt
each-fits schema text (index ∷ indexes) sound utf8 =
    all-append (IsWantFor schema) (index_wants schema text index) (flat_map (index_wants schema text) indexes) (index-fits schema text index sound utf8) (each-fits schema text indexes sound utf8)

-- what a field's text wants
text-fits : (schema : SchemaDef) (table : TableNo) (field : Field) (text : List ℕ) → IsSound schema → IsUtf8 text → AllByRecursion (IsWantFor schema) (text_wants schema table field text)
text-fits schema table field text sound utf8 = each-fits schema text (indexes_on schema table field) sound utf8

-- What a put wants

key-by : (schema : SchemaDef) (table : TableNo) (key : Option Key) → IsSound schema → IfSome key IsReadable
    → AllByRecursion (IsWantFor schema) (option_map_or (text_wants schema table Field.Key) (option_and_then text_of_key key) [])
key-by schema table None sound readable = tt
key-by schema table (Some (Key.Number number)) sound readable = tt
key-by schema table (Some (Key.Text text)) sound readable = text-fits schema table Field.Key text sound readable

key-fits : (schema : SchemaDef) → IsSound schema → (new : Added) → IsReadableNew new → AllByRecursion (IsWantFor schema) (key_wants schema new.want)
key-fits schema sound new readable = key-by schema new.want.table new.want.key sound readable

given-fits : (schema : SchemaDef) (table : TableNo) (column : ColumnNo) (given : Given) → IsSound schema → IsReadableGiven given → AllByRecursion (IsWantFor schema) (setting_wants schema table (column, given))
given-fits schema table column (Given.Bool truth) sound readable = tt
given-fits schema table column (Given.Int number) sound readable = tt
given-fits schema table column (Given.Text text) sound readable = text-fits schema table (Field.Column column) text sound readable
given-fits schema table column (Given.Ref key) sound readable = tt
given-fits schema table column (Given.RefList keys) sound readable = tt
given-fits schema table column (Given.IntList numbers) sound readable = tt
given-fits schema table column (Given.TextList texts) sound readable = tt

setting-fits : (schema : SchemaDef) (table : TableNo) → IsSound schema → (setting : Setting) → IsReadableSetting setting → AllByRecursion (IsWantFor schema) (setting_wants schema table setting)
setting-fits schema table sound (column, given) readable = given-fits schema table column given sound readable

-- each token that a put wants is wanted for its table
pub token-fits : (schema : SchemaDef) (table : TableNo) (settings : List Setting) (news : List Added) → IsSound schema → AllByRecursion IsReadableSetting settings → AllByRecursion IsReadableNew news
    → AllByRecursion (IsWantFor schema) (token_wants schema table settings news)
token-fits schema table settings news sound texts keys =
    all-append (IsWantFor schema) (flat_map (λ new. key_wants schema new.want) news) (flat_map (setting_wants schema table) (by_column settings))
    (all-flat_map (IsWantFor schema) IsReadableNew (λ (new : Added). key_wants schema new.want) (key-fits schema sound) news keys)
    (all-flat_map (IsWantFor schema) IsReadableSetting (setting_wants schema table) (setting-fits schema table sound) (by_column settings) (all-by_column IsReadableSetting settings texts))

-- What a new index wants

-- the texts of a record are UTF-8
abbrev IsReadableRecord : Record → Type 0
IsReadableRecord found = (field : Field) (text : List ℕ) → text_in found field ≡ Some text → IsUtf8 text

readable-records : (records : Records) → ((n : ℕ) (found : Record) → record_in records (suc n) ≡ Some found → IsReadableRecord found) → AllByRecursion IsReadableRecord (filter_map (λ found. found) records)
readable-records [] readable = tt
readable-records (None ∷ records) readable = readable-records records (λ n. readable (suc n))
readable-records (Some found ∷ records) readable = (readable 0 found refl, readable-records records (λ n. readable (suc n)))

target-readable : (tables : List Records) (target : TableNo) → AreReadable tables target → AllByRecursion IsReadableRecord (filter_map (λ found. found) (records_of tables target))
target-readable tables target readable =
    readable-records (records_of tables target)
    (λ n found there field text is. readable (record_id (suc n)) field text (ap (λ (o : Option Record). option_and_then (λ one. text_in one field) o) there ∙ is))

source-by : (schema : SchemaDef) (index : TableNo × ColumnNo) (o : Option (List ℕ)) → IsSound schema → ((text : List ℕ) → o ≡ Some text → IsUtf8 text)
    → AllByRecursion (IsWantFor schema) (option_map_or (λ text. index_wants schema text index) o [])
source-by schema index None sound readable = tt
source-by schema index (Some text) sound readable = index-fits schema text index sound (readable text refl)

sources-fit : (schema : SchemaDef) (index : TableNo × ColumnNo) (found : Record) (sources : List Field) → IsSound schema → IsReadableRecord found → AllByRecursion (IsWantFor schema) (flat_map (source_wants schema index found) sources)
sources-fit schema index found [] sound readable = tt
sources-fit schema index found (source ∷ sources) sound readable =
    all-append (IsWantFor schema) (source_wants schema index found source) (flat_map (source_wants schema index found) sources)
    (source-by schema index (text_in found source) sound (readable source)) (sources-fit schema index found sources sound readable)

-- each token that a new index wants is wanted for its table
pub new-index-fits : (schema : SchemaDef) (tables : List Records) (index : TableNo × ColumnNo) (role : Role) → IsSound schema → IsReadableTarget tables role
    → (let db : Db = record { schema = schema; tables = tables } in AllByRecursion (IsWantFor schema) (new_index_wants db index role))
new-index-fits schema tables index (Scalar kind) sound readable = tt
new-index-fits schema tables index (Vector kind) sound readable = tt
new-index-fits schema tables index (Index target sources position section) sound readable =
    all-flat_map (IsWantFor schema) IsReadableRecord (λ found. flat_map (source_wants schema index found) sources)
    (λ found good. sources-fit schema index found sources sound good) (filter_map (λ found. found) (records_of tables target)) (target-readable tables target readable)
