-- The flags of a wish for a column.
use Rattle.std.specs.Prelude.{ℕ, Bool, not, ◌&&◌, ◌||◌, ◌==◌, nat_le, if◌then◌else◌, List, [], ◌∷◌, filter, length, codes}
use Rattle.std.specs.List.{list_all, slice_split}
use Rattle.std.specs.Str.{byte}
use Rattle.gr_schema.specs.Schema.{is_keyed, is_lexicon}
use Rattle.gr_schema.specs.Words.{is_one_of}
use Rattle.gr_schema.specs.declared.definition.TableDef.{TableDef}

abbrev pub scalar_flag : List ℕ
scalar_flag = codes "COLUMN_SCALAR"

abbrev pub vector_flag : List ℕ
vector_flag = codes "COLUMN_VECTOR"

abbrev pub index_flag : List ℕ
index_flag = codes "COLUMN_INDEX"

abbrev pub section_flag : List ℕ
section_flag = codes "WITH_SECTION"

abbrev pub position_flag : List ℕ
position_flag = codes "WITH_POSITION"

-- the flags that say what a column is for
abbrev pub role_flags : List (List ℕ)
role_flags = scalar_flag ∷ vector_flag ∷ index_flag ∷ []

-- the flags that an index column may have besides
abbrev pub index_flags : List (List ℕ)
index_flags = section_flag ∷ position_flag ∷ []

-- whether a byte stands between two flags
abbrev pub is_bar : ℕ → Bool
is_bar c = c == byte "|"

-- the flags that a text lists; where it is not given, that of a scalar column
abbrev pub flags_of : List ℕ → List (List ℕ)
flags_of [] = scalar_flag ∷ []
flags_of (byte ∷ bytes) = slice_split is_bar (byte ∷ bytes)

-- how many of the flags are among these words
abbrev pub count_of : List (List ℕ) → List (List ℕ) → ℕ
count_of words flags = length (filter (is_one_of words) flags)

-- whether a flag is among the flags
abbrev pub has : List ℕ → List (List ℕ) → Bool
has flag flags = is_one_of flags flag

-- whether a flag may stand beside the others: one that says what a column is for, or beside that of an index one of an index
abbrev pub is_flag : List (List ℕ) → List ℕ → Bool
is_flag flags flag = is_one_of role_flags flag || (has index_flag flags && is_one_of index_flags flag)

-- exactly one flag says what the column is for, and the others may stand beside it, each once at most
abbrev pub are_flags : List (List ℕ) → Bool
are_flags flags =
    list_all (is_flag flags) flags
    && count_of role_flags flags == 1
    && nat_le (count_of (section_flag ∷ []) flags) 1
    && nat_le (count_of (position_flag ∷ []) flags) 1

-- whether a table may have such a column: a lexicon no data column, a keyless table no index, and only a lexicon one with sections
abbrev pub fit_table : TableDef → List (List ℕ) → Bool
fit_table home flags =
    if has index_flag flags then is_keyed home && (is_lexicon home || not (has section_flag flags))
    else not (is_lexicon home)
