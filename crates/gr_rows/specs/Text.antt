-- Load data as JSON.
use Rattle.std.specs.Prelude.{ℕ, ◌==◌, ◌||◌, ◌&&◌, Bool, false, if◌then◌else◌, Option, Some, None, option_and_then, List, [], ◌∷◌, ◌++◌}
use Rattle.std.specs.List.{list_all}
use Rattle.serde_json.specs.Data.{Items}
use Rattle.serde_json.specs.Find.{as_array}
use Rattle.serde_json.specs.Read.{read}

-- white space of JSON
abbrev pub is_white : ℕ → Bool
is_white c = c == 32 || c == 9 || c == 10 || c == 13

-- what stands before and after a text's last comma: of this byte, or of those that follow it
abbrev pub around_comma : ℕ → List ℕ → Option (List ℕ × List ℕ) → Option (List ℕ × List ℕ)
around_comma c cs (Some (before, after)) = Some (c ∷ before, after)
around_comma c cs None = if c == 44 then Some ([], cs) else None

-- what stands before and after a text's last comma, where it has one
abbrev pub around_last_comma : List ℕ → Option (List ℕ × List ℕ)
around_last_comma [] = None
around_last_comma (c ∷ cs) = around_comma c cs (around_last_comma cs)

-- whether a text is one closing bracket, white space aside
abbrev pub closes : List ℕ → Bool
closes [] = false
closes (c ∷ cs) = if c == 93 then list_all is_white cs else is_white c && closes cs

-- a text, put together again without its last comma where a closing bracket alone follows that
abbrev pub joined : List ℕ → Option (List ℕ × List ℕ) → List ℕ
joined text None = text
joined text (Some (before, after)) = if closes after then before ++ after else text

-- load data without the one comma that may stand before the last bracket
abbrev pub without_last_comma : List ℕ → List ℕ
without_last_comma text = joined text (around_last_comma text)

-- the elements of load data, where they are an array
abbrev pub array_of : List ℕ → Option Items
array_of text = option_and_then as_array (read (without_last_comma text))
