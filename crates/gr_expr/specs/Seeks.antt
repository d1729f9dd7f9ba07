-- How often a search finds what it seeks at a record.
use Rattle.std.specs.Prelude.{ℕ, min, Bool, false, if◌then◌else◌, nat_eq, List, Some}
use Rattle.std.specs.List.{count_by, ends_with, starts_with}
use Rattle.std.specs.Option.{option_map_or}
use Rattle.gr_ast.specs.declared.operators.Seek.{Seek}
use Rattle.gr_ast.specs.declared.operators.Seek.TheVariants.{Match, Prefix, Suffix}
use Rattle.gr_base.specs.declared.limits.TheConstants.{MOST_SCORE}
use Rattle.gr_base.specs.declared.numbers.RecordId.{RecordId}
use Rattle.gr_tokens.specs.declared.phrase.How.{How}
use Rattle.gr_tokens.specs.Places.{occurrences}
use Rattle.gr_tokens.specs.Tokens.{words}
use Rattle.gr_values.specs.declared.path.Field.{Field}
use Rattle.gr_values.specs.declared.path.Path.{Path}
use Rattle.gr_values.specs.declared.value.Cell.{Cell}
use Rattle.gr_values.specs.declared.value.Key.{Key}
use Rattle.gr_values.specs.Same.{is_same_key}
use Rattle.gr_expr.specs.declared.typed.By.{By}
use Rattle.gr_expr.specs.declared.typed.By.TheVariants.{Chars, Words, Element}
use Rattle.gr_expr.specs.declared.typed.Literal.{Literal}
use Rattle.gr_expr.specs.declared.typed.SeekLeaf.{SeekLeaf}
use Rattle.gr_expr.specs.Tables.{Records}
use Rattle.gr_expr.specs.Paths.{cell_of_end}
use Rattle.gr_expr.specs.Values.{Worth, path_worth, referred_key}

-- a score, which stands still at the highest one
abbrev pub capped : ℕ → ℕ
capped score = min score MOST_SCORE

-- 1 where this holds
abbrev pub one_if : Bool → ℕ
one_if holds = if holds then 1 else 0

-- whether a text begins, or ends, with this one
abbrev pub begins_with : List ℕ → List ℕ → Bool
begins_with sought text = starts_with nat_eq text sought

abbrev pub ends_in : List ℕ → List ℕ → Bool
ends_in sought text = ends_with nat_eq text sought

-- `@` on a text field: at how many places of the text the sought one stands
abbrev pub places_in : By → List ℕ → List ℕ → ℕ
places_in Chars text sought = occurrences How.Chars text sought
places_in Words text sought = occurrences How.Words text sought
places_in Element text sought = 0

-- `@^`: how many words begin with the sought text, where the field is read by words; otherwise whether the whole text does
abbrev pub begins_in : By → List ℕ → List ℕ → ℕ
begins_in Chars text sought = one_if (begins_with sought text)
begins_in Words text sought = count_by (begins_with sought) (words text)
begins_in Element text sought = one_if (begins_with sought text)

-- how often the sought text is found in a text
abbrev pub found_in : Seek → By → List ℕ → List ℕ → ℕ
found_in Match by text sought = places_in by text sought
found_in Prefix by text sought = begins_in by text sought
found_in Suffix by text sought = one_if (ends_in sought text)

-- how often a literal is found in a value; a search is for a text in a text
abbrev pub found_at : Seek → By → Worth → Literal → ℕ
found_at seek by (Some (Literal.Text text)) (Literal.Text sought) = found_in seek by text sought
found_at seek by _ _ = 0

-- whether a literal writes this key
abbrev pub is_written : Literal → Key → Bool
is_written (Literal.Number number) key = is_same_key (Key.Number number) key
is_written (Literal.Text text) key = is_same_key (Key.Text text) key
is_written (Literal.Truth truth) key = false

-- whether a reference is to a record that is there and has the key that a literal writes
abbrev pub is_referred : List Records → Path → Literal → RecordId → Bool
is_referred tables path sought id = option_map_or (is_written sought) (referred_key tables path.to (Cell.Ref id)) false

-- `@` on a reference or a list: how many of its elements are the sought one and are shown
abbrev pub elements_found : List Records → Path → Literal → Cell → ℕ
elements_found tables path sought (Cell.Bool truth) = 0
elements_found tables path sought (Cell.Int number) = 0
elements_found tables path sought (Cell.Text text) = 0
elements_found tables path sought (Cell.Ref id) = one_if (is_referred tables path sought id)
elements_found tables path sought (Cell.RefList ids) = count_by (is_referred tables path sought) ids
elements_found tables path sought (Cell.IntList numbers) = count_by (λ number. is_written sought (Key.Number number)) numbers
elements_found tables path sought (Cell.TextList texts) = count_by (λ text. is_written sought (Key.Text text)) texts

-- the same of a field
abbrev pub elements_at : List Records → RecordId → Path → Literal → Field → ℕ
elements_at tables id path sought Field.Id = 0
elements_at tables id path sought Field.Key = 0
elements_at tables id path sought (Field.Column column) = elements_found tables path sought (cell_of_end tables id path column)

-- how often a search finds what it seeks: among elements, or in a text
abbrev pub found_by : List Records → RecordId → Path → Seek → By → Literal → ℕ
found_by tables id path Match Element sought = elements_at tables id path sought path.last
found_by tables id path seek by sought = found_at seek by (path_worth tables id path) sought

-- the score of a search
abbrev pub seek_score : List Records → RecordId → SeekLeaf → ℕ
seek_score tables id leaf = capped (found_by tables id leaf.path leaf.seek leaf.by leaf.value)
