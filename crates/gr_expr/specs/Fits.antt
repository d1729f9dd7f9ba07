-- Which rows a condition fits: those in which each cell and key that it can read has the shape that its path says.
use Rattle.std.specs.Prelude.{◌≡◌, true, false, List, [], ◌∷◌, Option, Some, None, is_some, MatchOption, IsUtf8}
use Rattle.std.specs.List.{AllByRecursion}
use Rattle.gr_base.specs.declared.numbers.ColumnNo.{ColumnNo}
use Rattle.gr_base.specs.declared.numbers.RecordId.{RecordId}
use Rattle.gr_base.specs.declared.numbers.TableNo.{TableNo}
use Rattle.gr_values.specs.declared.data_type.Shape.{Shape}
use Rattle.gr_values.specs.declared.path.Field.{Field}
use Rattle.gr_values.specs.declared.path.Hop.{Hop}
use Rattle.gr_values.specs.declared.path.Path.{Path}
use Rattle.gr_values.specs.declared.value.Cell.{Cell}
use Rattle.gr_values.specs.declared.value.Key.{Key}
use Rattle.gr_values.specs.Fits.{IsCellOf, IsKeyOf}
use Rattle.gr_expr.specs.declared.typed.Expr.{Expr, every-Expr}
use Rattle.gr_expr.specs.declared.typed.Expr.TheOpen.{CombinedTerm-F, Expr-F, JoinedExpr-F, Term-F}
use Rattle.gr_expr.specs.declared.typed.CombinedTerm.{CombinedTerm}
use Rattle.gr_expr.specs.declared.typed.JoinedExpr.{JoinedExpr}
use Rattle.gr_expr.specs.declared.typed.Literal.{Literal}
use Rattle.gr_expr.specs.declared.typed.SeekLeaf.{SeekLeaf}
use Rattle.gr_expr.specs.declared.typed.Term.{Term}
use Rattle.gr_expr.specs.declared.typed.WeightedLeaf.{WeightedLeaf}
use Rattle.gr_expr.specs.Paths.{end_table}
use Rattle.gr_expr.specs.Tables.{Records, cell_at, key_at, record_at}

-- a reference
abbrev pub IsRef : Cell → Type 0
IsRef (Cell.Bool truth) = ⊥
IsRef (Cell.Int number) = ⊥
IsRef (Cell.Text text) = ⊥
IsRef (Cell.Ref id) = Unit {0}
IsRef (Cell.RefList ids) = ⊥
IsRef (Cell.IntList numbers) = ⊥
IsRef (Cell.TextList texts) = ⊥

-- the cell of each record of a table in a column is there and is such a one
abbrev pub EachCell : List Records → TableNo → ColumnNo → (Cell → Type 0) → Type 0
EachCell tables table column P = (id : RecordId) → is_some (record_at tables table id) ≡ true → MatchOption (cell_at tables table id column) ⊥ P

-- the key of each record of a table is there and is such a one
abbrev pub EachKey : List Records → TableNo → (Key → Type 0) → Type 0
EachKey tables table P = (id : RecordId) → is_some (record_at tables table id) ≡ true → MatchOption (key_at tables table id) ⊥ P

-- each hop from a table goes over a column of single references, into the table that it names
abbrev pub FitHops : List Records → TableNo → List Hop → Type 0
FitHops tables table [] = Unit {0}
FitHops tables table (hop ∷ hops) = EachCell tables table hop.column IsRef × FitHops tables hop.to hops

-- a field of a table has the shape
abbrev pub FitsField : List Records → TableNo → Shape → Field → Type 0
FitsField tables table shape Field.Id = Unit {0}
FitsField tables table shape Field.Key = EachKey tables table (IsKeyOf shape.of)
FitsField tables table shape (Field.Column column) = EachCell tables table column (IsCellOf shape)

-- what is referred to has keys of the shape
abbrev pub FitsTarget : List Records → Shape → Option TableNo → Type 0
FitsTarget tables shape None = shape.reference ≡ false
FitsTarget tables shape (Some table) = EachKey tables table (IsKeyOf shape.of)

-- a path fits the rows
pub record FitsPath (tables : List Records) (path : Path) : Type 0 where
  pub hops : FitHops tables path.table path.through
  pub field : FitsField tables (end_table path) path.shape path.last
  pub target : FitsTarget tables path.shape path.to

-- a text is UTF-8
abbrev pub IsWritten : Literal → Type 0
IsWritten (Literal.Number number) = Unit {0}
IsWritten (Literal.Text text) = IsUtf8 text
IsWritten (Literal.Truth truth) = Unit {0}

-- a search fits the rows
pub record FitsSeek (tables : List Records) (leaf : SeekLeaf) : Type 0 where
  pub path : FitsPath tables leaf.path
  pub value : IsWritten leaf.value

-- the same of a search that is multiplied
abbrev pub FitsWeighted : List Records → WeightedLeaf → Type 0
FitsWeighted tables weighted = FitsSeek tables weighted.leaf

-- the paths of this level of a condition fit
abbrev pub FitsExprLayer : List Records → Expr-F Expr Term CombinedTerm JoinedExpr → Type 0
FitsExprLayer tables (Expr-F.Flag path) = FitsPath tables path
FitsExprLayer tables (Expr-F.Seek leaf) = FitsSeek tables leaf
FitsExprLayer tables (Expr-F.Weighted leaves) = AllByRecursion (FitsWeighted tables) leaves
FitsExprLayer tables _ = Unit {0}

-- the paths of this level of a term fit
abbrev pub FitsTermLayer : List Records → Term-F Expr Term CombinedTerm JoinedExpr → Type 0
FitsTermLayer tables (Term-F.Literal literal) = IsWritten literal
FitsTermLayer tables (Term-F.Cell path) = FitsPath tables path
FitsTermLayer tables _ = Unit {0}

-- of what stands before a number, or before a condition, nothing is asked
abbrev pub AnyCombined : CombinedTerm-F Expr Term CombinedTerm JoinedExpr → Type 0
AnyCombined term = Unit {0}

abbrev pub AnyJoined : JoinedExpr-F Expr Term CombinedTerm JoinedExpr → Type 0
AnyJoined expr = Unit {0}

-- all paths of a condition fit the rows
abbrev pub Fits : List Records → Expr → Type 0
Fits tables = every-Expr (FitsExprLayer tables) (FitsTermLayer tables) AnyCombined AnyJoined
