-- Which terms are read block by block.
use Rattle.std.specs.Prelude.{◌≡◌, false, []}
use Rattle.gr_base.specs.declared.compare.Cmp.{Cmp}
use Rattle.gr_base.specs.declared.compare.Cmp.TheVariants.{Eq, Ne, Lt, Le, Gt, Ge}
use Rattle.gr_base.specs.declared.numbers.ColumnNo.{ColumnNo}
use Rattle.gr_base.specs.declared.numbers.TableNo.{TableNo}
use Rattle.gr_expr.specs.declared.typed.Term.{Term}
use Rattle.gr_expr.specs.declared.typed.Term.TheVariants as term
use Rattle.gr_values.specs.declared.path.Field.{Field}
use Rattle.gr_values.specs.declared.path.Path.{Path}

-- the term reads a column of the table itself, which holds no references
pub record ReadsColumn (table : TableNo) (of : Term) (column : ColumnNo) : Type 0 where
  pub path : Path
  pub is : of ≡ term.Cell path
  pub here : path.table ≡ table
  pub through : path.through ≡ []
  pub last : path.last ≡ Field.Column column
  pub plain : path.shape.reference ≡ false

-- the comparison with its sides exchanged
abbrev pub turned : Cmp → Cmp
turned Eq = Eq
turned Ne = Ne
turned Lt = Gt
turned Le = Ge
turned Gt = Lt
turned Ge = Le
