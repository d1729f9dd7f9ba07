-- What a lent cell shows.
use Rattle.gr_values.specs.declared.value.Cell.{Cell}
use Rattle.gr_values.specs.declared.view.CellView.{CellView}
use Rattle.gr_values.specs.declared.view.CellView.TheVariants.{Bool, Int, Text, Ref, RefList, IntList, TextList}

-- the cell that is lent
abbrev pub shown : CellView → Cell
shown (Bool truth) = Cell.Bool truth
shown (Int number) = Cell.Int number
shown (Text text) = Cell.Text text.now
shown (Ref id) = Cell.Ref id
shown (RefList ids) = Cell.RefList ids.now
shown (IntList numbers) = Cell.IntList numbers.now
shown (TextList texts) = Cell.TextList texts.now
