use Rattle.gr_script.specs.Token.{tokens_of}
use Rattle.gr_script.proofs.Told.{columns_made, columns_refused, columns_told}
use Rattle.gr_script.proofs.match_columns.parse_columns.Goals as goal

pub returns-clause-columns : goal.returns-clause-columns
returns-clause-columns c = columns_told (tokens_of c.args.text.now) c.read.result (rw c.new.ensures at c.read.ensures)

pub returns-clause-made : goal.returns-clause-made
returns-clause-made c = columns_made (tokens_of c.args.text.now) c.read.result (rw c.new.ensures at c.read.ensures)

pub returns-clause-refused : goal.returns-clause-refused
returns-clause-refused c = columns_refused (tokens_of c.args.text.now) c.read.result (rw c.new.ensures at c.read.ensures)
