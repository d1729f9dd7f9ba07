use Rattle.gr_script.specs.Token.{tokens_of}
use Rattle.gr_script.proofs.Told.{script_made, script_refused, script_shaped, script_told}
use Rattle.gr_script.proofs.script.parse.Goals as goal

pub returns-clause-script : goal.returns-clause-script
returns-clause-script c = script_told (tokens_of c.args.text.now) c.read.result (rw c.new.ensures at c.read.ensures)

pub returns-clause-made : goal.returns-clause-made
returns-clause-made c = script_made (tokens_of c.args.text.now) c.read.result (rw c.new.ensures at c.read.ensures)

pub returns-clause-shape : goal.returns-clause-shape
returns-clause-shape c = script_shaped (tokens_of c.args.text.now) c.read.result (rw c.new.ensures at c.read.ensures)

pub returns-clause-refused : goal.returns-clause-refused
returns-clause-refused c = script_refused (tokens_of c.args.text.now) c.read.result (rw c.new.ensures at c.read.ensures)
