-- the text that is read is UTF-8, since its path fits
use Rattle.std.proofs.Common.{sym, subst}
use Rattle.gr_expr.proofs.Utf8.{IsWrittenWorth, path_written}
use Rattle.gr_expr.proofs.seek.text_at.Goals as goal

pub found_at-requires-clause-value : goal.found_at-requires-clause-value
found_at-requires-clause-value g c = subst IsWrittenWorth (sym c.in-Some.ensures) (path_written (g.R.Rows.tables c.args.rows.now) c.args.id c.args.leaf.now.path c.requires.path)
