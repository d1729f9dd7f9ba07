use Rattle.gr_values.proofs.Written.{Appends-more}
use Rattle.gr_print.proofs.headings.write_heading.Goals as goal

pub returns : goal.returns
returns c = Appends-more c.in_ok-open_array.ensures (Appends-more c.in_ok-write_text.ensures (Appends-more c.in_ok-write_type.ensures c.in_ok-close_array.ensures))
