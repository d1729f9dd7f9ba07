use Rattle.std.proofs.Common.{ap, sym, ◌∙◌}
use Rattle.std.specs.Option.{option_copied}
use Rattle.gr_print.proofs.headings.table_name.Goals as goal

pub as_text-requires : goal.as_text-requires
as_text-requires c = (c.indexes-sound.ensures.sound.tables c.args.table.0 c.in-Some.def.now (sym c.def.ensures ∙ ap option_copied c.in-Some.is)).utf8
