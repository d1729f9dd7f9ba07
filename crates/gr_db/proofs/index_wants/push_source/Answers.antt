use Rattle.std.proofs.Common.{◌≡◌, ◌∙◌, ap, sym}
use Rattle.std.specs.Option.{option_copied}
use Rattle.gr_db.proofs.index_wants.push_source.Goals as goal

pub as_text-requires : goal.as_text-requires
as_text-requires g c = c.requires c.args.id c.args.source c.in-Some.text.now (sym c.source_text.ensures ∙ ap option_copied c.in-Some.is)
