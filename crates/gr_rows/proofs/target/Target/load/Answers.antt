use Rattle.gr_rows.proofs.target.Target.load.Goals as goal

pub as_text-requires : goal.as_text-requires
as_text-requires c = (c.requires.sound.tables c.args.self.now.table.0 c.args.self.now.home.now c.requires.there).utf8
