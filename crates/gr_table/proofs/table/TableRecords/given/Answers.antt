use Rattle.std.proofs.Common.{length, sym, ap, subst, ◌∙◌, suc}
use Rattle.gr_table.specs.Inside.Seen.{seen}
use Rattle.gr_table.specs.Inside.Trees.{map_of}
use Rattle.gr_table.specs.Sound.{IsTable}
use Rattle.gr_table.proofs.Lists.{length-first}
use Rattle.gr_table.proofs.Seen.{table_sound}
use Rattle.gr_table.proofs.table.TableRecords.given.Goals as goal

pub returns-clause-exact : goal.returns-clause-exact
returns-clause-exact c = sym (length-first c.self.inside.given (λ i. seen c.self.inside.alive c.self.inside.keys c.self.inside.columns.items (suc i))) ∙ ap (λ table. length table.records) c.self.view_is

pub returns-clause-sound : goal.returns-clause-sound
returns-clause-sound c = subst IsTable c.self.view_is (table_sound c.self.inside.key c.self.inside.given c.self.inside.alive (map_of c.self.inside.tree) c.self.inside.keys c.self.inside.columns.items c.self.invariant)
