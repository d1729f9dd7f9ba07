use Rattle.std.proofs.Common.{◌≡◌}
use Rattle.gr_root.specs.Inside.Walk.{AnswersAt}
use Rattle.gr_root.proofs.WalkLemmas.{answered-added, answered-found, answered-full, home-there, place}
use Rattle.gr_root.proofs.walk.step.Goals as goal

pub find_or_add-requires : goal.find_or_add-requires
find_or_add-requires c = place c.args.limit c.args.schema.now c.args.tables.now c.args.want.now c.requires.formed c.requires.within c.requires.fit

pub full_fault-requires-clause-there : goal.full_fault-requires-clause-there
full_fault-requires-clause-there c = home-there c.args.schema.now c.args.want.now c.requires.fit

pub returns-in-Found : goal.returns-in-Found
returns-in-Found c =
    answered-found c.args.limit c.args.schema.now c.args.tables.now c.find_or_add.new.tables c.args.want.now c.in-Found.field-0 c.args.added.now.items
    (rw c.in-Found.is at c.in_ok-find_or_add.ensures) c.requires.formed c.requires.within

pub returns-in_ok-push-in-Added : goal.returns-in_ok-push-in-Added
returns-in_ok-push-in-Added c =
    answered-added c.args.limit c.args.schema.now c.args.tables.now c.find_or_add.new.tables c.args.want.now c.in_ok-want-in-Added.want c.in-Added.id c.args.added.now.items c.push.new.self.items
    (rw c.in-Added.is at c.in_ok-find_or_add.ensures) c.in_ok-want-in-Added.ensures c.in_ok-push-in-Added.ensures.items c.requires.fit c.requires.formed c.requires.within

pub returns-in_ok-full_fault-in-Full : goal.returns-in_ok-full_fault-in-Full
returns-in_ok-full_fault-in-Full c =
    answered-full c.args.limit c.args.schema.now c.args.tables.now c.find_or_add.new.tables c.args.want.now c.in_ok-full_fault-in-Full.field-0
    (rw c.in-Full.is at c.in_ok-find_or_add.ensures) c.in_ok-full_fault-in-Full.ensures
