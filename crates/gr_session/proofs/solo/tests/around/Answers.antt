-- The entry that a command asks for stays valid in the longer journal.
use Rattle.gr_db.proofs.Grows.{IsValid-grown}
use Rattle.gr_session.proofs.solo.tests.around.Goals as goal

pub publish-answer-requires-clause-valid : goal.publish-answer-requires-clause-valid
publish-answer-requires-clause-valid c =
    let begins = c.in_ok-step-in-Publish.ensures.begins in
    rw begins.whole (IsValid-grown c.args.solo.now.journal begins.rest c.in-Publish.entry.change (rw c.pin-2.ensures at c.in-Publish.ensures.1.1.valid))
