use Rattle.gr_text.proofs.Turning.{turn_goes, turn_halts, turn_strange}
use Rattle.gr_text.proofs.reader.turn.Goals as goal

pub returns-in-Ok-clause-turned : goal.returns-in-Ok-clause-turned
returns-in-Ok-clause-turned g c start whole s =
    let found = rw c.in-Lexeme.is at c.in_ok-lexeme.ensures.found in
    let text = rw c.in-Lexeme.is at c.in_ok-lexeme.ensures.text in
    turn_goes s found {state' = c.step.new.self} {valueless' = c.first_valueless.result} c.in_ok-lexeme.ensures.left text c.in-Ok.ensures c.first_valueless.ensures

pub returns-in-Err-clause-turned : goal.returns-in-Err-clause-turned
returns-in-Err-clause-turned g c start whole s =
    let found = rw c.in-Lexeme.is at c.in_ok-lexeme.ensures.found in
    turn_halts s found c.step.new.self c.in-Err.stop c.in-Err.ensures c.fault.ensures

pub returns-in-Stranger-clause-turned : goal.returns-in-Stranger-clause-turned
returns-in-Stranger-clause-turned g c start whole s =
    let found = rw c.in-Stranger.is at c.in_ok-lexeme.ensures.found in
    turn_strange s found c.fault-in-Stranger.ensures
