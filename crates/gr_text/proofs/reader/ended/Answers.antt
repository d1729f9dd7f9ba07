use Rattle.gr_text.proofs.Turning.{end_gives, end_halts, end_valueless}
use Rattle.gr_text.proofs.reader.ended.Goals as goal

pub returns-in-None : goal.returns-in-None
returns-in-None g c start whole now s ended clean len = end_gives s ended clean c.in-Ok.ensures c.in-None.is

pub returns-in-Some : goal.returns-in-Some
returns-in-Some g c start whole now s ended clean len = rw c.refused.ensures (end_valueless s ended clean c.in-Ok.ensures c.in-Some.is)

pub returns-in-Err : goal.returns-in-Err
returns-in-Err g c start whole now s ended clean len = end_halts s ended clean c.in-Err.stop c.in-Err.ensures len c.fault.ensures
