-- The exit status and the message of each ending.
use Rattle.std.specs.Prelude.{ℕ, List, Option, Some, None, codes}
use Rattle.gr_runner.specs.declared.status.Status.{Status}
use Rattle.gr_runner.specs.declared.status.Status.TheVariants.{Ok, Usage, Open, Read, Write, NoMemory, SourceTooLong}

-- what the process ends with
abbrev pub exit_code : Status → ℕ
exit_code Ok = 0
exit_code Usage = 2
exit_code Open = 3
exit_code Read = 4
exit_code Write = 5
exit_code NoMemory = 6
exit_code SourceTooLong = 7

-- what it says on standard error, if anything
abbrev pub message_of : Status → Option (List ℕ)
message_of Ok = None
message_of Usage = Some (codes "usage: groonga-run FILE")
message_of Open = Some (codes "open")
message_of Read = Some (codes "read")
message_of Write = Some (codes "write")
message_of NoMemory = Some (codes "no memory")
message_of SourceTooLong = Some (codes "source too long")
