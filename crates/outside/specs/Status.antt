-- What the program's end shows of a command.
use Rattle.std.specs.Prelude.{ℕ, List, [], ◌++◌, codes, decimal}
use Rattle.outside.specs.declared.status.Status.{Status}
use Rattle.outside.specs.declared.status.Status.TheVariants.{Done, Refused, ChannelError, BadScript, ReadFault, WriteFault, DoorFault, BadWords, NoMemory, NotYet}

abbrev pub exit_number : Status → ℕ
exit_number Done = 0
exit_number (Refused fault) = 1
exit_number ChannelError = 2
exit_number (BadScript line) = 3
exit_number ReadFault = 4
exit_number WriteFault = 5
exit_number DoorFault = 6
exit_number BadWords = 7
exit_number NoMemory = 8
exit_number NotYet = 9

abbrev pub status_text : Status → List ℕ
status_text Done = []
status_text (Refused fault) = []
status_text ChannelError = []
status_text (BadScript line) = codes "bad script line " ++ decimal line
status_text ReadFault = codes "read fault"
status_text WriteFault = codes "write fault"
status_text DoorFault = codes "door fault"
status_text BadWords = codes "usage: check F | run F N"
status_text NoMemory = codes "no memory"
status_text NotYet = codes "not yet"
