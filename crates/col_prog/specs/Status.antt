-- The exit code and the message of a status.
use Rattle.std.specs.Prelude.{ℕ, List, codes}
use Rattle.col_prog.specs.declared.status.Status.{Status}
use Rattle.col_prog.specs.declared.status.Status.TheVariants.{Done, Refused, BadScript, BadWords}
use Rattle.col_prog.specs.declared.status.Status.TheVariants.{ReadFault, WriteFault, TooLong}
use Rattle.col_prog.specs.declared.status.Status.TheVariants.{NoMemory}

-- the exit code
abbrev pub code_of : Status → ℕ
code_of Done = 0
code_of Refused = 1
code_of BadScript = 2
code_of BadWords = 3
code_of ReadFault = 4
code_of WriteFault = 5
code_of TooLong = 6
code_of NoMemory = 7

-- the name in lower case, with spaces between its words
abbrev pub message_of : Status → List ℕ
message_of Done = codes "done"
message_of Refused = codes "refused"
message_of BadScript = codes "bad script"
message_of BadWords = codes "bad words"
message_of ReadFault = codes "read fault"
message_of WriteFault = codes "write fault"
message_of TooLong = codes "too long"
message_of NoMemory = codes "no memory"
