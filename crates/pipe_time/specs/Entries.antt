-- What the recurrence sees of an entry.
use Rattle.arm_code.specs.Encoding.{word_of}
use Rattle.pipe_time.specs.declared.vector.Entry.{Entry as Step}
use Rattle.wx_base.specs.Recurrence.{Entry}

-- the entry of the definitions that an entry of the program is: its instruction as its word
abbrev pub entry_of : Step → Entry
entry_of e = record { word = word_of e.insn; miss = e.miss; slow = e.slow; taken = e.taken }
