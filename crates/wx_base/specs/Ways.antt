-- Where an instruction may lead. This project's own.
use Rattle.std.specs.Prelude.{ℕ, if◌then◌else◌, List, [], ◌∷◌, ◌++◌, option_to_list}
use Rattle.wx_base.specs.declared.facts.Facts.{Facts}
use Rattle.wx_base.specs.declared.flow.FlowKind.{FlowKind}
use Rattle.wx_base.specs.Bits.{add_words}
use Rattle.wx_base.specs.Facts.{targets_of}
use Rattle.wx_base.specs.Flow.{flow_of}

-- Its ways, the addresses that may follow it in its function: the address behind it where it may go on there, the target of a
-- direct jump, and the targets that the facts list for an indirect one.
abbrev pub ways_by : Facts → ℕ → FlowKind → List ℕ
ways_by facts address flow =
    (if flow.next then add_words address 4 ∷ [] else []) ++ option_to_list flow.jump
    ++ (if flow.indirect then targets_of facts.branches address else [])

-- the ways of a word at an address
abbrev pub ways_of : Facts → ℕ → ℕ → List ℕ
ways_of facts word address = ways_by facts address (flow_of word address)
