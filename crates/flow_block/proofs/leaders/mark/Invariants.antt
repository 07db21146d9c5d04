use Rattle.std.proofs.Common.{take}
use Rattle.flow_block.specs.Code.{AreMarked}
use Rattle.flow_block.proofs.leaders.mark.Given as goal

abbrev pub invariant-loop-address : goal.invariant-loop-address
invariant-loop-address l = AreMarked l.code.addresses.now l.body l.initial.marks.items l.marks.items (take l.address-index l.list)
