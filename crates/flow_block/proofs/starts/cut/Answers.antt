use Rattle.std.proofs.Common.{arith}
use Rattle.flow_block.proofs.Lengths.{uncut, cut_behind}
use Rattle.flow_block.proofs.starts.cut.Goals as goal

pub returns-then-is_end : goal.returns-then-is_end
returns-then-is_end g c = uncut g.of _ _ _ _ _ c.index.result.now _ _ _ c.in_ok-list.ensures (omega (arith, c.len-before.ensures, c.in_ok-list.field-0.insns.ok.0)) c.index.ensures c.flow.ensures.value c.is_end.ensures c.if-is_end.true

pub returns : goal.returns
returns g c = cut_behind g.of _ _ _ _ _ c.index.result.now _ _ _ c.in_ok-list.ensures (omega (arith, c.len-before.ensures, c.in_ok-list.field-0.insns.ok.0)) c.index.ensures c.flow.ensures.value c.is_end.ensures c.if-is_end.false
