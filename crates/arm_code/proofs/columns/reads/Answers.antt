use Rattle.std.proofs.Common.{◌≡◌, ◌∙◌}
use Rattle.std.specs.Prelude.{bit_or}
use Rattle.arm_code.specs.Columns.{insn_reads}
use Rattle.arm_code.proofs.Timing.{reads_are}
use Rattle.arm_code.proofs.columns.reads.Goals as goal

pub returns : goal.returns
returns c =
    let flags = c.where_so.ensures in
    let operands = c.op_reads.ensures in
    let both : bit_or c.where_so.result c.op_reads.result ≡ insn_reads c.args.insn.now = cc in
    record { value = both ∙ reads_are c.args.insn.now c.requires }
