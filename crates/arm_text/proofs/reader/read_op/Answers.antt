-- A name has one kind of operation.
use Rattle.std.proofs.Common.{◌≡◌, Some, inl, inr, sym, ◌∙◌, ap, subst}
use Rattle.arm_text.specs.Operands.{operands_text}
use Rattle.arm_text.specs.Fields.{OpFits}
use Rattle.arm_text.proofs.Named.{alu_of, mul_of, mul_long_of, single_of, half_of, block_of, branch_of, exchange_of}
use Rattle.arm_text.proofs.reader.read_op.Goals as goal

pub returns-in-Alu-clause-complete : goal.returns-in-Alu-clause-complete
returns-in-Alu-clause-complete c read fits named same =
    elim (alu_of read c.in-Alu.op c.in-Alu.s (named ∙ c.in-Alu.is)) [
      | inl m ↦
          let f = subst OpFits m.is fits in
          let s = subst (λ r. c.args.text.now ≡ operands_text c.args.addr r) m.is same in
          c.read_alu.ensures.complete m.first m.to m.second f.1 f.2 f.7 f.3 f.5 f.6 s ∙ ap Some (sym m.is)
      | inr m ↦
          let s = subst (λ r. c.args.text.now ≡ operands_text c.args.addr r) m.is same in
          c.read_alu.ensures.back m.code_is m.flags_is s ∙ ap Some (sym m.is)
    ]

pub returns-in-Mul-clause-complete : goal.returns-in-Mul-clause-complete
returns-in-Mul-clause-complete c read fits named same =
    let m = mul_of read c.in-Mul.accumulate c.in-Mul.s (named ∙ c.in-Mul.is) in
    let f = subst OpFits m.is fits in
    let s = subst (λ r. c.args.text.now ≡ operands_text c.args.addr r) m.is same in
    c.read_mul.ensures.complete m.to m.added m.second m.first f.0 f.1 f.2 f.3 f.4 s ∙ ap Some (sym m.is)

pub returns-in-MulLong-clause-complete : goal.returns-in-MulLong-clause-complete
returns-in-MulLong-clause-complete c read fits named same =
    let m = mul_long_of read c.in-MulLong.signed c.in-MulLong.accumulate c.in-MulLong.s (named ∙ c.in-MulLong.is) in
    let f = subst OpFits m.is fits in
    let s = subst (λ r. c.args.text.now ≡ operands_text c.args.addr r) m.is same in
    c.read_mul_long.ensures.complete m.high m.low m.second m.first f.0 f.1 f.2 f.3 s ∙ ap Some (sym m.is)

pub returns-in-Single-clause-complete : goal.returns-in-Single-clause-complete
returns-in-Single-clause-complete c read fits named same =
    let m = single_of read c.in-Single.load c.in-Single.byte (named ∙ c.in-Single.is) in
    let f = subst OpFits m.is fits in
    let s = subst (λ r. c.args.text.now ≡ operands_text c.args.addr r) m.is same in
    c.read_single.ensures.complete m.to m.base m.index m.up m.by f.0 f.1 f.2 s ∙ ap Some (sym m.is)

pub returns-in-Half-clause-complete : goal.returns-in-Half-clause-complete
returns-in-Half-clause-complete c read fits named same =
    let m = half_of read c.in-Half.kind (named ∙ c.in-Half.is) in
    let f = subst OpFits m.is fits in
    let s = subst (λ r. c.args.text.now ≡ operands_text c.args.addr r) m.is same in
    c.read_half.ensures.complete m.to m.base m.index m.up m.by f.0 f.1 f.2 s ∙ ap Some (sym m.is)

pub returns-in-Block-clause-complete : goal.returns-in-Block-clause-complete
returns-in-Block-clause-complete c read fits named same =
    let m = block_of read c.in-Block.load c.in-Block.before c.in-Block.up (named ∙ c.in-Block.is) in
    let f = subst OpFits m.is fits in
    let s = subst (λ r. c.args.text.now ≡ operands_text c.args.addr r) m.is same in
    c.read_block.ensures.complete m.wback m.base m.list f.0 f.1 s ∙ ap Some (sym m.is)

pub returns-in-Branch-clause-complete : goal.returns-in-Branch-clause-complete
returns-in-Branch-clause-complete c read fits named same =
    let m = branch_of read c.in-Branch.link (named ∙ c.in-Branch.is) in
    let f = subst OpFits m.is fits in
    let s = subst (λ r. c.args.text.now ≡ operands_text c.args.addr r) m.is same in
    c.read_branch.ensures.complete m.words f s ∙ ap Some (sym m.is)

pub returns-in-Exchange-clause-complete : goal.returns-in-Exchange-clause-complete
returns-in-Exchange-clause-complete c read fits named same =
    let m = exchange_of read c.in-Exchange.link (named ∙ c.in-Exchange.is) in
    let f = subst OpFits m.is fits in
    let s = subst (λ r. c.args.text.now ≡ operands_text c.args.addr r) m.is same in
    c.read_exchange.ensures.complete m.register f s ∙ ap Some (sym m.is)
