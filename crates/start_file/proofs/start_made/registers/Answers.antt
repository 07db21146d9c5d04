use Rattle.std.proofs.Common.{◌≢◌, ◌<◌, ◌∙◌, length, get_or, arith, get_or-set_other, get_or-set_same}
use Rattle.start_file.specs.StartSaid.{of_register}
use Rattle.start_file.proofs.StartSaying.{told_more, told_all}
use Rattle.start_file.proofs.start_made.registers.Goals as goal

pub loop-item-preserved : goal.loop-item-preserved
loop-item-preserved c = record {
  told = λ n small.
      told_more (of_register n) c.args.items.now c.loop-item.item-index c.item-item.result (get_or c.loop-item.registers n 0) (get_or c.set_register.new.registers n 0) 0 c.loop-item-test.true c.item-item.is
      (c.loop-item.invariant.told n small) (c.set_register.ensures n);
  long = c.set_register.array_long;
}

pub returns : goal.returns
returns c =
    let long : 15 < length c.loop-item.registers = omega (arith, c.loop-item.invariant.long) in
    record {
      said = λ n small.
          let other : n ≢ 15 = omega (arith, small) in
          get_or-set_other c.loop-item.registers 15 n c.args.entry 0 other
          ∙ told_all (of_register n) c.args.items.now c.loop-item.item-index (get_or c.loop-item.registers n 0) 0 c.loop-item-test.false (c.loop-item.invariant.told n small);
      pc = get_or-set_same c.loop-item.registers 15 c.args.entry 0 long;
    }
