use Rattle.std.proofs.Common.{rules, ◌≡◌, ◌∙◌, length, refl, sym, subst}
use Rattle.start_file.specs.StartText.{IsStartText}
use Rattle.start_file.specs.StartRefusal.{IsToldBy}
use Rattle.wcet_front.proofs.OneStart.{same_start}
use Rattle.wcet_front.proofs.stages.start_in.Goals as goal

pub returns-in-Ok-clause-cause : goal.returns-in-Ok-clause-cause
returns-in-Ok-clause-cause c =
    let inputs = c.args.inputs.now in
    record {
      read = c.in-Ok.start;
      told = subst (λ text. IsToldBy inputs.image inputs.machine.shape c.args.entry text c.in-Ok.start) c.as_bytes.ensures c.in-Ok.ensures.told;
      registers = search rules;
      cache = c.in-Ok.ensures.cache;
      is = refl;
      starts = c.in-Ok.ensures.starts;
    }

pub returns-in-Ok-clause-due : goal.returns-in-Ok-clause-due
returns-in-Ok-clause-due c begin t =
    let inputs = c.args.inputs.now in
    let told = t.told in
    let text = subst (λ b. IsStartText inputs.image inputs.machine.shape b told.items) (sym c.as_bytes.ensures) told.is_text in
    let many : length c.in-Ok.start.cpu.regs ≡ 16 = search rules in
    same_start inputs.image inputs.machine.shape c.args.entry told.items c.in-Ok.start t.read many t.registers (c.in-Ok.ensures.once told.items text) told.is ∙ sym t.is
