use Rattle.wcet_front.proofs.stages.program_of.Goals as goal

pub returns-in-Ok-clause-due : goal.returns-in-Ok-clause-due
returns-in-Ok-clause-due c program sound =
    let inputs = c.args.inputs.now in
    c.program_is_one.ensures inputs.image inputs.facts c.args.entry inputs.machine c.in-Ok.program program c.in-Ok.ensures.program sound.is
