use Rattle.std.proofs.Common.{ap, sym, ◌∙◌}
use Rattle.wx_base.specs.declared.facts.TargetFact.{TargetFact}
use Rattle.wx_base.specs.Monitor.{is_one_of}
use Rattle.run_machine.proofs.Searching.{target_there, target_absent}
use Rattle.run_machine.proofs.search.is_target.Goals as goal

pub returns-in-Ok : goal.returns-in-Ok
returns-in-Ok c =
    target_there c.args.facts.now c.args.from c.in-Ok.i c.args.to c.index-facts-i.result c.is_one_of.result c.requires.addresses c.in-Ok.ensures c.index-facts-i.is
    (c.is_one_of.ensures ∙ ap (λ targets. is_one_of targets c.args.to) c.as_slice.ensures
    ∙ ap (λ (f : TargetFact). is_one_of f.targets c.args.to) (sym c.index-facts-i.is))

pub returns-in-Err : goal.returns-in-Err
returns-in-Err c = target_absent c.args.facts.now c.args.from c.in-Err.field-0 c.args.to c.in-Err.ensures
