use Rattle.std.proofs.Common.{List, Result, Ok, Err, IfOk, OnOk, sym, subst}
use Rattle.std.proofs.lemmas.Result.{on_ok_weaker}
use Rattle.std.specs.List.{All}
use Rattle.wx_base.specs.declared.facts.Facts.{Facts}
use Rattle.wx_base.specs.declared.image.Image.{Image}
use Rattle.wx_base.specs.declared.machine.Machine.{Machine}
use Rattle.std.specs.Prelude.{ℕ}
use Rattle.flow_graph.specs.declared.error.FlowError.{FlowError}
use Rattle.flow_graph.specs.declared.outline.Outline.{Outline}
use Rattle.flow_graph.specs.declared.program.Program.{Program}
use Rattle.flow_graph.specs.Outlines.{HasBounds}
use Rattle.flow_graph.specs.Program.{IsProgram}
use Rattle.flow_graph.specs.Refusals.{IsClean, IsSoundProgram}
use Rattle.flow_graph.proofs.FirstLemmas.{clean_all}
use Rattle.flow_graph.proofs.construction.build.Goals as goal

sound_program : (image : Image) (facts : Facts) (start : ℕ) (machine : Machine) (r : Result Program FlowError) → IfOk r (λ p. IsProgram image facts start machine p) → OnOk r (IsClean image facts start machine 8)
    → IfOk r (λ p. IsSoundProgram image facts start machine p)
sound_program image facts start machine (Ok p) is clean = record { is = is; sound = clean_all image facts start machine clean }
sound_program image facts start machine (Err e) is clean = tt

pub program-requires-clause-bounded : goal.program-requires-clause-bounded
program-requires-clause-bounded c =
    subst (λ (list : List Outline). All (λ o. HasBounds c.args.facts.now c.in_ok-listing.listing.addresses.items o) list) (sym c.as_slice-2.ensures.value) c.in_ok-outlines.ensures.bounded

pub returns-clause-sound : goal.returns-clause-sound
returns-clause-sound c = sound_program c.args.image.now c.args.facts.now c.args.entry c.args.machine.now c.program.result c.program.ensures.program c.program.ensures.clean

pub returns-clause-clean : goal.returns-clause-clean
returns-clause-clean c =
    on_ok_weaker c.program.result (clean_all c.args.image.now c.args.facts.now c.args.entry c.args.machine.now) c.program.ensures.clean
