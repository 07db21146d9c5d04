use Rattle.std.proofs.Common.{◌≡◌, ◌<◌, ℕ, Bool, true, false, List, map, length, sym, ap, subst, inr, arith}
use Rattle.std.specs.List.{sum}
use Rattle.wx_base.specs.declared.facts.Facts.{Facts}
use Rattle.wx_base.specs.declared.image.Image.{Image}
use Rattle.wx_base.specs.declared.machine.Machine.{Machine}
use Rattle.flow_block.specs.Laws.{BlocksAreOne}
use Rattle.flow_graph.specs.declared.program.Function.{Function}
use Rattle.flow_graph.specs.declared.program.Program.{Program}
use Rattle.flow_graph.specs.Program.{IsProgram, block_count}
use Rattle.flow_graph.specs.Refusals.{HasTooManyBlocks, most_blocks}
use Rattle.flow_graph.proofs.FirstLemmas.{first_too_many, clean_too_many}
use Rattle.flow_graph.proofs.LoopRefusalLemmas.{outline_within}
use Rattle.flow_graph.proofs.ProgramOne.{program_one}
use Rattle.flow_graph.proofs.WholeLemmas.{program_is}
use Rattle.flow_graph.proofs.construction.program.Goals as goal

-- a program with no more blocks than may be is the only one, so there is none with more
none_has_more : BlocksAreOne → (image : Image) (facts : Facts) (start : ℕ) (machine : Machine) (p : Program) → IsProgram image facts start machine p → (most_blocks < block_count p → ⊥)
    → HasTooManyBlocks image facts start machine → ⊥
none_has_more law image facts start machine p is few many =
    let same : block_count many.program ≡ block_count p = ap block_count (program_one law image facts start machine many.program p many.is_program is) in
    few (omega (arith, many.many))

differ : {b : Bool} → b ≡ true → b ≡ false → ⊥
differ e f = cc

-- the program with a list of functions, which is another's by an equation
program_with : (image : Image) (facts : Facts) (start : ℕ) (machine : Machine) (fs gs : List Function) → gs ≡ fs
    → IsProgram image facts start machine (record { start = start; functions = fs }) → IsProgram image facts start machine (record { start = start; functions = gs })
program_with image facts start machine fs gs e is = subst (λ list. IsProgram image facts start machine (record { start = start; functions = list })) (sym e) is

pub functions-requires-clause-outlines : goal.functions-requires-clause-outlines
functions-requires-clause-outlines c =
    let all = c.requires.outlines.marked in
    let within = outline_within c.requires.listing c.requires.outlines.entries all in
    λ k d inside. (all.each k d inside, omega (arith, within k d inside, c.requires.listing.ways_are.count))

pub returns-then-has_more_blocks-clause-refused : goal.returns-then-has_more_blocks-clause-refused
returns-then-has_more_blocks-clause-refused c =
    let inputs = c.args.inputs.now in
    inr (first_too_many inputs.image.now inputs.facts.now inputs.start inputs.machine.now c.requires.clean (record {
      program = record { start = inputs.start; functions = c.in_ok-functions.functions.items };
      is_program = program_is c.requires.listing c.requires.outlines.entries c.requires.outlines.marked c.in_ok-functions.ensures;
      many = subst (λ list. 16384 < sum (map (λ (f : Function). length f.blocks) list)) c.as_slice.ensures.value (c.has_more_blocks.ensures.0 c.if-has_more_blocks.true);
    }))

pub returns-clause-program : goal.returns-clause-program
returns-clause-program c =
    let inputs = c.args.inputs.now in
    program_with inputs.image.now inputs.facts.now inputs.start inputs.machine.now c.in_ok-functions.functions.items c.new.result c.new.ensures
    (program_is c.requires.listing c.requires.outlines.entries c.requires.outlines.marked c.in_ok-functions.ensures)

pub returns-clause-clean : goal.returns-clause-clean
returns-clause-clean c =
    let inputs = c.args.inputs.now in
    let p : Program = record { start = inputs.start; functions = c.in_ok-functions.functions.items } in
    let is = program_is c.requires.listing c.requires.outlines.entries c.requires.outlines.marked c.in_ok-functions.ensures in
    clean_too_many inputs.image.now inputs.facts.now inputs.start inputs.machine.now c.requires.clean
    (none_has_more c.blocks_are_one.ensures inputs.image.now inputs.facts.now inputs.start inputs.machine.now p is λ more.
    differ (c.has_more_blocks.ensures.1 (subst (λ list. 16384 < sum (map (λ (f : Function). length f.blocks) list)) (sym c.as_slice.ensures.value) more)) c.if-has_more_blocks.false)
