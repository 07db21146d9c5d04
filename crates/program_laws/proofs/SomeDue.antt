-- An image has a sound program or is refused. What is shown is that it cannot be otherwise, so each step may go on as if every statement
-- held or did not.
use Rattle.std.proofs.Common.{◌≡◌, ℕ, ◌^◌, ◌<◌, List, map, refl}
use Rattle.std.proofs.lemmas.List.Elements.{All-map}
use Rattle.wx_base.specs.declared.facts.Facts.{Facts}
use Rattle.wx_base.specs.declared.image.Image.{Image}
use Rattle.wx_base.specs.declared.machine.Machine.{Machine}
use Rattle.wx_base.specs.Functions.{AreLoops, IsEntry}
use Rattle.flow_block.specs.Blocks.{AreBlocks}
use Rattle.flow_graph.specs.declared.error.FlowError.{FlowError}
use Rattle.flow_graph.specs.declared.program.Function.{Function}
use Rattle.flow_graph.specs.declared.program.Program.{Program}
use Rattle.flow_graph.specs.Program.{bounded_loop, judged_function}
use Rattle.flow_graph.specs.Refusals.{IsCause, IsSoundProgram}
use Rattle.flow_laws.specs.Programs.{EndsInMemory}
use Rattle.program_laws.specs.Laws.{SoundOrRefused}
use Rattle.program_laws.proofs.Least.{none_stands}
use Rattle.program_laws.proofs.Collected.{AreAll, any_map, collect, pairs_map}
use Rattle.program_laws.proofs.Flow.{entered, within}
use Rattle.program_laws.proofs.Blocks.{has_blocks}
use Rattle.program_laws.proofs.Loops.{has_loops}

module _ (image : Image) (facts : Facts) (start : ℕ) (machine : Machine) (ends : EndsInMemory image) (sound : (cause : FlowError) → IsCause image facts start machine cause → ⊥) where
  -- a function with its blocks and loops
  record IsFunction (f : Function) : Type 0 where
    entered : IsEntry image facts start f.entry
    blocks : AreBlocks image facts machine f.entry f.blocks
    loops : AreLoops image facts f.entry (map bounded_loop f.loops)

  function_at : (entry : ℕ) → IsEntry image facts start entry → ((f : Function) → f.entry ≡ entry → IsFunction f → ⊥) → ⊥
  function_at entry is stop =
      let reached = entered image facts start machine ends sound entry is in
      has_blocks image facts start machine ends sound entry reached
      (λ blocks are_blocks.
      has_loops image facts start machine ends sound entry is reached
      (λ loops are_loops.
      stop (record { entry = entry; blocks = blocks; loops = loops }) refl (record { entered = is; blocks = are_blocks; loops = are_loops })))

  program_of : (functions : List Function) → AreAll (λ f. f.entry) IsFunction (IsEntry image facts start) functions → (program : Program) × IsSoundProgram image facts start machine program
  program_of functions are = (
    record { start = start; functions = functions },
    record {
      is = record {
        start = refl;
        rules = record {
          branches = refl;
          calls = refl;
          functions = record {
            ascending = pairs_map judged_function (λ f g. f.entry < g.entry) functions are.ascending;
            entries = All-map (λ f. IsEntry image facts start f.entry) judged_function functions (λ k d inside. (are.each k d inside).entered);
            loops = All-map (λ f. AreLoops image facts f.entry f.loops) judged_function functions (λ k d inside. (are.each k d inside).loops);
            whole = λ entry is. any_map judged_function (λ f. f.entry ≡ entry) functions (are.whole entry is);
          };
        };
        blocks = λ k d inside. (are.each k d inside).blocks;
      };
      sound = sound;
    },
  )

  pub has_program : ((program : Program) → IsSoundProgram image facts start machine program → ⊥) → ⊥
  has_program stop =
      collect (λ f. f.entry) IsFunction (IsEntry image facts start) (2 ^ 32)
      (λ entry is. within image facts start machine ends sound entry (entered image facts start machine ends sound entry is))
      function_at
      (λ functions are. let p = program_of functions are in stop p.0 p.1)

pub some_is_due : SoundOrRefused
some_is_due image facts start machine ends no_program no_first = has_program image facts start machine ends (none_stands image facts start machine no_first) no_program
