-- The stages that most commands begin with: an image, facts on it, a machine and an entry; and its flow, from there; and certificates. This project's own.
use Rattle.std.specs.Prelude.{◌≡◌, ◌≢◌, ◌≤◌, ℕ, List, Option, Some, None, length}
use Rattle.wx_base.specs.declared.image.Image.{Image}
use Rattle.wx_base.specs.declared.machine.Machine.{Machine}
use Rattle.wx_base.specs.declared.symbol.Symbol.{Symbol}
use Rattle.wx_base.specs.Cache.{IsCache}
use Rattle.wx_base.specs.Run as runs
use Rattle.wx_base.specs.Symbols.{symbol_value}
use Rattle.elf_image.specs.declared.error.ElfError.{ElfError}
use Rattle.elf_image.specs.Causes as elf
use Rattle.elf_image.specs.Meaning.{image_of}
use Rattle.ffx_facts.specs.declared.error.FactsError.{FactsError}
use Rattle.ffx_facts.specs.Causes as ffx
use Rattle.machine_desc.specs.declared.error.MachineError.{MachineError}
use Rattle.machine_desc.specs.Causes as machine_desc
use Rattle.flow_graph.specs.declared.error.FlowError.{FlowError}
use Rattle.flow_graph.specs.declared.program.Program.{Program}
use Rattle.flow_graph.specs.Refusals as flow
use Rattle.flow_ctx.specs.declared.unfolded.Unfolded.{Unfolded}
use Rattle.flow_ctx.specs.Unfolding.{HasTooManyNodes, IsUnfolding, most_nodes}
use Rattle.start_file.specs.declared.start_error.StartError.{StartError}
use Rattle.start_file.specs.declared.start_error.StartError.TheVariants as start_error
use Rattle.start_file.specs.declared.start_state.Start.{Start}
use Rattle.start_file.specs.StartRefusal as start
use Rattle.start_file.specs.StartState.{start_of}
use Rattle.cert_text.specs.declared.cert_error.CertError.{CertError}
use Rattle.cert_text.specs.declared.cert_error.CertError.TheVariants as cert_error
use Rattle.cert_text.specs.Text as cert
use Rattle.wcet_front.specs.declared.inputs.InputTexts.{InputTexts}
use Rattle.wcet_front.specs.declared.inputs.Inputs.{Inputs}
use Rattle.wcet_front.specs.declared.reply.Reply.{Reply}
use Rattle.wcet_front.specs.declared.reply.Reply.TheVariants as reply
use Rattle.wcet_front.specs.Stages.{Then}

-- the bytes are this image
pub record IsImageOf (bytes : List ℕ) (image : Image) : Type 0 where
  pub faultless : elf.Passes 11 bytes
  pub read : image ≡ image_of bytes

-- the bytes are no image, for the first reason that stands
abbrev pub IsImageRefusal : List ℕ → Reply → Type 0
IsImageRefusal bytes said = (e : ElfError) × elf.IsFirstCause bytes e × (said ≡ reply.BadImage e)

-- the bytes tell no facts on an image with these symbols
abbrev pub IsFactsRefusal : List ℕ → List Symbol → Reply → Type 0
IsFactsRefusal bytes symbols said = (e : FactsError) × ffx.IsCause bytes symbols e × (said ≡ reply.BadFacts e)

-- the bytes describe no machine
abbrev pub IsMachineRefusal : List ℕ → Reply → Type 0
IsMachineRefusal bytes said = (e : MachineError) × machine_desc.IsFirstCause bytes e × (said ≡ reply.BadMachine e)

-- what the three texts tell
pub record AreTold (texts : InputTexts) (inputs : Inputs) : Type 0 where
  pub image : IsImageOf texts.image inputs.image
  pub facts : ffx.AreFactsOf texts.facts inputs.image.symbols inputs.facts
  pub machine : machine_desc.IsDescription texts.machine inputs.machine

-- the first of the three texts that is refused
abbrev pub IsInputsRefusal : InputTexts → Reply → Type 0
IsInputsRefusal texts said =
    Then (IsImageOf texts.image) (IsImageRefusal texts.image)
    (λ image.
    Then (ffx.AreFactsOf texts.facts image.symbols) (IsFactsRefusal texts.facts image.symbols)
    (λ facts. IsMachineRefusal texts.machine))
    said

-- where runs begin: at the image's entry, or at the value of the symbol that is named
abbrev pub IsEntryOf : Image → Option (List ℕ) → ℕ → Type 0
IsEntryOf image None entry = entry ≡ image.entry
IsEntryOf image (Some name) entry = symbol_value image.symbols name ≡ Some entry

-- no symbol has the name of the entry
abbrev pub IsEntryRefusal : Image → Option (List ℕ) → Reply → Type 0
IsEntryRefusal image named said =
    (name : List ℕ) × (named ≡ Some name) × (symbol_value image.symbols name ≡ None) × (said ≡ reply.NoEntry name)

-- the bytes tell this start for the image, the machine and the entry, and it is one of the image's starts
pub record IsStartTold (image : Image) (machine : Machine) (entry : ℕ) (bytes : List ℕ) (begin : runs.Start) : Type 0 where
  pub read : Start
  pub told : start.IsToldBy image machine.shape entry bytes read
  pub registers : length read.cpu.regs ≡ 16
  pub cache : IsCache machine.shape read.cache.lists
  pub is : begin ≡ start_of image read
  pub starts : runs.IsStart machine image entry begin

-- the bytes tell no start for the image and a cache of the machine's shape
abbrev pub IsStartRefusal : Image → Machine → List ℕ → Reply → Type 0
IsStartRefusal image machine bytes said =
    (e : StartError) × start.IsRefusal image machine.shape bytes e × (e ≢ start_error.NoMemory) × (said ≡ reply.BadStart e)

-- the inputs have this program from the entry, and nothing stands against it
abbrev pub IsSoundProgram : Inputs → ℕ → Program → Type 0
IsSoundProgram inputs entry program = flow.IsSoundProgram inputs.image inputs.facts entry inputs.machine program

-- the inputs have no program from the entry
abbrev pub IsFlowRefusal : Inputs → ℕ → Reply → Type 0
IsFlowRefusal inputs entry said =
    (e : FlowError) × flow.IsFirst inputs.image inputs.facts entry inputs.machine e × (said ≡ reply.BadFlow e)

-- the unfolding of a program, which has not too many nodes
pub record IsSmallUnfolding (program : Program) (u : Unfolded) : Type 0 where
  pub is : IsUnfolding program u
  pub few : length u.nodes ≤ most_nodes

-- the program has too many blocks in their chains of calls
abbrev pub IsUnfoldRefusal : Program → Reply → Type 0
IsUnfoldRefusal program said = HasTooManyNodes program × (said ≡ reply.ManyNodes)

-- the bytes are no certificate
abbrev pub IsCertRefusal : List ℕ → Reply → Type 0
IsCertRefusal bytes said =
    (e : CertError) × cert.IsRefusal bytes e × (e ≢ cert_error.NoMemory) × (said ≡ reply.BadCertificate e)
