-- The text of each refusal: its variant's name, and behind it its fields as they are declared, each after a space. Addresses
-- and words are hexadecimal, other numbers decimal, keys stand as they are. This project's own.
-- Want of memory is told by a line of its own, and never within a reply.
use Rattle.std.specs.Prelude.{ℕ, List, ◌++◌, codes}
use Rattle.wx_text.specs.Decimal.{decimal, signed_decimal}
use Rattle.wx_text.specs.Hexadecimal.{hex_word}
use Rattle.elf_image.specs.declared.error.ElfError.{ElfError}
use Rattle.elf_image.specs.declared.error.ElfError.TheVariants as image_error
use Rattle.ffx_facts.specs.declared.error.FactsError.{FactsError}
use Rattle.ffx_facts.specs.declared.error.FactsError.TheVariants as facts_error
use Rattle.machine_desc.specs.declared.error.MachineError.{MachineError}
use Rattle.machine_desc.specs.declared.error.MachineError.TheVariants as machine_error
use Rattle.start_file.specs.declared.start_error.StartError.{StartError}
use Rattle.start_file.specs.declared.start_error.StartError.TheVariants as start_error
use Rattle.flow_graph.specs.declared.error.FlowError.{FlowError}
use Rattle.flow_graph.specs.declared.error.FlowError.TheVariants as flow_error
use Rattle.cert_text.specs.declared.cert_error.CertError.{CertError}
use Rattle.cert_text.specs.declared.cert_error.CertError.TheVariants as cert_error

-- a further field
abbrev pub further : List ℕ → List ℕ
further text = codes " " ++ text

-- why a file is no image
abbrev pub image_refusal : ElfError → List ℕ
image_refusal image_error.NoMemory = codes "memory"
image_refusal (image_error.Short at) = codes "Short" ++ further (decimal at)
image_refusal image_error.NotElf = codes "NotElf"
image_refusal (image_error.Class found) = codes "Class" ++ further (decimal found)
image_refusal (image_error.Order found) = codes "Order" ++ further (decimal found)
image_refusal (image_error.Kind found) = codes "Kind" ++ further (decimal found)
image_refusal (image_error.Machine found) = codes "Machine" ++ further (decimal found)
image_refusal (image_error.Header index) = codes "Header" ++ further (decimal index)
image_refusal (image_error.Overlap a b) = codes "Overlap" ++ further (decimal a) ++ further (decimal b)
image_refusal image_error.ThumbEntry = codes "ThumbEntry"
image_refusal (image_error.Symbols index) = codes "Symbols" ++ further (decimal index)
image_refusal (image_error.TooLarge bytes) = codes "TooLarge" ++ further (decimal bytes)

-- why a file tells no facts
abbrev pub facts_refusal : FactsError → List ℕ
facts_refusal facts_error.NoMemory = codes "memory"
facts_refusal (facts_error.Syntax at) = codes "Syntax" ++ further (decimal at)
facts_refusal (facts_error.Number at) = codes "Number" ++ further (decimal at)
facts_refusal (facts_error.NoAddress at) = codes "NoAddress" ++ further (decimal at)
facts_refusal (facts_error.NoSymbol at) = codes "NoSymbol" ++ further (decimal at)
facts_refusal (facts_error.Twice address) = codes "Twice" ++ further (hex_word address)

-- why a file describes no machine
abbrev pub machine_refusal : MachineError → List ℕ
machine_refusal machine_error.NoMemory = codes "memory"
machine_refusal machine_error.Toml = codes "Toml"
machine_refusal (machine_error.Unknown key) = codes "Unknown" ++ further key
machine_refusal (machine_error.Missing key) = codes "Missing" ++ further key
machine_refusal (machine_error.Kind key) = codes "Kind" ++ further key
machine_refusal (machine_error.Range key value) = codes "Range" ++ further key ++ further (signed_decimal value)
machine_refusal (machine_error.Regions a b) = codes "Regions" ++ further (decimal a) ++ further (decimal b)

-- why a file tells no start: the line that is wrong, or the set whose lines are
abbrev pub start_refusal : StartError → List ℕ
start_refusal start_error.NoMemory = codes "memory"
start_refusal (start_error.Line line) = codes "line" ++ further (decimal line)
start_refusal (start_error.NotACache set) = codes "set" ++ further (decimal set)

-- why an image with its facts has no program
abbrev pub flow_refusal : FlowError → List ℕ
flow_refusal flow_error.NoMemory = codes "memory"
flow_refusal (flow_error.Unsupported addr word) = codes "Unsupported" ++ further (hex_word addr) ++ further (hex_word word)
flow_refusal (flow_error.LeavesCode addr) = codes "LeavesCode" ++ further (hex_word addr)
flow_refusal (flow_error.IndirectNoTargets addr) = codes "IndirectNoTargets" ++ further (hex_word addr)
flow_refusal (flow_error.BadTarget addr target) = codes "BadTarget" ++ further (hex_word addr) ++ further (hex_word target)
flow_refusal (flow_error.Recursion addr) = codes "Recursion" ++ further (hex_word addr)
flow_refusal (flow_error.Irreducible addr) = codes "Irreducible" ++ further (hex_word addr)
flow_refusal (flow_error.LoopNoBound addr) = codes "LoopNoBound" ++ further (hex_word addr)
flow_refusal flow_error.TooManyBlocks = codes "TooManyBlocks"

-- why a file is no certificate
abbrev pub certificate_refusal : CertError → List ℕ
certificate_refusal cert_error.NoMemory = codes "memory"
certificate_refusal (cert_error.Syntax at) = codes "Syntax" ++ further (decimal at)
certificate_refusal cert_error.NoEnd = codes "NoEnd"
certificate_refusal (cert_error.Number line) = codes "Number" ++ further (decimal line)
certificate_refusal (cert_error.Order line) = codes "Order" ++ further (decimal line)
