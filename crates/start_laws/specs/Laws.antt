-- What holds of all bytes that are read as the text of a start. This project's own.
use Rattle.std.specs.Prelude.{◌≡◌, ◌≢◌, ◌<◌, ◌^◌, ℕ, List, All, length, slice_index}
use Rattle.wx_base.specs.declared.image.Image.{Image}
use Rattle.wx_base.specs.declared.machine.Machine.{Machine}
use Rattle.wx_base.specs.Cache.{IsCache}
use Rattle.wx_base.specs.Run.{IsStart}
use Rattle.start_file.specs.declared.start_state.Start.{Start}
use Rattle.start_file.specs.declared.start_error.StartError.{StartError}
use Rattle.start_file.specs.declared.start_error.StartError.TheVariants.{NoMemory}
use Rattle.start_file.specs.StartState.{start_of}
use Rattle.start_file.specs.StartRefusal.{IsToldBy, IsRefusal}

-- the image's segments hold bytes
abbrev pub HoldsBytes : Image → Type 0
HoldsBytes image = All (λ segment. (k : ℕ) → slice_index segment.bytes k < 256) image.segments

-- the bytes tell this start, with sixteen registers and a cache of the machine's shape, and it is one of the starts of the image's runs
pub record IsWholeStart (image : Image) (machine : Machine) (entry : ℕ) (bytes : List ℕ) (start : Start) : Type 0 where
  pub told : IsToldBy image machine.shape entry bytes start
  pub registers : length start.cpu.regs ≡ 16
  pub cache : IsCache machine.shape start.cache.lists
  pub starts : IsStart machine image entry (start_of image start)

-- Bytes tell such a start, or a refusal but that for want of memory has its cause: it cannot be that neither holds.
abbrev pub ReadOrRefused : Type 0
ReadOrRefused = (image : Image) (machine : Machine) (entry : ℕ) (bytes : List ℕ) → HoldsBytes image → entry < 2 ^ 32
    → ((start : Start) → IsWholeStart image machine entry bytes start → ⊥)
    → ((e : StartError) → IsRefusal image machine.shape bytes e → e ≡ NoMemory) → ⊥

-- bytes tell at most one start, as the state and the cache that it stands for
abbrev pub OneStart : Type 0
OneStart = (image : Image) (machine : Machine) (entry : ℕ) (bytes : List ℕ) (a b : Start) → IsWholeStart image machine entry bytes a
    → IsWholeStart image machine entry bytes b → start_of image a ≡ start_of image b

-- bytes have at most one refusal but that for want of memory
abbrev pub OneRefusal : Type 0
OneRefusal = (image : Image) (machine : Machine) (bytes : List ℕ) (e f : StartError) → IsRefusal image machine.shape bytes e
    → IsRefusal image machine.shape bytes f → e ≢ NoMemory → f ≢ NoMemory → e ≡ f

-- bytes that tell a start have none
abbrev pub NotBoth : Type 0
NotBoth = (image : Image) (machine : Machine) (entry : ℕ) (bytes : List ℕ) (start : Start) (e : StartError)
    → IsWholeStart image machine entry bytes start → IsRefusal image machine.shape bytes e → e ≡ NoMemory
