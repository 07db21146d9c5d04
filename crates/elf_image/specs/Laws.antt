-- What is said of executables as such. This project's own.
use Rattle.std.specs.Prelude.{◌≡◌, ◌⊎◌, ℕ, List}
use Rattle.elf_image.specs.declared.error.ElfError.{ElfError}
use Rattle.elf_image.specs.Causes.{IsFirstCause, Passes}
use Rattle.elf_image.specs.Meaning.{AreLoaded, image_of}

-- whatever the bytes, no cause of a refusal stands, or some cause stands and none before it
abbrev pub PassesOrRefused : Type 0
PassesOrRefused = (bytes : List ℕ) → Passes 11 bytes ⊎ ((e : ElfError) × IsFirstCause bytes e)

-- bytes have at most one first cause
abbrev pub OneFirstCause : Type 0
OneFirstCause = (bytes : List ℕ) (e f : ElfError) → IsFirstCause bytes e → IsFirstCause bytes f → e ≡ f

-- bytes that pass have none
abbrev pub NotBoth : Type 0
NotBoth = (bytes : List ℕ) (e : ElfError) → Passes 11 bytes → IsFirstCause bytes e → ⊥

-- the segments of bytes that pass lie within the 2 ^ 32 addresses, hold their bytes, and have no address in common
abbrev pub ImagesAreLoaded : Type 0
ImagesAreLoaded = (bytes : List ℕ) → Passes 11 bytes → AreLoaded (image_of bytes).segments
