-- Numbers at places of a list of bytes.
use Rattle.std.specs.Prelude.{ℕ, ◌+◌, ◌*◌, List, slice_index, take, drop}

-- the number in the two bytes at a place, the lowest byte first (System V ABI, ELFDATA2LSB)
unfoldable pub u16_at : List ℕ → ℕ → ℕ
u16_at bytes at = slice_index bytes at + 256 * slice_index bytes (at + 1)

-- the number in the four bytes at a place, the lowest byte first (System V ABI, ELFDATA2LSB)
unfoldable pub u32_at : List ℕ → ℕ → ℕ
u32_at bytes at =
    slice_index bytes at + 256 * slice_index bytes (at + 1) + 65536 * slice_index bytes (at + 2) + 16777216 * slice_index bytes (at + 3)

-- as many bytes from a place
abbrev pub bytes_at : List ℕ → ℕ → ℕ → List ℕ
bytes_at bytes at size = take size (drop at bytes)
