-- The numbers that byteorder reads, byte by byte.
use Rattle.std.proofs.Common.{◌≡◌, ℕ, ◌+◌, ◌-◌, List, length, take, drop, arith}
use Rattle.std.proofs.lemmas.List.{get_or-drop, take_rest}
use Rattle.byteorder.specs.Endian.{little_number}
use Rattle.elf_image.specs.Bytes.{u16_at, u32_at}

pub little_two : (bytes : List ℕ) (at : ℕ) → little_number 2 (take (length bytes - at) (drop at bytes)) ≡ u16_at bytes at
unfolding u16_at
little_two bytes at =
    let e0 = get_or-drop at bytes 0 0 in
    let e1 = get_or-drop at bytes 1 0 in
    let z : at + 0 ≡ at = omega arith in
    rw (take_rest bytes at, e0, e1, z) (omega arith)

pub little_four : (bytes : List ℕ) (at : ℕ) → little_number 4 (take (length bytes - at) (drop at bytes)) ≡ u32_at bytes at
unfolding u32_at
little_four bytes at =
    let e0 = get_or-drop at bytes 0 0 in
    let e1 = get_or-drop at bytes 1 0 in
    let e2 = get_or-drop at bytes 2 0 in
    let e3 = get_or-drop at bytes 3 0 in
    let z : at + 0 ≡ at = omega arith in
    rw (take_rest bytes at, e0, e1, e2, e3, z) (omega arith)
