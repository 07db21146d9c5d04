-- What the lines of a start text say of registers, flags, memory and cache.
use Rattle.std.specs.Prelude.{◌≡◌, ℕ, ◌<◌, false, ◌==◌, if◌then◌else◌, List, [], ◌∷◌, map, slice_index, Option, Some, None, is_some}
use Rattle.std.specs.Option.{option_or, unwrap_or}
use Rattle.std.specs.List.{range_with_len}
use Rattle.wx_base.specs.declared.machine.Shape.{Shape}
use Rattle.wx_base.specs.declared.step.Flags.{Flags}
use Rattle.wx_base.specs.Cache.{Lines}
use Rattle.wx_mem.specs.Memory.{Bytes, is_written, byte_at}
use Rattle.cache_lru.specs.Lru.{Cache}
use Rattle.start_file.specs.declared.start_item.Item.{Item}
use Rattle.start_file.specs.declared.start_item.Item.TheVariants as item

-- What the lines say of a matter, if one does. In a start text no two do, since no line comes twice; else the last would count.
abbrev pub said : {A : Type 0} → (Item → Option A) → List Item → Option A
said about [] = None
said about (x ∷ items) = option_or (said about items) (about x)

-- what a line says of a register
abbrev pub of_register : ℕ → Item → Option ℕ
of_register register item.Head = None
of_register register (item.Register number value) = if number == register then Some value else None
of_register register (item.Flags flags) = None
of_register register (item.Fill byte) = None
of_register register (item.Byte address byte) = None
of_register register (item.Set set lines) = None
of_register register item.End = None

-- what a line says of the flags
abbrev pub of_flags : Item → Option Flags
of_flags item.Head = None
of_flags (item.Register number value) = None
of_flags (item.Flags flags) = Some flags
of_flags (item.Fill byte) = None
of_flags (item.Byte address byte) = None
of_flags (item.Set set lines) = None
of_flags item.End = None

-- what a line says of the byte that stands wherever none was written
abbrev pub of_fill : Item → Option ℕ
of_fill item.Head = None
of_fill (item.Register number value) = None
of_fill (item.Flags flags) = None
of_fill (item.Fill byte) = Some byte
of_fill (item.Byte address byte) = None
of_fill (item.Set set lines) = None
of_fill item.End = None

-- what a line says of the byte at an address
abbrev pub of_byte : ℕ → Item → Option ℕ
of_byte at item.Head = None
of_byte at (item.Register number value) = None
of_byte at (item.Flags flags) = None
of_byte at (item.Fill byte) = None
of_byte at (item.Byte address byte) = if address == at then Some byte else None
of_byte at (item.Set set lines) = None
of_byte at item.End = None

-- what a line says of a set of the cache
abbrev pub of_set : ℕ → Item → Option (List ℕ)
of_set number item.Head = None
of_set number (item.Register number' value) = None
of_set number (item.Flags flags) = None
of_set number (item.Fill byte) = None
of_set number (item.Byte address byte) = None
of_set number (item.Set set lines) = if set == number then Some lines else None
of_set number item.End = None

-- the flags where no line tells them
abbrev pub no_flags : Flags
no_flags = record { n = false; z = false; c = false; v = false }

-- the lines of each set of the cache; none of a set that has no line
abbrev pub sets_said : Shape → List Item → Lines
sets_said shape items = map (λ set. unwrap_or (said (of_set set) items) []) (range_with_len 0 shape.sets)

-- registers as the lines say, 0 where they say nothing, and the entry in pc
pub record AreRegisters (entry : ℕ) (items : List Item) (registers : List ℕ) : Type 0 where
  pub said : (n : ℕ) → n < 15 → slice_index registers n ≡ unwrap_or (said (of_register n) items) 0
  pub pc : slice_index registers 15 ≡ entry

-- a memory in which exactly the bytes of the lines are written, over the byte that they fill it with, or 0
pub record IsMemory (items : List Item) (memory : Bytes) : Type 0 where
  pub fill : memory.fill ≡ unwrap_or (said of_fill items) 0
  pub bytes : (at : ℕ) → byte_at memory at ≡ unwrap_or (said (of_byte at) items) memory.fill
  pub written : (at : ℕ) → is_written memory at ≡ is_some (said (of_byte at) items)

-- a cache of the shape whose sets hold what the lines say
pub record IsCacheOf (shape : Shape) (items : List Item) (cache : Cache) : Type 0 where
  pub of_shape : cache.shape ≡ shape
  pub of_lists : cache.lists ≡ sets_said shape items
