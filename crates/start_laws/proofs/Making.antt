-- The start that lines say.
use Rattle.std.proofs.Common.{◌≡◌, ℕ, Bool, true, false, ◌==◌, cond, List, [], ◌∷◌, ◌++◌, map, length, Option, Some, None, is_some, refl, ap, ◌∙◌, arith}
use Rattle.std.specs.List.{range_with_len}
use Rattle.std.specs.Option.{option_or, unwrap_or}
use Rattle.std.specs.Ordering.{nat_cmp}
use Rattle.std.specs.Cmp.{nat_cmp_total, unsigned_tied}
use Rattle.std.specs.FinMap as map_of
use Rattle.std.specs.FinMap.{get-empty, get-insert}
use Rattle.std.proofs.lemmas.List.{get_or_append_left, get_or-append_right, length-append}
use Rattle.std.proofs.lemmas.List.FromFn.{get_or-map-range_with_len, length-map-range_with_len}
use Rattle.wx_base.specs.declared.machine.Shape.{Shape}
use Rattle.wx_mem.specs.Memory.{Bytes, Written}
use Rattle.start_file.specs.declared.start_item.Item.{Item}
use Rattle.start_file.specs.declared.start_item.Item.TheVariants as item
use Rattle.start_file.specs.declared.start_state.Start.{Start}
use Rattle.start_file.specs.StartSaid.{said, of_register, of_flags, of_fill, of_byte, no_flags, sets_said, AreRegisters, IsMemory}
use Rattle.start_file.specs.StartRefusal.{IsStartOf}

-- ---- registers
abbrev told_registers : List Item → List ℕ
told_registers items = map (λ n. unwrap_or (said (of_register n) items) 0) (range_with_len 0 15)

abbrev pub registers : ℕ → List Item → List ℕ
registers entry items = told_registers items ++ entry ∷ []

told_length : (items : List Item) → length (told_registers items) ≡ 15
told_length items = length-map-range_with_len (λ n. unwrap_or (said (of_register n) items) 0) 0 15

pub sixteen : (entry : ℕ) (items : List Item) → length (registers entry items) ≡ 16
sixteen entry items =
    let a = length-append (told_registers items) (entry ∷ []) in
    let b = told_length items in
    omega (arith, a, b)

pub are_registers : (entry : ℕ) (items : List Item) → AreRegisters entry items (registers entry items)
are_registers entry items = record {
  said = λ n small.
      let size = told_length items in
      get_or_append_left (told_registers items) (entry ∷ []) 0 n (omega (arith, size, small))
      ∙ get_or-map-range_with_len (λ n. unwrap_or (said (of_register n) items) 0) 0 15 n n 0 small (omega arith);
  pc = get_or-append_right (told_registers items) (entry ∷ []) 15 15 0 (told_length items) (omega arith);
}

-- ---- memory
filled : Written → List Item → Written
filled written [] = written
filled written (item.Byte address byte ∷ items) = filled (map_of.insert written address byte) items
filled written (x ∷ items) = filled written items

or_nothing : (a b : Option ℕ) → option_or a b ≡ option_or (option_or a None) b
or_nothing (Some x) b = refl
or_nothing None b = refl

or_test : (a : Option ℕ) (test : Bool) (byte : ℕ) (b : Option ℕ) → option_or a (cond test (Some byte) b) ≡ option_or (option_or a (cond test (Some byte) None)) b
or_test (Some x) test byte b = refl
or_test None true byte b = refl
or_test None false byte b = refl

tied : (at address : ℕ) → (at == address) ≡ (address == at)
tied at address = grind arith

got : (items : List Item) (written : Written) (at : ℕ) → map_of.get (filled written items) at ≡ option_or (said (of_byte at) items) (map_of.get written at)
unfolding filled
got [] written at = refl
got (item.Byte address byte ∷ items) written at =
    got items (map_of.insert written address byte) at
    ∙ ap (option_or (said (of_byte at) items)) (get-insert nat_cmp_total written address byte at ∙ ap (λ b. cond b (Some byte) (map_of.get written at)) (unsigned_tied at address ∙ tied at address))
    ∙ or_test (said (of_byte at) items) (address == at) byte (map_of.get written at)
got (item.Head ∷ items) written at = got items written at ∙ or_nothing (said (of_byte at) items) (map_of.get written at)
got (item.Register number value ∷ items) written at = got items written at ∙ or_nothing (said (of_byte at) items) (map_of.get written at)
got (item.Flags flags ∷ items) written at = got items written at ∙ or_nothing (said (of_byte at) items) (map_of.get written at)
got (item.Fill byte ∷ items) written at = got items written at ∙ or_nothing (said (of_byte at) items) (map_of.get written at)
got (item.Set set lines ∷ items) written at = got items written at ∙ or_nothing (said (of_byte at) items) (map_of.get written at)
got (item.End ∷ items) written at = got items written at ∙ or_nothing (said (of_byte at) items) (map_of.get written at)

pub memory : List Item → Bytes
memory items = record { fill = unwrap_or (said of_fill items) 0; written = filled map_of.empty items }

or_none : (a : Option ℕ) → option_or a None ≡ a
or_none (Some x) = refl
or_none None = refl

pub is_memory : (items : List Item) → IsMemory items (memory items)
unfolding memory
is_memory items = record {
  fill = refl;
  bytes = λ at. ap (λ o. unwrap_or o (unwrap_or (said of_fill items) 0)) (told at);
  written = λ at. ap is_some (told at);
}
  where
    told : (at : ℕ) → map_of.get (filled map_of.empty items) at ≡ said (of_byte at) items
    told at = got items map_of.empty at ∙ ap (option_or (said (of_byte at) items)) (get-empty nat_cmp at) ∙ or_none (said (of_byte at) items)

-- ---- the whole
abbrev pub made : ℕ → Shape → List Item → Start
made entry shape items =
    let flags = unwrap_or (said of_flags items) no_flags in
    record {
      cpu = record { regs = registers entry items; n = flags.n; z = flags.z; c = flags.c; v = flags.v; memory = memory items };
      cache = record { shape = shape; lists = sets_said shape items };
    }

pub is_made : (entry : ℕ) (shape : Shape) (items : List Item) → IsStartOf entry shape items (made entry shape items)
is_made entry shape items = record {
  registers = are_registers entry items;
  flags = refl;
  memory = is_memory items;
  cache = record { of_shape = refl; of_lists = refl };
}
