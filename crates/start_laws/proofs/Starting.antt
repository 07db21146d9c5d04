-- A start that lines say is one of the starts of the image's runs.
use Rattle.std.proofs.Common.{◌≡◌, ℕ, ◌-◌, ◌<◌, ◌^◌, Bool, true, false, ◌||◌, cond, List, [], ◌∷◌, length, All, Option, Some, None, is_some, option_map, refl, sym, ap, ◌∙◌, subst, arith, ⊎_elim}
use Rattle.std.specs.Prelude.{slice_index}
use Rattle.std.specs.List.{find, list_any}
use Rattle.std.specs.Option.{unwrap_or}
use Rattle.std.proofs.lemmas.Bool.{cases_lt, false≢true}
use Rattle.std.proofs.lemmas.List.{get_or_past}
use Rattle.std.proofs.lemmas.List.Folds.{Any-from_list_any}
use Rattle.std.proofs.lemmas.List.Elements.{All-head, All-tail}
use Rattle.wx_base.specs.declared.image.Image.{Image}
use Rattle.wx_base.specs.declared.image.Segment.{Segment}
use Rattle.wx_base.specs.declared.machine.Machine.{Machine}
use Rattle.wx_base.specs.Cache.{IsCache}
use Rattle.wx_base.specs.Image.{Covers, byte_of, byte_in, segment_of, spans}
use Rattle.wx_base.specs.Run.{IsStart}
use Rattle.wx_mem.specs.Memory.{Bytes, is_written, byte_at}
use Rattle.arm_step.specs.Cpu.{held}
use Rattle.start_file.specs.declared.start_item.Item.{Item}
use Rattle.start_file.specs.declared.start_state.Start.{Start}
use Rattle.start_file.specs.StartText.{IsProper}
use Rattle.start_file.specs.StartSaid.{said, of_register, of_fill, of_byte}
use Rattle.start_file.specs.StartState.{start_of}
use Rattle.start_file.specs.StartRefusal.{IsStartOf}
use Rattle.start_laws.specs.Laws.{HoldsBytes}
use Rattle.start_laws.proofs.Saying.{register_said, fill_said, byte_said, below_or}

-- ---- the image's bytes
-- the segment that is found is one of all, and has the address
found : (p : Segment → Bool) (P : Segment → Type 0) (segments : List Segment) → All P segments → (s : Segment) → find p segments ≡ Some s → P s × (list_any p segments ≡ true)
found p P [] all s is = absurd (cc)
found p P (x ∷ segments) all s is = by (p x) (found p P segments (All-tail P x segments all) s) is
  where
    by : (b : Bool) → (find p segments ≡ Some s → P s × (list_any p segments ≡ true)) → cond b (Some x) (find p segments) ≡ Some s → P s × ((b || list_any p segments) ≡ true)
    by true later same = let here : x ≡ s = cc in (subst P here (All-head P x segments all), refl)
    by false later same = later same

abbrev HaveBytes : Segment → Type 0
HaveBytes segment = (k : ℕ) → slice_index segment.bytes k < 256

image_byte : (image : Image) → HoldsBytes image → (at byte : ℕ) → byte_of image at ≡ Some byte → (byte < 256) × Covers image at
image_byte image holds at byte e = by (segment_of image at) refl e
  where
    by : (o : Option Segment) → segment_of image at ≡ o → option_map (λ s. byte_in s at) o ≡ Some byte → (byte < 256) × Covers image at
    by (Some s) is same =
        let here = found (λ segment. spans at segment) HaveBytes image.segments holds s is in
        let byte_is : byte_in s at ≡ byte = cc in
        (subst (λ b. b < 256) byte_is (here.0 (at - s.first)), Any-from_list_any (λ segment. spans at segment) image.segments here.1)
    by None is same = absurd (cc)

-- ---- memory
module _ (image : Image) (holds : HoldsBytes image) (memory : Bytes) (small : (at : ℕ) → byte_at memory at < 256) (outside : (at : ℕ) → is_written memory at ≡ true → Covers image at → ⊥) where
  held_small : (at : ℕ) → held image memory at < 256
  held_small at = by (is_written memory at) (byte_of image at) refl
    where
      by : (b : Bool) (o : Option ℕ) → byte_of image at ≡ o → cond b (byte_at memory at) (unwrap_or o (byte_at memory at)) < 256
      by true o e = small at
      by false (Some byte) e = (image_byte image holds at byte e).0
      by false None e = small at

  held_loaded : (at byte : ℕ) → byte_of image at ≡ Some byte → held image memory at ≡ byte
  held_loaded at byte e = by (is_written memory at) refl
    where
      by : (b : Bool) → is_written memory at ≡ b → cond b (byte_at memory at) (unwrap_or (byte_of image at) (byte_at memory at)) ≡ byte
      by true w = absurd (outside at w (image_byte image holds at byte e).1)
      by false w = ap (λ o. unwrap_or o (byte_at memory at)) e

-- ---- a start that lines say
some_of : (o : Option ℕ) → is_some o ≡ true → (v : ℕ) × (o ≡ Some v)
some_of (Some v) e = (v, refl)
some_of None e = absurd (false≢true e)

module _ (image : Image) (machine : Machine) (entry : ℕ) (items : List Item) (start : Start) (holds : HoldsBytes image) (word : entry < 2 ^ 32) (proper : All (IsProper image machine.shape) items) (is : IsStartOf entry machine.shape items start) (sixteen : length start.cpu.regs ≡ 16) (cache : IsCache machine.shape start.cache.lists) where
  words : (n : ℕ) → slice_index start.cpu.regs n < 2 ^ 32
  words n =
      ⊎_elim
      (λ low. subst (λ v. v < 2 ^ 32) (sym (is.registers.said n low)) (below_or (said (of_register n) items) 0 (2 ^ 32) (register_said image machine.shape items proper n) (omega arith)))
      (λ high. ⊎_elim
      (λ in_list. let at : 15 ≡ n = omega (arith, high, in_list) in subst (λ k. slice_index start.cpu.regs k < 2 ^ 32) at (subst (λ v. v < 2 ^ 32) (sym is.registers.pc) word))
      (λ past. subst (λ v. v < 2 ^ 32) (sym (get_or_past start.cpu.regs n 0 (omega (arith, past, sixteen)))) (omega arith))
      (cases_lt n 16))
      (cases_lt n 15)

  fill_small : start.cpu.memory.fill < 256
  fill_small = subst (λ v. v < 256) (sym is.memory.fill) (below_or (said of_fill items) 0 256 (fill_said image machine.shape items proper) (omega arith))

  small : (at : ℕ) → byte_at start.cpu.memory at < 256
  small at =
      subst (λ v. v < 256) (sym (is.memory.bytes at))
      (below_or (said (of_byte at) items) start.cpu.memory.fill 256 (λ v e. (byte_said image machine.shape items proper at v e).0) fill_small)

  outside : (at : ℕ) → is_written start.cpu.memory at ≡ true → Covers image at → ⊥
  outside at w = let s = some_of (said (of_byte at) items) (sym (is.memory.written at) ∙ w) in (byte_said image machine.shape items proper at s.0 s.1).1

  pub starts : IsStart machine image entry (start_of image start)
  starts = record {
    entered = is.registers.pc;
    words = words;
    bytes = held_small image holds start.cpu.memory small outside;
    loaded = held_loaded image holds start.cpu.memory small outside;
    cached = cache;
  }
