-- The bytes of a start, and that it is one of the starts of an image's runs.
use Rattle.std.proofs.Common.{◌≡◌, ℕ, zero, suc, ◌+◌, ◌-◌, ◌<◌, Bool, true, false, ◌||◌, cond, List, [], ◌∷◌, slice_index, Option, Some, None, option_map, Ok, Err, All, ap, sym, ◌∙◌, subst, refl, arith, get_or, ⊎_elim}
use Rattle.std.specs.Prelude.{Result, IfOk, OnOk}
use Rattle.std.proofs.lemmas.Bool.{cases_lt, false_from_ne_true}
use Rattle.std.proofs.lemmas.List.Folds.{Any-from_list_any}
use Rattle.std.specs.List.{find, list_any}
use Rattle.std.specs.Option.{unwrap_or}
use Rattle.wx_base.specs.declared.image.Image.{Image}
use Rattle.wx_base.specs.declared.image.Segment.{Segment}
use Rattle.wx_base.specs.declared.machine.Machine.{Machine}
use Rattle.wx_base.specs.Cache.{IsCache, Lines}
use Rattle.wx_base.specs.Image.{Covers, byte_of, byte_in, segment_of, spans}
use Rattle.wx_base.specs.Run.{IsStart}
use Rattle.wx_mem.specs.Memory.{Bytes, is_written, byte_at}
use Rattle.wx_base.specs.State.{pc}
use Rattle.arm_step.specs.Cpu.{held, registers_of}
use Rattle.start_file.specs.declared.start_error.StartError.{StartError}
use Rattle.start_file.specs.declared.start_item.Item.{Item}
use Rattle.start_file.specs.declared.start_state.Start.{Start}
use Rattle.start_file.specs.StartState.{start_of, AreInRange}
use Rattle.start_file.specs.StartRefusal.{IsStartOf}
use Rattle.start_file.specs.StartSaid.{sets_said}

one_of_two : {X : Type 0} (P : X → Type 0) (b : Bool) (y : X) (o : Option X) (x : X) → cond b (Some y) o ≡ Some x → P y → (o ≡ Some x → P x) → P x
one_of_two P true y o x e first rest = let same : y ≡ x = cc in subst P same first
one_of_two P false y o x e first rest = rest e

-- what is found has what all have
found_has : {X : Type 0} (P : X → Type 0) (p : X → Bool) (xs : List X) (x : X) → All P xs → find p xs ≡ Some x → P x
found_has P p [] x all e = absurd (cc)
found_has P p (y ∷ ys) x all e =
    one_of_two P (p y) y (find p ys) x e (all zero y (omega arith)) (λ f. found_has P p ys x (λ k d lt. all (suc k) d (omega arith)) f)

small_in : (o : Option Segment) (address other : ℕ) → ((s : Segment) → o ≡ Some s → (k : ℕ) → slice_index s.bytes k < 256) → other < 256 → unwrap_or (option_map (λ s. byte_in s address) o) other < 256
small_in None address other all lt = lt
small_in (Some s) address other all lt = all s refl (address - s.first)

small_if : (b : Bool) (x y : ℕ) → x < 256 → y < 256 → cond b x y < 256
small_if true x y l m = l
small_if false x y l m = m

-- each byte is below 256
held_small : (image : Image) (memory : Bytes) → ((address : ℕ) → byte_at memory address < 256) → All (λ s. (k : ℕ) → slice_index s.bytes k < 256) image.segments → (address : ℕ) → held image memory address < 256
held_small image memory small segments address =
    small_if (is_written memory address) (byte_at memory address) (unwrap_or (byte_of image address) (byte_at memory address)) (small address)
    (small_in (segment_of image address) address (byte_at memory address)
    (λ s e. found_has (λ s. (k : ℕ) → slice_index s.bytes k < 256) _ image.segments s segments e) (small address))

-- an address at which the image has a byte lies in a segment
spanned : (segments : List Segment) (address byte : ℕ) → option_map (λ s. byte_in s address) (find (λ s. spans address s) segments) ≡ Some byte → list_any (λ s. spans address s) segments ≡ true
spanned [] address byte e = absurd (cc)
spanned (s ∷ segments) address byte e = by (spans address s) (spanned segments address byte) e
  where
    by : (b : Bool) → (option_map (λ s. byte_in s address) (find (λ s. spans address s) segments) ≡ Some byte → list_any (λ s. spans address s) segments ≡ true)
        → option_map (λ s. byte_in s address) (cond b (Some s) (find (λ s. spans address s) segments)) ≡ Some byte → (b || list_any (λ s. spans address s) segments) ≡ true
    by true later e = refl
    by false later e = later e

-- the image's bytes stand where its segments are, if nothing was written there
held_image : (image : Image) (memory : Bytes) (address byte : ℕ) → (is_written memory address ≡ true → Covers image address → ⊥) → byte_of image address ≡ Some byte → held image memory address ≡ byte
held_image image memory address byte outside e =
    ap (λ (b : Bool). cond b (byte_at memory address) (unwrap_or (byte_of image address) (byte_at memory address)))
    (false_from_ne_true (is_written memory address) (λ written. outside written (Any-from_list_any (λ s. spans address s) image.segments (spanned image.segments address byte e))))
    ∙ ap (λ (o : Option ℕ). unwrap_or o (byte_at memory address)) e

-- registers, memory and a cache in range, and no byte of the image written, are one of the starts
pub are_start : (machine : Machine) (image : Image) (entry : ℕ) (start : Start) → registers_of start.cpu.regs pc ≡ entry → AreInRange start → All (λ s. (k : ℕ) → slice_index s.bytes k < 256) image.segments
    → IsCache machine.shape start.cache.lists → ((at : ℕ) → is_written start.cpu.memory at ≡ true → Covers image at → ⊥) → IsStart machine image entry (start_of image start)
are_start machine image entry start at range segments cache outside = record {
  entered = at;
  words = range.words;
  bytes = held_small image start.cpu.memory range.bytes.each segments;
  loaded = λ address byte e. held_image image start.cpu.memory address byte (outside address) e;
  cached = cache;
}

-- what a text tells is one of the starts
pub made_starts : (machine : Machine) (image : Image) (entry : ℕ) (items : List Item) (r : Result Start StartError) → All (λ s. (k : ℕ) → slice_index s.bytes k < 256) image.segments
    → IfOk r (λ start. IsStartOf entry machine.shape items start) → IfOk r AreInRange → OnOk r (IsCache machine.shape (sets_said machine.shape items)) → IfOk r (λ start. (at : ℕ) → is_written start.cpu.memory at ≡ true → Covers image at → ⊥)
    → IfOk r (λ start. IsStart machine image entry (start_of image start))
made_starts machine image entry items (Err e) segments is range cache outside = tt
made_starts machine image entry items (Ok start) segments is range cache outside = are_start machine image entry start is.registers.pc range segments (subst (λ (lists : Lines). IsCache machine.shape lists) (sym is.cache.of_lists) cache) outside

-- the first segments hold bytes
pub record HoldBytes (segments : List Segment) (n : ℕ) : Type 0 where
  pub each : (i : ℕ) (d : Segment) → i < n → (k : ℕ) → slice_index (get_or segments i d).bytes k < 256

pub one_more : (segments : List Segment) (n : ℕ) (bytes : List ℕ) → HoldBytes segments n → ((d : Segment) → bytes ≡ (get_or segments n d).bytes) → ((k : ℕ) → slice_index bytes k < 256) → HoldBytes segments (n + 1)
one_more segments n bytes before is small = record {
  each = λ i d lt k.
      ⊎_elim (λ b. before.each i d b k)
      (λ a. let same : n ≡ i = omega arith in subst (λ j. slice_index (get_or segments j d).bytes k < 256) same (subst (λ (bs : List ℕ). slice_index bs k < 256) (is d) (small k)))
      (cases_lt i n);
}
