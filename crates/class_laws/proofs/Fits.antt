-- The instructions of a block that were executed are those of the block at what its events came to.
use Rattle.std.proofs.Common.{◌≡◌, ℕ, zero, suc, ◌+◌, ◌<◌, ◌≤◌, Bool, true, false, cond, not, ◌==◌, List, [], ◌∷◌, length, map, take, reverse, slice_get, ◌⊎◌, refl, sym, ap, ◌∙◌, inl, inr, arith}
use Rattle.std.specs.Prelude.{Some}
use Rattle.std.proofs.lemmas.Bool.{eq-eqb, ne_eqb}
use Rattle.std.proofs.lemmas.Option.{none-some, same_Some}
use Rattle.wx_base.specs.declared.facts.Facts.{Facts}
use Rattle.wx_base.specs.declared.image.Image.{Image}
use Rattle.wx_base.specs.declared.machine.Machine.{Machine}
use Rattle.wx_base.specs.declared.machine.UnitKind.{UnitKind}
use Rattle.wx_base.specs.declared.machine.UnitKind.TheVariants.{Alu, Mul, Mem}
use Rattle.wx_base.specs.Cache.{Lines, IsCache, holds_line}
use Rattle.wx_base.specs.Functions.{code_at}
use Rattle.wx_base.specs.Instruction.{unit_of}
use Rattle.wx_base.specs.Machine.{IsShape}
use Rattle.wx_base.specs.Recurrence.{Entry}
use Rattle.wx_base.specs.Run.{Executed}
use Rattle.arm_code.specs.declared.insn.Insn.{Insn}
use Rattle.arm_code.specs.Encoding.{word_of}
use Rattle.xdd_table.specs.Diagram.{Combination}
use Rattle.flow_block.specs.declared.block.Block.{Block}
use Rattle.flow_block.specs.declared.block.Slot.{Slot}
use Rattle.flow_block.specs.Blocks.{IsBlock, line_at}
use Rattle.flow_block.specs.Sites.{behind}
use Rattle.pipe_block.specs.Events.{entries_from, entries_of, is_fetch, is_work, misses}
use Rattle.time_laws.specs.Stretches.{jumping}
use Rattle.cache_lru.specs.Laws.{AccessKeepsCache, SecondAccessHits}
use Rattle.run_laws.specs.Stepping.{MayBeSlow}
use Rattle.run_laws.specs.Stepping.MayBeSlow.{multiplies, transfers}
use Rattle.class_laws.proofs.Caches.{outcomes}
use Rattle.class_laws.proofs.Fronts.{fetch_misses, front_of}
use Rattle.class_laws.proofs.Lists.{reverse_more}
use Rattle.class_laws.proofs.Works.{work_is, works}

-- the instruction of an entry, without the address
abbrev pub entry_of : Executed → Entry
entry_of i = i.done.entry

-- whether the instruction executed last jumped
abbrev pub last_taken : List Executed → Bool
last_taken [] = false
last_taken (i ∷ executed) = i.done.entry.taken

-- whether the instruction at a place of a block was slow, by those that were executed of it; the last one stands first
abbrev pub slow_in : List Executed → ℕ → Bool
slow_in [] place = false
slow_in (i ∷ executed) place = cond (place == length executed) i.done.entry.slow (slow_in executed place)

module _ (image : Image) (machine : Machine) (b : Block) (cache : Lines) where
  -- an instruction was executed at a place of the block, with the cache that the events before it leave
  pub record FitsAt (place : ℕ) (i : Executed) : Type 0 where
    pub insn : Insn
    pub stands : slice_get b.insns place ≡ Some insn
    pub word : word_of insn ≡ i.done.entry.word
    pub code : code_at image (behind b.start place) ≡ Some i.done.entry.word
    pub miss : i.done.entry.miss ≡ not (holds_line machine.shape (front_of image machine b.start cache place) (line_at machine b.start place))
    pub slow : i.done.entry.slow ≡ true → MayBeSlow machine i.done.entry.word
    pub straight : suc place < length b.insns → i.done.entry.taken ≡ false

  -- so many instructions were executed from the begin of the block on, the last one first
  pub data Fits : List Executed → ℕ → Type 0 where
    none : Fits [] 0
    one : (i : Executed) (executed : List Executed) (place : ℕ) → Fits executed place → FitsAt place i → Fits (i ∷ executed) (suc place)

  pub count_is : (executed : List Executed) (place : ℕ) → Fits executed place → length executed ≡ place
  count_is executed place none = refl
  count_is executed place (one i before k fits at) = ap suc (count_is before k fits)

-- ---- the entries of a block, place by place

entry_there : (f : Combination) (events : List Slot) (first : ℕ) (insns : List Insn) (k place : ℕ) (insn : Insn) → slice_get insns k ≡ Some insn → place ≡ first + k
    → slice_get (entries_from f events first insns) k
    ≡ Some (record { word = word_of insn; miss = misses is_fetch f place 0 events; slow = misses is_work f place 0 events; taken = false })
entry_there f events first [] k place insn e at = absurd (none-some insn e)
entry_there f events first (x ∷ insns) zero place insn e at =
    let same : first ≡ place = omega arith in
    λ i. Some (record { word = word_of (same_Some x insn e i); miss = misses is_fetch f (same i) 0 events; slow = misses is_work f (same i) 0 events; taken = false })
entry_there f events first (x ∷ insns) (suc k) place insn e at = entry_there f events (first + 1) insns k place insn e (omega arith)

may_work : (machine : Machine) (word : ℕ) → MayBeSlow machine word → (unit_of word ≡ Mul) ⊎ (unit_of word ≡ Mem)
may_work machine word (multiplies e) = inl e
may_work machine word (transfers e r) = inr e

slow_works : (unit : UnitKind) (slow : Bool) → (slow ≡ true → (unit ≡ Mul) ⊎ (unit ≡ Mem)) → slow ≡ works unit slow
slow_works Mul slow h = refl
slow_works Mem slow h = refl
slow_works Alu false h = refl
slow_works Alu true h = elim (h refl) [
  | inl e ↦ absurd cc
  | inr e ↦ absurd cc
]

module _ (keeps : AccessKeepsCache) (again : SecondAccessHits) (image : Image) (facts : Facts) (machine : Machine) (shape : IsShape machine.shape)
    (entry : ℕ) (b : Block) (is : IsBlock image facts machine entry b) (cache : Lines) (c : IsCache machine.shape cache) (slow : ℕ → Bool) where
  abbrev given : Combination
  given = outcomes machine.shape cache slow b.slots

  -- the entry of the block at a place
  abbrev entry_at_place : Insn → ℕ → Entry
  entry_at_place insn place = record { word = word_of insn; miss = misses is_fetch given place 0 b.slots; slow = misses is_work given place 0 b.slots; taken = false }

  entry_is : (place : ℕ) (insn : Insn) → slice_get b.insns place ≡ Some insn → slice_get (entries_of b given) place ≡ Some (entry_at_place insn place)
  entry_is place insn e = entry_there given b.slots 0 b.insns place place insn e (omega arith)

  abbrev Placed : ℕ → Executed → Type 0
  Placed place i = FitsAt image machine b cache place i

  same_miss : (place : ℕ) (i : Executed) → place < length b.insns → Placed place i → i.done.entry.miss ≡ misses is_fetch given place 0 b.slots
  same_miss place i less at =
      at.miss
      ∙ sym (fetch_misses image machine b.start keeps again shape cache c slow (length b.insns) place less (omega (arith, is.count.short)))
      ∙ sym (ap (λ (s : List Slot). misses is_fetch (outcomes machine.shape cache slow s) place 0 s) is.slots)

  same_slow : (place : ℕ) (i : Executed) → place < length b.insns → Placed place i → slow place ≡ i.done.entry.slow → i.done.entry.slow ≡ misses is_work given place 0 b.slots
  same_slow place i less at agrees =
      slow_works (unit_of i.done.entry.word) i.done.entry.slow (λ s. may_work machine i.done.entry.word (at.slow s))
      ∙ ap (works (unit_of i.done.entry.word)) (sym agrees)
      ∙ sym (work_is image machine b.start cache slow (length b.insns) place less i.done.entry.word at.code)
      ∙ sym (ap (λ (s : List Slot). misses is_work (outcomes machine.shape cache slow s) place 0 s) is.slots)

  same_entry : (place : ℕ) (i : Executed) → place < length b.insns → (at : Placed place i) → slow place ≡ i.done.entry.slow
      → i.done.entry ≡ record (entry_at_place at.insn place) { taken = i.done.entry.taken }
  same_entry place i less at agrees = λ j. record {
    word = sym at.word j;
    miss = same_miss place i less at j;
    slow = same_slow place i less at agrees j;
    taken = i.done.entry.taken;
  }

  -- the slow instructions are those that were executed
  record Agrees (executed : List Executed) (place : ℕ) : Type 0 where
    each : (k : ℕ) → k < place → slow k ≡ slow_in executed k

  newest : (i : Executed) (executed : List Executed) (place : ℕ) → length executed ≡ place → Agrees (i ∷ executed) (suc place) → slow place ≡ i.done.entry.slow
  newest i executed place e agrees =
      agrees.each place (omega arith)
      ∙ ap (λ b. cond b i.done.entry.slow (slow_in executed place)) (eq-eqb place (length executed) (sym e))

  older : (i : Executed) (executed : List Executed) (place : ℕ) → length executed ≡ place → Agrees (i ∷ executed) (suc place) → Agrees executed place
  older i executed place e agrees = record {
    each = λ k less.
        agrees.each k (omega arith)
        ∙ ap (λ b. cond b i.done.entry.slow (slow_in executed k)) (ne_eqb k (length executed) (λ same. absurd (omega arith)));
  }

  abbrev all_entries : List Entry
  all_entries = entries_of b given

  -- before the last instruction of the block no one jumped
  before_last : (executed : List Executed) (place : ℕ) → place < length b.insns → Fits image machine b cache executed place → Agrees executed place
      → map entry_of executed ≡ reverse (take place all_entries)
  before_last executed place less none agrees = refl
  before_last executed place less (one i before k fits at) agrees =
      let count = count_is image machine b cache before k fits in
      let here : i.done.entry ≡ entry_at_place at.insn k =
      same_entry k i (omega arith) at (newest i before k count agrees) ∙ ap (λ t. record (entry_at_place at.insn k) { taken = t }) (at.straight less) in
      let rest = before_last before k (omega arith) fits (older i before k count agrees) in
      (λ j. here j ∷ rest j) ∙ sym (reverse_more all_entries k (entry_at_place at.insn k) (entry_is k at.insn at.stands))

  told : (executed : List Executed) (place : ℕ) → place ≤ length b.insns → Fits image machine b cache executed place → Agrees executed place
      → map entry_of executed ≡ jumping (last_taken executed) (reverse (take place all_entries))
  told executed place less none agrees = refl
  told executed place less (one i before k fits at) agrees =
      let count = count_is image machine b cache before k fits in
      let here = same_entry k i (omega arith) at (newest i before k count agrees) in
      let rest = before_last before k (omega arith) fits (older i before k count agrees) in
      (λ j. here j ∷ rest j) ∙ sym (ap (jumping i.done.entry.taken) (reverse_more all_entries k (entry_at_place at.insn k) (entry_is k at.insn at.stands)))

-- what was executed of a block are its instructions at what its events came to
pub executed_are : (keeps : AccessKeepsCache) (again : SecondAccessHits) (image : Image) (facts : Facts) (machine : Machine) (shape : IsShape machine.shape)
    (entry : ℕ) (b : Block) (is : IsBlock image facts machine entry b) (cache : Lines) (c : IsCache machine.shape cache)
    (executed : List Executed) (place : ℕ) → place ≤ length b.insns → Fits image machine b cache executed place
    → map entry_of executed ≡ jumping (last_taken executed) (reverse (take place (entries_of b (outcomes machine.shape cache (slow_in executed) b.slots))))
executed_are keeps again image facts machine shape entry b is cache c executed place less fits =
    told keeps again image facts machine shape entry b is cache c (slow_in executed) executed place less fits (record { each = λ k h. refl })
