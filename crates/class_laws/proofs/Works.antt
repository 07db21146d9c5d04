-- Which instructions of a block are slow, by the events of their units.
use Rattle.std.proofs.Common.{◌≡◌, ℕ, zero, suc, ◌+◌, ◌<◌, Bool, true, false, cond, ◌==◌, List, [], ◌∷◌, ◌++◌, length, slice_get, refl, sym, ap, ◌∙◌, subst, append_assoc, length-append}
use Rattle.std.specs.Prelude.{Option, Some, None}
use Rattle.std.specs.Option.{option_map_or}
use Rattle.std.proofs.lemmas.Bool.{eq-eqb}
use Rattle.std.proofs.lemmas.Option.{none-some, same_Some}
use Rattle.wx_base.specs.declared.image.Image.{Image}
use Rattle.wx_base.specs.declared.machine.Machine.{Machine}
use Rattle.wx_base.specs.declared.machine.UnitKind.{UnitKind}
use Rattle.wx_base.specs.declared.machine.UnitKind.TheVariants.{Alu, Mul, Mem}
use Rattle.wx_base.specs.Cache.{Lines}
use Rattle.wx_base.specs.Functions.{code_at}
use Rattle.wx_base.specs.Instruction.{unit_of}
use Rattle.xdd_table.specs.Diagram.{Combination}
use Rattle.flow_block.specs.declared.block.Slot.{Slot}
use Rattle.flow_block.specs.declared.block.SlotKind.TheVariants.{Fetch, Multiply, Data}
use Rattle.flow_block.specs.Blocks.{slots_of, slots_at, fetch_slots, unit_slots, has_line, line_at}
use Rattle.flow_block.specs.Sites.{behind}
use Rattle.pipe_block.specs.Events.{is_work, misses}
use Rattle.class_laws.proofs.Caches.{outcome_at, outcomes}
use Rattle.class_laws.proofs.Events.{has_rest, misses_seam, other_kind, own_events, own_one, unit_part}
use Rattle.class_laws.proofs.Lists.{in_either}
use Rattle.class_laws.proofs.Lists.IsInEither.{in_first, in_second}

-- whether an instruction of a unit is slow: none of the ALU is
abbrev pub works : UnitKind → Bool → Bool
works Alu slow = false
works Mul slow = slow
works Mem slow = slow

no_work : (f : Combination) (place number line : ℕ) (b : Bool) → misses is_work f place number (cond b [] (record { at = place; kind = Fetch line } ∷ [])) ≡ false
no_work f place number line true = refl
no_work f place number line false = other_kind (place == place)

module _ (image : Image) (machine : Machine) (start : ℕ) where
  module _ (cache : Lines) (slow : ℕ → Bool) (count place : ℕ) (less : place < count) where
    abbrev all_events : List Slot
    all_events = slots_of image machine start count

    abbrev given : Combination
    given = outcomes machine.shape cache slow all_events

    -- the events before that of the unit
    abbrev before : List Slot
    before = slots_of image machine start place ++ fetch_slots machine start place

    there : (event : Slot) → unit_part image start place ≡ event ∷ [] → all_events ≡ before ++ event ∷ (has_rest image machine start count place less).rest
    there event e =
        let rest = (has_rest image machine start count place less).rest in
        let fetches = fetch_slots machine start place in
        let earlier = slots_of image machine start place in
        (has_rest image machine start count place less).are
        ∙ ap (λ xs. earlier ++ ((fetches ++ xs) ++ rest)) e
        ∙ ap (λ xs. earlier ++ xs) (append_assoc fetches (event ∷ []) rest)
        ∙ sym (append_assoc earlier fetches (event ∷ rest))

    unit_works : (unit : UnitKind) → unit_part image start place ≡ unit_slots place unit → misses is_work given place (length before) (unit_slots place unit) ≡ works unit (slow place)
    unit_works Alu e = refl
    unit_works Mul e =
        let event : Slot = record { at = place; kind = Multiply } in
        own_one (place == place) (given (length before)) (eq-eqb place place refl)
        ∙ outcome_at machine.shape cache slow all_events before event (has_rest image machine start count place less).rest (there event e)
    unit_works Mem e =
        let event : Slot = record { at = place; kind = Data } in
        own_one (place == place) (given (length before)) (eq-eqb place place refl)
        ∙ outcome_at machine.shape cache slow all_events before event (has_rest image machine start count place less).rest (there event e)

    -- an instruction is slow at the outcomes as its unit lets it be
    pub work_is : (word : ℕ) → code_at image (behind start place) ≡ Some word → misses is_work given place 0 all_events ≡ works (unit_of word) (slow place)
    work_is word code =
        let part : unit_part image start place ≡ unit_slots place (unit_of word) = ap (λ (o : Option ℕ). option_map_or (λ word. unit_slots place (unit_of word)) o []) code in
        let earlier = slots_of image machine start place in
        let fetches = fetch_slots machine start place in
        own_events image machine start is_work given place count less
        ∙ misses_seam is_work given place (length earlier) fetches (unit_part image start place) (no_work given place (length earlier) (line_at machine start place) (has_line machine start place (line_at machine start place)))
        ∙ ap (λ xs. misses is_work given place (length earlier + length fetches) xs) part
        ∙ ap (λ k. misses is_work given place k (unit_slots place (unit_of word))) (sym (length-append earlier fetches))
        ∙ unit_works (unit_of word) part

  -- ---- accesses to data

  -- an access to data is that of an instruction of the unit of memory
  pub record IsTransfer (at : ℕ) : Type 0 where
    pub word : ℕ
    pub code : code_at image (behind start at) ≡ Some word
    pub unit : unit_of word ≡ Mem

  single : (x event : Slot) (k : ℕ) → slice_get (x ∷ []) k ≡ Some event → x ≡ event
  single x event zero e = same_Some x event e
  single x event (suc k) e = absurd (none-some event e)

  no_fetch : (at line k : ℕ) (b : Bool) (event : Slot) → slice_get (cond b [] (record { at = at; kind = Fetch line } ∷ [])) k ≡ Some event → event.kind ≡ Data → ⊥
  no_fetch at line k true event e d = none-some event e
  no_fetch at line k false event e d =
      absurd (let f : Fetch line ≡ Data = ap (λ (s : Slot). s.kind) (single (record { at = at; kind = Fetch line }) event k e) ∙ d in cc)

  of_unit : (at k : ℕ) (unit : UnitKind) (event : Slot) → slice_get (unit_slots at unit) k ≡ Some event → event.kind ≡ Data → (unit ≡ Mem) × (event.at ≡ at)
  of_unit at k Alu event e d = absurd (none-some event e)
  of_unit at k Mul event e d =
      absurd (let f : Multiply ≡ Data = ap (λ (s : Slot). s.kind) (single (record { at = at; kind = Multiply }) event k e) ∙ d in cc)
  of_unit at k Mem event e d = (refl, sym (ap (λ (s : Slot). s.at) (single (record { at = at; kind = Data }) event k e)))

  of_part : (at k : ℕ) (word : Option ℕ) (event : Slot) → code_at image (behind start at) ≡ word
      → slice_get (option_map_or (λ word. unit_slots at (unit_of word)) word []) k ≡ Some event → event.kind ≡ Data → IsTransfer event.at
  of_part at k None event code e d = absurd (none-some event e)
  of_part at k (Some word) event code e d =
      let is = of_unit at k (unit_of word) event e d in
      subst IsTransfer (sym is.1) (record { word = word; code = code; unit = is.0 })

  of_instruction : (at k : ℕ) (event : Slot) → slice_get (slots_at image machine start at) k ≡ Some event → event.kind ≡ Data → IsTransfer event.at
  of_instruction at k event e d = elim (in_either (fetch_slots machine start at) (unit_part image start at) k event e) [
    | in_first f ↦ absurd (no_fetch at (line_at machine start at) k (has_line machine start at (line_at machine start at)) event f d)
    | in_second j f ↦ of_part at j (code_at image (behind start at)) event refl f d
  ]

  pub data_transfers : (count k : ℕ) (event : Slot) → slice_get (slots_of image machine start count) k ≡ Some event → event.kind ≡ Data → IsTransfer event.at
  data_transfers zero k event e d = absurd (none-some event e)
  data_transfers (suc count) k event e d = elim (in_either (slots_of image machine start count) (slots_at image machine start count) k event e) [
    | in_first f ↦ data_transfers count k event f d
    | in_second j f ↦ of_instruction count j event f d
  ]
