-- The events of a block, instruction by instruction: which lines they fetch, and whether an instruction misses or is slow.
use Rattle.std.proofs.Common.{◌≡◌, ℕ, zero, suc, ◌+◌, ◌<◌, ◌≤◌, Bool, true, false, cond, not, ◌==◌, ◌&&◌, ◌||◌, List, [], ◌∷◌, ◌++◌, length, refl, sym, ap, subst, ◌∙◌, inl, inr, arith, append_assoc}
use Rattle.std.specs.Prelude.{Option, Some, None}
use Rattle.std.specs.Option.{option_map_or}
use Rattle.std.proofs.lemmas.Bool.{cases_eq, eq-eqb, false≢true, ne_eqb, true≢false}
use Rattle.std.proofs.lemmas.List.{append-nil}
use Rattle.wx_base.specs.declared.image.Image.{Image}
use Rattle.wx_base.specs.declared.machine.Machine.{Machine}
use Rattle.wx_base.specs.declared.machine.UnitKind.{UnitKind}
use Rattle.wx_base.specs.declared.machine.UnitKind.TheVariants.{Alu, Mul, Mem}
use Rattle.wx_base.specs.Cache.{Lines, holds_line}
use Rattle.wx_base.specs.Functions.{code_at}
use Rattle.wx_base.specs.Instruction.{unit_of}
use Rattle.xdd_table.specs.Diagram.{Combination}
use Rattle.flow_block.specs.declared.block.Slot.{Slot}
use Rattle.flow_block.specs.declared.block.SlotKind.{SlotKind}
use Rattle.flow_block.specs.declared.block.SlotKind.TheVariants.{Fetch, Multiply, Data}
use Rattle.flow_block.specs.Blocks.{slots_of, slots_at, fetch_slots, unit_slots, has_line, line_at}
use Rattle.flow_block.specs.Sites.{behind}
use Rattle.pipe_block.specs.Events.{is_fetch, misses}
use Rattle.cache_pers.specs.Stays.{cache_along}
use Rattle.cache_class.specs.Accesses.{lines_fetched}
use Rattle.class_laws.proofs.Caches.{outcome_at, outcomes}

or_assoc : (a b c : Bool) → (a || (b || c)) ≡ ((a || b) || c)
or_assoc true b c = refl
or_assoc false b c = refl

or_none : (a : Bool) → (a || false) ≡ a
or_none true = refl
or_none false = refl

-- an event of another instruction
pub other_one : (a b : Bool) → a ≡ false → ((a && b) || false) ≡ false
other_one true b e = absurd (true≢false e)
other_one false b e = refl

-- an event of the instruction
pub own_one : (a b : Bool) → a ≡ true → ((a && b) || false) ≡ b
own_one true true e = refl
own_one true false e = refl
own_one false b e = absurd (false≢true e)

-- an event of the other kind
pub other_kind : (a : Bool) → ((a && false) || false) ≡ false
other_kind true = refl
other_kind false = refl

-- ---- events of other instructions

module _ (kind : SlotKind → Bool) (f : Combination) (place : ℕ) where
  misses_append : (number : ℕ) (xs ys : List Slot) → misses kind f place number (xs ++ ys) ≡ (misses kind f place number xs || misses kind f place (number + length xs) ys)
  misses_append number [] ys = ap (λ k. misses kind f place k ys) (omega arith)
  misses_append number (x ∷ xs) ys =
      let here = (x.at == place) && (kind x.kind && f number) in
      let shifted : number + 1 + length xs ≡ number + suc (length xs) = omega arith in
      ap (λ b. here || b) (misses_append (number + 1) xs ys)
      ∙ or_assoc here (misses kind f place (number + 1) xs) (misses kind f place (number + 1 + length xs) ys)
      ∙ ap (λ k. (here || misses kind f place (number + 1) xs) || misses kind f place k ys) shifted

  pub misses_seam : (number : ℕ) (xs ys : List Slot) → misses kind f place number xs ≡ false → misses kind f place number (xs ++ ys) ≡ misses kind f place (number + length xs) ys
  misses_seam number xs ys none = misses_append number xs ys ∙ ap (λ b. b || misses kind f place (number + length xs) ys) none

  misses_front : (number : ℕ) (xs ys : List Slot) → misses kind f place (number + length xs) ys ≡ false → misses kind f place number (xs ++ ys) ≡ misses kind f place number xs
  misses_front number xs ys none = misses_append number xs ys ∙ ap (λ b. misses kind f place number xs || b) none ∙ or_none (misses kind f place number xs)

  other_fetch : (number at line : ℕ) (b : Bool) → (at == place) ≡ false → misses kind f place number (cond b [] (record { at = at; kind = Fetch line } ∷ [])) ≡ false
  other_fetch number at line true e = refl
  other_fetch number at line false e = other_one (at == place) (kind (Fetch line) && f number) e

  other_unit : (number at : ℕ) (unit : UnitKind) → (at == place) ≡ false → misses kind f place number (unit_slots at unit) ≡ false
  other_unit number at Alu e = refl
  other_unit number at Mul e = other_one (at == place) (kind Multiply && f number) e
  other_unit number at Mem e = other_one (at == place) (kind Data && f number) e

-- the events of the unit of the instruction at a place, if there is one
abbrev pub unit_part : Image → ℕ → ℕ → List Slot
unit_part image start at = option_map_or (λ word. unit_slots at (unit_of word)) (code_at image (behind start at)) []

module _ (image : Image) (machine : Machine) (start : ℕ) where
  module _ (kind : SlotKind → Bool) (f : Combination) (place : ℕ) where
    other_part : (number at : ℕ) (word : Option ℕ) → (at == place) ≡ false → misses kind f place number (option_map_or (λ word. unit_slots at (unit_of word)) word []) ≡ false
    other_part number at None e = refl
    other_part number at (Some word) e = other_unit kind f place number at (unit_of word) e

    other_instruction : (number at : ℕ) → (at == place) ≡ false → misses kind f place number (slots_at image machine start at) ≡ false
    other_instruction number at e =
        misses_seam kind f place number (fetch_slots machine start at) (unit_part image start at)
        (other_fetch kind f place number at (line_at machine start at) (has_line machine start at (line_at machine start at)) e)
        ∙ other_part (number + length (fetch_slots machine start at)) at (code_at image (behind start at)) e

    earlier_ones : (number count : ℕ) → count ≤ place → misses kind f place number (slots_of image machine start count) ≡ false
    earlier_ones number zero less = refl
    earlier_ones number (suc count) less =
        misses_seam kind f place number (slots_of image machine start count) (slots_at image machine start count) (earlier_ones number count (omega arith))
        ∙ other_instruction (number + length (slots_of image machine start count)) count (ne_eqb count place (λ e. absurd (omega arith)))

    -- of all events of a block those of the instruction itself decide
    pub own_events : (count : ℕ) → place < count
        → misses kind f place 0 (slots_of image machine start count) ≡ misses kind f place (length (slots_of image machine start place)) (slots_at image machine start place)
    own_events zero less = absurd (omega arith)
    own_events (suc count) less = elim (cases_eq place count) [
      | inl e ↦
          subst (λ k. misses kind f place 0 (slots_of image machine start (suc k)) ≡ misses kind f place (length (slots_of image machine start place)) (slots_at image machine start place)) e
          (misses_seam kind f place 0 (slots_of image machine start place) (slots_at image machine start place) (earlier_ones 0 place (omega arith))
          ∙ ap (λ k. misses kind f place k (slots_at image machine start place)) (omega arith))
      | inr other ↦
          misses_front kind f place 0 (slots_of image machine start count) (slots_at image machine start count)
          (other_instruction (0 + length (slots_of image machine start count)) count (ne_eqb count place (λ e. other (sym e))))
          ∙ own_events count (omega arith)
    ]

  -- ---- what stands before the events of an instruction

  -- the events before an instruction, its own, and those behind it
  pub record HasRest (count place : ℕ) : Type 0 where
    pub rest : List Slot
    pub are : slots_of image machine start count ≡ slots_of image machine start place ++ (slots_at image machine start place ++ rest)

  pub has_rest : (count place : ℕ) → place < count → HasRest count place
  has_rest zero place less = absurd (omega arith)
  has_rest (suc count) place less = elim (cases_eq place count) [
    | inl e ↦ record {
      rest = [];
      are = subst (λ k. slots_of image machine start (suc k) ≡ slots_of image machine start place ++ (slots_at image machine start place ++ [])) e
          (ap (λ xs. slots_of image machine start place ++ xs) (sym (append-nil (slots_at image machine start place))));
    }
    | inr other ↦
        let so_far = has_rest count place (omega arith) in
        let own = slots_at image machine start place in
        let more = slots_at image machine start count in
        record {
          rest = so_far.rest ++ more;
          are = ap (λ xs. xs ++ more) so_far.are
              ∙ append_assoc (slots_of image machine start place) (own ++ so_far.rest) more
              ∙ ap (λ xs. slots_of image machine start place ++ xs) (append_assoc own so_far.rest more);
        }
  ]

  -- ---- the fetch of an instruction

  no_unit_fetches : (f : Combination) (place number : ℕ) (unit : UnitKind) → misses is_fetch f place number (unit_slots place unit) ≡ false
  no_unit_fetches f place number Alu = refl
  no_unit_fetches f place number Mul = other_kind (place == place)
  no_unit_fetches f place number Mem = other_kind (place == place)

  no_part_fetches : (f : Combination) (place number : ℕ) (word : Option ℕ) → misses is_fetch f place number (option_map_or (λ word. unit_slots place (unit_of word)) word []) ≡ false
  no_part_fetches f place number None = refl
  no_part_fetches f place number (Some word) = no_unit_fetches f place number (unit_of word)

  own_fetch : (f : Combination) (place number line : ℕ) (b : Bool) → misses is_fetch f place number (cond b [] (record { at = place; kind = Fetch line } ∷ [])) ≡ cond b false (f number)
  own_fetch f place number line true = refl
  own_fetch f place number line false = own_one (place == place) (f number) (eq-eqb place place refl)

  fetch_in : (f : Combination) (count place : ℕ) → place < count
      → misses is_fetch f place 0 (slots_of image machine start count) ≡ cond (has_line machine start place (line_at machine start place)) false (f (length (slots_of image machine start place)))
  fetch_in f count place less =
      own_events is_fetch f place count less
      ∙ misses_front is_fetch f place (length (slots_of image machine start place)) (fetch_slots machine start place) (unit_part image start place)
      (no_part_fetches f place (length (slots_of image machine start place) + length (fetch_slots machine start place)) (code_at image (behind start place)))
      ∙ own_fetch f place (length (slots_of image machine start place)) (line_at machine start place) (has_line machine start place (line_at machine start place))

  module _ (cache : Lines) (slow : ℕ → Bool) (count place : ℕ) (less : place < count) where
    -- the cache before the events of the instruction
    abbrev pub front : Lines
    front = cache_along machine.shape cache (lines_fetched (slots_of image machine start place))

    abbrev all_events : List Slot
    all_events = slots_of image machine start count

    first_of_line : has_line machine start place (line_at machine start place) ≡ false
        → outcomes machine.shape cache slow all_events (length (slots_of image machine start place)) ≡ not (holds_line machine.shape front (line_at machine start place))
    first_of_line e =
        let there = has_rest count place less in
        let fetch : Slot = record { at = place; kind = Fetch (line_at machine start place) } in
        let fetches : fetch_slots machine start place ≡ fetch ∷ [] = ap (λ b. cond b [] (fetch ∷ [])) e in
        outcome_at machine.shape cache slow all_events (slots_of image machine start place) fetch (unit_part image start place ++ there.rest)
        (there.are ∙ ap (λ xs. slots_of image machine start place ++ ((xs ++ unit_part image start place) ++ there.rest)) fetches)

    -- the fetch of an instruction that is the first of its line misses if the line is not there
    pub first_misses : has_line machine start place (line_at machine start place) ≡ false
        → misses is_fetch (outcomes machine.shape cache slow all_events) place 0 all_events ≡ not (holds_line machine.shape front (line_at machine start place))
    first_misses e =
        fetch_in (outcomes machine.shape cache slow all_events) count place less
        ∙ ap (λ b. cond b false (outcomes machine.shape cache slow all_events (length (slots_of image machine start place)))) e
        ∙ first_of_line e

    -- another one does not miss
    pub others_hit : has_line machine start place (line_at machine start place) ≡ true
        → misses is_fetch (outcomes machine.shape cache slow all_events) place 0 all_events ≡ false
    others_hit e =
        fetch_in (outcomes machine.shape cache slow all_events) count place less
        ∙ ap (λ b. cond b false (outcomes machine.shape cache slow all_events (length (slots_of image machine start place)))) e
