-- Where a block begins, it has a length.
use Rattle.std.proofs.Common.{◌≡◌, ◌⊎◌, inl, inr, ⊎_elim, ℕ, zero, suc, ◌+◌, ◌<◌, ◌≤◌, Bool, true, false, cond, [], ◌∷◌, ◌++◌, length, Option, Some, None, refl, subst, arith}
use Rattle.std.specs.Option.{option_map_or}
use Rattle.std.proofs.lemmas.Bool.{cases_lt}
use Rattle.std.proofs.lemmas.List.{length-append}
use Rattle.wx_base.specs.declared.facts.Facts.{Facts}
use Rattle.wx_base.specs.declared.image.Image.{Image}
use Rattle.wx_base.specs.declared.machine.Machine.{Machine}
use Rattle.wx_base.specs.declared.machine.UnitKind.{UnitKind}
use Rattle.wx_base.specs.declared.machine.UnitKind.TheVariants.{Alu, Mul, Mem}
use Rattle.wx_base.specs.Functions.{code_at}
use Rattle.wx_base.specs.Instruction.{unit_of}
use Rattle.flow_block.specs.declared.block.Slot.{Slot}
use Rattle.flow_block.specs.declared.block.SlotKind.TheVariants.{Fetch}
use Rattle.flow_block.specs.Blocks.{IsLeader, IsLength, fetch_slots, has_line, line_at, most_insns, most_slots, slots_of, unit_slots}
use Rattle.flow_block.specs.Sites.{behind, flow_at, is_end}

-- ---- one instruction has few events
at_most_one : (b : Bool) (s : Slot) → length (cond b [] (s ∷ [])) ≤ 1
at_most_one true s = omega arith
at_most_one false s = omega arith

of_unit : (at : ℕ) (unit : UnitKind) → length (unit_slots at unit) ≤ 1
of_unit at Alu = omega arith
of_unit at Mul = omega arith
of_unit at Mem = omega arith

of_word : (at : ℕ) (o : Option ℕ) → length (option_map_or (λ word. unit_slots at (unit_of word)) o []) ≤ 1
of_word at (Some word) = of_unit at (unit_of word)
of_word at None = omega arith

few_alone : (image : Image) (machine : Machine) (start : ℕ) → length (slots_of image machine start 1) ≤ most_slots
few_alone image machine start =
    let fetched = fetch_slots machine start 0 in
    let worked = option_map_or (λ word. unit_slots 0 (unit_of word)) (code_at image (behind start 0)) [] in
    let a : length fetched ≤ 1 = at_most_one (has_line machine start 0 (line_at machine start 0)) (record { at = 0; kind = Fetch (line_at machine start 0) }) in
    let b : length worked ≤ 1 = of_word 0 (code_at image (behind start 0)) in
    let c : length (fetched ++ worked) ≡ length fetched + length worked = length-append fetched worked in
    omega (arith, a, b, c)

module _ (image : Image) (facts : Facts) (machine : Machine) (entry start : ℕ) where
  -- what ends a block behind an instruction
  abbrev IsOver : ℕ → Type 0
  IsOver last =
      (is_end (flow_at image (behind start last)) ≡ true)
      ⊎ (IsLeader image facts entry (behind start (suc last)) ⊎ ((suc last ≡ most_insns) ⊎ (most_slots < length (slots_of image machine start (suc (suc last))))))

  -- so many instructions stand in one block, which may go on
  record IsFront (last : ℕ) : Type 0 where
    short : suc last ≤ most_insns
    few : length (slots_of image machine start (suc last)) ≤ most_slots
    unended : (i : ℕ) → i < last → is_end (flow_at image (behind start i)) ≡ false
    unentered : (i : ℕ) → 0 < i → i < suc last → IsLeader image facts entry (behind start i) → ⊥

  alone : IsFront 0
  alone = record {
    short = omega arith;
    few = few_alone image machine start;
    unended = λ i below. absurd (omega (arith, below));
    unentered = λ i some below leader. omega (arith, some, below);
  }

  is_length : (last : ℕ) → IsFront last → IsOver last → IsLength image facts machine entry start (suc last)
  is_length last front over = record {
    some = omega arith;
    short = front.short;
    few = front.few;
    unended = λ i below. front.unended i (omega (arith, below));
    unentered = front.unentered;
    over = λ other e.
        let same : last ≡ other = omega (arith, e) in
        ⊎_elim (λ ended. inl (subst (λ k. is_end (flow_at image (behind start k)) ≡ true) same ended)) (λ rest. inr rest) over;
  }

  goes_on : (last : ℕ) → IsFront last → (IsOver last → ⊥) → IsFront (suc last)
  goes_on last front none = record {
    short =
        ⊎_elim (λ less. omega (arith, less)) (λ more. absurd (none (inr (inr (inl (as_many front.short more)))))) (cases_lt (suc last) most_insns);
    few =
        ⊎_elim (λ many. absurd (none (inr (inr (inr many))))) (λ few. few) (cases_lt most_slots (length (slots_of image machine start (suc (suc last)))));
    unended = λ i below.
        ⊎_elim (λ less. front.unended i less) (λ more. let same : last ≡ i = omega (arith, below, more) in subst (λ k. is_end (flow_at image (behind start k)) ≡ false) same (unended (is_end (flow_at image (behind start last))) refl))
        (cases_lt i last);
    unentered = λ i some below leader.
        ⊎_elim (λ less. front.unentered i some less leader)
        (λ more. let same : i ≡ suc last = omega (arith, below, more) in none (inr (inl (subst (λ k. IsLeader image facts entry (behind start k)) same leader))))
        (cases_lt i (suc last));
  }
    where
      as_many : {m n : ℕ} → m ≤ n → n ≤ m → m ≡ n
      as_many a b = omega (arith, a, b)

      unended : (b : Bool) → is_end (flow_at image (behind start last)) ≡ b → is_end (flow_at image (behind start last)) ≡ false
      unended true e = absurd (none (inl e))
      unended false e = e

  grown : (left last : ℕ) → 32 < left + suc last → IsFront last → ((count : ℕ) → IsLength image facts machine entry start count → ⊥) → ⊥
  grown zero last many front stop = let short = front.short in omega (arith, many, short)
  grown (suc left) last many front stop =
      grown left (suc last) (omega (arith, many)) (goes_on last front (λ over. stop (suc last) (is_length last front over))) stop

  pub has_length : ((count : ℕ) → IsLength image facts machine entry start count → ⊥) → ⊥
  has_length stop = grown 32 0 (omega arith) alone stop
