-- The blocks of a function, where no cause stands.
use Rattle.std.proofs.Common.{◌≡◌, ⊎_elim, ℕ, zero, suc, ◌^◌, ◌<◌, false, cond, List, [], ◌∷◌, ◌++◌, map, length, Some, None, refl, sym, ap, ◌∙◌, subst, arith}
use Rattle.std.proofs.lemmas.Bool.{cases_lt}
use Rattle.std.proofs.lemmas.List.{length-append, map-append}
use Rattle.wx_base.specs.declared.facts.Facts.{Facts}
use Rattle.wx_base.specs.declared.image.Image.{Image}
use Rattle.wx_base.specs.declared.machine.Machine.{Machine}
use Rattle.wx_base.specs.Functions.{callees_at, ways_at, IsReached}
use Rattle.arm_code.specs.declared.insn.Insn.{Insn}
use Rattle.flow_block.specs.declared.block.Block.{Block}
use Rattle.flow_block.specs.Blocks.{AreBlocks, Begins, IsBlock, IsLeader, IsLength, IsOfFunction, addresses_from, last_of_block, slots_of}
use Rattle.flow_block.specs.Blocks.Begins.{leader, cut}
use Rattle.flow_block.specs.Blocks.IsLeader.{first, target, after_end}
use Rattle.flow_block.specs.Sites.{behind, flow_at, goes_past_at, insn_at, is_end, jumps_at}
use Rattle.flow_graph.specs.declared.error.FlowError.{FlowError}
use Rattle.flow_graph.specs.Refusals.{IsCause}
use Rattle.flow_laws.specs.Programs.{EndsInMemory}
use Rattle.program_laws.proofs.Collected.{collect}
use Rattle.program_laws.proofs.Flow.{alone, goes_past, inside, insn_there, jumps_lead, one_more, within}
use Rattle.program_laws.proofs.Length.{has_length}

behind_none : (at : ℕ) → at < 2 ^ 32 → at ≡ behind at 0
behind_none at below = omega (arith, below)

behind_more : (at k : ℕ) → behind (behind at k) 1 ≡ behind at (suc k)
behind_more at k = omega arith

module _ (image : Image) (facts : Facts) (start : ℕ) (machine : Machine) (ends : EndsInMemory image) (sound : (cause : FlowError) → IsCause image facts start machine cause → ⊥) (entry : ℕ) (reached : IsReached image facts start entry) where
  of_function : (at : ℕ) → IsOfFunction image facts entry at → IsReached image facts start at
  of_function at p = inside image facts start machine ends sound reached p

  -- instructions that end no block stand one behind the other
  steps : (at : ℕ) → IsOfFunction image facts entry at → (k : ℕ) → ((i : ℕ) → i < k → is_end (flow_at image (behind at i)) ≡ false) → IsOfFunction image facts entry (behind at k)
  steps at p zero unended = subst (IsOfFunction image facts entry) (behind_none at (within image facts start machine ends sound at (of_function at p))) p
  steps at p (suc k) unended =
      let before = steps at p k (λ i below. unended i (omega (arith, below))) in
      subst (IsOfFunction image facts entry) (behind_more at k)
      (one_more (ways_at image facts) before (goes_past image facts start machine ends sound (behind at k) (of_function (behind at k) before) (unended k (omega arith))))

  leader_inside : (at : ℕ) → IsLeader image facts entry at → IsOfFunction image facts entry at
  leader_inside at first = alone (ways_at image facts) entry
  leader_inside at (target {from = from} p jump) = one_more (ways_at image facts) p (jumps_lead image facts start machine ends sound from at (of_function from p) jump)
  leader_inside at (after_end p ended behind_it) = behind_it

  begins_inside : (at : ℕ) → Begins image facts machine entry at → IsOfFunction image facts entry at
  begins_inside at (leader l) = leader_inside at l
  begins_inside at (cut {start = from} {last = last} begins length unended) =
      steps from (begins_inside from begins) (suc last)
      (λ i below. ⊎_elim (λ less. length.unended i (omega (arith, less))) (λ more. let same : last ≡ i = omega (arith, below, more) in subst (λ k. is_end (flow_at image (behind from k)) ≡ false) same unended) (cases_lt i last))

  -- ---- instructions of a block
  record HasInsns (at count : ℕ) : Type 0 where
    insns : List Insn
    read : map (λ a. insn_at image a) (addresses_from at count) ≡ map (λ i. Some i) insns
    counted : length insns ≡ count

  insns_from : (at : ℕ) → IsOfFunction image facts entry at → (count : ℕ) → ((i : ℕ) → suc i < count → is_end (flow_at image (behind at i)) ≡ false) → HasInsns at count
  insns_from at p zero unended = record { insns = []; read = refl; counted = refl }
  insns_from at p (suc count) unended =
      let before = insns_from at p count (λ i below. unended i (omega (arith, below))) in
      let here = steps at p count (λ i below. unended i (omega (arith, below))) in
      let insn = insn_there image facts start machine ends sound (behind at count) (of_function (behind at count) here) in
      let size = length-append before.insns (insn.0 ∷ []) in
      let count_is = before.counted in
      record {
        insns = before.insns ++ insn.0 ∷ [];
        read =
            map-append (λ a. insn_at image a) (addresses_from at count) (behind at count ∷ [])
            ∙ (λ i. before.read i ++ insn.1 i ∷ [])
            ∙ sym (map-append (λ i. Some i) before.insns (insn.0 ∷ []));
        counted = omega (arith, size, count_is);
      }

  block_of : (at count : ℕ) → Begins image facts machine entry at → IsLength image facts machine entry at count → HasInsns at count → (block : Block) × (block.start ≡ at) × IsBlock image facts machine entry block
  block_of at count begins long has =
      let n = length has.insns in
      let last = last_of_block at n in (
        record {
          start = at;
          insns = has.insns;
          slots = slots_of image machine at n;
          next = cond (goes_past_at image last) (Some (behind at n)) None;
          jumps = jumps_at image facts last;
          calls = callees_at image facts last;
          ret = (flow_at image last).ret;
        },
        refl,
        record {
          begins = begins;
          count = subst (IsLength image facts machine entry at) (sym has.counted) long;
          insns = ap (λ k. map (λ a. insn_at image a) (addresses_from at k)) has.counted ∙ has.read;
          slots = refl;
          next = refl;
          jumps = refl;
          calls = refl;
          ret = refl;
        },
      )

  block_at : (at : ℕ) → Begins image facts machine entry at → ((block : Block) → block.start ≡ at → IsBlock image facts machine entry block → ⊥) → ⊥
  block_at at begins stop =
      has_length image facts machine entry at
      (λ count long.
      let b = block_of at count begins long (insns_from at (begins_inside at begins) count long.unended) in
      stop b.0 b.1 b.2)

  pub has_blocks : ((blocks : List Block) → AreBlocks image facts machine entry blocks → ⊥) → ⊥
  has_blocks stop =
      collect (λ b. b.start) (IsBlock image facts machine entry) (Begins image facts machine entry) (2 ^ 32)
      (λ at begins. within image facts start machine ends sound at (of_function at (begins_inside at begins)))
      block_at
      (λ blocks are. stop blocks (record { ascending = are.ascending; each = are.each; whole = are.whole }))
