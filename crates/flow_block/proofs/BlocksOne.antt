-- A function has one list of blocks: a block is told by its start, since its length, and so all of it, follows from that.
use Rattle.std.proofs.Common.{◌≡◌, ℕ, zero, suc, List, [], ◌∷◌, length, map, cond, Some, None, refl, sym, ap, ◌∙◌, subst, arith}
use Rattle.wx_base.specs.declared.facts.Facts.{Facts}
use Rattle.wx_base.specs.declared.image.Image.{Image}
use Rattle.wx_base.specs.declared.machine.Machine.{Machine}
use Rattle.wx_base.specs.Functions.{callees_at}
use Rattle.arm_code.specs.declared.insn.Insn.{Insn}
use Rattle.flow_block.specs.declared.block.Block.{Block}
use Rattle.flow_block.specs.Blocks.{Begins, IsLength, IsBlock, addresses_from, slots_of, last_of_block}
use Rattle.flow_block.specs.Laws.{BlocksAreOne}
use Rattle.flow_block.specs.Sites.{behind, insn_at, flow_at, jumps_at, goes_past_at}
use Rattle.flow_block.proofs.KeyedLists.{told_by_keys}
use Rattle.flow_block.proofs.Lengths.{one_length}

-- two lists are one if they are so with each element as some
somes_one : (xs ys : List Insn) → map (λ i. Some i) xs ≡ map (λ i. Some i) ys → xs ≡ ys
somes_one [] [] e = refl
somes_one [] (y ∷ ys) e = absurd (omega (arith, ap length e))
somes_one (x ∷ xs) [] e = absurd (omega (arith, ap length e))
somes_one (x ∷ xs) (y ∷ ys) e =
    let first : x ≡ y = cc in
    let others : map (λ i. Some i) xs ≡ map (λ i. Some i) ys = cc in
    let rest = somes_one xs ys others in
    λ i. first i ∷ rest i

-- what is told by a start and a length
two : {Y : Type 0} (f : ℕ → ℕ → Y) (s t n m : ℕ) → s ≡ t → n ≡ m → f s n ≡ f t m
two f s t n m e h = ap (λ x. f x n) e ∙ ap (λ x. f t x) h

module _ (image : Image) (facts : Facts) (machine : Machine) (entry : ℕ) where
  one_count : (start n m : ℕ) → IsLength image facts machine entry start n → IsLength image facts machine entry start m → n ≡ m
  one_count start zero m h k = absurd (omega (arith, h.some))
  one_count start (suc n) zero h k = absurd (omega (arith, k.some))
  one_count start (suc n) (suc m) h k = ap suc (one_length image facts machine entry start n m h k)

  block_one : (b c : Block) → IsBlock image facts machine entry b → IsBlock image facts machine entry c → b.start ≡ c.start → b ≡ c
  block_one b c p q e =
      let n = length b.insns in
      let count : n ≡ length c.insns = one_count c.start n (length c.insns) (subst (λ (x : ℕ). IsLength image facts machine entry x n) e p.count) q.count in
      let insns = somes_one b.insns c.insns (sym p.insns ∙ two (λ x m. map (λ a. insn_at image a) (addresses_from x m)) b.start c.start n (length c.insns) e count ∙ q.insns) in
      let slots = p.slots ∙ two (λ x m. slots_of image machine x m) b.start c.start n (length c.insns) e count ∙ sym q.slots in
      let next = p.next ∙ two (λ x m. cond (goes_past_at image (last_of_block x m)) (Some (behind x m)) None) b.start c.start n (length c.insns) e count ∙ sym q.next in
      let jumps = p.jumps ∙ two (λ x m. jumps_at image facts (last_of_block x m)) b.start c.start n (length c.insns) e count ∙ sym q.jumps in
      let calls = p.calls ∙ two (λ x m. callees_at image facts (last_of_block x m)) b.start c.start n (length c.insns) e count ∙ sym q.calls in
      let ret = p.ret ∙ two (λ x m. (flow_at image (last_of_block x m)).ret) b.start c.start n (length c.insns) e count ∙ sym q.ret in
      λ i. record { start = e i; insns = insns i; slots = slots i; next = next i; jumps = jumps i; calls = calls i; ret = ret i }

pub blocks_one : BlocksAreOne
blocks_one image facts machine entry bs cs p q =
    told_by_keys (λ b. b.start) (IsBlock image facts machine entry) (block_one image facts machine entry) (Begins image facts machine entry) (λ b is. is.begins) bs cs
    p.ascending p.each p.whole q.ascending q.each q.whole
