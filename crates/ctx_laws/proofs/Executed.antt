-- An instruction that is executed at a place of a block is the one that the block has there.
use Rattle.std.proofs.Common.{◌≡◌, ℕ, zero, suc, ◌<◌, ◌≤◌, ◌++◌, true, List, [], ◌∷◌, length, slice_get, refl, sym, ap, ◌∙◌, inl, inr, arith, length-append}
use Rattle.std.specs.Prelude.{Option, Some}
use Rattle.std.specs.Option.{option_and_then}
use Rattle.std.proofs.lemmas.Bool.{cases_eq, cases_Bool, false≢true}
use Rattle.std.proofs.lemmas.Option.{none-some, same_Some, slice_get_cases}
use Rattle.wx_base.specs.declared.facts.Facts.{Facts}
use Rattle.wx_base.specs.declared.image.Image.{Image}
use Rattle.wx_base.specs.declared.machine.Machine.{Machine}
use Rattle.wx_base.specs.Functions.{code_at}
use Rattle.wx_base.specs.Run.{Executed}
use Rattle.arm_code.specs.declared.insn.Insn.{Insn}
use Rattle.arm_code.specs.Encoding.{decoded}
use Rattle.flow_block.specs.declared.block.Block.{Block}
use Rattle.flow_block.specs.Blocks.{IsBlock, addresses_from}
use Rattle.flow_block.specs.Sites.{behind, flow_at, insn_at, is_end}
use Rattle.flow_ctx.specs.declared.unfolded.Unfolded.{Unfolded}
use Rattle.flow_ctx.specs.Nodes.{IsBlockOf}
use Rattle.ctx_laws.specs.Following.{IsExecutedIn}
use Rattle.ctx_laws.proofs.Lists.{mapped}

module _ {X : Type 0} where
  in_front : (xs ys : List X) (k : ℕ) (x : X) → slice_get xs k ≡ Some x → slice_get (xs ++ ys) k ≡ Some x
  in_front [] ys k x e = absurd (none-some x e)
  in_front (y ∷ xs) ys zero x e = e
  in_front (y ∷ xs) ys (suc k) x e = in_front xs ys k x e

  at_last : (xs : List X) (y : X) → slice_get (xs ++ y ∷ []) (length xs) ≡ Some y
  at_last [] y = refl
  at_last (x ∷ xs) y = at_last xs y

count_of : (start n : ℕ) → length (addresses_from start n) ≡ n
count_of start zero = refl
count_of start (suc n) = omega (arith, length-append (addresses_from start n) (behind start n ∷ []), count_of start n)

address_of : (start n i : ℕ) → i < n → slice_get (addresses_from start n) i ≡ Some (behind start i)
address_of start zero i h = absurd (omega arith)
address_of start (suc n) i h = elim (cases_eq i n) [
  | inl e ↦
      ap (slice_get (addresses_from start n ++ behind start n ∷ [])) (e ∙ sym (count_of start n))
      ∙ at_last (addresses_from start n) (behind start n) ∙ ap (λ k. Some (behind start k)) (sym e)
  | inr other ↦ in_front (addresses_from start n) (behind start n ∷ []) i (behind start i) (address_of start n i (omega arith))
]

module _ (image : Image) (facts : Facts) (machine : Machine) (entry : ℕ) (b : Block) (is : IsBlock image facts machine entry b) (index : ℕ) (within : index < length b.insns) where
  pub record HasInsn : Type 0 where
    pub insn : Insn
    pub stands : slice_get b.insns index ≡ Some insn
    pub there : insn_at image (behind b.start index) ≡ Some insn

  pub has_insn : HasInsn
  has_insn = elim ((slice_get_cases b.insns index).1) [
    | inl found ↦
        let insn = found.0 in
        let read = mapped (λ a. insn_at image a) (addresses_from b.start (length b.insns)) index (behind b.start index) (address_of b.start (length b.insns) index within) in
        let listed = mapped {X = Insn} (λ i. Some i) b.insns index insn found.2 in
        record {
          insn = insn;
          stands = found.2;
          there = same_Some (insn_at image (behind b.start index)) (Some insn) (sym read ∙ ap (λ (xs : List (Option Insn)). slice_get xs index) is.insns ∙ listed);
        }
    | inr over ↦ absurd (let past : length b.insns ≤ index = over.0 in omega arith)
  ]

  module _ (u : Unfolded) (number : ℕ) (of : IsBlockOf u number b) (i : Executed) (place : i.address ≡ behind b.start index) (code : code_at image i.address ≡ Some i.done.entry.word)
      (ends : i.done.entry.taken ≡ true → is_end (flow_at image i.address) ≡ true) where
    pub executed_in : IsExecutedIn u number index i
    executed_in = record {
      block = b;
      is = of;
      insn = has_insn.insn;
      stands = has_insn.stands;
      means = sym (ap (option_and_then decoded) code) ∙ ap (insn_at image) place ∙ has_insn.there;
      address = place;
      straight = λ less. elim (cases_Bool i.done.entry.taken) [
        | inl taken ↦ absurd (false≢true (sym (is.count.unended index less) ∙ ap (λ a. is_end (flow_at image a)) (sym place) ∙ ends taken))
        | inr untaken ↦ untaken
      ];
    }
