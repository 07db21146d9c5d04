-- A block has one length, and so one cut at most.
use Rattle.std.proofs.Common.{◌≡◌, ◌<◌, ◌≤◌, ◌-◌, ◌^◌, ⊎_elim, inl, inr, ℕ, zero, suc, Bool, true, false, List, length, get_or, refl, sym, ap, ◌∙◌, subst, arith, length-append}
use Rattle.std.proofs.lemmas.Bool.{cases_eq, cases_order, both_ways}
use Rattle.wx_base.specs.declared.flow.FlowKind.{FlowKind}
use Rattle.wx_base.specs.declared.image.Image.{Image}
use Rattle.wx_base.specs.declared.facts.Facts.{Facts}
use Rattle.wx_base.specs.declared.machine.Machine.{Machine}
use Rattle.wx_base.specs.Flow.{flow_of}
use Rattle.arm_code.specs.declared.insn.Insn.{Insn}
use Rattle.arm_code.specs.Encoding.{word_of}
use Rattle.flow_block.specs.declared.block.Slot.{Slot}
use Rattle.flow_block.specs.Blocks.{IsOfFunction, IsLength, Begins, leader, cut, slots_at, slots_of, most_slots}
use Rattle.flow_block.specs.Code.{Subject, IsInsn, HasCode}
use Rattle.flow_block.specs.Growth.{IsGrown}
use Rattle.flow_block.specs.Starts.{IsCut}
use Rattle.flow_block.specs.Sites.{behind, flow_at, is_end}
use Rattle.flow_block.proofs.Entered.{insn_own, leader_own, there, some_insn, flow_is}
use Rattle.flow_block.proofs.Filled.{behind_more, behind_none, next_own, next_unended}

slots_rise : (image : Image) (machine : Machine) (start n m : ℕ) → n ≤ m → length (slots_of image machine start n) ≤ length (slots_of image machine start m)
slots_rise image machine start n zero h = let e : n ≡ 0 = omega arith in subst (λ (x : ℕ). length (slots_of image machine start x) ≤ length (slots_of image machine start 0)) (sym e) (omega arith)
slots_rise image machine start n (suc m) h = ⊎_elim
    (λ e. subst (λ (x : ℕ). length (slots_of image machine start x) ≤ length (slots_of image machine start (suc m))) (sym e) (omega arith))
    (λ ne. let k : n ≤ m = omega arith in omega (arith, slots_rise image machine start n m k, length-append (slots_of image machine start m) (slots_at image machine start m)))
    (cases_eq n (suc m))

no_longer : (image : Image) (facts : Facts) (machine : Machine) (entry start last m : ℕ) → IsLength image facts machine entry start (suc last) → IsLength image facts machine entry start m → suc last < m → ⊥
no_longer image facts machine entry start last m h k l = ⊎_elim
    (λ e. both_ways _ (k.unended last l) e)
    (λ x. ⊎_elim (λ lead. k.unentered (suc last) (omega arith) l lead)
    (λ y. ⊎_elim (λ e. absurd (omega (arith, e, k.short))) (λ many. absurd (omega (arith, many, k.few, slots_rise image machine start (suc (suc last)) m (omega arith)))) y) x)
    (h.over last refl)

-- a block has one length
pub one_length : (image : Image) (facts : Facts) (machine : Machine) (entry start n m : ℕ) → IsLength image facts machine entry start (suc n) → IsLength image facts machine entry start (suc m) → n ≡ m
one_length image facts machine entry start n m h k = ⊎_elim (λ e. e)
    (⊎_elim (λ l. absurd (no_longer image facts machine entry start n (suc m) h k (omega arith))) (λ l. absurd (no_longer image facts machine entry start m (suc n) k h (omega arith))))
    (cases_order n m)

-- so it has one cut
pub one_cut : (s : Subject) (machine : Machine) (start a b : ℕ) → IsCut s machine start a → IsCut s machine start b → a ≡ b
one_cut s machine start a b h k =
    let same = one_length s.image s.facts machine s.entry start h.last k.last h.count k.count in
    h.next_is ∙ ap (λ n. behind start (suc n)) same ∙ sym k.next_is

-- what has grown has the length of the block
pub length_of : (s : Subject) (machine : Machine) (start : ℕ) (insns : List Insn) (events : List Slot) → (h : IsGrown s machine start insns events) → IsLength s.image s.facts machine s.entry start (suc h.last)
length_of s machine start insns events h = record {
  some = omega arith;
  short = h.short;
  few = subst (λ (x : List Slot). length x ≤ most_slots) h.filled.events_are h.filled.few;
  unended = h.filled.unended;
  unentered = h.filled.unentered;
  over = λ last e. let same : h.last ≡ last = omega arith in ⊎_elim (λ k. inl (subst (λ (x : ℕ). is_end (flow_at s.image (behind start x)) ≡ true) same k)) (λ k. inr k) h.over;
}

-- its last instruction
pub last_insn : (s : Subject) (machine : Machine) (start n : ℕ) (insns : List Insn) (events : List Slot) (d : Insn) → IsGrown s machine start insns events → length insns ≡ n → IsInsn s.image (behind start (n - 1)) (get_or insns (n - 1) d)
last_insn s machine start n insns events d h e = h.filled.each (n - 1) d (omega (arith, h.filled.long))

last_flow : (s : Subject) (machine : Machine) (start n : ℕ) (insns : List Insn) (events : List Slot) (d insn : Insn) (flow : FlowKind) (b : Bool) → (h : IsGrown s machine start insns events) → length insns ≡ n → insn ≡ get_or insns (n - 1) d
    → flow ≡ flow_of (word_of insn) (behind start (n - 1)) → b ≡ is_end flow → is_end (flow_at s.image (behind start h.last)) ≡ b
last_flow s machine start n insns events d insn flow b h e i f g =
    let same : n - 1 ≡ h.last = omega (arith, h.filled.long) in
    let at = last_insn s machine start n insns events d h e in
    ap (λ x. is_end (flow_at s.image (behind start x))) (sym same) ∙ ap is_end (flow_is s.image (behind start (n - 1)) (get_or insns (n - 1) d) at ∙ ap (λ x. flow_of (word_of x) (behind start (n - 1))) (sym i) ∙ sym f) ∙ sym g

-- a block that an instruction ends is not cut
pub uncut : (s : Subject) (machine : Machine) (start n : ℕ) (insns : List Insn) (events : List Slot) (d insn : Insn) (flow : FlowKind) (b : Bool) → IsGrown s machine start insns events → length insns ≡ n → insn ≡ get_or insns (n - 1) d
    → flow ≡ flow_of (word_of insn) (behind start (n - 1)) → b ≡ is_end flow → b ≡ true → (a : ℕ) → IsCut s machine start a → ⊥
uncut s machine start n insns events d insn flow b h e i f g t a k =
    let same = one_length s.image s.facts machine s.entry start k.last h.last k.count (length_of s machine start insns events h) in
    both_ways _ (ap (λ x. is_end (flow_at s.image (behind start x))) (sym same) ∙ k.unended) (last_flow s machine start n insns events d insn flow b h e i f g ∙ t)

-- another is
pub cut_behind : (s : Subject) (machine : Machine) (start n : ℕ) (insns : List Insn) (events : List Slot) (d insn : Insn) (flow : FlowKind) (b : Bool) → IsGrown s machine start insns events → length insns ≡ n → insn ≡ get_or insns (n - 1) d
    → flow ≡ flow_of (word_of insn) (behind start (n - 1)) → b ≡ is_end flow → b ≡ false → IsCut s machine start (behind (behind start (n - 1)) 1)
cut_behind s machine start n insns events d insn flow b h e i f g t =
    let same : n - 1 ≡ h.last = omega (arith, h.filled.long) in
    record {
      last = h.last;
      count = length_of s machine start insns events h;
      unended = last_flow s machine start n insns events d insn flow b h e i f g ∙ t;
      next_is = behind_more start (n - 1) ∙ ap (λ x. behind start (suc x)) same;
    }

chain_own : (s : Subject) (addresses : List ℕ) (insns : List Insn) → HasCode s addresses insns → (start n : ℕ) → start < 2 ^ 32 → IsOfFunction s.image s.facts s.entry start
    → ((i : ℕ) → i < n → is_end (flow_at s.image (behind start i)) ≡ false) → IsOfFunction s.image s.facts s.entry (behind start n)
chain_own s addresses insns code start zero small own e = subst (λ (x : ℕ). IsOfFunction s.image s.facts s.entry x) (sym (behind_none start small)) own
chain_own s addresses insns code start (suc n) small own e =
    let before = chain_own s addresses insns code start n small own (λ i l. e i (omega arith)) in
    let i = insn_own s addresses insns code.body some_insn code.code (behind start n) before in
    subst (λ (x : ℕ). IsOfFunction s.image s.facts s.entry x) (behind_more start n) (next_own s (behind start n) i.0 i.1 before (next_unended s (behind start n) i.0 i.1 (e n (omega arith))))

-- addresses of the function are words
pub small_own : (s : Subject) (addresses : List ℕ) (insns : List Insn) → HasCode s addresses insns → (a : ℕ) → IsOfFunction s.image s.facts s.entry a → a < 2 ^ 32
small_own s addresses insns code a own =
    let at = there s addresses insns code.body code.code a own in
    subst (λ (x : ℕ). x < 2 ^ 32) at.at.stands (code.code.small at.place at.at.within)

cut_unended : (s : Subject) (machine : Machine) (start last : ℕ) → IsLength s.image s.facts machine s.entry start (suc last) → is_end (flow_at s.image (behind start last)) ≡ false → (i : ℕ) → i < suc last → is_end (flow_at s.image (behind start i)) ≡ false
cut_unended s machine start last count e i l = ⊎_elim (λ same. subst (λ (x : ℕ). is_end (flow_at s.image (behind start x)) ≡ false) (sym same) e) (λ ne. count.unended i (omega arith)) (cases_eq i last)

-- blocks begin at addresses of the function
pub begins_own : (s : Subject) (machine : Machine) (addresses : List ℕ) (insns : List Insn) → HasCode s addresses insns → (a : ℕ) → Begins s.image s.facts machine s.entry a → IsOfFunction s.image s.facts s.entry a
begins_own s machine addresses insns code a (leader lead) = leader_own s addresses insns code.body some_insn code.code a lead
begins_own s machine addresses insns code _ (cut {start} {last} begins count e) =
    let own = begins_own s machine addresses insns code start begins in
    chain_own s addresses insns code start (suc last) (small_own s addresses insns code start own) own (cut_unended s machine start last count e)
