-- Blocks as they are handed out.
use Rattle.std.proofs.Common.{◌≡◌, ◌<◌, ◌+◌, ◌-◌, ◌&&◌, ◌==◌, not, ℕ, suc, ◌++◌, Bool, false, List, [], ◌∷◌, length, get_or, take, map, cond, refl, sym, ap, ◌∙◌, subst, arith, Option, Some, None, option_to_list, Result, Ok, Err, IfOk}
use Rattle.std.specs.Option.{option_map_or}
use Rattle.std.proofs.lemmas.List.{get_or_default, get_or-map, length-map, map_push, take_more}
use Rattle.std.proofs.lemmas.List.Elements.{All-push}
use Rattle.wx_base.specs.declared.facts.Facts.{Facts}
use Rattle.wx_base.specs.declared.flow.FlowKind.{FlowKind}
use Rattle.wx_base.specs.declared.machine.Machine.{Machine}
use Rattle.wx_base.specs.Facts.{targets_of}
use Rattle.wx_base.specs.Flow.{flow_of}
use Rattle.wx_base.specs.Functions.{callees_of, callees_by, callees_at}
use Rattle.wx_base.specs.Instruction.{always, condition}
use Rattle.wx_base.specs.Monitor.{is_call}
use Rattle.arm_code.specs.declared.insn.Insn.{Insn}
use Rattle.arm_code.specs.Encoding.{word_of}
use Rattle.flow_block.specs.declared.block.Block.{Block}
use Rattle.flow_block.specs.declared.block.Slot.{Slot}
use Rattle.flow_block.specs.declared.blocks.Ending.{Ending}
use Rattle.flow_block.specs.Blocks.{Begins, IsLength, IsBlock, AreBlocks, addresses_from, slots_of, last_of_block}
use Rattle.flow_block.specs.Code.{Subject, IsInsn, HasCode}
use Rattle.flow_block.specs.Growth.{IsGrown}
use Rattle.flow_block.specs.Starts.{AreThoseMarked, AreStarts, IsEnding, AllBegin, AreBlocksAt}
use Rattle.flow_block.specs.Sites.{behind, insn_at, flow_at, jumps_at, jumps_by, goes_past, goes_past_at}
use Rattle.flow_block.proofs.Entered.{flow_is, there}
use Rattle.flow_block.proofs.Filled.{behind_more}
use Rattle.flow_block.proofs.Going.{condition_is}
use Rattle.flow_block.proofs.Lengths.{length_of, begins_own}

-- what an instruction leads to
pub ending_is : (s : Subject) (facts : Facts) (a : ℕ) (insn : Insn) (flow : FlowKind) (next : Option ℕ) (jumps jump_items calls call_items : List ℕ) → IsInsn s.image a insn → s.facts ≡ facts → flow ≡ flow_of (word_of insn) a
    → next ≡ cond (flow.next && not (is_call flow && (insn.cond == always))) (Some (behind a 1)) None
    → jump_items ≡ option_to_list flow.jump ++ cond flow.indirect (targets_of facts.branches a) [] → call_items ≡ option_to_list flow.call ++ cond flow.call_any (targets_of facts.calls a) []
    → jumps ≡ jump_items → calls ≡ call_items
    → IsEnding s a (record { next = next; jumps = jumps; calls = calls; ret = flow.ret })
ending_is s facts a insn flow next jumps jump_items calls call_items here same f n j k j_is k_is =
    let whole : flow ≡ flow_at s.image a = f ∙ sym (flow_is s.image a insn here) in
    record {
      next = n
          ∙ ap (λ c. cond (flow.next && not (is_call flow && (c == always))) (Some (behind a 1)) None) (condition_is (word_of insn) insn here.means)
          ∙ ap (λ x. cond (x.next && not (is_call x && (condition (word_of insn) == always))) (Some (behind a 1)) None) f
          ∙ ap (λ o. cond (option_map_or (λ word. goes_past word a) o false) (Some (behind a 1)) None) (sym here.stands);
      jumps = j_is ∙ j ∙ ap (λ x. jumps_by x a flow) (sym same) ∙ ap (λ x. jumps_by s.facts a x) whole;
      calls = k_is ∙ k ∙ ap (λ x. callees_by x a flow) (sym same) ∙ ap (λ x. callees_by s.facts a x) f ∙ ap (λ o. option_map_or (λ word. callees_of s.facts word a) o []) (sym here.stands);
      ret = ap (λ x. x.ret) whole;
    }

-- a block with the ending of its last instruction
pub block_is : (s : Subject) (machine : Machine) (start n : ℕ) (insns given : List Insn) (events event_items : List Slot) (ending : Ending) → Begins s.image s.facts machine s.entry start → IsGrown s machine start insns events → length insns ≡ n
    → given ≡ insns → event_items ≡ events → IsEnding s (behind start (n - 1)) ending
    → IsBlock s.image s.facts machine s.entry (record { start = start; insns = given; slots = event_items; next = ending.next; jumps = ending.jumps; calls = ending.calls; ret = ending.ret })
block_is s machine start n insns given events event_items ending begins h l e f k =
    let long : length given ≡ suc h.last = ap length e ∙ h.filled.long in
    let last : behind start (n - 1) ≡ last_of_block start (length given) = ap (λ x. behind start x) (let w : n - 1 ≡ h.last = omega (arith, h.filled.long) in w) ∙ ap (λ x. last_of_block start x) (sym long) in
    let past : behind (behind start (n - 1)) 1 ≡ behind start (length given) = behind_more start (n - 1) ∙ ap (λ x. behind start x) (let w : suc (n - 1) ≡ length given = omega (arith, h.filled.long) in w) in
    record {
      begins = begins;
      count = subst (λ (x : ℕ). IsLength s.image s.facts machine s.entry start x) (sym long) (length_of s machine start insns events h);
      insns = ap (λ x. map (λ a. insn_at s.image a) (addresses_from start x)) long ∙ h.filled.named ∙ ap (λ x. map (λ i. Some i) x) (sym e);
      slots = f ∙ h.filled.events_are ∙ ap (λ x. slots_of s.image machine start x) (sym long);
      next = k.next ∙ ap (λ x. cond (goes_past_at s.image x) (Some (behind (behind start (n - 1)) 1)) None) last ∙ ap (λ x. cond (goes_past_at s.image (last_of_block start (length given))) (Some x) None) past;
      jumps = k.jumps ∙ ap (λ x. jumps_at s.image s.facts x) last;
      calls = k.calls ∙ ap (λ x. callees_at s.image s.facts x) last;
      ret = k.ret ∙ ap (λ x. (flow_at s.image x).ret) last;
    }

pub no_blocks : (s : Subject) (machine : Machine) → AreBlocksAt s machine [] []
no_blocks s machine = record { starts_are = refl; each = λ i d l. absurd (omega arith) }

-- one block more
pub blocks_more : (s : Subject) (machine : Machine) (starts : List ℕ) (i : ℕ) (blocks blocks_then : List Block) (block : Block) → AreBlocksAt s machine (take i starts) blocks → i < length starts
    → block.start ≡ get_or starts i 0 → IsBlock s.image s.facts machine s.entry block → blocks_then ≡ blocks ++ block ∷ [] → AreBlocksAt s machine (take (i + 1) starts) blocks_then
blocks_more s machine starts i blocks blocks_then block h l e k push =
    subst (λ (x : List Block). AreBlocksAt s machine (take (i + 1) starts) x) (sym push) (record {
      starts_are = map_push (λ (b : Block). b.start) blocks block ∙ ap (λ x. x ++ block.start ∷ []) h.starts_are ∙ ap (λ x. take i starts ++ x ∷ []) e ∙ sym (take_more starts i 0 l);
      each = All-push (λ b. IsBlock s.image s.facts machine s.entry b) blocks block h.each k;
    })

-- the marked starts are such
pub all_begin : (s : Subject) (machine : Machine) (addresses : List ℕ) (marks : List Bool) (list : List ℕ) → AreStarts s machine addresses marks → AreThoseMarked addresses marks list → AllBegin s machine list
all_begin s machine addresses marks list h k = record { each = λ i l. let p = k.sound i l in h.sound (get_or list i 0) p.0 p.1 p.2 }

start_of : (blocks : List Block) (list : List ℕ) (i : ℕ) (d : Block) → map (λ b. b.start) blocks ≡ list → i < length blocks → (get_or blocks i d).start ≡ get_or list i 0
start_of blocks list i d e l = sym (get_or-map (λ (b : Block). b.start) blocks i d 0 l) ∙ ap (λ x. get_or x i 0) e

as_long : (blocks : List Block) (list : List ℕ) → map (λ b. b.start) blocks ≡ list → length blocks ≡ length list
as_long blocks list e = sym (length-map blocks (λ (b : Block). b.start)) ∙ ap length e

no_block : Block
no_block = record { start = 0; insns = []; slots = []; next = None; jumps = []; calls = []; ret = false }

-- the blocks at all starts are those of the function
pub all_blocks : (s : Subject) (machine : Machine) (addresses : List ℕ) (insns : List Insn) (marks : List Bool) (list : List ℕ) (blocks : List Block) → HasCode s addresses insns → AreStarts s machine addresses marks → AreThoseMarked addresses marks list
    → AreBlocksAt s machine list blocks → AreBlocks s.image s.facts machine s.entry blocks
all_blocks s machine addresses insns marks list blocks code h k b = record {
  ascending = λ i j d l w.
      let long = as_long blocks list b.starts_are in
      let first = start_of blocks list i d b.starts_are (omega (arith, l, w)) in
      let second = start_of blocks list j d b.starts_are w in
      let below : get_or list i 0 < get_or list j 0 = k.ascending i j 0 l (omega (arith, w, long)) in
      omega (arith, first, second);
  each = b.each;
  whole = λ a begins.
      let t = there s addresses insns code.body code.code a (begins_own s machine addresses insns code a begins) in
      let c = k.whole a t.place t.at (h.whole a t.place t.at begins) in
      let l : c.0 < length blocks = omega (arith, c.1, as_long blocks list b.starts_are) in
      (c.0, get_or blocks c.0 no_block, l, get_or_default blocks c.0 (get_or blocks c.0 no_block) no_block l, start_of blocks list c.0 no_block b.starts_are l ∙ get_or_default list c.0 0 a c.1 ∙ c.2);
}

-- all that leads to the blocks of a function
pub blocks_are : {V E : Type 0} (items : V → List Block) (s : Subject) (facts : Facts) (machine : Machine) (entry : ℕ) (addresses : List ℕ) (insns : List Insn) (marks given : List Bool) (list starts : List ℕ) (r : Result V E) → s.facts ≡ facts → s.entry ≡ entry → HasCode s addresses insns → AreStarts s machine addresses marks
    → given ≡ marks → AreThoseMarked addresses given list → starts ≡ list → IfOk r (λ v. AreBlocksAt s machine starts (items v)) → IfOk r (λ v. AreBlocks s.image facts machine entry (items v))
blocks_are items s facts machine entry addresses insns marks given list starts (Err e) f at code h g k l b = b
blocks_are items s facts machine entry addresses insns marks given list starts (Ok v) f at code h g k l b =
    let marked = subst (λ (x : List Bool). AreThoseMarked addresses x list) g k in
    subst (λ (x : Facts). AreBlocks s.image x machine entry (items v)) f (subst (λ (x : ℕ). AreBlocks s.image s.facts machine x (items v)) at
    (all_blocks s machine addresses insns marks list (items v) code h marked (subst (λ (x : List ℕ). AreBlocksAt s machine x (items v)) l b)))

pub begin_all : (s : Subject) (machine : Machine) (addresses : List ℕ) (marks given : List Bool) (list starts : List ℕ) → AreStarts s machine addresses marks → given ≡ marks → AreThoseMarked addresses given list → starts ≡ list → AllBegin s machine starts
begin_all s machine addresses marks given list starts h g k l =
    subst (λ (x : List ℕ). AllBegin s machine x) (sym l) (all_begin s machine addresses marks list h (subst (λ (x : List Bool). AreThoseMarked addresses x list) g k))
