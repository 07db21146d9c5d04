-- The instructions of a block are members of a loop together.
use Rattle.std.proofs.Common.{◌≡◌, ℕ, zero, suc, ◌+◌, ◌%◌, ◌^◌, ◌<◌, Bool, true, false, cond, ◌==◌, ◌&&◌, ◌||◌, eqb, List, [], ◌∷◌, ◌++◌, length, refl, sym, ap, subst, ◌∙◌, inl, inr, arith}
use Rattle.std.specs.Prelude.{◌⊎◌, ◌↔◌, Option, Some, None, find, is_some, option_to_list, option_map}
use Rattle.std.proofs.lemmas.Bool.{cases_eq, false≢true, and_parts, or_parts, or_cases}
use Rattle.std.proofs.lemmas.Bool.Decides.{nat_tests}
use Rattle.std.proofs.lemmas.List.Elements.{Contains-append_cases, Contains-append_left, Contains-append_right}
use Rattle.std.specs.List.{Contains, list_any}
use Rattle.std.specs.Option.{option_map_or}
use Rattle.wx_base.specs.declared.facts.Facts.{Facts}
use Rattle.wx_base.specs.declared.flow.FlowKind.{FlowKind}
use Rattle.wx_base.specs.declared.image.Image.{Image}
use Rattle.wx_base.specs.declared.image.Segment.{Segment}
use Rattle.wx_base.specs.declared.machine.Machine.{Machine}
use Rattle.wx_base.specs.Bits.{add_words, is_in, word_of_bytes}
use Rattle.wx_base.specs.Facts.{targets_of}
use Rattle.wx_base.specs.Flow.{flow_of, flow_by, no_flow, branch_flow, exchange_flow, jump_flow, goes_on, pops, branch_target}
use Rattle.wx_base.specs.Functions.{callees_at, code_at, leads_at, ways_at, IsEntry}
use Rattle.wx_base.specs.Image.{byte_of, byte_in, has_code, is_code_word, spans, word_from, word_of}
use Rattle.wx_base.specs.Instruction.{Kind, AluImmediate, AluShift, AluByRegister, Mul, MulLong, SingleImmediate, SingleRegister, HalfImmediate, HalfRegister, Block as BlockKind, Branch, Exchange, Svc, MovPcLr, kind_of, condition, rd, rn, rm, is_load, is_before, is_up, offset, block_list, links, branch_offset, exchange_links}
use Rattle.wx_base.specs.Monitor.{is_call}
use Rattle.wx_base.specs.Paths.{Path, IsHead, IsMember}
use Rattle.wx_base.specs.Paths.Path.{here, further}
use Rattle.wx_base.specs.Ways.{ways_of}
use Rattle.flow_block.specs.Blocks.{Begins, IsLeader, IsLength, IsOfFunction}
use Rattle.flow_block.specs.Blocks.Begins.{leader, cut}
use Rattle.flow_block.specs.Blocks.IsLeader.{first, target, after_end}
use Rattle.flow_block.specs.Sites.{behind, flow_at, is_end, jumps_by}
use Rattle.run_laws.specs.CodeBytes.{HasByte, code_has_byte}
use Rattle.run_laws.specs.Reached.{LeadsToInstructions}
use Rattle.graph_loops.specs.Laws.{HeadsAreEntered, SingleEdgesKeepMembership}
use Rattle.flow_laws.specs.Programs.{EndsInMemory, BlocksLieInLoops}
use Rattle.flow_laws.proofs.HeadLemmas.{begins_block, none_there, word_below, way_by}
use Rattle.flow_laws.proofs.ProgramLemmas.{leads, one_more}

-- ---- a word of code has a word

is_zero : (n : ℕ) → eqb n 0 ≡ true → n ≡ 0
is_zero n e = grind (arith, nat_tests)

pub record HasWord (image : Image) (address : ℕ) : Type 0 where
  pub word : ℕ
  pub stands : code_at image address ≡ Some word

has_word : (image : Image) (a : ℕ) → a < 2 ^ 32 → is_code_word image a ≡ true → HasWord image a
unfolding word_of
has_word image a small code =
    let a3 = and_parts ((a % 4 == 0) && has_code image a && has_code image (a + 1) && has_code image (a + 2)) (has_code image (a + 3)) code in
    let a2 = and_parts ((a % 4 == 0) && has_code image a && has_code image (a + 1)) (has_code image (a + 2)) a3.0 in
    let a1 = and_parts ((a % 4 == 0) && has_code image a) (has_code image (a + 1)) a2.0 in
    let a0 = and_parts (a % 4 == 0) (has_code image a) a1.0 in
    let whole : a % 4 ≡ 0 = is_zero (a % 4) a0.0 in
    let b0 = code_has_byte image a a0.1 in
    let b1 = next 1 whole (omega arith) a1.1 in
    let b2 = next 2 whole (omega arith) a2.1 in
    let b3 = next 3 whole (omega arith) a3.1 in
    record {
      word = word_of_bytes b0.byte b1.byte b2.byte b3.byte;
      stands = ap (λ b. cond b (word_of image a) None) code ∙ (λ i. word_from (b0.is i) (b1.is i) (b2.is i) (b3.is i));
    }
  where
    next : (k : ℕ) → a % 4 ≡ 0 → k < 4 → has_code image (a + k) ≡ true → HasByte image (add_words a k)
    next k whole few h = let e : add_words a k ≡ a + k = omega arith in code_has_byte image (add_words a k) (ap (has_code image) e ∙ h)

-- ---- what does not end a block goes on

load_on : (b returns : Bool) (code : ℕ) → is_end (cond b (jump_flow code returns) goes_on) ≡ false → (cond b (jump_flow code returns) goes_on).next ≡ true
load_on true true code e = absurd (false≢true (sym e))
load_on true false code e = absurd (false≢true (sym e))
load_on false returns code e = refl

branch_on : (linked : Bool) (code to : ℕ) → is_end (branch_flow code linked to) ≡ false → (branch_flow code linked to).next ≡ true
branch_on true code to e = refl
branch_on false code to e = absurd (false≢true (sym e))

exchange_on : (linked : Bool) (code register : ℕ) → is_end (exchange_flow code linked register) ≡ false → (exchange_flow code linked register).next ≡ true
exchange_on true code register e = refl
exchange_on false code register e = load_on true (register == 14) code e

kind_on : (word address : ℕ) (kind : Kind) → is_end (flow_by word address kind) ≡ false → (flow_by word address kind).next ≡ true
kind_on word address AluImmediate e = refl
kind_on word address AluShift e = refl
kind_on word address AluByRegister e = refl
kind_on word address Mul e = refl
kind_on word address MulLong e = refl
kind_on word address SingleImmediate e = load_on (is_load word && (rd word == 15)) (pops (rn word) (is_before word) (is_up word) (offset word)) (condition word) e
kind_on word address SingleRegister e = load_on (is_load word && (rd word == 15)) false (condition word) e
kind_on word address HalfImmediate e = refl
kind_on word address HalfRegister e = refl
kind_on word address BlockKind e = load_on (is_load word && is_in (block_list word) 15) (rn word == 13) (condition word) e
kind_on word address Branch e = branch_on (links word) (condition word) (branch_target address (branch_offset word)) e
kind_on word address Exchange e = exchange_on (exchange_links word) (condition word) (rm word) e
kind_on word address Svc e = absurd (false≢true (sym e))
kind_on word address MovPcLr e = absurd (false≢true (sym e))

word_on : (word address : ℕ) (kind : Option Kind) → kind_of word ≡ kind → (kind ≡ None → ⊥) → is_end (option_map_or (flow_by word address) kind no_flow) ≡ false → (option_map_or (flow_by word address) kind no_flow).next ≡ true
word_on word address None is some e = absurd (some refl)
word_on word address (Some kind) is some e = kind_on word address kind e

goes_past : (word address : ℕ) → (kind_of word ≡ None → ⊥) → is_end (flow_of word address) ≡ false → (flow_of word address).next ≡ true
unfolding flow_of
goes_past word address some e = word_on word address (kind_of word) refl some e

-- ---- an instruction that goes on

no_jumps : (o : Option ℕ) (b : Bool) (xs : List ℕ) (c : ℕ) → is_some o ≡ false → b ≡ false → Contains (option_to_list o ++ cond b xs []) c → ⊥
no_jumps (Some x) b xs c e f h = absurd (false≢true (sym e))
no_jumps None true xs c e f h = absurd (false≢true (sym f))
no_jumps None false xs c e f h = none_there c h

no_jumps_of : (facts : Facts) (a : ℕ) (flow : FlowKind) (c : ℕ) → is_end flow ≡ false → Contains (jumps_by facts a flow) c → ⊥
no_jumps_of facts a flow c e h =
    let p4 = or_parts (is_some flow.jump || is_call flow || flow.ret || flow.indirect) flow.stop e in
    let p3 = or_parts (is_some flow.jump || is_call flow || flow.ret) flow.indirect p4.0 in
    let p2 = or_parts (is_some flow.jump || is_call flow) flow.ret p3.0 in
    let p1 = or_parts (is_some flow.jump) (is_call flow) p2.0 in
    no_jumps flow.jump flow.indirect (targets_of facts.branches a) c p1.0 p3.1 h

behind_there : (b : Bool) (xs ys : List ℕ) (to : ℕ) → b ≡ true → Contains (cond b (to ∷ []) [] ++ xs ++ ys) to
behind_there b xs ys to e =
    Contains-append_left (cond b (to ∷ []) [] ++ xs) ys to (Contains-append_left (cond b (to ∷ []) []) xs to (subst (λ (t : Bool). Contains (cond t (to ∷ []) []) to) (sym e) (0, omega arith, refl)))

jump_there : (next jump listed : List ℕ) (to : ℕ) → Contains (jump ++ listed) to → Contains (next ++ jump ++ listed) to
jump_there next jump listed to h = elim (Contains-append_cases jump listed to h) [
  | inl j ↦ Contains-append_left (next ++ jump) listed to (Contains-append_right next jump to j)
  | inr l ↦ Contains-append_right (next ++ jump) listed to l
]

next_place : (start i : ℕ) → add_words (behind start i) 4 ≡ behind start (suc i)
next_place start i = omega arith

place_zero : (start : ℕ) → start < 2 ^ 32 → behind start zero ≡ start
place_zero start h = omega arith

-- ---- the instructions of a function

module _ (image : Image) (facts : Facts) (start : ℕ) (led : LeadsToInstructions image facts start) (ends : EndsInMemory image) (entry : ℕ) (is_entry : IsEntry image facts start entry) where
  entry_led : IsEntry image facts start entry → Path (leads_at image facts) [] start entry
  entry_led (inl e) = subst (λ (x : ℕ). Path (leads_at image facts) [] start x) (sym e) (here start (none_there start))
  entry_led (inr c) = one_more (leads_at image facts) c.reached.path (Contains-append_right (ways_at image facts c.site) (callees_at image facts c.site) entry c.callee)

  led_on : {a b : ℕ} → Path (leads_at image facts) [] start a → Path (ways_at image facts) [] a b → Path (leads_at image facts) [] start b
  led_on so_far (here a n) = so_far
  led_on {a} so_far (further {b = b} n e p) = led_on {a = b} (one_more (leads_at image facts) so_far (Contains-append_left (ways_at image facts a) (callees_at image facts a) b e)) p

  record Stands (a : ℕ) : Type 0 where
    word : ℕ
    stands : code_at image a ≡ Some word
    small : a < 2 ^ 32
    insn : kind_of word ≡ None → ⊥

  stand : (a : ℕ) → IsOfFunction image facts entry a → Stands a
  stand a p =
      let l = led_on {a = entry} {b = a} (entry_led is_entry) p in
      let code = led.code a l in
      let small = word_below image a ends code in
      let w = has_word image a small code in
      record { word = w.word; stands = w.stands; small = small; insn = led.insn a w.word l w.stands }

  flow_same : (a word : ℕ) → code_at image a ≡ Some word → flow_at image a ≡ flow_of word a
  flow_same a word code = ap (λ (o : Option ℕ). option_map_or (λ w. flow_of w a) o no_flow) code

  ways_same : (a word : ℕ) → code_at image a ≡ Some word → ways_at image facts a ≡ ways_of facts word a
  ways_same a word code = ap (λ (o : Option ℕ). option_map_or (λ w. ways_of facts w a) o []) code

  step_on : (a : ℕ) → IsOfFunction image facts entry a → is_end (flow_at image a) ≡ false → Contains (ways_at image facts a) (add_words a 4)
  step_on a p e =
      let s = stand a p in
      let flow = flow_of s.word a in
      let next : flow.next ≡ true = goes_past s.word a s.insn (sym (ap is_end (flow_same a s.word s.stands)) ∙ e) in
      subst (λ (xs : List ℕ). Contains xs (add_words a 4)) (sym (ways_same a s.word s.stands))
      (behind_there flow.next (option_to_list flow.jump) (cond flow.indirect (targets_of facts.branches a) []) (add_words a 4) next)

  only_on : (a c : ℕ) → IsOfFunction image facts entry a → is_end (flow_at image a) ≡ false → Contains (ways_at image facts a) c → c ≡ add_words a 4
  only_on a c p e h =
      let s = stand a p in
      let ended : is_end (flow_of s.word a) ≡ false = sym (ap is_end (flow_same a s.word s.stands)) ∙ e in
      elim (way_by facts a c s.word (subst (λ (xs : List ℕ). Contains xs c) (ways_same a s.word s.stands) h)) [
        | inl j ↦ absurd (no_jumps_of facts a (flow_of s.word a) c ended j)
        | inr n ↦ n.1
      ]

  -- instructions from a start on that do not end a block
  advance : (s i : ℕ) → IsOfFunction image facts entry s → ((j : ℕ) → j < i → is_end (flow_at image (behind s j)) ≡ false) → IsOfFunction image facts entry (behind s i)
  advance s zero p on = subst (λ (x : ℕ). IsOfFunction image facts entry x) (sym (place_zero s (stand s p).small)) p
  advance s (suc i) p on =
      let before = advance s i p (λ j h. on j (omega arith)) in
      one_more (ways_at image facts) before (subst (λ (x : ℕ). Contains (ways_at image facts (behind s i)) x) (next_place s i) (step_on (behind s i) before (on i (omega arith))))

  leader_inside : {s : ℕ} → IsLeader image facts entry s → IsOfFunction image facts entry s
  leader_inside first = here entry (none_there entry)
  leader_inside {s} (target {from = from} p j) =
      let t = stand from p in
      let flow = flow_of t.word from in
      let jump : Contains (jumps_by facts from flow) s = subst (λ (f : FlowKind). Contains (jumps_by facts from f) s) (flow_same from t.word t.stands) j in
      one_more (ways_at image facts) p (subst (λ (xs : List ℕ). Contains xs s) (sym (ways_same from t.word t.stands))
      (jump_there (cond flow.next (add_words from 4 ∷ []) []) (option_to_list flow.jump) (cond flow.indirect (targets_of facts.branches from) []) s jump))
  leader_inside (after_end p e q) = q

  cut_on : (machine : Machine) (s last : ℕ) → IsLength image facts machine entry s (suc last) → is_end (flow_at image (behind s last)) ≡ false → (j : ℕ) → j < suc last → is_end (flow_at image (behind s j)) ≡ false
  cut_on machine s last len e j h = elim (cases_eq j last) [
    | inl f ↦ ap (λ k. is_end (flow_at image (behind s k))) f ∙ e
    | inr apart ↦ len.unended j (omega arith)
  ]

  begins_inside : (machine : Machine) {s : ℕ} → Begins image facts machine entry s → IsOfFunction image facts entry s
  begins_inside machine (leader l) = leader_inside l
  begins_inside machine (cut {start = s} {last = last} b len e) = advance s (suc last) (begins_inside machine b) (cut_on machine s last len e)

  -- ---- members of a loop

  module _ (entered : HeadsAreEntered) (law : SingleEdgesKeepMembership) (head : ℕ) (h : IsHead (ways_at image facts) entry head)
      (machine : Machine) (s count : ℕ) (begins : Begins image facts machine entry s) (len : IsLength image facts machine entry s count) where
    no_head : (i : ℕ) → suc i < count → behind s (suc i) ≡ head → ⊥
    no_head i few e = len.unentered (suc i) (omega arith) few (subst (λ (x : ℕ). IsLeader image facts entry x) (sym e) (begins_block image facts entry head entered ends h))

    together : (i : ℕ) → i < count → IsMember (ways_at image facts) entry head s ↔ IsMember (ways_at image facts) entry head (behind s i)
    together zero few =
        let e = place_zero s (stand s (begins_inside machine begins)).small in
        (λ m. subst (λ (x : ℕ). IsMember (ways_at image facts) entry head x) (sym e) m, λ m. subst (λ (x : ℕ). IsMember (ways_at image facts) entry head x) e m)
    together (suc i) few =
        let so_far = together i (omega arith) in
        let a = behind s i in
        let p = advance s i (begins_inside machine begins) (λ j k. len.unended j (omega arith)) in
        let going = len.unended i few in
        let edge = subst (λ (x : ℕ). Contains (ways_at image facts (behind s i)) x) (next_place s i) (step_on (behind s i) p going) in
        let one = law (ways_at image facts) entry head (behind s i) (behind s (suc i)) h p edge (λ c k. only_on (behind s i) c p going k ∙ next_place s i) (no_head i few) in
        (λ m. one.0 (so_far.0 m), λ m. so_far.1 (one.1 m))

pub blocks_lie_in_loops : HeadsAreEntered → SingleEdgesKeepMembership → BlocksLieInLoops
blocks_lie_in_loops entered law image facts start machine program entry head block i ends is is_entry h b few =
    together image facts start (leads image facts start machine is.sound) ends entry is_entry entered law head h machine block.start (length block.insns) b.begins b.count i few
