-- The ways along a block: from each of its instructions to the next, and from the last to what the block leads to.
use Rattle.std.proofs.Common.{◌≡◌, ℕ, zero, suc, ◌+◌, ◌%◌, ◌^◌, ◌<◌, ◌≤◌, ◌==◌, ◌&&◌, ◌||◌, Bool, true, false, cond, ltb, leb, eqb, List, [], ◌∷◌, ◌++◌, refl, sym, ap, subst, ◌∙◌, inl, inr, arith}
use Rattle.std.specs.Prelude.{All, Contains, Option, Some, None, is_some, option_to_list}
use Rattle.std.specs.List.{list_any}
use Rattle.std.specs.Option.{option_map_or}
use Rattle.std.proofs.lemmas.Bool.{cases_eq, false≢true, and_parts, or_cases}
use Rattle.std.proofs.lemmas.Bool.Decides.{nat_tests}
use Rattle.std.proofs.lemmas.List.Elements.{All-head, All-tail, Contains-append_cases, Contains-append_left, Contains-append_right}
use Rattle.wx_base.specs.declared.facts.Facts.{Facts}
use Rattle.wx_base.specs.declared.flow.FlowKind.{FlowKind}
use Rattle.wx_base.specs.declared.image.Image.{Image}
use Rattle.wx_base.specs.declared.image.Segment.{Segment}
use Rattle.wx_base.specs.declared.machine.Machine.{Machine}
use Rattle.wx_base.specs.Bits.{add_words, is_in, word_of_bytes}
use Rattle.wx_base.specs.Facts.{targets_of}
use Rattle.wx_base.specs.Flow.{flow_of, flow_by, no_flow, branch_flow, exchange_flow, jump_flow, goes_on, pops, branch_target}
use Rattle.wx_base.specs.Functions.{callees_at, callees_by, callees_of, code_at, leads_at, ways_at, IsEntry}
use Rattle.wx_base.specs.Image.{has_code, is_code_word, spans, word_from, word_of}
use Rattle.wx_base.specs.Instruction.{Kind, AluImmediate, AluShift, AluByRegister, Mul, MulLong, SingleImmediate, SingleRegister, HalfImmediate, HalfRegister, Block as BlockKind, Branch, Exchange, Svc, MovPcLr, kind_of, condition, rd, rn, rm, is_load, is_before, is_up, offset, block_list, links, branch_offset, exchange_links}
use Rattle.wx_base.specs.Monitor.{is_call}
use Rattle.wx_base.specs.Paths.{Path}
use Rattle.wx_base.specs.Paths.Path.{here, further}
use Rattle.wx_base.specs.Ways.{ways_by, ways_of}
use Rattle.flow_block.specs.Blocks.{Begins, IsLeader, IsLength, IsOfFunction}
use Rattle.flow_block.specs.Blocks.Begins.{leader, cut}
use Rattle.flow_block.specs.Blocks.IsLeader.{first, target, after_end}
use Rattle.flow_block.specs.Sites.{behind, flow_at, goes_past, goes_past_at, is_end, jumps_at, jumps_by}
use Rattle.run_laws.specs.CodeBytes.{HasByte, code_has_byte}
use Rattle.run_laws.specs.Reached.{LeadsToInstructions}
use Rattle.flow_laws.specs.Programs.{EndsInMemory}
use Rattle.loop_laws.proofs.Lists.{is_the_one, none_there}

-- ---- which instructions go on

-- an instruction may go on, or ends a block and is no call
data GoesOrEnds (flow : FlowKind) : Type 0 where
  may_go : flow.next ≡ true → GoesOrEnds flow
  stops : is_end flow ≡ true → is_call flow ≡ false → GoesOrEnds flow

of_jump : (returns : Bool) (code : ℕ) → GoesOrEnds (jump_flow code returns)
of_jump true code = stops refl refl
of_jump false code = stops refl refl

of_load : (b returns : Bool) (code : ℕ) → GoesOrEnds (cond b (jump_flow code returns) goes_on)
of_load true returns code = of_jump returns code
of_load false returns code = may_go refl

of_branch : (linked : Bool) (code to : ℕ) → GoesOrEnds (branch_flow code linked to)
of_branch true code to = may_go refl
of_branch false code to = stops refl refl

of_exchange : (linked : Bool) (code register : ℕ) → GoesOrEnds (exchange_flow code linked register)
of_exchange true code register = may_go refl
of_exchange false code register = of_jump (register == 14) code

of_kind : (word address : ℕ) (kind : Kind) → GoesOrEnds (flow_by word address kind)
of_kind word address AluImmediate = may_go refl
of_kind word address AluShift = may_go refl
of_kind word address AluByRegister = may_go refl
of_kind word address Mul = may_go refl
of_kind word address MulLong = may_go refl
of_kind word address SingleImmediate = of_load (is_load word && (rd word == 15)) (pops (rn word) (is_before word) (is_up word) (offset word)) (condition word)
of_kind word address SingleRegister = of_load (is_load word && (rd word == 15)) false (condition word)
of_kind word address HalfImmediate = may_go refl
of_kind word address HalfRegister = may_go refl
of_kind word address BlockKind = of_load (is_load word && is_in (block_list word) 15) (rn word == 13) (condition word)
of_kind word address Branch = of_branch (links word) (condition word) (branch_target address (branch_offset word))
of_kind word address Exchange = of_exchange (exchange_links word) (condition word) (rm word)
of_kind word address Svc = stops refl refl
of_kind word address MovPcLr = of_jump true (condition word)

goes_if_call : (flow : FlowKind) → GoesOrEnds flow → is_call flow ≡ true → flow.next ≡ true
goes_if_call flow (may_go e) c = e
goes_if_call flow (stops e n) c = absurd (false≢true (sym n ∙ c))

goes_if_no_end : (flow : FlowKind) → GoesOrEnds flow → is_end flow ≡ false → flow.next ≡ true
goes_if_no_end flow (may_go e) n = e
goes_if_no_end flow (stops e _) n = absurd (false≢true (sym n ∙ e))

call_kind : (word address : ℕ) (kind : Option Kind) → is_call (option_map_or (flow_by word address) kind no_flow) ≡ true → (option_map_or (flow_by word address) kind no_flow).next ≡ true
call_kind word address None e = absurd (false≢true e)
call_kind word address (Some kind) e = goes_if_call (flow_by word address kind) (of_kind word address kind) e

call_next : (word address : ℕ) → is_call (flow_of word address) ≡ true → (flow_of word address).next ≡ true
unfolding flow_of
call_next word address e = call_kind word address (kind_of word) e

no_end_kind : (word address : ℕ) (kind : Option Kind) → (kind ≡ None → ⊥) → is_end (option_map_or (flow_by word address) kind no_flow) ≡ false → (option_map_or (flow_by word address) kind no_flow).next ≡ true
no_end_kind word address None some e = absurd (some refl)
no_end_kind word address (Some kind) some e = goes_if_no_end (flow_by word address kind) (of_kind word address kind) e

no_end_next : (word address : ℕ) → (kind_of word ≡ None → ⊥) → is_end (flow_of word address) ≡ false → (flow_of word address).next ≡ true
unfolding flow_of
no_end_next word address some e = no_end_kind word address (kind_of word) some e

-- only calls call something
callee_is_call : (facts : Facts) (address : ℕ) (flow : FlowKind) (to : ℕ) → Contains (callees_by facts address flow) to → is_call flow ≡ true
callee_is_call facts address flow to h =
    elim (Contains-append_cases (option_to_list flow.call) (cond flow.call_any (targets_of facts.calls address) []) to h) [
      | inl direct ↦ some_call flow.call flow.call_any direct
      | inr listed ↦ any_call flow.call flow.call_any (targets_of facts.calls address) listed
    ]
  where
    some_call : (o : Option ℕ) (b : Bool) → Contains (option_to_list o) to → (is_some o || b) ≡ true
    some_call None b c = absurd (none_there to c)
    some_call (Some x) b c = refl

    any_call : (o : Option ℕ) (b : Bool) (xs : List ℕ) → Contains (cond b xs []) to → (is_some o || b) ≡ true
    any_call (Some x) b xs c = refl
    any_call None true xs c = refl
    any_call None false xs c = absurd (none_there to c)

-- ---- ways of the instruction at an address

module _ (facts : Facts) (address : ℕ) (flow : FlowKind) where
  abbrev behind_part : List ℕ
  behind_part = cond flow.next (add_words address 4 ∷ []) []

  abbrev told_part : List ℕ
  told_part = cond flow.indirect (targets_of facts.branches address) []

  way_behind : flow.next ≡ true → Contains (ways_by facts address flow) (add_words address 4)
  way_behind e =
      Contains-append_left (behind_part ++ option_to_list flow.jump) told_part (add_words address 4)
      (Contains-append_left behind_part (option_to_list flow.jump) (add_words address 4)
      (subst (λ (b : Bool). Contains (cond b (add_words address 4 ∷ []) []) (add_words address 4)) (sym e) (is_the_one (add_words address 4))))

  way_jump : (to : ℕ) → Contains (jumps_by facts address flow) to → Contains (ways_by facts address flow) to
  way_jump to h = elim (Contains-append_cases (option_to_list flow.jump) told_part to h) [
    | inl direct ↦ Contains-append_left (behind_part ++ option_to_list flow.jump) told_part to (Contains-append_right behind_part (option_to_list flow.jump) to direct)
    | inr listed ↦ Contains-append_right (behind_part ++ option_to_list flow.jump) told_part to listed
  ]

one_behind : (a : ℕ) → add_words a 4 ≡ behind a 1
one_behind a = omega arith

module _ (image : Image) (facts : Facts) (a : ℕ) where
  ways_in : (o : Option ℕ) → option_map_or (λ w. ways_of facts w a) o [] ≡ ways_by facts a (option_map_or (λ w. flow_of w a) o no_flow)
  ways_in None = refl
  ways_in (Some word) = refl

  callees_in : (o : Option ℕ) → option_map_or (λ w. callees_of facts w a) o [] ≡ callees_by facts a (option_map_or (λ w. flow_of w a) o no_flow)
  callees_in None = refl
  callees_in (Some word) = refl

  past_in : (o : Option ℕ) → option_map_or (λ w. goes_past w a) o false ≡ true → (option_map_or (λ w. flow_of w a) o no_flow).next ≡ true
  past_in None e = absurd (false≢true e)
  past_in (Some word) e = (and_parts (flow_of word a).next _ e).0

  call_in : (o : Option ℕ) → is_call (option_map_or (λ w. flow_of w a) o no_flow) ≡ true → (option_map_or (λ w. flow_of w a) o no_flow).next ≡ true
  call_in None e = absurd (false≢true e)
  call_in (Some word) e = call_next word a e

  -- where an instruction may go on, a way leads behind it
  pub next_way : (flow_at image a).next ≡ true → Contains (ways_at image facts a) (behind a 1)
  next_way e =
      subst (λ (to : ℕ). Contains (ways_at image facts a) to) (one_behind a)
      (subst (λ (xs : List ℕ). Contains xs (add_words a 4)) (sym (ways_in (code_at image a))) (way_behind facts a (flow_at image a) e))

  pub past_way : goes_past_at image a ≡ true → Contains (ways_at image facts a) (behind a 1)
  past_way e = next_way (past_in (code_at image a) e)

  pub jump_way : (to : ℕ) → Contains (jumps_at image facts a) to → Contains (ways_at image facts a) to
  jump_way to h = subst (λ (xs : List ℕ). Contains xs to) (sym (ways_in (code_at image a))) (way_jump facts a (flow_at image a) to h)

  -- behind a call the function goes on
  pub call_way : (entry : ℕ) → Contains (callees_at image facts a) entry → Contains (ways_at image facts a) (behind a 1)
  call_way entry h =
      next_way (call_in (code_at image a) (callee_is_call facts a (flow_at image a) entry (subst (λ (xs : List ℕ). Contains xs entry) (callees_in (code_at image a)) h)))

-- ---- code lies in memory

below : (m n : ℕ) → ltb m n ≡ true → m < n
below m n t = grind (arith, nat_tests)

is_zero : (n : ℕ) → eqb n 0 ≡ true → n ≡ 0
is_zero n e = grind (arith, nat_tests)

code_below : (address : ℕ) (segments : List Segment) → All (λ s. s.first + s.size ≤ 2 ^ 32) segments → list_any (λ segment. segment.code && spans address segment) segments ≡ true → address < 2 ^ 32
code_below address [] all e = absurd (false≢true e)
code_below address (s ∷ segments) all e = elim (or_cases (s.code && spans address s) (list_any (λ segment. segment.code && spans address segment) segments) e) [
  | inl h ↦
      let spanned = (and_parts s.code (spans address s) h).1 in
      let l : address < s.first + s.size = below address (s.first + s.size) (and_parts (leb s.first address) (ltb address (s.first + s.size)) spanned).1 in
      let m : s.first + s.size ≤ 2 ^ 32 = All-head (λ s. s.first + s.size ≤ 2 ^ 32) s segments all in
      omega arith
  | inr h ↦ code_below address segments (All-tail (λ s. s.first + s.size ≤ 2 ^ 32) s segments all) h
]

record HasWord (image : Image) (a : ℕ) : Type 0 where
  word : ℕ
  stands : code_at image a ≡ Some word
  small : a < 2 ^ 32

has_word : (image : Image) (a : ℕ) → EndsInMemory image → is_code_word image a ≡ true → HasWord image a
unfolding word_of
has_word image a ends code =
    let a3 = and_parts ((a % 4 == 0) && has_code image a && has_code image (a + 1) && has_code image (a + 2)) (has_code image (a + 3)) code in
    let a2 = and_parts ((a % 4 == 0) && has_code image a && has_code image (a + 1)) (has_code image (a + 2)) a3.0 in
    let a1 = and_parts ((a % 4 == 0) && has_code image a) (has_code image (a + 1)) a2.0 in
    let a0 = and_parts (a % 4 == 0) (has_code image a) a1.0 in
    let small : a < 2 ^ 32 = code_below a image.segments ends.each a0.1 in
    let whole : a % 4 ≡ 0 = is_zero (a % 4) a0.0 in
    let b0 = code_has_byte image a a0.1 in
    let b1 = next 1 small whole (omega arith) a1.1 in
    let b2 = next 2 small whole (omega arith) a2.1 in
    let b3 = next 3 small whole (omega arith) a3.1 in
    record {
      word = word_of_bytes b0.byte b1.byte b2.byte b3.byte;
      stands = ◌∙◌ {c = Some (word_of_bytes b0.byte b1.byte b2.byte b3.byte)} (ap (λ b. cond b (word_of image a) None) code) (λ i. word_from (b0.is i) (b1.is i) (b2.is i) (b3.is i));
      small = small;
    }
  where
    next : (k : ℕ) → a < 2 ^ 32 → a % 4 ≡ 0 → k < 4 → has_code image (a + k) ≡ true → HasByte image (add_words a k)
    next k small whole few h = let e : add_words a k ≡ a + k = omega arith in code_has_byte image (add_words a k) (ap (has_code image) e ∙ h)

-- ---- the instructions of a function

pub one_more : (leads : ℕ → List ℕ) {a b c : ℕ} → Path leads [] a b → Contains (leads b) c → Path leads [] a c
one_more leads {c = c} (here a n) e = further n e (here c (none_there c))
one_more leads (further n f p) e = further n f (one_more leads p e)

place_zero : (start : ℕ) → start < 2 ^ 32 → behind start zero ≡ start
place_zero start h = omega arith

place_suc : (start k : ℕ) → behind (behind start k) 1 ≡ behind start (suc k)
place_suc start k = omega arith

module _ (image : Image) (facts : Facts) (start : ℕ) (led : LeadsToInstructions image facts start) (ends : EndsInMemory image) (entry : ℕ) (is_entry : IsEntry image facts start entry) where
  entry_led : IsEntry image facts start entry → Path (leads_at image facts) [] start entry
  entry_led (inl e) = subst (λ (x : ℕ). Path (leads_at image facts) [] start x) (sym e) (here start (none_there start))
  entry_led (inr c) = one_more (leads_at image facts) c.reached.path (Contains-append_right (ways_at image facts c.site) (callees_at image facts c.site) entry c.callee)

  led_on : {a b : ℕ} → Path (leads_at image facts) [] start a → Path (ways_at image facts) [] a b → Path (leads_at image facts) [] start b
  led_on so_far (here a n) = so_far
  led_on {a} so_far (further {b = b} n e p) = led_on {a = b} (one_more (leads_at image facts) so_far (Contains-append_left (ways_at image facts a) (callees_at image facts a) b e)) p

  path_to : (a : ℕ) → IsOfFunction image facts entry a → Path (leads_at image facts) [] start a
  path_to a p = led_on {a = entry} {b = a} (entry_led is_entry) p

  stand : (a : ℕ) → IsOfFunction image facts entry a → HasWord image a
  stand a p = has_word image a ends (led.code a (path_to a p))

  -- what does not end a block goes on
  goes_behind : (a : ℕ) → IsOfFunction image facts entry a → is_end (flow_at image a) ≡ false → Contains (ways_at image facts a) (behind a 1)
  goes_behind a p e =
      let s = stand a p in
      let flow : flow_at image a ≡ flow_of s.word a = ap (λ (o : Option ℕ). option_map_or (λ w. flow_of w a) o no_flow) s.stands in
      next_way image facts a (ap (λ (f : FlowKind). f.next) flow ∙ no_end_next s.word a (led.insn a s.word (path_to a p) s.stands) (sym (ap is_end flow) ∙ e))

  step_on : (s k : ℕ) → IsOfFunction image facts entry (behind s k) → is_end (flow_at image (behind s k)) ≡ false → Contains (ways_at image facts (behind s k)) (behind s (suc k))
  step_on s k p e = subst (λ (x : ℕ). Contains (ways_at image facts (behind s k)) x) (place_suc s k) (goes_behind (behind s k) p e)

  -- instructions from a start on that do not end a block
  advance : (s i : ℕ) → IsOfFunction image facts entry s → ((j : ℕ) → j < i → is_end (flow_at image (behind s j)) ≡ false) → IsOfFunction image facts entry (behind s i)
  advance s zero p on = subst (λ (x : ℕ). IsOfFunction image facts entry x) (sym (place_zero s (stand s p).small)) p
  advance s (suc i) p on =
      let before = advance s i p (λ j h. on j (omega (arith, h))) in
      one_more (ways_at image facts) before (step_on s i before (on i (omega arith)))

  leader_inside : {s : ℕ} → IsLeader image facts entry s → IsOfFunction image facts entry s
  leader_inside first = here entry (none_there entry)
  leader_inside {s} (target {from = from} p j) = one_more (ways_at image facts) p (jump_way image facts from s j)
  leader_inside (after_end p e q) = q

  cut_on : (machine : Machine) (s last : ℕ) → IsLength image facts machine entry s (suc last) → is_end (flow_at image (behind s last)) ≡ false → (j : ℕ) → j < suc last → is_end (flow_at image (behind s j)) ≡ false
  cut_on machine s last len e j h = elim (cases_eq j last) [
    | inl f ↦ ap (λ k. is_end (flow_at image (behind s k))) f ∙ e
    | inr apart ↦ len.unended j (omega arith)
  ]

  -- where a block begins the function comes to
  pub begins_inside : (machine : Machine) {s : ℕ} → Begins image facts machine entry s → IsOfFunction image facts entry s
  begins_inside machine (leader l) = leader_inside l
  begins_inside machine (cut {start = s} {last = last} b len e) = advance s (suc last) (begins_inside machine b) (cut_on machine s last len e)

  pub first_place : (machine : Machine) {s : ℕ} → Begins image facts machine entry s → behind s zero ≡ s
  first_place machine {s} b = place_zero s (stand s (begins_inside machine b)).small

  -- along a block each instruction leads to the next
  pub along : (machine : Machine) {s : ℕ} (count : ℕ) → Begins image facts machine entry s → IsLength image facts machine entry s count → (k : ℕ) → suc k < count
      → Contains (ways_at image facts (behind s k)) (behind s (suc k))
  along machine {s} count b len k h =
      let p = advance s k (begins_inside machine b) (λ j g. len.unended j (omega (arith, g, h))) in
      step_on s k p (len.unended k h)
