-- What the flow of an instruction at an address tells.
use Rattle.std.proofs.Common.{◌≡◌, ℕ, zero, suc, ◌^◌, ◌<◌, ◌==◌, ◌||◌, ◌&&◌, Bool, true, false, cond, List, [], ◌∷◌, ◌++◌, refl, sym, ap, subst, ◌∙◌, inl, inr, arith}
use Rattle.std.specs.Prelude.{Option, Some, None, Contains, is_some, option_to_list}
use Rattle.std.specs.Option.{option_map_or}
use Rattle.std.proofs.lemmas.Bool.{false≢true}
use Rattle.std.proofs.lemmas.List.Elements.{Contains-append_left, Contains-append_right, Contains-append_cases}
use Rattle.wx_base.specs.declared.facts.Facts.{Facts}
use Rattle.wx_base.specs.declared.flow.FlowKind.{FlowKind}
use Rattle.wx_base.specs.declared.image.Image.{Image}
use Rattle.wx_base.specs.Bits.{add_words, is_in}
use Rattle.wx_base.specs.Facts.{targets_of}
use Rattle.wx_base.specs.Flow.{flow_of, flow_by, no_flow, branch_flow, exchange_flow, jump_flow, pops, branch_target, goes_on as goes_behind}
use Rattle.wx_base.specs.Functions.{callees_by, callees_of, callees_at, code_at, ways_at}
use Rattle.wx_base.specs.Instruction.{Kind, AluImmediate, AluShift, AluByRegister, Mul, MulLong, SingleImmediate, SingleRegister, HalfImmediate, HalfRegister, Block, Branch, Exchange, Svc, MovPcLr, kind_of, condition, rd, rn, rm, is_load, is_before, is_up, offset, block_list, links, branch_offset, exchange_links}
use Rattle.wx_base.specs.Monitor.{is_call}
use Rattle.wx_base.specs.Paths.{Path}
use Rattle.wx_base.specs.Paths.Path.{here, further}
use Rattle.wx_base.specs.Ways.{ways_by, ways_of}
use Rattle.flow_block.specs.Sites.{behind, flow_at, goes_past, goes_past_at, is_end, jumps_by}
use Rattle.run_laws.specs.Flowing.{IsTakenTo}
use Rattle.run_laws.specs.Flowing.IsTakenTo.{jump, call, call_any, ret, indirect}

-- ---- paths and places

pub none_there : (v : ℕ) → Contains [] v → ⊥
none_there v h = absurd (omega (arith, h.1))

pub one_more : (leads : ℕ → List ℕ) {a b c : ℕ} → Path leads [] a b → Contains (leads b) c → Path leads [] a c
one_more leads {c = c} (here a n) e = further n e (here c (none_there c))
one_more leads (further n f p) e = further n f (one_more leads p e)

pub next_place : (start i : ℕ) → add_words (behind start i) 4 ≡ behind start (suc i)
next_place start i = omega arith

pub one_behind : (a : ℕ) → add_words a 4 ≡ behind a 1
one_behind a = omega arith

pub place_zero : (start : ℕ) → start < 2 ^ 32 → behind start zero ≡ start
place_zero start h = omega arith

-- ---- ends of blocks

module _ (flow : FlowKind) where
  join_left : (a b : Bool) → a ≡ true → (a || b) ≡ true
  join_left true b e = refl
  join_left false b e = absurd (false≢true e)

  join_right : (a b : Bool) → b ≡ true → (a || b) ≡ true
  join_right true b e = refl
  join_right false b e = e

  pub call_ends : is_call flow ≡ true → is_end flow ≡ true
  call_ends e =
      join_left (is_some flow.jump || is_call flow || flow.ret || flow.indirect) flow.stop
      (join_left (is_some flow.jump || is_call flow || flow.ret) flow.indirect
      (join_left (is_some flow.jump || is_call flow) flow.ret (join_right (is_some flow.jump) (is_call flow) e)))

  pub taken_ends : (to : ℕ) → IsTakenTo flow to → is_end flow ≡ true
  taken_ends to (jump e) =
      join_left (is_some flow.jump || is_call flow || flow.ret || flow.indirect) flow.stop
      (join_left (is_some flow.jump || is_call flow || flow.ret) flow.indirect
      (join_left (is_some flow.jump || is_call flow) flow.ret (join_left (is_some flow.jump) (is_call flow) (ap is_some e))))
  taken_ends to (call e) = call_ends (join_left (is_some flow.call) flow.call_any (ap is_some e))
  taken_ends to (call_any e) = call_ends (join_right (is_some flow.call) flow.call_any e)
  taken_ends to (ret e) =
      join_left (is_some flow.jump || is_call flow || flow.ret || flow.indirect) flow.stop
      (join_left (is_some flow.jump || is_call flow || flow.ret) flow.indirect (join_right (is_some flow.jump || is_call flow) flow.ret e))
  taken_ends to (indirect e) =
      join_left (is_some flow.jump || is_call flow || flow.ret || flow.indirect) flow.stop
      (join_right (is_some flow.jump || is_call flow || flow.ret) flow.indirect e)

-- ---- calls go on behind

load_call : (b returns : Bool) (code : ℕ) → is_call (cond b (jump_flow code returns) goes_behind) ≡ true → (cond b (jump_flow code returns) goes_behind).next ≡ true
load_call true returns code e = absurd (false≢true e)
load_call false returns code e = refl

branch_call : (linked : Bool) (code target : ℕ) → is_call (branch_flow code linked target) ≡ true → (branch_flow code linked target).next ≡ true
branch_call true code target e = refl
branch_call false code target e = absurd (false≢true e)

exchange_call : (linked : Bool) (code register : ℕ) → is_call (exchange_flow code linked register) ≡ true → (exchange_flow code linked register).next ≡ true
exchange_call true code register e = refl
exchange_call false code register e = absurd (false≢true e)

call_by : (word address : ℕ) (kind : Kind) → is_call (flow_by word address kind) ≡ true → (flow_by word address kind).next ≡ true
call_by word address AluImmediate e = refl
call_by word address AluShift e = refl
call_by word address AluByRegister e = refl
call_by word address Mul e = refl
call_by word address MulLong e = refl
call_by word address SingleImmediate e = load_call (is_load word && (rd word == 15)) (pops (rn word) (is_before word) (is_up word) (offset word)) (condition word) e
call_by word address SingleRegister e = load_call (is_load word && (rd word == 15)) false (condition word) e
call_by word address HalfImmediate e = refl
call_by word address HalfRegister e = refl
call_by word address Block e = load_call (is_load word && is_in (block_list word) 15) (rn word == 13) (condition word) e
call_by word address Branch e = branch_call (links word) (condition word) (branch_target address (branch_offset word)) e
call_by word address Exchange e = exchange_call (exchange_links word) (condition word) (rm word) e
call_by word address Svc e = absurd (false≢true e)
call_by word address MovPcLr e = absurd (false≢true e)

call_in : (word address : ℕ) (kind : Option Kind) → is_call (option_map_or (flow_by word address) kind no_flow) ≡ true → (option_map_or (flow_by word address) kind no_flow).next ≡ true
call_in word address None e = absurd (false≢true e)
call_in word address (Some kind) e = call_by word address kind e

call_next : (word address : ℕ) → is_call (flow_of word address) ≡ true → (flow_of word address).next ≡ true
unfolding flow_of
call_next word address e = call_in word address (kind_of word) e

-- only calls call something
pub callee_is_call : (facts : Facts) (address : ℕ) (flow : FlowKind) (to : ℕ) → Contains (callees_by facts address flow) to → is_call flow ≡ true
callee_is_call facts address flow to h =
    elim (Contains-append_cases (option_to_list flow.call) (cond flow.call_any (targets_of facts.calls address) []) to h) [
      | inl direct ↦ some_call flow.call flow.call_any to direct
      | inr listed ↦ any_call flow.call flow.call_any (targets_of facts.calls address) to listed
    ]
  where
    some_call : (o : Option ℕ) (b : Bool) (to : ℕ) → Contains (option_to_list o) to → (is_some o || b) ≡ true
    some_call None b to c = absurd (none_there to c)
    some_call (Some x) b to c = refl

    any_call : (o : Option ℕ) (b : Bool) (xs : List ℕ) (to : ℕ) → Contains (cond b xs []) to → (is_some o || b) ≡ true
    any_call (Some x) b xs to c = refl
    any_call None true xs to c = refl
    any_call None false xs to c = absurd (none_there to c)

-- ---- ways

is_the_one : (v : ℕ) → Contains (v ∷ []) v
is_the_one v = (0, omega arith, refl)

chosen_there : (b : Bool) (xs : List ℕ) (to : ℕ) → b ≡ true → Contains xs to → Contains (cond b xs []) to
chosen_there b xs to e h = subst (λ (x : Bool). Contains (cond x xs []) to) (sym e) h

module _ (facts : Facts) (address : ℕ) (flow : FlowKind) where
  abbrev behind_part : List ℕ
  behind_part = cond flow.next (add_words address 4 ∷ []) []

  abbrev told_part : List ℕ
  told_part = cond flow.indirect (targets_of facts.branches address) []

  way_behind : flow.next ≡ true → Contains (ways_by facts address flow) (add_words address 4)
  way_behind e =
      Contains-append_left (behind_part ++ option_to_list flow.jump) told_part (add_words address 4)
      (Contains-append_left behind_part (option_to_list flow.jump) (add_words address 4) (chosen_there flow.next (add_words address 4 ∷ []) (add_words address 4) e (is_the_one (add_words address 4))))

  way_jump : (to : ℕ) → Contains (jumps_by facts address flow) to → Contains (ways_by facts address flow) to
  way_jump to h = elim (Contains-append_cases (option_to_list flow.jump) told_part to h) [
    | inl direct ↦ Contains-append_left (behind_part ++ option_to_list flow.jump) told_part to (Contains-append_right behind_part (option_to_list flow.jump) to direct)
    | inr listed ↦ Contains-append_right (behind_part ++ option_to_list flow.jump) told_part to listed
  ]

module _ (image : Image) (facts : Facts) (address : ℕ) where
  module _ (word : ℕ) (code : code_at image address ≡ Some word) where
    pub flow_same : flow_at image address ≡ flow_of word address
    flow_same = ap (λ (o : Option ℕ). option_map_or (λ w. flow_of w address) o no_flow) code

    ways_same : ways_at image facts address ≡ ways_of facts word address
    ways_same = ap (λ (o : Option ℕ). option_map_or (λ w. ways_of facts w address) o []) code

    pub callees_same : callees_at image facts address ≡ callees_of facts word address
    callees_same = ap (λ (o : Option ℕ). option_map_or (λ w. callees_of facts w address) o []) code

    pub past_same : goes_past_at image address ≡ goes_past word address
    past_same = ap (λ (o : Option ℕ). option_map_or (λ w. goes_past w address) o false) code

    pub next_way : (flow_of word address).next ≡ true → Contains (ways_at image facts address) (add_words address 4)
    next_way e = subst (λ (xs : List ℕ). Contains xs (add_words address 4)) (sym ways_same) (way_behind facts address (flow_of word address) e)

    pub jump_way : (to : ℕ) → Contains (jumps_by facts address (flow_of word address)) to → Contains (ways_at image facts address) to
    jump_way to h = subst (λ (xs : List ℕ). Contains xs to) (sym ways_same) (way_jump facts address (flow_of word address) to h)

  call_way_in : (o : Option ℕ) → code_at image address ≡ o → is_call (flow_at image address) ≡ true → Contains (ways_at image facts address) (add_words address 4)
  call_way_in None code e = absurd (false≢true (sym (ap (λ (o : Option ℕ). is_call (option_map_or (λ w. flow_of w address) o no_flow)) code) ∙ e))
  call_way_in (Some word) code e = next_way word code (call_next word address (sym (ap is_call (flow_same word code)) ∙ e))

  -- behind a call the function goes on
  pub call_way : is_call (flow_at image address) ≡ true → Contains (ways_at image facts address) (add_words address 4)
  call_way e = call_way_in (code_at image address) refl e
