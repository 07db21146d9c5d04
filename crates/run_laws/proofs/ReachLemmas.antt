-- A run stays in what ways and calls lead to.
use Rattle.std.proofs.Common.{◌≡◌, ℕ, Bool, true, false, cond, ◌==◌, eqb, List, [], ◌∷◌, ◌++◌, refl, sym, subst, ◌∙◌, inl, inr, arith}
use Rattle.std.specs.Prelude.{Option, Some, None, Contains, option_to_list}
use Rattle.std.proofs.lemmas.Bool.{false≢true, or_cases}
use Rattle.std.proofs.lemmas.Bool.Decides.{nat_tests}
use Rattle.std.proofs.lemmas.List.Elements.{Contains-append_left, Contains-append_right}
use Rattle.std.specs.Option.{option_map_or}
use Rattle.wx_base.specs.declared.facts.Facts.{Facts}
use Rattle.wx_base.specs.declared.flow.FlowKind.{FlowKind}
use Rattle.wx_base.specs.Bits.{add_words}
use Rattle.wx_base.specs.Facts.{targets_of}
use Rattle.wx_base.specs.Flow.{flow_of, flow_by, no_flow, branch_flow, exchange_flow, jump_flow, goes_on as goes_behind}
use Rattle.wx_base.specs.Functions.{callees_by}
use Rattle.wx_base.specs.Instruction.{Kind, AluImmediate, AluShift, AluByRegister, Mul, MulLong, SingleImmediate, SingleRegister, HalfImmediate, HalfRegister, Block, Branch, Exchange, Svc, MovPcLr, kind_of}
use Rattle.wx_base.specs.Monitor.{is_call, is_one_of, is_target}
use Rattle.wx_base.specs.Paths.{Path}
use Rattle.wx_base.specs.Paths.Path.{here, further}
use Rattle.wx_base.specs.Ways.{ways_by}

-- ---- paths

pub none_there : (v : ℕ) → Contains [] v → ⊥
none_there v h = absurd (omega (arith, h.1))

is_the_one : (v : ℕ) → Contains (v ∷ []) v
is_the_one v = (0, omega arith, refl)

pub one_more : (leads : ℕ → List ℕ) {a b c : ℕ} → Path leads [] a b → Contains (leads b) c → Path leads [] a c
one_more leads {c = c} (here a n) e = further n e (here c (none_there c))
one_more leads (further n f p) e = further n f (one_more leads p e)

-- ---- what the flow leads to

same_number : (m n : ℕ) → eqb m n ≡ true → m ≡ n
same_number m n e = grind (arith, nat_tests)

pub listed_there : (addresses : List ℕ) (to : ℕ) → is_one_of addresses to ≡ true → Contains addresses to
listed_there [] to e = absurd (false≢true e)
listed_there (a ∷ addresses) to e = elim (or_cases (a == to) (is_one_of addresses to) e) [
  | inl h ↦ subst (λ (x : ℕ). Contains (a ∷ addresses) x) (same_number a to h) (Contains-append_left (a ∷ []) addresses a (is_the_one a))
  | inr h ↦ Contains-append_right (a ∷ []) addresses to (listed_there addresses to h)
]

pub some_there : (o : Option ℕ) (to : ℕ) → o ≡ Some to → Contains (option_to_list o) to
some_there o to e = subst (λ (x : Option ℕ). Contains (option_to_list x) to) (sym e) (is_the_one to)

pub chosen_there : (b : Bool) (xs : List ℕ) (to : ℕ) → b ≡ true → Contains xs to → Contains (cond b xs []) to
chosen_there b xs to e h = subst (λ (x : Bool). Contains (cond x xs []) to) (sym e) h

module _ (facts : Facts) (address : ℕ) (flow : FlowKind) where
  abbrev behind_part : List ℕ
  behind_part = cond flow.next (add_words address 4 ∷ []) []

  abbrev told_part : List ℕ
  told_part = cond flow.indirect (targets_of facts.branches address) []

  pub way_behind : flow.next ≡ true → Contains (ways_by facts address flow) (add_words address 4)
  way_behind e =
      Contains-append_left (behind_part ++ option_to_list flow.jump) told_part (add_words address 4)
      (Contains-append_left behind_part (option_to_list flow.jump) (add_words address 4) (chosen_there flow.next (add_words address 4 ∷ []) (add_words address 4) e (is_the_one (add_words address 4))))

  pub way_of_jump : (to : ℕ) → flow.jump ≡ Some to → Contains (ways_by facts address flow) to
  way_of_jump to e =
      Contains-append_left (behind_part ++ option_to_list flow.jump) told_part to
      (Contains-append_right behind_part (option_to_list flow.jump) to (some_there flow.jump to e))

  pub way_of_target : (to : ℕ) → flow.indirect ≡ true → is_target facts.branches address to ≡ true → Contains (ways_by facts address flow) to
  way_of_target to e h =
      Contains-append_right (behind_part ++ option_to_list flow.jump) told_part to
      (chosen_there flow.indirect (targets_of facts.branches address) to e (listed_there (targets_of facts.branches address) to h))

  pub callee_of_call : (to : ℕ) → flow.call ≡ Some to → Contains (callees_by facts address flow) to
  callee_of_call to e = Contains-append_left (option_to_list flow.call) (cond flow.call_any (targets_of facts.calls address) []) to (some_there flow.call to e)

  pub callee_of_target : (to : ℕ) → flow.call_any ≡ true → is_target facts.calls address to ≡ true → Contains (callees_by facts address flow) to
  callee_of_target to e h =
      Contains-append_right (option_to_list flow.call) (cond flow.call_any (targets_of facts.calls address) []) to
      (chosen_there flow.call_any (targets_of facts.calls address) to e (listed_there (targets_of facts.calls address) to h))

-- ---- calls

-- a call goes on behind it, and is nothing else
pub record IsCallAlone (flow : FlowKind) : Type 0 where
  pub next : flow.next ≡ true
  pub no_jump : flow.jump ≡ None
  pub no_return : flow.ret ≡ false
  pub direct : flow.indirect ≡ false

-- what is no call
not_call : (flow : FlowKind) → is_call flow ≡ false → is_call flow ≡ true → IsCallAlone flow
not_call flow none calls = absurd (false≢true (sym none ∙ calls))

load_call : (b returns : Bool) (code : ℕ) → is_call (cond b (jump_flow code returns) goes_behind) ≡ false
load_call true returns code = refl
load_call false returns code = refl

branch_call : (linked : Bool) (code target : ℕ) → is_call (branch_flow code linked target) ≡ true → IsCallAlone (branch_flow code linked target)
branch_call true code target e = record { next = refl; no_jump = refl; no_return = refl; direct = refl }
branch_call false code target e = absurd (false≢true e)

exchange_call : (linked : Bool) (code register : ℕ) → is_call (exchange_flow code linked register) ≡ true → IsCallAlone (exchange_flow code linked register)
exchange_call true code register e = record { next = refl; no_jump = refl; no_return = refl; direct = refl }
exchange_call false code register e = absurd (false≢true e)

call_by : (word address : ℕ) (kind : Kind) → is_call (flow_by word address kind) ≡ true → IsCallAlone (flow_by word address kind)
call_by word address AluImmediate e = not_call _ refl e
call_by word address AluShift e = not_call _ refl e
call_by word address AluByRegister e = not_call _ refl e
call_by word address Mul e = not_call _ refl e
call_by word address MulLong e = not_call _ refl e
call_by word address SingleImmediate e = not_call _ (load_call _ _ _) e
call_by word address SingleRegister e = not_call _ (load_call _ _ _) e
call_by word address HalfImmediate e = not_call _ refl e
call_by word address HalfRegister e = not_call _ refl e
call_by word address Block e = not_call _ (load_call _ _ _) e
call_by word address Branch e = branch_call _ _ _ e
call_by word address Exchange e = exchange_call _ _ _ e
call_by word address Svc e = not_call _ refl e
call_by word address MovPcLr e = not_call _ refl e

call_in : (word address : ℕ) (kind : Option Kind) → is_call (option_map_or (flow_by word address) kind no_flow) ≡ true → IsCallAlone (option_map_or (flow_by word address) kind no_flow)
call_in word address None e = not_call no_flow refl e
call_in word address (Some kind) e = call_by word address kind e

pub call_alone : (word address : ℕ) → is_call (flow_of word address) ≡ true → IsCallAlone (flow_of word address)
unfolding flow_of
call_alone word address e = call_in word address (kind_of word) e
