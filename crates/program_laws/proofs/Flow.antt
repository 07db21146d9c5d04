-- Where no cause stands, instructions lead to instructions.
use Rattle.std.proofs.Common.{◌≡◌, ℕ, ◌^◌, ◌<◌, Bool, true, false, cond, ◌&&◌, ◌==◌, List, [], ◌∷◌, ◌++◌, get_or, Option, Some, None, option_map, refl, sym, ap, ◌∙◌, subst, inl, inr, ◌⊎◌, ⊎_elim, arith}
use Rattle.std.specs.Prelude.{option_to_list}
use Rattle.std.proofs.lemmas.Bool.{false≢true}
use Rattle.std.proofs.lemmas.List.Elements.{Contains-append_cases, Contains-append_left, Contains-append_right}
use Rattle.std.specs.List.{Contains}
use Rattle.std.specs.Option.{option_map_or, option_and_then}
use Rattle.wx_base.specs.declared.facts.Facts.{Facts}
use Rattle.wx_base.specs.declared.flow.FlowKind.{FlowKind}
use Rattle.wx_base.specs.declared.image.Image.{Image}
use Rattle.wx_base.specs.declared.machine.Machine.{Machine}
use Rattle.wx_base.specs.Bits.{add_words, is_in}
use Rattle.wx_base.specs.Facts.{targets_of}
use Rattle.wx_base.specs.Flow.{flow_of, flow_by, no_flow, goes_on, load_flow, jump_flow, block_flow, branch_flow, exchange_flow}
use Rattle.wx_base.specs.Functions.{callees_at, code_at, leads_at, ways_at, IsReached, IsEntry}
use Rattle.wx_base.specs.Image.{is_code_word}
use Rattle.wx_base.specs.Instruction.{Kind, AluImmediate, AluShift, AluByRegister, Mul, MulLong, SingleImmediate, SingleRegister, HalfImmediate, HalfRegister, Block, Branch, Exchange, Svc, MovPcLr, kind_of, links, exchange_links, is_load, rd, rm, block_list}
use Rattle.wx_base.specs.Paths.{Path}
use Rattle.wx_base.specs.Paths.Path.{here, further}
use Rattle.wx_base.specs.Ways.{ways_of, ways_by}
use Rattle.arm_code.specs.declared.insn.Insn.{Insn}
use Rattle.arm_code.specs.Encoding.{decoded, insn_by}
use Rattle.flow_block.specs.Sites.{behind, flow_at, insn_at, is_end, jumps_at, jumps_by}
use Rattle.flow_graph.specs.declared.error.FlowError.{FlowError}
use Rattle.flow_graph.specs.declared.error.FlowError.TheVariants.{Unsupported, LeavesCode, BadTarget}
use Rattle.flow_graph.specs.Refusals.{IsCause}
use Rattle.flow_laws.specs.Programs.{EndsInMemory}
use Rattle.program_laws.proofs.Words.{word_below, word_there}

none_there : (v : ℕ) → Contains [] v → ⊥
none_there v h = absurd (omega (arith, h.1))

the_one : (u v : ℕ) → Contains (u ∷ []) v → u ≡ v
the_one u v h = let e : h.0 ≡ 0 = omega (arith, h.1) in subst (λ (k : ℕ). get_or (u ∷ []) k v ≡ v) e h.2

is_there : (u : ℕ) → Contains (u ∷ []) u
is_there u = (0, omega arith, refl)

-- ---- paths
pub alone : (leads : ℕ → List ℕ) (a : ℕ) → Path leads [] a a
alone leads a = here a (none_there a)

pub one_more : (leads : ℕ → List ℕ) {a b c : ℕ} → Path leads [] a b → Contains (leads b) c → Path leads [] a c
one_more leads {c = c} (here a n) e = further n e (here c (none_there c))
one_more leads (further n f p) e = further n f (one_more leads p e)

-- ---- what an instruction is to the flow
-- an instruction goes on where nothing of it ends a block
jump_ends : (cond : ℕ) (returns : Bool) → is_end (jump_flow cond returns) ≡ false → (jump_flow cond returns).next ≡ true
jump_ends cond true e = absurd (false≢true (sym e))
jump_ends cond false e = absurd (false≢true (sym e))

load_goes : (cond : ℕ) (load : Bool) (to : ℕ) (returns : Bool) (b : Bool) → (load && (to == 15)) ≡ b → is_end (load_flow cond load to returns) ≡ false → (load_flow cond load to returns).next ≡ true
load_goes c load to returns true is e =
    ap (λ (t : Bool). (cond t (jump_flow c returns) goes_on).next) is
    ∙ jump_ends c returns (ap (λ (t : Bool). is_end (cond t (jump_flow c returns) goes_on)) (sym is) ∙ e)
load_goes c load to returns false is e = ap (λ (t : Bool). (cond t (jump_flow c returns) goes_on).next) is

block_goes : (c : ℕ) (load : Bool) (base list : ℕ) (b : Bool) → (load && is_in list 15) ≡ b → is_end (block_flow c load base list) ≡ false → (block_flow c load base list).next ≡ true
block_goes c load base list true is e =
    ap (λ (t : Bool). (cond t (jump_flow c (base == 13)) goes_on).next) is
    ∙ jump_ends c (base == 13) (ap (λ (t : Bool). is_end (cond t (jump_flow c (base == 13)) goes_on)) (sym is) ∙ e)
block_goes c load base list false is e = ap (λ (t : Bool). (cond t (jump_flow c (base == 13)) goes_on).next) is

branch_goes : (c : ℕ) (linked : Bool) (target : ℕ) → is_end (branch_flow c linked target) ≡ false → (branch_flow c linked target).next ≡ true
branch_goes c true target e = refl
branch_goes c false target e = absurd (false≢true (sym e))

exchange_goes : (c : ℕ) (linked : Bool) (register : ℕ) → is_end (exchange_flow c linked register) ≡ false → (exchange_flow c linked register).next ≡ true
exchange_goes c true register e = refl
exchange_goes c false register e = jump_ends c (register == 14) e

by_kind : (word address : ℕ) (kind : Kind) → is_end (flow_by word address kind) ≡ false → (flow_by word address kind).next ≡ true
by_kind word address AluImmediate e = refl
by_kind word address AluShift e = refl
by_kind word address AluByRegister e = refl
by_kind word address Mul e = refl
by_kind word address MulLong e = refl
by_kind word address SingleImmediate e = load_goes _ (is_load word) (rd word) _ _ refl e
by_kind word address SingleRegister e = load_goes _ (is_load word) (rd word) _ _ refl e
by_kind word address HalfImmediate e = refl
by_kind word address HalfRegister e = refl
by_kind word address Block e = block_goes _ (is_load word) _ (block_list word) _ refl e
by_kind word address Branch e = branch_goes _ (links word) _ e
by_kind word address Exchange e = exchange_goes _ (exchange_links word) (rm word) e
by_kind word address Svc e = absurd (false≢true (sym e))
by_kind word address MovPcLr e = absurd (false≢true (sym e))

pub goes : (word address : ℕ) (kind : Kind) → kind_of word ≡ Some kind → is_end (flow_of word address) ≡ false → (flow_of word address).next ≡ true
unfolding flow_of
goes word address kind is e =
    ap (λ (o : Option Kind). (option_map_or (flow_by word address) o no_flow).next) is
    ∙ by_kind word address kind (ap (λ (o : Option Kind). is_end (option_map_or (flow_by word address) o no_flow)) (sym is) ∙ e)

foreign_word : (word : ℕ) → kind_of word ≡ None → decoded word ≡ None
unfolding decoded
foreign_word word e = ap (option_map (insn_by word)) e

-- ---- ways
next_way : (b : Bool) (next : ℕ) → b ≡ true → Contains (cond b (next ∷ []) []) next
next_way true next e = is_there next
next_way false next e = absurd (false≢true e)

from_next : (b : Bool) (next to : ℕ) → Contains (cond b (next ∷ []) []) to → (b ≡ true) × (to ≡ next)
from_next true next to h = (refl, sym (the_one next to h))
from_next false next to h = absurd (none_there to h)

module _ (facts : Facts) (from : ℕ) (flow : FlowKind) where
  goes_behind : flow.next ≡ true → Contains (ways_by facts from flow) (add_words from 4)
  goes_behind e =
      let next = cond flow.next (add_words from 4 ∷ []) [] in
      Contains-append_left (next ++ option_to_list flow.jump) (cond flow.indirect (targets_of facts.branches from) []) (add_words from 4)
      (Contains-append_left next (option_to_list flow.jump) (add_words from 4) (next_way flow.next (add_words from 4) e))

  jump_is_way : (to : ℕ) → Contains (jumps_by facts from flow) to → Contains (ways_by facts from flow) to
  jump_is_way to h =
      let next = cond flow.next (add_words from 4 ∷ []) [] in
      let jump = option_to_list flow.jump in
      let listed = cond flow.indirect (targets_of facts.branches from) [] in
      ⊎_elim (λ j. Contains-append_left (next ++ jump) listed to (Contains-append_right next jump to j)) (λ l. Contains-append_right (next ++ jump) listed to l) (Contains-append_cases jump listed to h)

  way_is : (to : ℕ) → Contains (ways_by facts from flow) to → Contains (jumps_by facts from flow) to ⊎ ((flow.next ≡ true) × (to ≡ add_words from 4))
  way_is to h =
      let next = cond flow.next (add_words from 4 ∷ []) [] in
      let jump = option_to_list flow.jump in
      let listed = cond flow.indirect (targets_of facts.branches from) [] in
      ⊎_elim
      (λ l. ⊎_elim (λ n. inr (from_next flow.next (add_words from 4) to n)) (λ j. inl (Contains-append_left jump listed to j)) (Contains-append_cases next jump to l))
      (λ r. inl (Contains-append_right jump listed to r))
      (Contains-append_cases (next ++ jump) listed to h)

-- the same of the instruction at an address, where nothing leads on from no word of code
ways_are : (image : Image) (facts : Facts) (from word : ℕ) → code_at image from ≡ Some word → ways_at image facts from ≡ ways_by facts from (flow_of word from)
ways_are image facts from word code = ap (λ (o : Option ℕ). option_map_or (λ w. ways_of facts w from) o []) code

flow_is : (image : Image) (from word : ℕ) → code_at image from ≡ Some word → flow_at image from ≡ flow_of word from
flow_is image from word code = ap (λ (o : Option ℕ). option_map_or (λ w. flow_of w from) o no_flow) code

by_test : {A : Type 0} (b : Bool) → (b ≡ true → A) → (b ≡ false → A) → A
by_test true so not_so = so refl
by_test false so not_so = not_so refl

module _ (image : Image) (facts : Facts) (start : ℕ) (machine : Machine) (ends : EndsInMemory image) (sound : (cause : FlowError) → IsCause image facts start machine cause → ⊥) where
  pub reached_start : IsReached image facts start start
  reached_start = record {
    code = by_test (is_code_word image start) (λ e. e) (λ e. absurd (sound (LeavesCode start) (record { come = inl refl; empty = e })));
    path = alone (leads_at image facts) start;
  }

  -- what is not code is led to by nothing that is reached
  way_to_code : (from to : ℕ) → IsReached image facts start from → Contains (ways_at image facts from) to → is_code_word image to ≡ false → ⊥
  way_to_code from to reached way empty =
      let word = word_there image from ends reached.code in
      let flow = flow_is image from word.0 word.1 in
      ⊎_elim
      (λ jump.
      sound (BadTarget from to)
      (record {
        reached = reached;
        listed =
            Contains-append_left (jumps_at image facts from) (callees_at image facts from) to
            (subst (λ (f : FlowKind). Contains (jumps_by facts from f) to) (sym flow) jump);
        empty = empty;
      }))
      (λ next.
      sound (LeavesCode to)
      (record { come = inr (record { from = from; reached = reached; next = ap (λ (f : FlowKind). f.next) flow ∙ next.0; behind = next.1 }); empty = empty }))
      (way_is facts from (flow_of word.0 from) to (subst (λ (l : List ℕ). Contains l to) (ways_are image facts from word.0 word.1) way))

  lead_to_code : (from to : ℕ) → IsReached image facts start from → Contains (leads_at image facts from) to → is_code_word image to ≡ true
  lead_to_code from to reached h =
      by_test (is_code_word image to) (λ e. e)
      (λ e.
      ⊎_elim (λ way. absurd (way_to_code from to reached way e))
      (λ callee. absurd (sound (BadTarget from to) (record { reached = reached; listed = Contains-append_right (jumps_at image facts from) (callees_at image facts from) to callee; empty = e })))
      (Contains-append_cases (ways_at image facts from) (callees_at image facts from) to h))

  -- what something that is reached leads to is reached
  pub led : (from to : ℕ) → IsReached image facts start from → Contains (leads_at image facts from) to → IsReached image facts start to
  led from to reached h = record { code = lead_to_code from to reached h; path = one_more (leads_at image facts) reached.path h }

  pub entered : (entry : ℕ) → IsEntry image facts start entry → IsReached image facts start entry
  entered entry (inl e) = subst (IsReached image facts start) (sym e) reached_start
  entered entry (inr called) = led called.site entry called.reached (Contains-append_right (ways_at image facts called.site) (callees_at image facts called.site) entry called.callee)

  -- so is all of a function
  pub inside : {a b : ℕ} → IsReached image facts start a → Path (ways_at image facts) [] a b → IsReached image facts start b
  inside reached (here a n) = reached
  inside {a} reached (further {b = b} n e p) = inside (led a b reached (Contains-append_left (ways_at image facts a) (callees_at image facts a) b e)) p

  -- there stand instructions
  pub kind_there : (at : ℕ) → IsReached image facts start at → (word : ℕ) × (code_at image at ≡ Some word) × ((kind : Kind) × (kind_of word ≡ Some kind))
  kind_there at reached = let word = word_there image at ends reached.code in (word.0, word.1, by word.0 word.1 (kind_of word.0) refl)
    where
      by : (word : ℕ) → code_at image at ≡ Some word → (o : Option Kind) → kind_of word ≡ o → (kind : Kind) × (kind_of word ≡ Some kind)
      by word stands (Some kind) e = (kind, e)
      by word stands None e = absurd (sound (Unsupported at word) (record { reached = reached; stands = stands; foreign = foreign_word word e }))

  pub insn_there : (at : ℕ) → IsReached image facts start at → (insn : Insn) × (insn_at image at ≡ Some insn)
  unfolding decoded
  insn_there at reached =
      let there = kind_there at reached in
      (insn_by there.0 there.2.0, ap (λ (o : Option ℕ). option_and_then decoded o) there.1 ∙ ap (option_map (insn_by there.0)) there.2.1)

  -- an instruction that ends no block leads to the one behind it
  pub goes_past : (at : ℕ) → IsReached image facts start at → is_end (flow_at image at) ≡ false → Contains (ways_at image facts at) (behind at 1)
  goes_past at reached e =
      let there = kind_there at reached in
      subst (λ (l : List ℕ). Contains l (behind at 1)) (sym (ways_are image facts at there.0 there.1))
      (goes_behind facts at (flow_of there.0 at) (goes there.0 at there.2.0 there.2.1 (ap is_end (sym (flow_is image at there.0 there.1)) ∙ e)))

  pub jumps_lead : (at to : ℕ) → IsReached image facts start at → Contains (jumps_at image facts at) to → Contains (ways_at image facts at) to
  jumps_lead at to reached h =
      let word = word_there image at ends reached.code in
      subst (λ (l : List ℕ). Contains l to) (sym (ways_are image facts at word.0 word.1))
      (jump_is_way facts at (flow_of word.0 at) to (subst (λ (f : FlowKind). Contains (jumps_by facts at f) to) (flow_is image at word.0 word.1) h))

  pub within : (at : ℕ) → IsReached image facts start at → at < 2 ^ 32
  within at reached = word_below image at ends reached.code
