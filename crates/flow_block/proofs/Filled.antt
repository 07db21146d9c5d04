-- A block while it grows: from nothing, by one instruction, and to its end.
use Rattle.std.proofs.Common.{◌≡◌, ◌<◌, ◌≤◌, ◌+◌, ◌*◌, ◌%◌, ◌^◌, ⊎_elim, inl, inr, ℕ, zero, suc, ◌++◌, ◌||◌, Bool, true, false, List, [], ◌∷◌, length, get_or, refl, sym, ap, ◌∙◌, subst, arith, Contains, Option, Some, None, cond, option_to_list, map, eqb, not, MatchBool, length-append}
use Rattle.std.specs.Option.{option_map_or, option_and_then}
use Rattle.std.specs.List.{list_any}
use Rattle.std.proofs.Math.Nat.{mod-add-mod, mod-eq_of_lt}
use Rattle.std.proofs.lemmas.Bool.{cases_eq, false≢true, eqb-true}
use Rattle.std.proofs.lemmas.List.{map_push, get_or_push, get_or_append_left, length_push}
use Rattle.std.proofs.lemmas.List.Folds.{list_any-append}
use Rattle.std.proofs.lemmas.List.Elements.{Contains-append_left}
use Rattle.wx_base.specs.declared.facts.Facts.{Facts}
use Rattle.wx_base.specs.declared.flow.FlowKind.{FlowKind}
use Rattle.wx_base.specs.declared.image.Image.{Image}
use Rattle.wx_base.specs.declared.machine.Machine.{Machine}
use Rattle.wx_base.specs.declared.machine.UnitKind.{UnitKind}
use Rattle.wx_base.specs.declared.machine.UnitKind.TheVariants.{Alu, Mul, Mem}
use Rattle.wx_base.specs.Facts.{targets_of}
use Rattle.wx_base.specs.Functions.{code_at}
use Rattle.wx_base.specs.Instruction.{unit_of}
use Rattle.wx_base.specs.Bits.{add_words}
use Rattle.wx_base.specs.Ways.{ways_by}
use Rattle.arm_code.specs.declared.insn.Insn.{Insn}
use Rattle.arm_code.specs.Encoding.{word_of, decoded}
use Rattle.flow_block.specs.declared.block.Slot.{Slot}
use Rattle.flow_block.specs.declared.block.SlotKind.TheVariants.{Fetch}
use Rattle.flow_block.specs.Blocks.{IsOfFunction, IsLeader, line_at, has_line, unit_slots, fetch_slots, slots_at, slots_of, addresses_from, most_insns, most_slots}
use Rattle.flow_block.specs.Code.{Subject, IsPlace, IsInsn, HasCode}
use Rattle.flow_block.specs.Events.{fetches, events_after}
use Rattle.flow_block.specs.Growth.{IsFilled, IsGrowing, IsGrown, IsAdded, IsKept, AddGives, StepGives, EndsBehind, GoesBehind}
use Rattle.flow_block.specs.Sites.{behind, insn_at, flow_at, is_end}
use Rattle.flow_block.proofs.Entered.{flow_is, way_own}
use Rattle.flow_block.proofs.Going.{goes_unended}

-- the address behind one of a block
pub behind_more : (start n : ℕ) → behind (behind start n) 1 ≡ behind start (suc n)
behind_more start n = mod-add-mod (start + 4 * n) (2 ^ 32) 4 ∙ ap (λ x. x % 2 ^ 32) (let e : start + 4 * n + 4 ≡ start + 4 * suc n = omega arith in e)

-- a block's first address is its start
pub behind_none : (start : ℕ) → start < 2 ^ 32 → behind start 0 ≡ start
behind_none start h = ap (λ x. x % 2 ^ 32) (let e : start + 0 ≡ start = omega arith in e) ∙ mod-eq_of_lt h

-- the lines that were fetched are among the events
work_fetches : (line at : ℕ) (unit : UnitKind) → list_any (λ event. fetches line event) (unit_slots at unit) ≡ false
work_fetches line at Alu = refl
work_fetches line at Mul = refl
work_fetches line at Mem = refl

abbrev fetch_of : ℕ → ℕ → Slot
fetch_of at line = record { at = at; kind = Fetch line }

works_fetch : (line at : ℕ) (o : Option ℕ) → list_any (λ event. fetches line event) (option_map_or (λ word. unit_slots at (unit_of word)) o []) ≡ false
works_fetch line at None = refl
works_fetch line at (Some word) = work_fetches line at (unit_of word)

mixed : (old line at : ℕ) (seen same here : Bool) → eqb old line ≡ same → (same ≡ true → here ≡ seen)
    → (here || (list_any (λ event. fetches line event) (cond seen [] (fetch_of at old ∷ [])) || false)) ≡ cond same true here
mixed old line at true true true e h = refl
mixed old line at true true false e h = absurd (false≢true (h refl))
mixed old line at false true true e h = absurd (false≢true (sym (h refl)))
mixed old line at false true false e h = rw e refl
mixed old line at true false true e h = refl
mixed old line at true false false e h = refl
mixed old line at false false true e h = refl
mixed old line at false false false e h = rw e refl

fetched : (image : Image) (machine : Machine) (start n line : ℕ) → list_any (λ event. fetches line event) (slots_of image machine start n) ≡ has_line machine start n line
fetched image machine start zero line = refl
fetched image machine start (suc n) line =
    let p : Slot → Bool = λ event. fetches line event in
    let work : List Slot = option_map_or (λ word. unit_slots n (unit_of word)) (code_at image (behind start n)) [] in
    list_any-append p (slots_of image machine start n) (slots_at image machine start n)
    ∙ ap (λ x. x || list_any p (slots_at image machine start n)) (fetched image machine start n line)
    ∙ ap (λ x. has_line machine start n line || x) (list_any-append p (fetch_slots machine start n) work)
    ∙ ap (λ x. has_line machine start n line || (list_any p (fetch_slots machine start n) || x)) (works_fetch line n (code_at image (behind start n)))
    ∙ mixed (line_at machine start n) line n (has_line machine start n (line_at machine start n)) (eqb (line_at machine start n) line) (has_line machine start n line) refl
    (λ e. ap (λ l. has_line machine start n l) (sym (eqb-true _ _ e)))

-- the events behind those of a block are its next
pub next_slots : (image : Image) (machine : Machine) (start n : ℕ) (insn : Insn) (events : List Slot) → events ≡ slots_of image machine start n → IsInsn image (behind start n) insn
    → events_after machine events n (behind start n) (word_of insn) ≡ slots_at image machine start n
next_slots image machine start n insn events e h =
    let line = line_at machine start n in
    ap (λ b. cond b [] (fetch_of n line ∷ []) ++ unit_slots n (unit_of (word_of insn))) (ap (λ x. list_any (λ event. fetches line event) x) e ∙ fetched image machine start n line)
    ∙ ap (λ o. fetch_slots machine start n ++ option_map_or (λ word. unit_slots n (unit_of word)) o []) (sym h.stands)

-- a block without instructions
pub nothing_filled : (s : Subject) (machine : Machine) (start : ℕ) → IsFilled s machine start 0 [] []
nothing_filled s machine start = record {
  long = refl;
  each = λ i d l. absurd (omega arith);
  named = refl;
  events_are = refl;
  few = omega arith;
  inside = λ i l. absurd (omega arith);
  unended = λ i l. absurd (omega arith);
  unentered = λ i k l. absurd (omega arith);
}

-- with one instruction more
grown_slots : (s : Subject) (machine : Machine) (start n : ℕ) (insns : List Insn) (events : List Slot) (insn : Insn) → IsFilled s machine start n insns events → IsInsn s.image (behind start n) insn
    → events ++ events_after machine events n (behind start n) (word_of insn) ≡ slots_of s.image machine start (suc n)
grown_slots s machine start n insns events insn h here =
    ap (λ x. x ++ events_after machine events n (behind start n) (word_of insn)) h.events_are
    ∙ ap (λ x. slots_of s.image machine start n ++ x) (next_slots s.image machine start n insn events h.events_are here)

pushed_each : (s : Subject) (start n : ℕ) (insns : List Insn) (insn : Insn) → length insns ≡ n → ((i : ℕ) (d : Insn) → i < n → IsInsn s.image (behind start i) (get_or insns i d)) → IsInsn s.image (behind start n) insn
    → (i : ℕ) (d : Insn) → i < suc n → IsInsn s.image (behind start i) (get_or (insns ++ insn ∷ []) i d)
pushed_each s start n insns insn long each here i d l = ⊎_elim
    (λ e. subst (λ (x : Insn). IsInsn s.image (behind start i) x) (sym (get_or_push insns insn d i (long ∙ sym e))) (subst (λ (x : ℕ). IsInsn s.image (behind start x) insn) (sym e) here))
    (λ ne. let k : i < n = omega arith in let w : i < length insns = omega (arith, long) in
    subst (λ (x : Insn). IsInsn s.image (behind start i) x) (sym (get_or_append_left insns (insn ∷ []) d i w)) (each i d k))
    (cases_eq i n)

pushed_named : (image : Image) (start n : ℕ) (insns : List Insn) (insn : Insn) → map (λ a. insn_at image a) (addresses_from start n) ≡ map (λ i. Some i) insns → IsInsn image (behind start n) insn
    → map (λ a. insn_at image a) (addresses_from start (suc n)) ≡ map (λ i. Some i) (insns ++ insn ∷ [])
pushed_named image start n insns insn e here =
    let f : ℕ → Option Insn = λ a. insn_at image a in
    let g : Insn → Option Insn = λ i. Some i in
    let same : f (behind start n) ≡ g insn = ap (λ o. option_and_then decoded o) here.stands ∙ here.means in
    map_push f (addresses_from start n) (behind start n) ∙ ap (λ x. x ++ f (behind start n) ∷ []) e ∙ ap (λ x. map g insns ++ x ∷ []) same ∙ sym (map_push g insns insn)

pub filled_more : (s : Subject) (machine : Machine) (start n : ℕ) (insns : List Insn) (events : List Slot) (insn : Insn) → IsGrowing s machine start n insns events → IsInsn s.image (behind start n) insn
    → length (events ++ events_after machine events n (behind start n) (word_of insn)) ≤ most_slots
    → IsFilled s machine start (suc n) (insns ++ insn ∷ []) (events ++ events_after machine events n (behind start n) (word_of insn))
filled_more s machine start n insns events insn h here few = record {
  long = omega (arith, length_push insns insn, h.filled.long);
  each = pushed_each s start n insns insn h.filled.long h.filled.each here;
  named = pushed_named s.image start n insns insn h.filled.named here;
  events_are = grown_slots s machine start n insns events insn h.filled here;
  few = few;
  inside = λ i l. ⊎_elim (λ e. subst (λ (x : ℕ). IsOfFunction s.image s.facts s.entry (behind start x)) (sym e) h.next) (λ ne. h.filled.inside i (omega arith)) (cases_eq i n);
  unended = λ i l. ⊎_elim (λ e. h.goes i (sym e)) (λ ne. h.filled.unended i (omega arith)) (cases_eq (suc i) n);
  unentered = λ i k l lead. ⊎_elim (λ e. h.free (omega arith) (subst (λ (x : ℕ). IsLeader s.image s.facts s.entry (behind start x)) e lead)) (λ ne. h.filled.unentered i k (omega arith) lead) (cases_eq i n);
}

next_way : (facts : Facts) (a : ℕ) (flow : FlowKind) (b : Bool) → flow.next ≡ b → b ≡ true → Contains (ways_by facts a flow) (add_words a 4)
next_way facts a flow b e t =
    let all = option_to_list flow.jump in
    Contains-append_left (cond flow.next (add_words a 4 ∷ []) [] ++ all) (cond flow.indirect (targets_of facts.branches a) []) (add_words a 4)
    (Contains-append_left (cond flow.next (add_words a 4 ∷ []) []) all (add_words a 4)
    (subst (λ (x : Bool). Contains (cond x (add_words a 4 ∷ []) []) (add_words a 4)) (sym (e ∙ t)) (0, omega arith, refl)))

-- where the flow goes on, the address behind is of the function
pub next_own : (s : Subject) (a : ℕ) (insn : Insn) → IsInsn s.image a insn → IsOfFunction s.image s.facts s.entry a → (flow_at s.image a).next ≡ true → IsOfFunction s.image s.facts s.entry (behind a 1)
next_own s a insn here own e = way_own s a (behind a 1) insn here own (next_way s.facts a (flow_at s.image a) _ refl e)

-- an instruction that does not end a block goes on
pub next_unended : (s : Subject) (a : ℕ) (insn : Insn) → IsInsn s.image a insn → is_end (flow_at s.image a) ≡ false → (flow_at s.image a).next ≡ true
next_unended s a insn here e =
    let same = flow_is s.image a insn here in
    ap (λ f. f.next) same ∙ goes_unended (word_of insn) a insn here.means (ap is_end (sym same) ∙ e)

-- a block goes on behind its newest instruction
pub goes_on : (s : Subject) (machine : Machine) (start n : ℕ) (insns : List Insn) (events : List Slot) (insn : Insn) → IsFilled s machine start (suc n) insns events → IsInsn s.image (behind start n) insn → GoesBehind s (behind start n)
    → IsGrowing s machine start (suc n) insns events
goes_on s machine start n insns events insn h here g = record {
  filled = h;
  goes = λ last e. let same : n ≡ last = omega arith in subst (λ (x : ℕ). is_end (flow_at s.image (behind start x)) ≡ false) same g.goes;
  free = λ k lead. g.free (subst (λ (x : ℕ). IsLeader s.image s.facts s.entry x) (sym (behind_more start n)) lead);
  next = subst (λ (x : ℕ). IsOfFunction s.image s.facts s.entry x) (behind_more start n) (next_own s (behind start n) insn here (h.inside n (omega arith)) (next_unended s (behind start n) insn here g.goes));
}

-- it ends there
pub ends : (s : Subject) (machine : Machine) (start n : ℕ) (insns : List Insn) (events : List Slot) → IsFilled s machine start (suc n) insns events → n < 32 → EndsBehind s (behind start n) → IsGrown s machine start insns events
ends s machine start n insns events h l e = record {
  last = n;
  short = omega arith;
  filled = h;
  over = ⊎_elim (λ x. inl x) (λ lead. inr (inl (subst (λ (x : ℕ). IsLeader s.image s.facts s.entry x) (behind_more start n) lead))) e;
}

-- it is as long as blocks may be
pub full : (s : Subject) (machine : Machine) (start n : ℕ) (insns : List Insn) (events : List Slot) → IsGrowing s machine start n insns events → n ≡ most_insns → IsGrown s machine start insns events
full s machine start zero insns events h e = absurd (omega arith)
full s machine start (suc n) insns events h e = record { last = n; short = omega arith; filled = h.filled; over = inr (inr (inl e)) }

-- one more would have too many events
pub crowded : (s : Subject) (machine : Machine) (start n : ℕ) (insns : List Insn) (events : List Slot) (insn : Insn) → IsGrowing s machine start n insns events → IsInsn s.image (behind start n) insn → n < 32
    → most_slots < length (events ++ events_after machine events n (behind start n) (word_of insn)) → length (events_after machine events n (behind start n) (word_of insn)) ≤ 2 → IsGrown s machine start insns events
crowded s machine start zero insns events insn h here l many two =
    absurd (omega (arith, length-append events (events_after machine events 0 (behind start 0) (word_of insn)), ap length h.filled.events_are))
crowded s machine start (suc n) insns events insn h here l many two = record {
  last = n;
  short = omega arith;
  filled = h.filled;
  over = inr (inr (inr (subst (λ (x : List Slot). most_slots < length x) (grown_slots s machine start (suc n) insns events insn h.filled here) many)));
}

-- what adding an instruction did
pub kept_by : {machine : Machine} {insns : List Insn} {events : List Slot} {at address : ℕ} {insn : Insn} {insns_after : List Insn} {events_then : List Slot} (b : Bool) → b ≡ false → AddGives machine insns events at address insn insns_after events_then b → IsKept machine insns events at address insn insns_after events_then
kept_by true e h = absurd (false≢true (sym e))
kept_by false e h = h

pub added_by : {machine : Machine} {insns : List Insn} {events : List Slot} {at address : ℕ} {insn : Insn} {insns_after : List Insn} {events_then : List Slot} (b : Bool) → b ≡ true → AddGives machine insns events at address insn insns_after events_then b → IsAdded machine insns events at address insn insns_after events_then
added_by true e h = h
added_by false e h = absurd (false≢true e)

-- the instruction at an address of the code
pub here : (s : Subject) (addresses : List ℕ) (insns : List Insn) (d : Insn) (address place : ℕ) → HasCode s addresses insns → IsPlace addresses address place → IsInsn s.image address (get_or insns place d)
here s addresses insns d address place code at = subst (λ (x : ℕ). IsInsn s.image x (get_or insns place d)) at.stands (code.code.each place d at.within)

-- the step that adds nothing
pub step_crowded : (s : Subject) (machine : Machine) (start n : ℕ) (insns insns_after : List Insn) (events events_then : List Slot) (insn : Insn) → IsGrowing s machine start n insns events → IsInsn s.image (behind start n) insn → n < 32
    → IsKept machine insns events n (behind start n) insn insns_after events_then → IsGrown s machine start insns_after events_then
step_crowded s machine start n insns insns_after events events_then insn h at l k =
    subst (λ (x : List Insn). IsGrown s machine start x events_then) (sym k.insns_are) (subst (λ (x : List Slot). IsGrown s machine start insns x) (sym k.events_are) (crowded s machine start n insns events insn h at l k.many k.two))

step_filled : (s : Subject) (machine : Machine) (start n : ℕ) (insns insns_after : List Insn) (events events_then : List Slot) (insn : Insn) → IsGrowing s machine start n insns events → IsInsn s.image (behind start n) insn
    → IsAdded machine insns events n (behind start n) insn insns_after events_then → IsFilled s machine start (suc n) insns_after events_then
step_filled s machine start n insns insns_after events events_then insn h at k =
    subst (λ (x : List Insn). IsFilled s machine start (suc n) x events_then) (sym k.insns_are) (subst (λ (x : List Slot). IsFilled s machine start (suc n) (insns ++ insn ∷ []) x) (sym k.events_are)
    (filled_more s machine start n insns events insn h at (subst (λ (x : List Slot). length x ≤ most_slots) k.events_are k.few)))

-- the step that adds an instruction
pub step_added : (s : Subject) (machine : Machine) (start n : ℕ) (insns insns_after : List Insn) (events events_then : List Slot) (insn : Insn) (b : Bool) → IsGrowing s machine start n insns events → IsInsn s.image (behind start n) insn → n < 32
    → IsAdded machine insns events n (behind start n) insn insns_after events_then → MatchBool b (EndsBehind s (behind start n)) (GoesBehind s (behind start n)) → StepGives s machine start n insns_after events_then (not b)
step_added s machine start n insns insns_after events events_then insn true h at l k e =
    ends s machine start n insns_after events_then (step_filled s machine start n insns insns_after events events_then insn h at k) l e
step_added s machine start n insns insns_after events events_then insn false h at l k e =
    goes_on s machine start n insns_after events_then insn (step_filled s machine start n insns insns_after events events_then insn h at k) at e
