-- How a walk's state stands for the instructions that are left: an event is decided, an instruction is passed, the last one is passed.
use Rattle.std.proofs.Common.{◌≡◌, ◌≢◌, ℕ, suc, ◌+◌, ◌<◌, ◌≤◌, ◌^◌, Bool, true, false, not, ◌&&◌, ◌||◌, List, [], ◌∷◌, ◌++◌, length, drop, map, reverse, get_or, slice_index, refl, sym, ap, ◌∙◌, arith, if◌then◌else◌, ◌==◌}
use Rattle.std.proofs.lemmas.Bool.Decides.{nat_tests}
use Rattle.std.proofs.lemmas.List.{drop-drop, drop_more, get_or-map, length-reverse, length-drop, reverse-append}
use Rattle.arm_code.specs.declared.insn.Insn.{Insn}
use Rattle.arm_code.specs.Encoding.{word_of}
use Rattle.flow_block.specs.declared.block.Slot.{Slot}
use Rattle.flow_block.specs.declared.block.SlotKind.{SlotKind}
use Rattle.wx_base.specs.declared.machine.Machine.{Machine}
use Rattle.wx_base.specs.Blocks.{slots_after, end_from}
use Rattle.wx_base.specs.Machine.{IsMachine}
use Rattle.wx_base.specs.Recurrence.{Entry, Done, next, window, past_of}
use Rattle.wx_base.specs.Vector.{AreWithin}
use Rattle.xdd_table.specs.Diagram.{Combination}
use Rattle.pipe_time.specs.Windows.{WindowsGoOn, WindowsLeadOn}
use Rattle.pipe_block.specs.declared.state.State.{State}
use Rattle.pipe_block.specs.Events.{is_fetch, is_work, misses, entries_from, Ascends}
use Rattle.pipe_block.specs.Walks.{row_from, rest_of, row_of_state, word_at, IsNextEvent, NoneHere, decided_state, entry_before, passed_state, bound_at, IsState}

is_itself : (a b : ℕ) → a ≡ b → (a == b) ≡ true
is_itself a b h = grind (arith, nat_tests)

is_other : (a b : ℕ) → a ≢ b → (a == b) ≡ false
is_other a b h = grind (arith, nat_tests)

misses_here : (kind : SlotKind → Bool) (f : Combination) (place number : ℕ) (event : Slot) (events : List Slot) → event.at ≡ place
    → misses kind f place number (event ∷ events) ≡ ((kind event.kind && f number) || misses kind f place (number + 1) events)
misses_here kind f place number event events h = rw (is_itself event.at place h) refl

misses_there : (kind : SlotKind → Bool) (f : Combination) (place number : ℕ) (event : Slot) (events : List Slot) → event.at ≢ place
    → misses kind f place number (event ∷ events) ≡ misses kind f place (number + 1) events
misses_there kind f place number event events h = rw (is_other event.at place h) refl

-- no event that is left is of an instruction before all of them
misses_none : (kind : SlotKind → Bool) (f : Combination) (place low number : ℕ) (events : List Slot) → place < low → Ascends low events → misses kind f place number events ≡ false
misses_none kind f place low number [] l a = refl
misses_none kind f place low number (event ∷ events) l a =
    misses_there kind f place number event events (λ e. omega (arith, a.0))
    ∙ misses_none kind f place event.at (number + 1) events (omega (arith, a.0)) a.1

same_entry : (word : ℕ) (a a' b b' : Bool) (es es' : List Entry) → a ≡ a' → b ≡ b' → es ≡ es'
    → ◌≡◌ {A = List Entry} (record { word = word; miss = a; slow = b; taken = false } ∷ es) (record { word = word; miss = a'; slow = b'; taken = false } ∷ es')
same_entry word a a' b b' es es' x y z = rw (x, y, z) refl

-- an event of an earlier instruction plays no part
rest_skips : (f : Combination) (number : ℕ) (event : Slot) (events : List Slot) (place : ℕ) (insns : List Insn) (miss slow : Bool) → event.at < place
    → rest_of f number (event ∷ events) place insns miss slow ≡ rest_of f (number + 1) events place insns miss slow
rest_skips f number event events place [] miss slow l = refl
rest_skips f number event events place (insn ∷ insns) miss slow l =
    same_entry (word_of insn) _ _ _ _ _ _
    (ap (λ b. miss || b) (misses_there is_fetch f place number event events (λ e. omega arith)))
    (ap (λ b. slow || b) (misses_there is_work f place number event events (λ e. omega arith)))
    (rest_skips f number event events (place + 1) insns false false (omega arith))

fetch_decided : (t m b x : Bool) → ((if t then m || b else m) || x) ≡ (m || ((t && b) || x))
fetch_decided true true b x = refl
fetch_decided true false b x = refl
fetch_decided false m b x = refl

work_decided : (t m b x : Bool) → ((if t then m else m || b) || x) ≡ (m || ((not t && b) || x))
work_decided true m b x = refl
work_decided false true b x = refl
work_decided false false b x = refl

-- deciding an event of the first instruction
rest_decided : (f : Combination) (number : ℕ) (event : Slot) (events : List Slot) (place : ℕ) (insns : List Insn) (miss slow b : Bool) → event.at ≡ place → f number ≡ b
    → rest_of f (number + 1) events place insns (if is_fetch event.kind then miss || b else miss) (if is_fetch event.kind then slow else slow || b)
    ≡ rest_of f number (event ∷ events) place insns miss slow
rest_decided f number event events place [] miss slow b here is = refl
rest_decided f number event events place (insn ∷ insns) miss slow b here is =
    same_entry (word_of insn) _ _ _ _ _ _
    (fetch_decided (is_fetch event.kind) miss b _ ∙ (ap (λ x. miss || ((is_fetch event.kind && x) || misses is_fetch f place (number + 1) events)) (sym is)
    ∙ ap (λ x. miss || x) (sym (misses_here is_fetch f place number event events here))))
    (work_decided (is_fetch event.kind) slow b _ ∙ (ap (λ x. slow || ((is_work event.kind && x) || misses is_work f place (number + 1) events)) (sym is)
    ∙ ap (λ x. slow || x) (sym (misses_here is_work f place number event events here))))
    (sym (rest_skips f number event events (place + 1) insns false false (omega arith)))

drop_step : {A : Type 0} (n : ℕ) (xs : List A) (y : A) (ys : List A) → drop n xs ≡ y ∷ ys → drop (n + 1) xs ≡ ys
drop_step n xs y ys h = sym (drop-drop 1 n xs) ∙ ap (drop 1) h

-- a decided event changes no row of the combinations that decide it so
pub decided_rows : (m : Machine) (insns : List Insn) (events : List Slot) (s : State) (kind : SlotKind) (b : Bool) → IsNextEvent s.at (drop s.decided events) kind
    → (f : Combination) → f s.decided ≡ b → row_of_state m insns events (decided_state kind b s) f ≡ row_of_state m insns events s f
decided_rows m insns events s kind b w f is =
    let rest : drop (s.decided + 1) events ≡ w.rest = drop_step s.decided events w.event w.rest w.first in
    let e : rest_of f (s.decided + 1) (drop (s.decided + 1) events) s.at (drop s.at insns) (if is_fetch kind then s.miss || b else s.miss) (if is_fetch kind then s.slow else s.slow || b)
    ≡ rest_of f s.decided (drop s.decided events) s.at (drop s.at insns) s.miss s.slow =
    rw (w.first, rest, ← w.sort) (rest_decided f s.decided w.event w.rest s.at (drop s.at insns) s.miss s.slow b w.here is) in
    ap (row_from m s.slots) e

pub decided_is_state : (insns : List Insn) (events : List Slot) (s : State) (kind : SlotKind) (b : Bool) → IsNextEvent s.at (drop s.decided events) kind
    → IsState insns events s → IsState insns events (decided_state kind b s)
decided_is_state insns events s kind b w i =
    let rest : drop (s.decided + 1) events ≡ w.rest = drop_step s.decided events w.event w.rest w.first in
    let a : Ascends s.at (w.event ∷ w.rest) = rw w.first at i.ascending in
    record { within = i.within; ascending = rw rest (rw w.here at a.1); small = i.small }

ascends_past : (place : ℕ) (events : List Slot) → NoneHere place events → Ascends place events → Ascends (place + 1) events
ascends_past place [] none a = tt
ascends_past place (event ∷ events) none a = (omega (arith, a.0, none), a.1)

-- the instruction at a place
first_of_rest : (insns : List Insn) (n : ℕ) → n < length insns → (x : Insn) × (drop n insns ≡ x ∷ drop (n + 1) insns) × (word_at insns n ≡ word_of x)
first_of_rest [] n l = absurd (omega arith)
first_of_rest (y ∷ ys) n l = (get_or (y ∷ ys) n y, drop_more (y ∷ ys) n y l, get_or-map word_of (y ∷ ys) n y 0 l)

or_false : (b : Bool) → (b || false) ≡ b
or_false true = refl
or_false false = refl

-- where no event of the next instruction is left, its entry is decided
pub passed_rest : (insns : List Insn) (events : List Slot) (s : State) (f : Combination) → IsState insns events s → NoneHere s.at (drop s.decided events)
    → rest_of f s.decided (drop s.decided events) s.at (drop s.at insns) s.miss s.slow
    ≡ entry_before insns s ∷ rest_of f s.decided (drop s.decided events) (s.at + 1) (drop (s.at + 1) insns) false false
passed_rest insns events s f i none =
    let r = first_of_rest insns s.at i.within in
    let a : Ascends (s.at + 1) (drop s.decided events) = ascends_past s.at (drop s.decided events) none i.ascending in
    rw (r.1, r.2)
    (same_entry (word_of r.0) _ _ _ _ _ _
    (ap (λ b. s.miss || b) (misses_none is_fetch f s.at (s.at + 1) s.decided (drop s.decided events) (omega arith) a) ∙ or_false s.miss)
    (ap (λ b. s.slow || b) (misses_none is_work f s.at (s.at + 1) s.decided (drop s.decided events) (omega arith) a) ∙ or_false s.slow) refl)

pub passed_is_state : (m : Machine) (insns : List Insn) (events : List Slot) (s : State) → IsState insns events s → NoneHere s.at (drop s.decided events) → s.at + 1 < length insns
    → AreWithin (bound_at (s.at + 1)) (passed_state m insns s).1.slots → IsState insns events (passed_state m insns s).1
passed_is_state m insns events s i none l small = record {
  within = l;
  ascending = ascends_past s.at (drop s.decided events) none i.ascending;
  small = small;
}

-- the row of one instruction
row_of_one : (m : Machine) (slots : List ℕ) (e : Entry) → row_from m slots (e ∷ []) ≡ record { number = (next m slots [] e).xe; slots = window m slots (record { entry = e; times = next m slots [] e } ∷ []) }
unfolding past_of
row_of_one m slots e = refl

-- the last instruction is passed
pub passed_last : (m : Machine) (insns : List Insn) (events : List Slot) (s : State) (f : Combination) → IsState insns events s → NoneHere s.at (drop s.decided events)
    → s.at + 1 ≡ length insns → row_of_state m insns events s f ≡ record { number = (passed_state m insns s).0; slots = (passed_state m insns s).1.slots }
passed_last m insns events s f i none is =
    let none_left : drop (s.at + 1) insns ≡ [] = nil (drop (s.at + 1) insns) (simp length-drop (omega arith)) in
    let tail : rest_of f s.decided (drop s.decided events) (s.at + 1) (drop (s.at + 1) insns) false false ≡ [] = rw none_left refl in
    ap (row_from m s.slots) (passed_rest insns events s f i none ∙ ap (λ es. entry_before insns s ∷ es) tail)
    ∙ row_of_one m s.slots (entry_before insns s)
  where
    nil : {A : Type 0} (xs : List A) → length xs ≡ 0 → xs ≡ []
    nil [] h = refl
    nil (x ∷ xs) h = absurd (omega arith)

end_of_longer : (past more : List Done) → 0 < length past → slice_index (map (λ i. i.times.xe) (past ++ more)) 0 ≡ slice_index (map (λ i. i.times.xe) past) 0
end_of_longer [] more l = absurd (omega arith)
end_of_longer (i ∷ past) more l = refl

past_length : (m : Machine) (slots : List ℕ) (es : List Entry) → length (past_of m slots es) ≡ length es
unfolding past_of
past_length m slots [] = refl
past_length m slots (e ∷ es) = ap (λ n. suc n) (past_length m slots es)

past_of_one : (m : Machine) (slots : List ℕ) (e : Entry) → past_of m slots (e ∷ []) ≡ record { entry = e; times = next m slots [] e } ∷ []
unfolding past_of
past_of_one m slots e = refl

-- going on from the vector behind the first instruction
module _ (go : WindowsGoOn) (lead : WindowsLeadOn) (m : Machine) (ok : IsMachine m) (slots : List ℕ) (e : Entry) (es : List Entry) (some : 0 < length es) where
  abbrev behind : List ℕ
  behind = window m slots (past_of m slots (e ∷ []))

  row_goes_on : row_from m slots (e ∷ es) ≡ row_from m behind es
  row_goes_on =
      let turned : reverse (e ∷ es) ≡ reverse es ++ e ∷ [] = reverse-append (e ∷ []) es in
      let ends : end_from m slots (e ∷ es) ≡ end_from m behind es =
      ap (λ p. slice_index (map (λ (i : Done). i.times.xe) (past_of m slots p)) 0) turned
      ∙ (ap (λ p. slice_index (map (λ (i : Done). i.times.xe) p) 0) (go m slots (reverse es) (e ∷ []) ok)
      ∙ end_of_longer (past_of m behind (reverse es)) (past_of m slots (e ∷ [])) (rw (past_length m behind (reverse es), length-reverse es) some)) in
      let leads : slots_after m slots (e ∷ es) ≡ slots_after m behind es =
      ap (λ p. window m slots (past_of m slots p)) turned ∙ sym (lead m slots (reverse es) (e ∷ []) ok) in
      rw (ends, leads) refl

-- an instruction that is not the last is passed
pub passed_rows : WindowsGoOn → WindowsLeadOn → (m : Machine) → IsMachine m → (insns : List Insn) (events : List Slot) (s : State) (f : Combination) → IsState insns events s
    → NoneHere s.at (drop s.decided events) → s.at + 1 < length insns → row_of_state m insns events (passed_state m insns s).1 f ≡ row_of_state m insns events s f
passed_rows go lead m ok insns events s f i none l =
    let e = entry_before insns s in
    let es : List Entry = rest_of f s.decided (drop s.decided events) (s.at + 1) (drop (s.at + 1) insns) false false in
    let some : 0 < length es = rest_some f s.decided (drop s.decided events) (s.at + 1) (drop (s.at + 1) insns) (simp length-drop (omega arith)) in
    sym (ap (row_from m s.slots) (passed_rest insns events s f i none)
    ∙ (row_goes_on go lead m ok s.slots e es some
    ∙ ap (λ past. row_from m (window m s.slots past) es) (past_of_one m s.slots e)))
  where
    rest_some : (f : Combination) (number : ℕ) (events : List Slot) (place : ℕ) (insns : List Insn) → 0 < length insns → 0 < length (rest_of f number events place insns false false)
    rest_some f number events place [] l = absurd (omega arith)
    rest_some f number events place (insn ∷ insns) l = omega arith

-- the rows of the first state are those of the block
pub rest_of_all : (f : Combination) (events : List Slot) (place : ℕ) (insns : List Insn) → rest_of f 0 events place insns false false ≡ entries_from f events place insns
rest_of_all f events place [] = refl
rest_of_all f events place (insn ∷ insns) = ap (λ es. record { word = word_of insn; miss = misses is_fetch f place 0 events; slow = misses is_work f place 0 events; taken = false } ∷ es) (rest_of_all f events (place + 1) insns)

pub bound_fits : (place : ℕ) → place ≤ 32 → bound_at place ≤ 2 ^ 62
bound_fits place h = omega arith

pub bound_more : (place : ℕ) → bound_at place + 4016 ≡ bound_at (place + 1)
bound_more place = omega arith
