-- What a walk finds: at an event from both ways, behind an instruction from what is left, and behind the last one.
use Rattle.std.proofs.Common.{◌≡◌, ℕ, ◌+◌, ◌<◌, ◌≤◌, ◌⊎◌, Bool, true, false, List, [], length, drop, slice_get, Option, Some, sym, ap, ◌∙◌, inl, inr, arith, if◌then◌else◌, cond, Result, Ok, Err, IfOk, OnOk}
use Rattle.std.proofs.lemmas.Option.{slice_get_within}
use Rattle.arm_code.specs.declared.insn.Insn.{Insn}
use Rattle.flow_block.specs.declared.block.Block.{Block}
use Rattle.flow_block.specs.declared.block.Slot.{Slot}
use Rattle.flow_block.specs.declared.block.SlotKind.{SlotKind}
use Rattle.wx_base.specs.declared.machine.Machine.{Machine}
use Rattle.wx_base.specs.Machine.{IsMachine}
use Rattle.wx_text.specs.declared.memory.NoMemory.{NoMemory}
use Rattle.xdd_table.specs.declared.node.Dd.{Dd}
use Rattle.xdd_table.specs.declared.node.Node.{Node}
use Rattle.xdd_table.specs.Diagram.{Combination, time, BeginsAfter, EventsLess, Keeps}
use Rattle.pipe_time.specs.Windows.{WindowsGoOn, WindowsLeadOn}
use Rattle.pipe_block.specs.declared.row.Row.{Row}
use Rattle.pipe_block.specs.declared.state.State.{State}
use Rattle.pipe_block.specs.Events.{entries_of}
use Rattle.pipe_block.specs.Rows.{AddsGiven, Extends}
use Rattle.pipe_block.specs.Walks.{row_of_state, IsNextEvent, NoneHere, decided_state, passed_state, IsState, IsWalk, LeadsOn, AreWalked, row_from}
use Rattle.pipe_block.proofs.Plans.{leads_kept, leads_branch, known_more, adds_as, adds_half, adds_row}
use Rattle.pipe_block.proofs.Steps.{decided_rows, passed_rows, passed_last, rest_of_all}

module _ (m : Machine) (insns : List Insn) (events : List Slot) where
  pub on_kept : (old new : List Node) (rows more : List Row) (s : State) (p : ℕ) → Keeps old new → Extends rows more → LeadsOn old rows m insns events s p → LeadsOn new more m insns events s p
  on_kept old new rows more s p k x w = leads_kept old new rows more (row_of_state m insns events s) (λ e. e < s.decided) (λ bound. length events ≤ bound) p k x w

  pub walked_kept : (old new : List Node) (rows more : List Row) (kept : State → Option Dd) → Keeps old new → Extends rows more → AreWalked old rows m insns events kept → AreWalked new more m insns events kept
  walked_kept old new rows more kept k x all = record { each = λ s d is. on_kept old new rows more s d.place k x (all.each s d is) }

  pub walked_more : (eq : State → State → Bool) (sound : (a b : State) → eq a b ≡ true → a ≡ b) (plan : List Node) (rows : List Row) (s : State) (d : Dd) (old new : State → Option Dd)
      → AreWalked plan rows m insns events old → LeadsOn plan rows m insns events s d.place → ((q : State) → new q ≡ cond (eq s q) (Some d) (old q)) → AreWalked plan rows m insns events new
  walked_more eq sound plan rows s d old new all x updates = record {
    each = known_more eq sound (λ q v. LeadsOn plan rows m insns events q v.place) s d old new all.each x updates;
  }

  module _ (s : State) (kind : SlotKind) (one two : List Node) (rows more : List Row) (hit miss : ℕ) (w : LeadsOn one rows m insns events (decided_state kind false s) hit)
      (k : Keeps one two) (x : Extends rows more) (v : LeadsOn two more m insns events (decided_state kind true s) miss) where
    pub hit_after : BeginsAfter two s.decided hit
    hit_after = (on_kept one two rows more (decided_state kind false s) hit k x w).after s.decided (omega arith)

    pub miss_after : BeginsAfter two s.decided miss
    miss_after = v.after s.decided (omega arith)

    pub hit_within : hit < length two
    hit_within = (on_kept one two rows more (decided_state kind false s) hit k x w).within

    pub walk_branch : (next : List Node) (d : ℕ) → IsNextEvent s.at (drop s.decided events) kind → s.decided < length events
        → d < length next
        → ((f : Combination) → time next f d ≡ (if f s.decided then time two f miss else time two f hit))
        → ((y : ℕ) → y < s.decided → BeginsAfter next y d)
        → ((b : ℕ) → s.decided < b → EventsLess two hit b → EventsLess two miss b → EventsLess next d b)
        → LeadsOn next more m insns events s d
    walk_branch next d n l within times after less =
        leads_branch two next more (row_of_state m insns events s) (row_of_state m insns events (decided_state kind false s)) (row_of_state m insns events (decided_state kind true s))
        (λ e. e < s.decided) (λ bound. length events ≤ bound) (λ e. e < s.decided + 1) (λ bound. length events ≤ bound) (λ e. e < s.decided + 1) (λ bound. length events ≤ bound)
        s.decided hit miss d (on_kept one two rows more (decided_state kind false s) hit k x w) v within times after less
        (λ f is. decided_rows m insns events s kind false n f is) (λ f is. decided_rows m insns events s kind true n f is) (λ y a. a) (λ b a. (omega arith, (a, a)))

  pub walk_on : WindowsGoOn → WindowsLeadOn → IsMachine m → (plan : List Node) (rows : List Row) (s next : State) (p : ℕ) → IsState insns events s → NoneHere s.at (drop s.decided events)
      → next ≡ (passed_state m insns s).1 → s.at + 1 < length insns → LeadsOn plan rows m insns events next p → LeadsOn plan rows m insns events s p
  walk_on go lead ok plan rows s next p i none is l w =
      let w' : LeadsOn plan rows m insns events (passed_state m insns s).1 p = rw is at w in
      record {
        within = w'.within;
        each = λ f. w'.each f ∙ ap (λ r. Some r) (passed_rows go lead m ok insns events s f i none l);
        after = w'.after;
        events = w'.events;
      }

  pub walk_last : (plan : List Node) (rows : List Row) (s : State) (p : ℕ) (row : Row) → IsState insns events s → NoneHere s.at (drop s.decided events) → s.at + 1 ≡ length insns
      → row ≡ record { number = (passed_state m insns s).0; slots = (passed_state m insns s).1.slots } → p < length plan
      → ((f : Combination) → slice_get rows (time plan f p) ≡ Some row) → ((e : ℕ) → BeginsAfter plan e p) → ((b : ℕ) → EventsLess plan p b) → LeadsOn plan rows m insns events s p
  walk_last plan rows s p row i none is same within each after less = record {
    within = within;
    each = λ f. each f ∙ ap (λ r. Some r) (same ∙ sym (passed_last m insns events s f i none is));
    after = λ e l. after e;
    events = λ b l. less b;
  }

  pub adds_decided : (s : State) (kind : SlotKind) (missed : Bool) → IsNextEvent s.at (drop s.decided events) kind → (old new : List Row)
      → AddsGiven old new (row_of_state m insns events (decided_state kind missed s)) (s.decided + 1) → AddsGiven old new (row_of_state m insns events s) s.decided
  adds_decided s kind missed n old new a =
      adds_half (row_of_state m insns events s) (row_of_state m insns events (decided_state kind missed s)) s.decided s.decided missed (omega arith)
      (λ f is. decided_rows m insns events s kind missed n f is) old new a

  pub adds_passed : WindowsGoOn → WindowsLeadOn → IsMachine m → (s next : State) → IsState insns events s → NoneHere s.at (drop s.decided events)
      → next ≡ (passed_state m insns s).1 → s.at + 1 < length insns → (old new : List Row)
      → AddsGiven old new (row_of_state m insns events next) next.decided → AddsGiven old new (row_of_state m insns events s) s.decided
  adds_passed go lead ok s next i none is l old new a =
      let a' : AddsGiven old new (row_of_state m insns events (passed_state m insns s).1) s.decided = rw is at a in
      adds_as old new (row_of_state m insns events s) (row_of_state m insns events (passed_state m insns s).1) s.decided
      (λ f. passed_rows go lead m ok insns events s f i none l) a'

  pub adds_last : (s : State) (row : Row) → IsState insns events s → NoneHere s.at (drop s.decided events) → s.at + 1 ≡ length insns
      → row ≡ record { number = (passed_state m insns s).0; slots = (passed_state m insns s).1.slots } → (old new : List Row)
      → ((i : ℕ) (r : Row) → slice_get new i ≡ Some r → (slice_get old i ≡ Some r) ⊎ (r ≡ row)) → AddsGiven old new (row_of_state m insns events s) s.decided
  adds_last s row i none is same old new only =
      adds_row old new row (row_of_state m insns events s) s.decided (λ f. passed_last m insns events s f i none is ∙ sym same) only

-- the walk from a block's first instruction
pub walk_is : (plan : List Node) (rows : List Row) (m : Machine) (from : List ℕ) (b : Block) (p : ℕ)
    → LeadsOn plan rows m b.insns b.slots (record { at = 0; decided = 0; miss = false; slow = false; slots = from }) p
    → AddsGiven [] rows (row_of_state m b.insns b.slots (record { at = 0; decided = 0; miss = false; slow = false; slots = from })) 0
    → IsWalk plan rows m from b p
walk_is plan rows m from b p w a =
    let same : (f : Combination) → row_of_state m b.insns b.slots (record { at = 0; decided = 0; miss = false; slow = false; slots = from }) f ≡ row_from m from (entries_of b f) =
    λ f. ap (row_from m from) (rest_of_all f b.slots 0 b.insns) in
    record {
      leads = record { within = w.within; each = λ f. w.each f ∙ ap (λ r. Some r) (same f); after = w.after; events = w.events };
      given = λ i r is. elim (a.added i r is) [
        | inl none ↦ absurd (let n : i < 0 = slice_get_within [] i r none in omega arith)
        | inr g ↦ let k = g.by (λ x. false) in (k.0, k.1 ∙ same k.0)
      ];
    }

pub on_ok : (r : Result Dd NoMemory) (P : Type 0) → P → OnOk r P
on_ok (Ok d) P h = h
on_ok (Err e) P h = tt

pub if_ok : (r : Result Dd NoMemory) (P Q : Dd → Type 0) → IfOk r P → ((d : Dd) → P d → Q d) → IfOk r Q
if_ok (Ok d) P Q h k = k d h
if_ok (Err e) P Q h k = tt

pub if_ok_four : (r : Result Dd NoMemory) (A B C D Q : Dd → Type 0) → IfOk r A → IfOk r B → IfOk r C → IfOk r D → ((d : Dd) → A d → B d → C d → D d → Q d) → IfOk r Q
if_ok_four (Ok d) A B C D Q a b c e k = k d a b c e
if_ok_four (Err e) A B C D Q a b c f k = tt
