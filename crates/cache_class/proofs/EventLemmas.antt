-- The classes of a node's events, and those of all nodes, as far as they are found.
use Rattle.std.proofs.Common.{◌≡◌, ℕ, zero, suc, ◌+◌, ◌<◌, ◌≤◌, List, [], ◌∷◌, ◌++◌, length, get_or, take, Option, Some, None, refl, sym, ap, ◌∙◌, subst, inl, inr, arith, add-one}
use Rattle.std.specs.List.{cons_option, slice_get}
use Rattle.std.proofs.lemmas.List.{get_or-map, length-append, length-map, length-take}
use Rattle.std.proofs.lemmas.Option.{get_or_from_slice_get, same_Some, slice_get_within}
use Rattle.wx_base.specs.declared.machine.Machine.{Machine}
use Rattle.cache_flow.specs.declared.flow.Flow.{Flow}
use Rattle.cache_flow.specs.Flows.{accesses_of}
use Rattle.flow_block.specs.declared.block.Slot.{Slot}
use Rattle.flow_block.specs.declared.block.SlotKind.{SlotKind}
use Rattle.flow_block.specs.declared.block.SlotKind.TheVariants.{Fetch, Multiply, Data}
use Rattle.flow_ctx.specs.declared.unfolded.UNode.{UNode}
use Rattle.flow_ctx.specs.declared.unfolded.Unfolded.{Unfolded}
use Rattle.cache_class.specs.declared.class.Class.{Class}
use Rattle.cache_class.specs.Accesses.{slots_of, fetched, fetched_by, lines_fetched, IsFlowOf}
use Rattle.cache_class.specs.Classes.{IsClass, IsKindClass, IsEventClass, AreNodeClasses}
use Rattle.cache_class.specs.Tables.{place_behind, AreClassesTo, IsAccess, IsClassAt}
use Rattle.cache_class.proofs.TableLemmas.{before_or_last}

-- ---- the accesses before an event

later_place : (o : Option ℕ) (lines before : List ℕ) (line : ℕ) → slice_get lines (length before) ≡ Some line → slice_get (cons_option o lines) (length (cons_option o before)) ≡ Some line
later_place None lines before line e = e
later_place (Some first) lines before line e = e

-- a fetch is the access that stands behind those of the events before it
place_of : (slots : List Slot) (number : ℕ) (slot : Slot) (line : ℕ) → slice_get slots number ≡ Some slot → slot.kind ≡ Fetch line
    → slice_get (lines_fetched slots) (length (lines_fetched (take number slots))) ≡ Some line
place_of [] number slot line at kind = absurd (omega (arith, slice_get_within {A = Slot} [] number slot at))
place_of (x ∷ slots) zero slot line at kind =
    let is : fetched x ≡ Some line = ap fetched (same_Some x slot at) ∙ ap fetched_by kind in
    subst (λ (o : Option ℕ). slice_get (cons_option o (lines_fetched slots)) 0 ≡ Some line) (sym is) refl
place_of (x ∷ slots) (suc number) slot line at kind = later_place (fetched x) (lines_fetched slots) (lines_fetched (take number slots)) line (place_of slots number slot line at kind)

one_event : (kind : SlotKind) → length (cons_option (fetched_by kind) []) ≡ place_behind 0 kind
one_event (Fetch line) = refl
one_event Multiply = refl
one_event Data = refl

later_event : (count : ℕ) (kind : SlotKind) → suc (place_behind count kind) ≡ place_behind (suc count) kind
later_event count (Fetch line) = omega arith
later_event count Multiply = refl
later_event count Data = refl

more_places : (o : Option ℕ) (now before : List ℕ) (kind : SlotKind) → length now ≡ place_behind (length before) kind
    → length (cons_option o now) ≡ place_behind (length (cons_option o before)) kind
more_places None now before kind e = e
more_places (Some first) now before kind e = ap suc e ∙ later_event (length before) kind

-- how many accesses stand up to an event
places_more : (slots : List Slot) (number : ℕ) (slot : Slot) → slice_get slots number ≡ Some slot
    → length (lines_fetched (take (suc number) slots)) ≡ place_behind (length (lines_fetched (take number slots))) slot.kind
places_more [] number slot at = absurd (omega (arith, slice_get_within {A = Slot} [] number slot at))
places_more (x ∷ []) zero slot at = ap (λ (s : Slot). length (cons_option (fetched s) [])) (same_Some x slot at) ∙ one_event slot.kind
places_more (x ∷ y ∷ slots) zero slot at = ap (λ (s : Slot). length (cons_option (fetched s) [])) (same_Some x slot at) ∙ one_event slot.kind
places_more (x ∷ slots) (suc number) slot at =
    more_places (fetched x) (lines_fetched (take (suc number) slots)) (lines_fetched (take number slots)) slot.kind (places_more slots number slot at)

-- a fetch of a node is an access of the flow
pub access_of : (u : Unfolded) (flow : Flow) (number : ℕ) (node : UNode) (slots : List Slot) (count place : ℕ) (slot : Slot) (line : ℕ) → IsFlowOf u flow
    → slice_get u.nodes number ≡ Some node → slots ≡ slots_of u.program node → place ≡ length (lines_fetched (take count slots))
    → slice_get slots count ≡ Some slot → slot.kind ≡ Fetch line → IsAccess flow number place line
access_of u flow number node slots count place slot line of stands is behind at kind =
    let inside : number < length u.nodes = slice_get_within u.nodes number node stands in
    let accesses : accesses_of flow number ≡ lines_fetched slots =
    ap (λ (ns : List (List ℕ)). get_or ns number []) of.nodes
    ∙ get_or-map (λ n. lines_fetched (slots_of u.program n)) u.nodes number node [] inside
    ∙ ap (λ n. lines_fetched (slots_of u.program n)) (get_or_from_slice_get u.nodes number node node stands) ∙ ap lines_fetched (sym is) in
    record {
      inside = omega (arith, ap length of.nodes, length-map u.nodes (λ n. lines_fetched (slots_of u.program n)), inside);
      stands = (λ i. slice_get (accesses i) (behind i)) ∙ place_of slots count slot line at kind;
    }

-- ---- the events of a node, as far as they are classified

pub record EventsSoFar (machine : Machine) (u : Unfolded) (flow : Flow) (number : ℕ) (slots : List Slot) (count place : ℕ) (classes : List Class) : Type 0 where
  pub behind : place ≡ length (lines_fetched (take count slots))
  pub long : length classes ≡ count
  pub each : (at : ℕ) (slot : Slot) (class : Class) → slice_get slots at ≡ Some slot → slice_get classes at ≡ Some class
      → IsEventClass machine u flow number slots at slot class

kind_class : (machine : Machine) (u : Unfolded) (flow : Flow) (number : ℕ) (slots : List Slot) (count place : ℕ) (kind : SlotKind) (class : Class)
    → place ≡ length (lines_fetched (take count slots)) → IsClassAt machine u flow number place kind class → IsKindClass machine u flow number slots count kind class
kind_class machine u flow number slots count place (Fetch line) class e is = subst (λ (p : ℕ). IsClass machine.shape u flow number p line class) e is
kind_class machine u flow number slots count place Multiply class e is = is
kind_class machine u flow number slots count place Data class e is = is

pub events_none : (machine : Machine) (u : Unfolded) (flow : Flow) (number : ℕ) (slots : List Slot) → EventsSoFar machine u flow number slots 0 0 []
events_none machine u flow number slots = record {
  behind = nothing slots;
  long = refl;
  each = λ at slot class there is. absurd (omega (arith, slice_get_within {A = Class} [] at class is));
}
  where
    nothing : (slots : List Slot) → 0 ≡ length (lines_fetched (take 0 slots))
    nothing [] = refl
    nothing (x ∷ slots) = refl

pub events_more : (machine : Machine) (u : Unfolded) (flow : Flow) (number : ℕ) (slots : List Slot) (count place : ℕ) (classes : List Class) (slot : Slot) (class : Class)
    → EventsSoFar machine u flow number slots count place classes → slice_get slots count ≡ Some slot → IsClassAt machine u flow number place slot.kind class
    → EventsSoFar machine u flow number slots (count + 1) (place_behind place slot.kind) (classes ++ class ∷ [])
events_more machine u flow number slots count place classes slot class so here is = record {
  behind = ap (λ (p : ℕ). place_behind p slot.kind) so.behind ∙ sym (places_more slots count slot here) ∙ ap (λ (n : ℕ). length (lines_fetched (take n slots))) (sym (add-one count));
  long = omega (arith, length-append classes (class ∷ []), so.long);
  each = λ at event other there found. elim (before_or_last classes class at other found) [
    | inl before ↦ so.each at event other there before
    | inr last ↦
        let e : at ≡ count = last.0 ∙ so.long in
        let same : slot ≡ event = same_Some slot event (sym here ∙ ap (slice_get slots) (sym e) ∙ there) in
        let told = kind_class machine u flow number slots count place slot.kind class so.behind is in
        subst (λ (n : ℕ). IsEventClass machine u flow number slots n event other) (sym e)
        (subst (λ (x : Class). IsEventClass machine u flow number slots count event x) last.1
        (subst (λ (s : Slot). IsEventClass machine u flow number slots count s class) same told))
  ];
}

pub events_all : (machine : Machine) (u : Unfolded) (flow : Flow) (number : ℕ) (slots others : List Slot) (count place : ℕ) (classes : List Class)
    → EventsSoFar machine u flow number slots count place classes → count ≡ length slots → slots ≡ others → AreNodeClasses machine u flow number others classes
events_all machine u flow number slots others count place classes so all same =
    subst (λ (s : List Slot). AreNodeClasses machine u flow number s classes) same (record { long = so.long ∙ all; each = so.each })

-- ---- the nodes, as far as they are classified

pub nodes_none : (machine : Machine) (u : Unfolded) (flow : Flow) → AreClassesTo machine u flow 0 []
nodes_none machine u flow = record { long = refl; each = λ number node classes stands at. absurd (omega (arith, slice_get_within {A = List Class} [] number classes at)) }

pub nodes_more : (machine : Machine) (u : Unfolded) (flow : Flow) (count : ℕ) (table : List (List Class)) (classes : List Class) → AreClassesTo machine u flow count table
    → ((node : UNode) → slice_get u.nodes count ≡ Some node → AreNodeClasses machine u flow count (slots_of u.program node) classes)
    → AreClassesTo machine u flow (count + 1) (table ++ classes ∷ [])
nodes_more machine u flow count table classes so next = record {
  long = omega (arith, length-append table (classes ∷ []), so.long);
  each = λ number node others stands at. elim (before_or_last table classes number others at) [
    | inl before ↦ so.each number node others stands before
    | inr last ↦
        let e : number ≡ count = last.0 ∙ so.long in
        let here = next node (subst (λ (k : ℕ). slice_get u.nodes k ≡ Some node) e stands) in
        subst (λ (k : ℕ). AreNodeClasses machine u flow k (slots_of u.program node) others) (sym e)
        (subst (λ (x : List Class). AreNodeClasses machine u flow count (slots_of u.program node) x) last.1 here)
  ];
}

-- no more accesses than events
fewer_fetched : (o : Option ℕ) (xs : List ℕ) (n : ℕ) → length xs ≤ n → length (cons_option o xs) ≤ suc n
fewer_fetched None xs n h = omega (arith, h)
fewer_fetched (Some x) xs n h = omega (arith, h)

fetched_le : (slots : List Slot) → length (lines_fetched slots) ≤ length slots
fetched_le [] = omega arith
fetched_le (x ∷ slots) = fewer_fetched (fetched x) (lines_fetched slots) (length slots) (fetched_le slots)

pub few_before : (slots : List Slot) (count place : ℕ) → place ≡ length (lines_fetched (take count slots)) → place ≤ count
few_before slots count place e = omega (arith, e, fetched_le (take count slots), length-take count slots)
