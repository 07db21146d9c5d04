-- What diagrams of a node's block tell of the exits along its edges.
use Rattle.std.proofs.Common.{◌≡◌, ℕ, ◌+◌, ◌<◌, ◌≤◌, ◌↔◌, ◌⊎◌, Bool, List, [], ◌∷◌, ◌++◌, length, slice_get, Some, Option, None, Result, Ok, Err, IfOk, refl, sym, ap, subst, ◌∙◌, inl, inr, arith}
use Rattle.std.specs.List.{Contains}
use Rattle.std.proofs.Math.Path.{fun_ext}
use Rattle.std.proofs.lemmas.Bool.{cases_lt}
use Rattle.std.proofs.lemmas.List.Elements.{All-head, All-tail, Contains-append_left, Contains-push, Contains-push_cases}
use Rattle.std.proofs.lemmas.Option.{same_Some, slice_get_within}
use Rattle.wx_base.specs.declared.machine.Machine.{Machine}
use Rattle.wx_base.specs.Blocks.{exit_from}
use Rattle.xdd_table.specs.declared.node.Node.{Node}
use Rattle.xdd_table.specs.Diagram.{Combination, time, Keeps}
use Rattle.xdd_ops.specs.Pairs.{AddsOnly}
use Rattle.flow_block.specs.declared.block.Block.{Block}
use Rattle.flow_block.specs.declared.block.Slot.{Slot}
use Rattle.flow_block.specs.Blocks.{most_slots}
use Rattle.flow_ctx.specs.declared.unfolded.Edge.{Edge}
use Rattle.flow_ctx.specs.declared.unfolded.Unfolded.{Unfolded}
use Rattle.flow_ctx.specs.Nodes.{HasBlock, IsBlockOf}
use Rattle.pipe_time.specs.declared.vector.Vector.{Vector}
use Rattle.pipe_block.specs.declared.diagrams.Leaving.{Leaving}
use Rattle.pipe_block.specs.declared.diagrams.Outcome.{Outcome}
use Rattle.pipe_block.specs.Events.{entries_of}
use Rattle.pipe_block.specs.Leavings.{IsLeaving, IsLeavingAt, outcome_of_exit}
use Rattle.pipe_block.specs.Times.{IsDiagram}
use Rattle.cache_class.specs.declared.class.Class.{Class}
use Rattle.cache_class.specs.declared.class.Class.TheVariants.{AlwaysHit, AlwaysMiss, FirstMiss, Open}
use Rattle.cache_class.specs.declared.class.Classes.{Classes}
use Rattle.cache_class.specs.Accesses.{slots_of}
use Rattle.cache_class.specs.Allowed.{Allows, IsAllowed}
use Rattle.cache_class.specs.Classes.{AreClasses}
use Rattle.cert_judge.specs.Settled.{settled, settled_miss}
use Rattle.state_families.specs.Families.{IsExitOf}
use Rattle.state_families.specs.Leaving.{IsAllowedExit, IsLeft, IsPicked}

-- ---- tables that grow
pub keeps_self : (nodes : List Node) → Keeps nodes nodes
keeps_self nodes = record { grows = omega arith; nodes = λ p h. refl; times = λ f p h. refl; begins = λ e p h b. b; events = λ p bound h e. e }

pub keeps_twice : (a b c : List Node) → Keeps a b → Keeps b c → Keeps a c
keeps_twice a b c k l = record {
  grows = omega (arith, k.grows, l.grows);
  nodes = λ p h. l.nodes p (omega (arith, k.grows)) ∙ k.nodes p h;
  times = λ f p h. l.times f p (omega (arith, k.grows)) ∙ k.times f p h;
  begins = λ e p h b. l.begins e p (omega (arith, k.grows)) (k.begins e p h b);
  events = λ p bound h e. l.events p bound (omega (arith, k.grows)) (k.events p bound h e);
}

pub both : {A B C : Type 0} → A ↔ B → B ↔ C → A ↔ C
both p q = (λ a. q.0 (p.0 a), λ c. p.1 (q.1 c))

-- ---- what an edge hands on
-- from a vector that stands in a pool
pub left_ok : {E : Type 0} (nodes : List Node) (leavings : List Leaving) (pool : List Vector) (place : ℕ) (u : Unfolded) (m : Machine) (edge : Edge) (source : List ℕ) (r : Result ℕ E)
    → slice_get pool place ≡ Some (record { slots = source })
    → ((from : Vector) (b : Block) → slice_get pool place ≡ Some from → IsBlockOf u edge.from b → IfOk r (IsLeavingAt nodes leavings m from.slots b edge.taken))
    → IfOk r (IsLeft nodes leavings u m edge source)
left_ok nodes leavings pool place u m edge source (Ok number) at leaves = record { each = λ block is. leaves (record { slots = source }) block at is }
left_ok nodes leavings pool place u m edge source (Err e) at leaves = tt

-- ---- settled combinations are those that the classes allow
allowed_stays : (class : Option Class) (miss : Bool) → ((c : Class) → class ≡ Some c → Allows c miss) → settled_miss class miss ≡ miss
allowed_stays None miss allows = refl
allowed_stays (Some AlwaysHit) miss allows = sym (allows AlwaysHit refl)
allowed_stays (Some AlwaysMiss) miss allows = sym (allows AlwaysMiss refl)
allowed_stays (Some (FirstMiss scope)) miss allows = refl
allowed_stays (Some Open) miss allows = refl

settled_allowed : (classes : List Class) (f : Combination) → IsAllowed classes f → settled classes f ≡ f
settled_allowed classes f allowed = fun_ext λ e. allowed_stays (slice_get classes e) (f e) (λ c is. allowed e c is)

settled_stays : (class : Class) (miss : Bool) → Allows class (settled_miss (Some class) miss)
settled_stays AlwaysHit miss = refl
settled_stays AlwaysMiss miss = refl
settled_stays (FirstMiss scope) miss = tt
settled_stays Open miss = tt

settled_is_allowed : (classes : List Class) (f : Combination) → IsAllowed classes (settled classes f)
settled_is_allowed classes f e class is = rw is (settled_stays class (f e))

-- ---- outcomes that are picked
pub none_picked : (pairs : List (ℕ × ℕ)) (outcomes : List Outcome) (slots : List ℕ) → Contains [] slots ↔ IsPicked pairs outcomes 0 slots
none_picked pairs outcomes slots = (λ c. absurd (omega (arith, c.1)), λ p. absurd (omega (arith, p.before)))

pub one_more_picked : (pairs : List (ℕ × ℕ)) (outcomes : List Outcome) (i : ℕ) (pair : ℕ × ℕ) (outcome : Outcome) (list after : List (List ℕ))
    → slice_get pairs i ≡ Some pair → slice_get outcomes pair.0 ≡ Some outcome → after ≡ list ++ outcome.vector.slots ∷ []
    → ((slots : List ℕ) → Contains list slots ↔ IsPicked pairs outcomes i slots)
    → (slots : List ℕ) → Contains after slots ↔ IsPicked pairs outcomes (i + 1) slots
one_more_picked pairs outcomes i pair outcome list after at stands is so_far slots =
    subst (λ (xs : List (List ℕ)). Contains xs slots ↔ IsPicked pairs outcomes (i + 1) slots) (sym is) (told, back)
  where
    more : IsPicked pairs outcomes i slots → IsPicked pairs outcomes (i + 1) slots
    more p = record { place = p.place; pair = p.pair; outcome = p.outcome; before = omega (arith, p.before); listed = p.listed; stands = p.stands; is = p.is }

    told : Contains (list ++ outcome.vector.slots ∷ []) slots → IsPicked pairs outcomes (i + 1) slots
    told c = elim (Contains-push_cases list outcome.vector.slots slots c) [
      | inl h ↦ more ((so_far slots).0 h)
      | inr e ↦ record { place = i; pair = pair; outcome = outcome; before = omega arith; listed = at; stands = stands; is = sym e }
    ]

    back : IsPicked pairs outcomes (i + 1) slots → Contains (list ++ outcome.vector.slots ∷ []) slots
    back p = by (cases_lt p.place i)
      where
        by : (p.place < i) ⊎ (i ≤ p.place) → Contains (list ++ outcome.vector.slots ∷ []) slots
        by (inl l) = Contains-append_left list (outcome.vector.slots ∷ []) slots
            ((so_far slots).1 (record { place = p.place; pair = p.pair; outcome = p.outcome; before = l; listed = p.listed; stands = p.stands; is = p.is }))
        by (inr g) =
            let here : p.place ≡ i = omega (arith, p.before, g) in
            let one : p.pair ≡ pair = same_Some p.pair pair (sym p.listed ∙ ap (λ n. slice_get pairs n) here ∙ at) in
            let two : p.outcome ≡ outcome = same_Some p.outcome outcome (sym p.stands ∙ ap (λ (x : ℕ × ℕ). slice_get outcomes x.0) one ∙ stands) in
            subst (λ (xs : List ℕ). Contains (list ++ outcome.vector.slots ∷ []) xs) (sym (p.is ∙ ap (λ (o : Outcome). o.vector.slots) two))
            (Contains-push list outcome.vector.slots)

-- ---- the outcomes at settled combinations
module _ (nodes : List Node) (classes : List Class) (l : Leaving) (pairs : List (ℕ × ℕ)) (a : Combination → ℕ)
    (a_is : (f : Combination) → a f ≡ time nodes (settled classes f) l.place.place)
    (only : (i : ℕ) (x : ℕ × ℕ) → slice_get pairs i ≡ Some x → (f : Combination) × (x ≡ (a f, a f))) where
  pub pairs_within : ((f : Combination) → time nodes f l.place.place < length l.list) → (i : ℕ) (x : ℕ × ℕ) → slice_get pairs i ≡ Some x → x.0 < length l.list
  pairs_within positions i x is =
      let w = only i x is in
      let e : x.0 ≡ time nodes (settled classes w.0) l.place.place = ap (λ (y : ℕ × ℕ). y.0) w.1 ∙ a_is w.0 in
      subst (λ (n : ℕ). n < length l.list) (sym e) (positions (settled classes w.0))

  pub picked_allowed : ((f : Combination) → (i : ℕ) × (slice_get pairs i ≡ Some (a f, a f))) → (slots : List ℕ)
      → IsPicked pairs l.list (length pairs) slots ↔ IsAllowedExit nodes classes l slots
  picked_allowed has slots = (told, back)
    where
      told : IsPicked pairs l.list (length pairs) slots → IsAllowedExit nodes classes l slots
      told p =
          let w = only p.place p.pair p.listed in
          let g : Combination = settled classes w.0 in
          let first : p.pair.0 ≡ time nodes g l.place.place = ap (λ (y : ℕ × ℕ). y.0) w.1 ∙ a_is w.0 in
          record {
            f = g;
            outcome = p.outcome;
            allowed = settled_is_allowed classes w.0;
            stands = sym (ap (λ (n : ℕ). slice_get l.list n) first) ∙ p.stands;
            is = p.is;
          }

      back : IsAllowedExit nodes classes l slots → IsPicked pairs l.list (length pairs) slots
      back e =
          let a_f : a e.f ≡ time nodes e.f l.place.place = a_is e.f ∙ ap (λ (f : Combination). time nodes f l.place.place) (settled_allowed classes e.f e.allowed) in
          let there = has e.f in
          record {
            place = there.0;
            pair = (a e.f, a e.f);
            outcome = e.outcome;
            before = slice_get_within pairs there.0 (a e.f, a e.f) there.1;
            listed = there.1;
            stands = ap (λ (n : ℕ). slice_get l.list n) a_f ∙ e.stands;
            is = e.is;
          }

-- what is added to no pairs has the property
pub added_to_none : (old new : List (ℕ × ℕ)) (P : ℕ × ℕ → Type 0) → old ≡ [] → AddsOnly old new P → (i : ℕ) (x : ℕ × ℕ) → slice_get new i ≡ Some x → P x
added_to_none old new P none adds i x is = elim (adds.added i x is) [
  | inl there ↦ let empty : slice_get [] i ≡ Some x = subst (λ (xs : List (ℕ × ℕ)). slice_get xs i ≡ Some x) none there in absurd (cc)
  | inr p ↦ p
]

-- ---- exits of the recurrence
slots_are : (u : Unfolded) (node : ℕ) (block : Block) (is : IsBlockOf u node block) → slots_of u.program is.node ≡ block.slots
slots_are u node block is = rw (is.function_stands, is.block_stands) refl

-- the classes of a node are few
pub kinds_few : (u : Unfolded) (m : Machine) (classes : Classes) (node : ℕ) (block : Block) (kinds : List Class)
    → AreClasses u m classes → IsBlockOf u node block → slice_get classes.slots node ≡ Some kinds → length block.slots ≤ 12 → length kinds ≤ 12
kinds_few u m classes node block kinds are is stands few =
    let long : length kinds ≡ length block.slots =
    (are.each node is.node kinds is.stands stands).long ∙ ap (λ (xs : List Slot). length xs) (slots_are u node block is) in
    omega (arith, few, long)

pub block_of : (u : Unfolded) (node : ℕ) (h : HasBlock u node) → IsBlockOf u node h.block
block_of u node h = record { node = h.node; function = h.function; stands = h.stands; function_stands = h.function_stands; block_stands = h.block_stands }

-- what stands for a number is what the edge hands on
module _ (nodes : List Node) (leavings : List Leaving) (u : Unfolded) (m : Machine) (edge : Edge) (source : List ℕ) (number : ℕ) (l : Leaving)
    (left : IsLeft nodes leavings u m edge source number) (at : slice_get leavings number ≡ Some l) where
  pub leaving_is : (block : Block) → IsBlockOf u edge.from block → IsLeaving nodes m source block edge.taken l
  leaving_is block is =
      let x = left.each block is in
      subst (IsLeaving nodes m source block edge.taken) (same_Some x.leaving l (sym x.stands ∙ at)) x.is

  module _ (has : HasBlock u edge.from) where
    pub place_within : l.place.place < length nodes
    place_within =
        let w = (leaving_is has.block (block_of u edge.from has)).diagrams in
        (All-head (IsDiagram nodes most_slots) l.place [] (All-tail (IsDiagram nodes most_slots) l.cost (l.place ∷ []) w)).within

    pub positions_within : (f : Combination) → time nodes f l.place.place < length l.list
    positions_within f = slice_get_within l.list (time nodes f l.place.place) _ ((leaving_is has.block (block_of u edge.from has)).each f)

    -- the outcomes at allowed combinations are the exits along the edge
    pub exits_are : (classes : Classes) (kinds : List Class) → slice_get classes.slots edge.from ≡ Some kinds → (slots : List ℕ)
        → IsAllowedExit nodes kinds l slots ↔ IsExitOf u m classes edge source slots
    exits_are classes kinds stands slots = (told, back)
      where
        told : IsAllowedExit nodes kinds l slots → IsExitOf u m classes edge source slots
        told x =
            let exit = exit_from m source (entries_of has.block x.f) edge.taken in
            let w = (leaving_is has.block (block_of u edge.from has)).each x.f in
            let same : x.outcome ≡ outcome_of_exit exit = same_Some x.outcome (outcome_of_exit exit) (sym x.stands ∙ w) in
            record {
              block = has.block;
              kinds = kinds;
              f = x.f;
              classed = record { is = block_of u edge.from has; stands = stands };
              allowed = x.allowed;
              is = x.is ∙ ap (λ (o : Outcome). o.vector.slots) same;
            }

        back : IsExitOf u m classes edge source slots → IsAllowedExit nodes kinds l slots
        back x = record {
          f = x.f;
          outcome = outcome_of_exit (exit_from m source (entries_of x.block x.f) edge.taken);
          allowed = subst (λ (ks : List Class). IsAllowed ks x.f) (same_Some x.kinds kinds (sym x.classed.stands ∙ stands)) x.allowed;
          stands = (leaving_is x.block x.classed.is).each x.f;
          is = x.is;
        }
