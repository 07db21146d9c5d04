-- What the events of a visit come to is allowed by their classes.
use Rattle.std.proofs.Common.{◌≡◌, ℕ, ◌≤◌, Bool, true, false, not, cond, List, ◌++◌, length, take, slice_get, refl, sym, ap, subst, ◌∙◌, inl, inr, arith}
use Rattle.std.specs.Prelude.{Some}
use Rattle.std.specs.List.{list_any}
use Rattle.std.proofs.lemmas.Option.{slice_get_cases, slice_get_within}
use Rattle.wx_base.specs.declared.machine.Machine.{Machine}
use Rattle.wx_base.specs.Cache.{Lines, IsCache, holds_line}
use Rattle.wx_base.specs.Machine.{IsShape}
use Rattle.flow_block.specs.declared.block.Block.{Block}
use Rattle.flow_block.specs.declared.block.Slot.{Slot}
use Rattle.flow_block.specs.declared.block.SlotKind.{SlotKind}
use Rattle.flow_block.specs.declared.block.SlotKind.TheVariants.{Fetch, Multiply, Data}
use Rattle.flow_ctx.specs.declared.unfolded.Unfolded.{Unfolded}
use Rattle.flow_ctx.specs.Nodes.{IsBlockOf}
use Rattle.cache_pers.specs.Stays.{cache_along}
use Rattle.cache_flow.specs.Flows.{accesses_of}
use Rattle.cache_flow.specs.Laws.{HeldLinesAreThere, BarredLinesAreAbsent}
use Rattle.cache_class.specs.declared.class.Class.{Class}
use Rattle.cache_class.specs.declared.class.Class.TheVariants.{AlwaysHit, Open}
use Rattle.cache_class.specs.declared.class.Classes.{Classes}
use Rattle.cache_class.specs.Accesses.{lines_fetched}
use Rattle.cache_class.specs.Allowed.{Allows}
use Rattle.cache_class.specs.Classes.{AreClasses, AreNodeClasses, IsClass, IsEventClass, IsKindClass}
use Rattle.cache_class.specs.Classes.IsClass.{hits, misses, first, opens}
use Rattle.class_laws.specs.Visits.{AreVisits, IsVisit, Visit}
use Rattle.class_laws.specs.Visits.AreVisits.{none as no_visits, one as one_more}
use Rattle.class_laws.proofs.Caches.{cache_append, decided, outcome_of}
use Rattle.class_laws.proofs.Flows.{HasCome, accesses_before, has_come, slots_are}
use Rattle.class_laws.proofs.Visited.{AreVisited, IsVisited}
use Rattle.class_laws.proofs.Visited.AreVisited.{none, one}

module _ (u : Unfolded) (machine : Machine) (table : Classes) (are : AreClasses u machine table) where
  -- the classes of a node's events
  pub record HasClasses (node : ℕ) (block : Block) : Type 0 where
    pub kinds : List Class
    pub stands : slice_get table.slots node ≡ Some kinds
    pub are_of : AreNodeClasses machine u are.flow node block.slots kinds

  pub has_classes : (node : ℕ) (block : Block) → IsBlockOf u node block → HasClasses node block
  has_classes node block is = elim ((slice_get_cases table.slots node).1) [
    | inl found ↦ record {
      kinds = found.0;
      stands = found.2;
      are_of = subst (λ (s : List Slot). AreNodeClasses machine u are.flow node s found.0) (slots_are u are.flow are.of node block is) (are.each node is.node found.0 is.stands found.2);
    }
    | inr over ↦ absurd (let past : length table.slots ≤ node = over.0 in omega (arith, slice_get_within u.nodes node is.node is.stands, are.long))
  ]

  -- the event of a class, and what it tells
  pub record HasEvent (node : ℕ) (block : Block) (number : ℕ) (class : Class) : Type 0 where
    pub event : Slot
    pub stands : slice_get block.slots number ≡ Some event
    pub told : IsEventClass machine u are.flow node block.slots number event class

  pub has_event : (node : ℕ) (block : Block) (has : HasClasses node block) (number : ℕ) (class : Class) → slice_get has.kinds number ≡ Some class → HasEvent node block number class
  has_event node block has number class e = elim ((slice_get_cases block.slots number).1) [
    | inl found ↦ record { event = found.0; stands = found.2; told = has.are_of.each number found.0 class found.2 e }
    | inr over ↦ absurd (let past : length block.slots ≤ number = over.0 in omega (arith, slice_get_within has.kinds number class e, has.are_of.long))
  ]

module _ (held : HeldLinesAreThere) (barred : BarredLinesAreAbsent) (u : Unfolded) (machine : Machine) (table : Classes) (are : AreClasses u machine table) (shape : IsShape machine.shape)
    (begin : Lines) (c : IsCache machine.shape begin) where
  module _ (node : ℕ) (cache : Lines) (come : HasCome u are.flow are.of machine begin node cache) (block : Block) (is : IsBlockOf u node block) (number : ℕ) where
    -- the cache before an event is that of the flow before the access
    same_cache : cache_along machine.shape begin (come.accesses ++ take (length (lines_fetched (take number block.slots))) (accesses_of are.flow node))
        ≡ cache_along machine.shape cache (lines_fetched (take number block.slots))
    same_cache =
        ap (λ xs. cache_along machine.shape begin (come.accesses ++ xs)) (accesses_before u are.flow are.of node block number is)
        ∙ cache_append machine.shape begin come.accesses (lines_fetched (take number block.slots))
        ∙ ap (λ (l : Lines). cache_along machine.shape l (lines_fetched (take number block.slots))) (sym come.is)

    fetch_allowed : (line : ℕ) (class : Class) → IsClass machine.shape u are.flow node (length (lines_fetched (take number block.slots))) line class
        → Allows class (not (holds_line machine.shape (cache_along machine.shape cache (lines_fetched (take number block.slots))) line))
    fetch_allowed line class (hits h) =
        ap (λ (l : Lines). not (holds_line machine.shape l line)) (sym same_cache)
        ∙ ap not (held machine.shape are.flow h.states node (length (lines_fetched (take number block.slots))) line come.accesses begin shape c h.solution come.comes h.holds)
    fetch_allowed line class (misses h m) =
        ap (λ (l : Lines). not (holds_line machine.shape l line)) (sym same_cache)
        ∙ ap not (barred machine.shape are.flow m.states node (length (lines_fetched (take number block.slots))) line come.accesses begin shape c m.solution come.comes m.bars)
    fetch_allowed line class (first scope h m kept outer) = tt
    fetch_allowed line class (opens h m never) = tt

    data_allowed : (slow any : Bool) → (slow ≡ true → any ≡ true) → Allows (cond any Open AlwaysHit) slow
    data_allowed slow true h = tt
    data_allowed false false h = refl
    data_allowed true false h = sym (h refl)

    event_allowed : (slow : ℕ → Bool) (at : ℕ) (kind : SlotKind) (class : Class) → IsKindClass machine u are.flow node block.slots number kind class
        → (kind ≡ Data → slow at ≡ true → list_any (λ region. region.slow) machine.regions ≡ true)
        → Allows class (decided machine.shape (cache_along machine.shape cache (lines_fetched (take number block.slots))) slow at kind)
    event_allowed slow at (Fetch line) class told regions = fetch_allowed line class told
    event_allowed slow at Multiply class told regions = subst (λ (k : Class). Allows k (slow at)) (sym told) tt
    event_allowed slow at Data class told regions =
        subst (λ (k : Class). Allows k (slow at)) (sym told) (data_allowed (slow at) (list_any (λ region. region.slow) machine.regions) (regions refl))

  pub is_visit : (visits : List Visit) (walk : List ℕ) (node : ℕ) (cache : Lines) (visit : Visit) → AreVisited u machine begin visits walk node cache
      → IsVisited u machine begin cache node visit → IsVisit u table visit
  is_visit visits walk node cache visit so_far is =
      let come = has_come u are.flow are.of machine begin visits walk node cache so_far in
      let has = has_classes u machine table are node visit.block is.is in
      record {
        is = subst (λ k. IsBlockOf u k visit.block) (sym is.here) is.is;
        kinds = has.kinds;
        classed = ap (slice_get table.slots) is.here ∙ has.stands;
        allowed = λ number class e.
            let event = has_event u machine table are node visit.block has number class e in
            let before = take number visit.block.slots in
            subst (λ b. Allows class b) (sym (ap (λ (f : ℕ → Bool). f number) is.come ∙ ap (outcome_of machine.shape cache is.slow before) event.stands))
            (event_allowed node cache come visit.block is.is number is.slow event.event.at event.event.kind class event.told (is.regions number event.event event.stands));
      }

  pub are_visits : (visits : List Visit) (walk : List ℕ) (node : ℕ) (cache : Lines) → AreVisited u machine begin visits walk node cache → AreVisits u table visits walk node
  are_visits visits walk node cache none = no_visits
  are_visits visits walk node cache (one before w number edge visit l so_far stands taken is) =
      one_more before w number edge visit (are_visits before w edge.from l so_far) stands is.here taken (is_visit before w edge.from l visit so_far is)
