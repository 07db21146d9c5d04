-- The visits in a stay of a scope.
use Rattle.std.proofs.Common.{◌≡◌, ℕ, suc, ◌+◌, ◌-◌, ◌<◌, ◌≤◌, List, [], ◌∷◌, ◌++◌, length, take, slice_get, refl, sym, ap, subst, ◌∙◌, inl, arith}
use Rattle.std.specs.Prelude.{Contains, Option, Some}
use Rattle.std.specs.List.{range_with_len}
use Rattle.std.specs.Option.{option_map_or}
use Rattle.std.proofs.lemmas.List.{take_all}
use Rattle.std.proofs.lemmas.List.FromFn.{get_or-range_with_len, length-range_with_len}
use Rattle.std.proofs.lemmas.Option.{slice_get_within}
use Rattle.wx_base.specs.declared.facts.Facts.{Facts}
use Rattle.wx_base.specs.declared.image.Image.{Image}
use Rattle.wx_base.specs.declared.machine.Machine.{Machine}
use Rattle.wx_base.specs.Cache.{Lines, IsCache}
use Rattle.wx_base.specs.Machine.{IsShape}
use Rattle.flow_graph.specs.declared.program.Program.{Program}
use Rattle.flow_graph.specs.Refusals.{IsSoundProgram}
use Rattle.flow_ctx.specs.declared.scope.Scope.{Scope}
use Rattle.flow_ctx.specs.declared.scope.Scope.TheVariants.{Run, Loop}
use Rattle.flow_ctx.specs.declared.unfolded.Edge.{Edge}
use Rattle.flow_ctx.specs.declared.unfolded.ULoop.{ULoop}
use Rattle.flow_ctx.specs.declared.unfolded.Unfolded.{Unfolded}
use Rattle.flow_ctx.specs.Stays.{IsWalk, StaysIn, StaysInLoop}
use Rattle.flow_ctx.specs.Stays.IsWalk.{goes as walk_goes}
use Rattle.flow_ctx.specs.Stays.StaysIn.{run, loop}
use Rattle.flow_ctx.specs.Stays.StaysInLoop.{starts, enters, repeats, moves}
use Rattle.flow_ctx.specs.Unfolding.{IsEdge, IsLoop, IsUnfolding}
use Rattle.ctx_laws.specs.Laws.{StaysAreAtMembers}
use Rattle.cache_lru.specs.Laws.{AccessKeepsCache}
use Rattle.cache_pers.specs.Stays.{cache_along}
use Rattle.cache_flow.specs.Flows.{IsFlow, Part, Stays}
use Rattle.cache_flow.specs.Flows.Stays.{enters as stay_enters, goes as stay_goes}
use Rattle.cache_flow.specs.Laws.{KeptInStays}
use Rattle.cache_class.specs.declared.class.Classes.{Classes}
use Rattle.cache_class.specs.Accesses.{lines_fetched, move_along, part_of}
use Rattle.cache_class.specs.Classes.{AreClasses}
use Rattle.class_laws.specs.Visits.{Visit}
use Rattle.class_laws.proofs.Caches.{cache_append, cached}
use Rattle.class_laws.proofs.Flows.{accesses_are, move_listed}
use Rattle.class_laws.proofs.Groups.{InStay, counted_more}
use Rattle.class_laws.proofs.Lists.{listed, one_element}
use Rattle.class_laws.proofs.Nodes.{all_at}
use Rattle.class_laws.proofs.Visited.{AreVisited, IsVisited, walk_of}
use Rattle.class_laws.proofs.Visited.AreVisited.{none, one}

from_zero : (k : ℕ) → 0 + k ≡ k
from_zero k = omega arith

in_range : (count k : ℕ) → k < count → Contains (range_with_len 0 count) k
in_range count k less = (k, omega (arith, length-range_with_len 0 count), get_or-range_with_len 0 count k k less ∙ from_zero k)

module _ {X : Type 0} where
  pub no_longer : (n : ℕ) (xs : List X) → take (n - n) xs ≡ []
  no_longer n xs = ap (λ k. take k xs) (zero_is n)
    where
      zero_is : (n : ℕ) → n - n ≡ 0
      zero_is n = omega arith

  pub one_longer : (n k : ℕ) (x : X) (xs : List X) → k ≤ n → take (suc n - k) (x ∷ xs) ≡ x ∷ take (n - k) xs
  one_longer n k x xs less = ap (λ m. take m (x ∷ xs)) (suc_is n k less)
    where
      suc_is : (n k : ℕ) → k ≤ n → suc n - k ≡ suc (n - k)
      suc_is n k less = omega arith

-- a stay did not begin later than now
pub since_short : (u : Unfolded) (l : ULoop) (walk since : List ℕ) (count : ℕ) → StaysInLoop u l walk since count → length since ≤ length walk
since_short u l walk since count (starts e) = omega arith
since_short u l walk since count (enters number w c) = omega arith
since_short u l walk since count (repeats number w s k stay c) = omega (arith, since_short u l w s k stay)
since_short u l walk since count (moves number edge w s k stay e other member) = omega (arith, since_short u l w s k stay)

pub as_many : (u : Unfolded) (machine : Machine) (first : Lines) (visits : List Visit) (walk : List ℕ) (node : ℕ) (cache : Lines) → AreVisited u machine first visits walk node cache
    → length visits ≡ length walk
as_many u machine first visits walk node cache none = refl
as_many u machine first visits walk node cache (one before w number edge visit c so_far stands taken is) = ap suc (as_many u machine first before w edge.from c so_far)

module _ (keeps : AccessKeepsCache) (kept_law : KeptInStays) (members : StaysAreAtMembers) (image : Image) (facts : Facts) (entry : ℕ) (machine : Machine) (program : Program)
    (sound : IsSoundProgram image facts entry machine program) (u : Unfolded) (unfolds : IsUnfolding program u) (table : Classes) (are : AreClasses u machine table)
    (shape : IsShape machine.shape) (flows : IsFlow are.flow) (first : Lines) (c : IsCache machine.shape first) where
  abbrev IsStay : Scope → List Visit → ℕ → Lines → Type 0
  IsStay scope visits node cache = InStay kept_law u machine table are shape flows scope visits node cache

  abbrev Visited : List Visit → List ℕ → ℕ → Lines → Type 0
  Visited visits walk node cache = AreVisited u machine first visits walk node cache

  pub caches : (visits : List Visit) (walk : List ℕ) (node : ℕ) (cache : Lines) → Visited visits walk node cache → IsCache machine.shape cache
  caches visits walk node cache none = c
  caches visits walk node cache (one before w number edge visit l so_far stands taken is) =
      cached keeps machine.shape shape l (lines_fetched visit.block.slots) (caches before w edge.from l so_far)

  -- a stay that begins
  begun : (scope : Scope) (cache : Lines) → IsCache machine.shape cache → IsStay scope [] (part_of u scope).head cache
  begun scope cache is = record { accesses = []; begin = cache; is_cache = is; stays = stay_enters; now = refl; counted = λ line. inl refl }

  -- a stay that goes on
  extended : (scope : Scope) (visits : List Visit) (number : ℕ) (edge : Edge) (cache : Lines) (visit : Visit) → IsStay scope visits edge.from cache
      → IsVisited u machine first cache edge.from visit → slice_get u.edges number ≡ Some edge
      → Contains (part_of u scope).members edge.from → Contains (part_of u scope).members edge.to
      → IsStay scope (visit ∷ visits) edge.to (cache_along machine.shape cache (lines_fetched visit.block.slots))
  extended scope visits number edge cache visit stay is stands from to = record {
    accesses = stay.accesses ++ lines_fetched visit.block.slots;
    begin = stay.begin;
    is_cache = stay.is_cache;
    stays =
        subst (λ xs. Stays are.flow (part_of u scope) edge.to (stay.accesses ++ xs)) (accesses_are u are.flow are.of edge.from visit.block is.is)
        (stay_goes (move_along edge) stay.accesses (move_listed u are.flow are.of number edge stands) from to stay.stays);
    now = ap (λ (l : Lines). cache_along machine.shape l (lines_fetched visit.block.slots)) stay.now
        ∙ sym (cache_append machine.shape stay.begin stay.accesses (lines_fetched visit.block.slots));
    counted = counted_more kept_law u machine table are shape flows first scope visits edge.from cache stay visit is;
  }

  -- ---- the whole run

  is_edge : (number : ℕ) (edge : Edge) → slice_get u.edges number ≡ Some edge → IsEdge program u.nodes edge
  is_edge number edge stands = all_at (λ (e : Edge). IsEdge program u.nodes e) u.edges number edge unfolds.edges.each stands

  pub in_run : (visits : List Visit) (walk : List ℕ) (node : ℕ) (cache : Lines) → Visited visits walk node cache → IsStay Run visits node cache
  in_run visits walk node cache none = begun Run first c
  in_run visits walk node cache (one before w number edge visit l so_far stands taken is) =
      let leads = is_edge number edge stands in
      extended Run before number edge l visit (in_run before w edge.from l so_far) is stands
      (in_range (length u.nodes) edge.from (slice_get_within u.nodes edge.from leads.source leads.from))
      (in_range (length u.nodes) edge.to (slice_get_within u.nodes edge.to leads.target leads.to))

  -- ---- a loop

  module _ (number : ℕ) (l : ULoop) (at : slice_get u.loops number ≡ Some l) where
    has : Contains u.loops l
    has = listed u.loops number l at

    part_is : part_of u (Loop number) ≡ record { head = l.head; members = l.members }
    part_is = ap (λ (o : Option ULoop). option_map_or (λ l. record { head = l.head; members = l.members }) o (record { head = 0; members = [] })) at

    is_loop : IsLoop program u.nodes u.edges l
    is_loop = all_at (λ m. IsLoop program u.nodes u.edges m) u.loops number l unfolds.loops.each at

    entry_into : (k : ℕ) (edge : Edge) → slice_get u.edges k ≡ Some edge → Contains l.entries k → edge.to ≡ l.head
    entry_into k edge stands c =
        let e = (is_loop.entries k).0 c in
        ap (λ (x : Edge). x.to) (one_element u.edges k edge e.edge stands e.stands) ∙ e.into

    member : (walk since : List ℕ) (count node : ℕ) → IsWalk u walk node → StaysInLoop u l walk since count → Contains (part_of u (Loop number)).members node
    member walk since count node is_walk stay =
        subst (λ (p : Part). Contains p.members node) (sym part_is) (members image facts entry machine program u l walk since count node sound unfolds has is_walk stay)

    begins_at : (node : ℕ) (cache : Lines) → node ≡ l.head → IsCache machine.shape cache → IsStay (Loop number) [] node cache
    begins_at node cache e is = subst (λ k. IsStay (Loop number) [] k cache) (ap (λ (p : Part). p.head) part_is ∙ sym e) (begun (Loop number) cache is)

    -- the stay went on along an edge
    on : (before : List Visit) (w since : List ℕ) (count : ℕ) (k : ℕ) (edge : Edge) (visit : Visit) (cache : Lines) → Visited before w edge.from cache
        → slice_get u.edges k ≡ Some edge → IsVisited u machine first cache edge.from visit → StaysInLoop u l w since count
        → Contains (part_of u (Loop number)).members edge.to
        → IsStay (Loop number) (take (length w - length since) before) edge.from cache
        → IsStay (Loop number) (take (suc (length w) - length since) (visit ∷ before)) edge.to (cache_along machine.shape cache (lines_fetched visit.block.slots))
    on before w since count k edge visit cache so_far stands is stay to inside =
        subst (λ vs. IsStay (Loop number) vs edge.to (cache_along machine.shape cache (lines_fetched visit.block.slots)))
        (sym (one_longer (length w) (length since) visit before (since_short u l w since count stay)))
        (extended (Loop number) (take (length w - length since) before) k edge cache visit inside is stands
        (member w since count edge.from (walk_of u machine first before w edge.from cache so_far) stay) to)

    pub in_loop : (visits : List Visit) (walk since : List ℕ) (count node : ℕ) (cache : Lines) → Visited visits walk node cache → StaysInLoop u l walk since count
        → IsStay (Loop number) (take (length walk - length since) visits) node cache
    in_loop visits walk since count node cache none (starts e) = begins_at u.start first e c
    in_loop visits walk since count node cache (one before w k edge visit x so_far stands taken is) (enters _ _ contains) =
        subst (λ vs. IsStay (Loop number) vs edge.to (cache_along machine.shape x (lines_fetched visit.block.slots)))
        (sym (no_longer (suc (length w)) (visit ∷ before)))
        (begins_at edge.to (cache_along machine.shape x (lines_fetched visit.block.slots)) (entry_into k edge stands contains)
        (caches (visit ∷ before) (k ∷ w) edge.to (cache_along machine.shape x (lines_fetched visit.block.slots)) (one before w k edge visit x so_far stands taken is)))
    in_loop visits walk since count node cache (one before w k edge visit x so_far stands taken is) (repeats _ _ s n stay back) =
        on before w s n k edge visit x so_far stands is stay
        (member (k ∷ w) s (n + 1) edge.to (walk_goes k edge w stands (walk_of u machine first before w edge.from x so_far)) (repeats k w s n stay back))
        (in_loop before w s n edge.from x so_far stay)
    in_loop visits walk since count node cache (one before w k edge visit x so_far stands taken is) (moves _ other _ s n stay e apart inside) =
        on before w s n k edge visit x so_far stands is stay
        (member (k ∷ w) s n edge.to (walk_goes k edge w stands (walk_of u machine first before w edge.from x so_far)) (moves k other w s n stay e apart inside))
        (in_loop before w s n edge.from x so_far stay)

  -- ---- any scope

  pub in_scope : (visits : List Visit) (scope : Scope) (walk since : List ℕ) (node : ℕ) (cache : Lines) → Visited visits walk node cache → StaysIn u scope walk since
      → IsStay scope (take (length walk - length since) visits) node cache
  in_scope visits scope walk since node cache visited (run _) =
      subst (λ vs. IsStay Run vs node cache)
      (sym (take_all (length walk - length {A = ℕ} []) visits (omega (arith, as_many u machine first visits walk node cache visited))))
      (in_run visits walk node cache visited)
  in_scope visits scope walk since node cache visited (loop number l _ _ count at stay) = in_loop number l at visits walk since count node cache visited stay
