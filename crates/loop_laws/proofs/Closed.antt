-- A closed walk over an unfolding lies in a loop.
use Rattle.std.proofs.Common.{◌≡◌, ℕ, ◌≤◌, List, [], ◌∷◌, ◌++◌, length, map, slice_get, refl, sym, ap, subst, ◌∙◌, inl, inr, arith}
use Rattle.std.specs.Prelude.{◌⊎◌, Contains, Option, Some}
use Rattle.std.specs.Option.{option_map_or}
use Rattle.std.proofs.lemmas.Bool.{cases_lt}
use Rattle.wx_base.specs.declared.facts.Facts.{Facts}
use Rattle.wx_base.specs.declared.image.Image.{Image}
use Rattle.wx_base.specs.declared.machine.Machine.{Machine}
use Rattle.wx_base.specs.Functions as functions
use Rattle.wx_base.specs.Functions.{ways_at, IsEntry}
use Rattle.wx_base.specs.Monitor.{BoundedLoop}
use Rattle.wx_base.specs.Paths.{IsHead, IsMember as IsMemberOf, Path}
use Rattle.flow_block.specs.declared.block.Block.{Block}
use Rattle.flow_graph.specs.declared.error.FlowError.TheVariants.{Irreducible}
use Rattle.flow_graph.specs.declared.program.Function.{Function}
use Rattle.flow_graph.specs.declared.program.Program.{Program}
use Rattle.flow_graph.specs.Program.{bounded_loop}
use Rattle.flow_graph.specs.Refusals.{IsSoundProgram}
use Rattle.graph_loops.specs.Laws.{ClosedWalksLieInLoops, IsWalk, LieInLoop, LoopsTellWays}
use Rattle.run_laws.specs.Reached.{LeadsToInstructions}
use Rattle.flow_laws.specs.Programs.{EndsInMemory, HeadsBeginBlocks, ProgramsLeadToInstructions}
use Rattle.flow_ctx.specs.declared.unfolded.Call.{Call}
use Rattle.flow_ctx.specs.declared.unfolded.Edge.{Edge}
use Rattle.flow_ctx.specs.declared.unfolded.ULoop.{ULoop}
use Rattle.flow_ctx.specs.declared.unfolded.UNode.{UNode}
use Rattle.flow_ctx.specs.declared.unfolded.Unfolded.{Unfolded}
use Rattle.flow_ctx.specs.Nodes.{IsBlockAt, IsReached, entry_after}
use Rattle.flow_ctx.specs.Unfolding.{IsEdge, IsHeadNumber, IsLoop, IsUnfolding}
use Rattle.flow_ctx.specs.Unfolding.IsMember.{own, within}
use Rattle.loop_laws.specs.Laws.{ClosedWalksLieInALoop}
use Rattle.loop_laws.specs.Walks.{IsWalkFrom, LiesInLoop}
use Rattle.loop_laws.specs.Walks.IsWalkFrom.{ends as walk_ends, goes as walk_goes}
use Rattle.loop_laws.proofs.Lists.{all_at, front_or_rest, in_front, in_rest, listed, made, none_there, not_longer, one_element, some_of}
use Rattle.loop_laws.proofs.Nodes.{block_is, function_at, has_block, loop_here, loop_of, same_block}
use Rattle.loop_laws.proofs.BlockWays.{begins_inside}
use Rattle.loop_laws.proofs.Passing.{HasNode, IsAt, IsPlaced, IsVisited, Way, step}
use Rattle.loop_laws.proofs.Passing.IsPlaced.{here, inside}
use Rattle.loop_laws.proofs.Passing.IsVisited.{by_block, by_call}
use Rattle.loop_laws.proofs.Passing.Way.{none, more}

-- ---- the least chain of a walk

-- how many calls are open at a node
abbrev depth : Unfolded → ℕ → ℕ
depth u number = option_map_or (λ n. length n.chain) (slice_get u.nodes number) 0

-- a walk that nowhere has fewer open calls
data IsAbove (u : Unfolded) (least : ℕ) : ℕ → List ℕ → ℕ → Type 0 where
  ends : (node : ℕ) → least ≤ depth u node → IsAbove u least node [] node
  goes : (number : ℕ) (edge : Edge) (walk : List ℕ) (node : ℕ) → slice_get u.edges number ≡ Some edge → least ≤ depth u edge.from
      → IsAbove u least edge.to walk node → IsAbove u least edge.from (number ∷ walk) node

no_less : (u : Unfolded) (least from : ℕ) (walk : List ℕ) (to : ℕ) → IsAbove u least from walk to → least ≤ depth u from
no_less u least from walk to (ends _ h) = h
no_less u least from walk to (goes number edge rest _ e h w) = h

lower : (u : Unfolded) (least less from : ℕ) (walk : List ℕ) (to : ℕ) → less ≤ least → IsAbove u least from walk to → IsAbove u less from walk to
lower u least less from walk to few (ends _ h) = ends to (omega (arith, few, h))
lower u least less from walk to few (goes number edge rest _ e h w) = goes number edge rest to e (omega (arith, few, h)) (lower u least less edge.to rest to few w)

-- a node with the fewest open calls parts a walk in two
record HasLeast (u : Unfolded) (from : ℕ) (walk : List ℕ) (to : ℕ) : Type 0 where
  node : ℕ
  front : List ℕ
  back : List ℕ
  all : IsAbove u (depth u node) from walk to
  first : IsAbove u (depth u node) from front node
  second : IsAbove u (depth u node) node back to
  parts : (number : ℕ) → Contains walk number → Contains front number ⊎ Contains back number

least_of : (u : Unfolded) (from : ℕ) (walk : List ℕ) (to : ℕ) → IsWalkFrom u from walk to → HasLeast u from walk to
least_of u from walk to (walk_ends _) =
    let alone : IsAbove u (depth u to) to [] to = ends to (omega arith) in
    record { node = to; front = []; back = []; all = alone; first = alone; second = alone; parts = λ k h. absurd (none_there k h) }
least_of u from walk to (walk_goes number edge rest _ e w) =
    let it = least_of u edge.to rest to w in
    elim (cases_lt (depth u it.node) (depth u edge.from)) [
      | inl less ↦
          let low : depth u it.node ≤ depth u edge.from = omega (arith, less) in
          record {
            node = it.node;
            front = number ∷ it.front;
            back = it.back;
            all = goes number edge rest to e low it.all;
            first = goes number edge it.front it.node e low it.first;
            second = it.second;
            parts = λ k h. elim (front_or_rest number rest k h) [
              | inl is ↦ inl (subst (λ (x : ℕ). Contains (number ∷ it.front) x) (sym is) (in_front number it.front))
              | inr r ↦ elim (it.parts k r) [ inl f ↦ inl (in_rest number it.front k f) | inr b ↦ inr b ]
            ];
          }
      | inr more_or_same ↦
          let whole : IsAbove u (depth u edge.from) edge.from (number ∷ rest) to =
          goes number edge rest to e (omega arith) (lower u (depth u it.node) (depth u edge.from) edge.to rest to (omega (arith, more_or_same)) it.all) in
          record {
            node = edge.from;
            front = [];
            back = number ∷ rest;
            all = whole;
            first = ends edge.from (omega arith);
            second = whole;
            parts = λ k h. inr h;
          }
    ]

-- a way that passed something is a walk of the graph
is_walk : (leads : ℕ → List ℕ) (a b c : ℕ) (passed : List ℕ) → Contains (leads a) b → Way leads b passed c → IsWalk leads a passed c
is_walk leads a b c passed e (none _) = e
is_walk leads a b c passed e (more _ d _ rest f way) = (e, is_walk leads b d c rest f way)

record IsClosedWalk (leads : ℕ → List ℕ) (a : ℕ) (passed : List ℕ) : Type 0 where
  through : List ℕ
  are : passed ≡ a ∷ through
  walk : IsWalk leads a through a

closed_walk : (leads : ℕ → List ℕ) (a c x : ℕ) (passed : List ℕ) → c ≡ a → Contains passed x → Way leads a passed c → IsClosedWalk leads a passed
closed_walk leads a c x passed e h (none _) = absurd (none_there x h)
closed_walk leads a c x passed e h (more _ b _ rest f way) =
    record { through = rest; are = refl; walk = subst (λ (to : ℕ). IsWalk leads a rest to) e (is_walk leads a b c rest f way) }

-- what is known of the functions of the program
pub record AreKnown : Type 0 where
  pub heads : HeadsBeginBlocks
  pub led : ProgramsLeadToInstructions
  pub walks : ClosedWalksLieInLoops
  pub told : LoopsTellWays

module _ (known : AreKnown) (image : Image) (facts : Facts) (first : ℕ) (machine : Machine) (program : Program) (u : Unfolded)
    (ends_in : EndsInMemory image) (sound : IsSoundProgram image facts first machine program) (unfolds : IsUnfolding program u) where
  abbrev leads : ℕ → List ℕ
  leads = ways_at image facts

  led : LeadsToInstructions image facts first
  led = known.led image facts first machine program sound

  -- the node with the fewest open calls, and its function
  module _ (number : ℕ) (x : UNode) (f : Function) (b : Block) (at : slice_get u.nodes number ≡ Some x) (is : IsBlockAt program x f b) where
    function : functions.AreLoops image facts f.entry (map bounded_loop f.loops)
    function = (function_at image facts first machine program sound.is x.function f is.function_stands).loops

    is_entry : IsEntry image facts first f.entry
    is_entry = (function_at image facts first machine program sound.is x.function f is.function_stands).entry

    abbrev At : ℕ → ℕ → Type 0
    At from node = IsAt image facts first machine program sound.is known.heads ends_in led u x.chain f.entry is_entry is.entry from node

    abbrev Visited : List ℕ → ℕ → Type 0
    Visited passed node = IsVisited image facts first machine program sound.is known.heads ends_in led u x.chain f.entry is_entry is.entry passed node

    abbrev NodeOf : ℕ → Type 0
    NodeOf address = HasNode image facts first machine program sound.is known.heads ends_in led u x.chain f.entry is_entry is.entry address

    grown : (passed later : List ℕ) (node : ℕ) → ((a : ℕ) → Contains passed a → Contains later a) → Visited passed node → Visited later node
    grown passed later node keeps (by_block n g c stands at_n e h) = by_block n g c stands at_n e (keeps c.start h)
    grown passed later node keeps (by_call n c cs stands e h) = by_call n c cs stands e (keeps c.site h)

    depth_is : (k : ℕ) (n : UNode) → slice_get u.nodes k ≡ Some n → depth u k ≡ length n.chain
    depth_is k n e = ap (λ (o : Option UNode). option_map_or (λ m. length m.chain) o 0) e

    -- along a walk
    record Walks (from node : ℕ) (walk : List ℕ) (other : ℕ) (s : At from node) : Type 0 where
      on : At from other
      keeps : (a : ℕ) → Contains s.going.passed a → Contains on.going.passed a
      visited : (k : ℕ) (edge : Edge) → Contains walk k → slice_get u.edges k ≡ Some edge → Visited on.going.passed edge.from

    walk_on : (from node : ℕ) (walk : List ℕ) (other : ℕ) → IsAbove u (length x.chain) node walk other → (s : At from node) → Walks from node walk other s
    walk_on from node walk other (ends _ h) s = record { on = s; keeps = λ a k. k; visited = λ k edge h e. absurd (none_there k h) }
    walk_on from node walk other (goes k edge rest _ e h w) s =
        let edge_is = all_at (λ d. IsEdge program u.nodes d) u.edges k edge unfolds.edges.each e in
        let low : length x.chain ≤ length edge_is.target.chain =
        (let d = depth_is edge.to edge_is.target edge_is.to in let n = no_less u (length x.chain) edge.to rest other w in omega (arith, d, n)) in
        let one = step image facts first machine program sound.is known.heads ends_in led u x.chain f.entry is_entry is.entry from edge.from edge.to
        edge_is.source edge_is.target edge_is.from edge_is.to low s edge.taken edge_is.leads in
        let after = walk_on from edge.to rest other w one.on in
        record {
          on = after.on;
          keeps = λ a c. after.keeps a (one.keeps a c);
          visited = λ j d c g. elim (front_or_rest k rest j c) [
            | inl same ↦
                let d_is : edge ≡ d = one_element u.edges k edge d e (ap (slice_get u.edges) (sym same) ∙ g) in
                subst (λ (y : Edge). Visited after.on.going.passed y.from) d_is (grown one.on.going.passed after.on.going.passed edge.from after.keeps one.visited)
            | inr r ↦ after.visited j d r g
          ];
        }

    -- ---- the closed walk of the function

    begin : At b.start number
    begin = record { to = b.start; going = record { passed = []; way = none b.start; good = λ a h. absurd (none_there a h) }; placed = here x f b at is refl refl }

    -- back at the node the walk is at the beginning of its block
    back_at : (passed : List ℕ) (to : ℕ) → IsPlaced image facts first machine program sound.is known.heads ends_in led u x.chain f.entry is_entry is.entry passed to number → to ≡ b.start
    back_at passed to (here n g c stands at_n e begins) =
        sym begins ∙ ap (λ (d : Block). d.start) (same_block program n x g f c b (one_element u.nodes number n x stands at) at_n is)
    back_at passed to (inside n c cs stands e site place) =
        absurd (not_longer x.chain c cs (ap (λ (y : UNode). y.chain) (one_element u.nodes number x n at stands) ∙ e))

    some_passed : (passed : List ℕ) (node : ℕ) → Visited passed node → (a : ℕ) × Contains passed a
    some_passed passed node (by_block n g c stands at_n e h) = (c.start, h)
    some_passed passed node (by_call n c cs stands e h) = (c.site, h)

    in_function : Path leads [] f.entry b.start
    in_function = begins_inside image facts first led ends_in f.entry is_entry machine (block_is image facts first machine program sound.is x f b is).begins

    lies : (through : List ℕ) → IsWalk leads b.start through b.start → LieInLoop leads f.entry (b.start ∷ through)
    lies through walk =
        known.walks leads f.entry b.start through (known.told image facts f.entry (map bounded_loop f.loops) function)
        (λ a cycle. sound.sound (Irreducible a) (record { entry = f.entry; function = is_entry; cycle = cycle })) in_function walk

    -- ---- the loop of the unfolding

    module _ (passed : List ℕ) (inside_loop : LieInLoop leads f.entry passed) (head : NodeOf inside_loop.head) where
      found : (l : ULoop) → Contains u.loops l → l.head ≡ head.number → (node : ℕ) → Visited passed node → Contains l.members node
      found l c at_head node visited = member visited
        where
          loop : IsLoop program u.nodes u.edges l
          loop = loop_of program u l unfolds c

          node_is : loop.node ≡ head.node
          node_is = one_element u.nodes l.head loop.node head.node loop.stands (ap (slice_get u.nodes) at_head ∙ head.stands)

          chain_is : x.chain ≡ loop.node.chain
          chain_is = sym head.chain_is ∙ ap (λ (y : UNode). y.chain) (sym node_is)

          head_is : loop.info.head ≡ inside_loop.head
          head_is =
              sym loop.head.head
              ∙ ap (λ (d : Block). d.start) (same_block program loop.node head.node loop.head.function head.function loop.head.block head.block node_is loop.head.is head.is) ∙ head.start

          entry_is : f.entry ≡ loop.head.function.entry
          entry_is = is.entry ∙ ap (entry_after program.start) chain_is ∙ sym loop.head.is.entry

          info : functions.IsLoop image facts f.entry (bounded_loop loop.info)
          info = subst (λ (e : ℕ). functions.IsLoop image facts e (bounded_loop loop.info)) (sym entry_is) (loop_here image facts first machine program sound.is u l loop)

          address : (a : ℕ) → Contains passed a → Contains loop.info.members a
          address a h = info.whole a (subst (λ (y : ℕ). IsMemberOf leads f.entry y a) (sym head_is) (inside_loop.members a h))

          member : Visited passed node → Contains l.members node
          member (by_block n g d stands at_n e h) = (loop.members node).1 (record { node = n; stands = stands; member = own g d at_n (e ∙ chain_is) (address d.start h) })
          member (by_call n d ds stands e h) =
              (loop.members node).1 (record { node = n; stands = stands; member = within d ds (e ∙ ap (λ (xs : List Call). xs ++ d ∷ ds) chain_is) (address d.site h) })

      is_head_number : IsHeadNumber program u.nodes head.number
      is_head_number =
          let place = function_at image facts first machine program sound.is head.node.function head.function head.is.function_stands in
          let entries : f.entry ≡ head.function.entry = is.entry ∙ ap (entry_after program.start) (sym head.chain_is) ∙ sym head.is.entry in
          let any = some_of (λ (l : BoundedLoop). l.head ≡ inside_loop.head) (map bounded_loop head.function.loops) (place.loops.whole inside_loop.head (subst (λ (e : ℕ). IsHead leads e inside_loop.head) entries inside_loop.is_head)) in
          let from = made bounded_loop head.function.loops any.place any.element any.stands in
          record {
            node = head.node;
            info = from.from;
            stands = head.stands;
            head = record {
              function = head.function;
              block = head.block;
              is = head.is;
              listed = listed head.function.loops any.place from.from from.stands;
              head = head.start ∙ sym any.holds ∙ ap (λ (l : BoundedLoop). l.head) (sym from.is);
            };
          }

    -- once around from the node, and what was passed is a closed walk of the function
    around : (node : ℕ) (walk front back : List ℕ) → IsAbove u (length x.chain) node front number → IsAbove u (length x.chain) number back node
        → ((k : ℕ) → Contains walk k → Contains front k ⊎ Contains back k) → (k : ℕ) (edge : Edge) → Contains walk k → slice_get u.edges k ≡ Some edge → LiesInLoop u walk
    around node walk front back one two parts k edge c e =
        let away = walk_on b.start number back node two begin in
        let home = walk_on b.start node front number one away.on in
        let passed = home.on.going.passed in
        let visited : (j : ℕ) (d : Edge) → Contains walk j → slice_get u.edges j ≡ Some d → Visited passed d.from = λ j d h g. elim (parts j h) [
          | inl l ↦ home.visited j d l g
          | inr r ↦ grown away.on.going.passed passed d.from home.keeps (away.visited j d r g)
        ] in
        let some = some_passed passed edge.from (visited k edge c e) in
        let closed = closed_walk leads b.start home.on.to some.0 passed (back_at passed home.on.to home.on.placed) some.1 home.on.going.way in
        let inside_loop = subst (λ (xs : List ℕ). LieInLoop leads f.entry xs) (sym closed.are) (lies closed.through closed.walk) in
        let head = home.on.going.good inside_loop.head inside_loop.among inside_loop.is_head in
        let l = some_of (λ (m : ULoop). m.head ≡ head.number) u.loops (unfolds.loops.whole head.number (is_head_number passed inside_loop head)) in
        let c_l = listed u.loops l.place l.element l.stands in
        record { loop = l.element; listed = c_l; sources = λ j d h g. found passed inside_loop head l.element c_l l.holds d.from (visited j d h g) }

  -- ---- the nodes of a walk

  record NodeAt (number : ℕ) : Type 0 where
    node : UNode
    stands : slice_get u.nodes number ≡ Some node

  record BeginsWith (from : ℕ) (walk : List ℕ) : Type 0 where
    number : ℕ
    edge : Edge
    among : Contains walk number
    stands : slice_get u.edges number ≡ Some edge
    source : NodeAt from

  edge_is : (number : ℕ) (edge : Edge) → slice_get u.edges number ≡ Some edge → IsEdge program u.nodes edge
  edge_is number edge e = all_at (λ d. IsEdge program u.nodes d) u.edges number edge unfolds.edges.each e

  begins_with : (from : ℕ) (walk : List ℕ) (to k : ℕ) → Contains walk k → IsWalkFrom u from walk to → BeginsWith from walk
  begins_with from walk to k c (walk_ends _) = absurd (none_there k c)
  begins_with from walk to k c (walk_goes number edge rest _ e w) =
      let is = edge_is number edge e in
      record { number = number; edge = edge; among = in_front number rest; stands = e; source = record { node = is.source; stands = is.from } }

  end_of : (least from : ℕ) (walk : List ℕ) (to : ℕ) → IsAbove u least from walk to → NodeAt from → NodeAt to
  end_of least from walk to (ends _ h) n = n
  end_of least from walk to (goes number edge rest _ e h w) n =
      let is = edge_is number edge e in
      end_of least edge.to rest to w (record { node = is.target; stands = is.to })

  closed_walk_lies : (node : ℕ) (walk : List ℕ) → IsWalkFrom u node walk node → (k : ℕ) → Contains walk k → LiesInLoop u walk
  closed_walk_lies node walk w k c =
      let it = least_of u node walk node w in
      let start = begins_with node walk node k c w in
      let x = end_of (depth u it.node) node it.front it.node it.first start.source in
      let is = has_block program x.node (all_at (λ n. IsReached program n) u.nodes it.node x.node unfolds.nodes.reached x.stands) in
      let deep : depth u it.node ≡ length x.node.chain = ap (λ (o : Option UNode). option_map_or (λ m. length m.chain) o 0) x.stands in
      around it.node x.node is.function is.block x.stands is.is node walk it.front it.back
      (subst (λ (d : ℕ). IsAbove u d node it.front it.node) deep it.first)
      (subst (λ (d : ℕ). IsAbove u d it.node it.back node) deep it.second) it.parts start.number start.edge start.among start.stands

pub closed_walks_lie_in_a_loop : AreKnown → ClosedWalksLieInALoop
closed_walks_lie_in_a_loop known image facts first machine program u node number walk ends_in sound unfolds w =
    closed_walk_lies known image facts first machine program u ends_in sound unfolds node (number ∷ walk) w number (in_front number walk)
