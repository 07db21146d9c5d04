-- What holds of a run in a node: kept by a move, and by an executed instruction.
use Rattle.std.proofs.Common.{◌≡◌, ℕ, suc, ◌<◌, ◌≤◌, ◌++◌, List, [], ◌∷◌, length, map, refl, sym, ap, subst, ◌∙◌, inl, inr, arith}
use Rattle.std.specs.Prelude.{◌⊎◌, All, Contains, Some}
use Rattle.std.proofs.lemmas.List.Elements.{Contains-append_right}
use Rattle.wx_base.specs.declared.facts.Facts.{Facts}
use Rattle.wx_base.specs.declared.image.Image.{Image}
use Rattle.wx_base.specs.declared.machine.Machine.{Machine}
use Rattle.wx_base.specs.Functions.{fact_on}
use Rattle.wx_base.specs.Monitor.{Frame, Watch, executed_at, frames_at, loop_at}
use Rattle.wx_base.specs.Run.{Executed}
use Rattle.flow_block.specs.Blocks.{IsBlock, IsLeader}
use Rattle.flow_block.specs.Sites.{behind}
use Rattle.flow_graph.specs.declared.program.Program.{Program}
use Rattle.flow_graph.specs.Program.{bounded_loop, judged_function}
use Rattle.flow_graph.specs.Refusals.{IsSoundProgram}
use Rattle.graph_loops.specs.Laws.{HeadsAreOnPaths, LoopsAreEnteredAtHeads}
use Rattle.run_laws.specs.Moving.{Counts}
use Rattle.run_laws.specs.Moving.Counts.{at_head as counts_at_head, elsewhere}
use Rattle.flow_laws.specs.Programs.{BlocksLieInLoops, EndsInMemory, HeadsBeginBlocks, StepsGoPast}
use Rattle.flow_ctx.specs.declared.unfolded.Call.{Call}
use Rattle.flow_ctx.specs.declared.unfolded.ULoop.{ULoop}
use Rattle.flow_ctx.specs.declared.unfolded.Unfolded.{Unfolded}
use Rattle.flow_ctx.specs.Nodes.{entry_after}
use Rattle.flow_ctx.specs.Stays.{IsWalk, StaysInLoop, Takes}
use Rattle.flow_ctx.specs.Unfolding.{IsLoop, IsUnfolding}
use Rattle.ctx_laws.specs.Following.{AreAllBackTo, IsExecutedIn, IsFrameOf, IsInStay, IsPartTo, calls_of}
use Rattle.ctx_laws.specs.Following.Follows.{executes}
use Rattle.ctx_laws.proofs.Lists.{all_in, tails}
use Rattle.ctx_laws.proofs.Walks.{followed_walks_are_walks, one_end}
use Rattle.ctx_laws.proofs.Programs.{IsFunctionAt, block_is, judged_loop, loop_is}
use Rattle.ctx_laws.proofs.Nodes.{function_of}
use Rattle.ctx_laws.proofs.Frames.{calls_executed, open_executed}
use Rattle.ctx_laws.proofs.Moves.{Crosses, HasCrossed, HasStayed, IsInside, IsMoving, arrives, inside, enters, leaves}
use Rattle.ctx_laws.proofs.Members.{loop_here}
use Rattle.ctx_laws.proofs.Counters.{IsCountedAt, counts_on, in_stay, kept}
use Rattle.ctx_laws.proofs.Totals.{totals_on}
use Rattle.ctx_laws.proofs.Bounds.{AreBounded, bounded_below, bounded_executed, bounded_moved, bounded_pushed}

-- ---- frames once an instruction was executed

pub record HasFrame (frames : List Frame) (chain : List Call) (counter : ℕ → ℕ) : Type 0 where
  pub frame : Frame
  pub of : IsFrameOf frames chain frame
  pub counters : frame.counter ≡ counter

frame_at : (frames : List Frame) (chain : List Call) (address : ℕ) (younger older : List Frame) (frame : Frame) → frames ≡ younger ++ frame ∷ older → calls_of (frame ∷ older) ≡ chain → HasFrame (frames_at frames address) chain frame.counter
frame_at frames chain address [] older frame e calls = record {
  frame = record frame { last = Some address };
  of = record { younger = []; older = older; are = ap (λ (fs : List Frame). frames_at fs address) e; calls = calls_executed (frame ∷ older) address ∙ calls };
  counters = refl;
}
frame_at frames chain address (y ∷ ys) older frame e calls = record {
  frame = frame;
  of = record { younger = record y { last = Some address } ∷ ys; older = older; are = ap (λ (fs : List Frame). frames_at fs address) e; calls = calls };
  counters = refl;
}

-- ---- parts of a walk

part_of : {u : Unfolded} (walk_after walk earlier : List ℕ) (node : ℕ) → walk_after ≡ walk → IsPartTo u walk_after earlier node → IsPartTo u walk earlier node
part_of walk_after walk earlier node e part = record { later = part.later; are = sym e ∙ part.are; leads = part.leads }

-- a part of a longer walk is all of it, or one of the walk before
cases_of : (u : Unfolded) (number : ℕ) (walk_after walk earlier later : List ℕ) (node : ℕ) → walk_after ≡ number ∷ walk → walk_after ≡ later ++ earlier → IsWalk u earlier node → (walk_after ≡ earlier) ⊎ IsPartTo u walk earlier node
cases_of u number walk_after walk earlier [] node e are leads = inl are
cases_of u number walk_after walk earlier (x ∷ later) node e are leads = inr (record { later = later; are = tails number x walk (later ++ earlier) (sym e ∙ are); leads = leads })

part_cases : {u : Unfolded} (number : ℕ) (walk_after walk earlier : List ℕ) (node : ℕ) → walk_after ≡ number ∷ walk → IsPartTo u walk_after earlier node → (walk_after ≡ earlier) ⊎ IsPartTo u walk earlier node
part_cases {u} number walk_after walk earlier node e part = cases_of u number walk_after walk earlier part.later node e part.are part.leads

module _ (image : Image) (facts : Facts) (start : ℕ) (machine : Machine) (program : Program) (sound : IsSoundProgram image facts start machine program)
    (u : Unfolded) (unfolds : IsUnfolding program u) where
  abbrev Inside : List Executed → List Frame → List ℕ → ℕ → ℕ → Type 0
  Inside executed frames walk number index = IsInside image facts start machine program sound.is u unfolds executed frames walk number index

  -- what is kept, with the walk and the node
  pub record HoldsAt (executed : List Executed) (watch : Watch) (walk : List ℕ) (number index : ℕ) : Type 0 where
    pub in_node : Inside executed watch.frames walk number index
    pub stays : (l : ULoop) → IsLoop program u.nodes u.edges l → Contains l.members number → IsInStay u l walk
    pub counts : (l : ULoop) (loop : IsLoop program u.nodes u.edges l) (since : List ℕ) (count : ℕ) → StaysInLoop u l walk since count
        → IsCountedAt image facts start machine program sound u unfolds l loop watch.frames count
    pub totals : (address : ℕ) (edges : List ℕ) → AreAllBackTo u address edges → (count : ℕ) → Takes edges walk count → watch.totals address ≡ count
    pub bounded : AreBounded facts watch.frames watch.totals
    pub stayed_before : (l : ULoop) (loop : IsLoop program u.nodes u.edges l) (earlier : List ℕ) (node : ℕ) → IsPartTo u walk earlier node → Contains l.members node → IsInStay u l earlier
    pub bounded_before : (l : ULoop) (loop : IsLoop program u.nodes u.edges l) (earlier since : List ℕ) (node count : ℕ) → IsPartTo u walk earlier node → StaysInLoop u l earlier since count
        → count ≤ l.maxcount

  -- what is counted in a stay is within the loop's bound
  pub most_in : (l : ULoop) (loop : IsLoop program u.nodes u.edges l) (frames : List Frame) (totals : ℕ → ℕ) (count : ℕ) → AreBounded facts frames totals
      → IsCountedAt image facts start machine program sound u unfolds l loop frames count → count ≤ l.maxcount
  most_in l loop frames totals count b is =
      let P : Frame → Type 0 = λ f. f.counter loop.info.head ≤ loop.info.maxcount in
      let fact = (loop_here image facts start machine program sound u unfolds l loop).bounds in
      let all : All P frames = b.counters loop.info.head (fact_on (bounded_loop loop.info)) fact in
      let there : Contains frames is.frame =
      subst (λ (fs : List Frame). Contains fs is.frame) (sym is.of.are) (Contains-append_right is.of.younger (is.frame ∷ is.of.older) is.frame (0, omega arith, refl)) in
      let most : is.frame.counter loop.info.head ≤ loop.info.maxcount = all_in P frames is.frame all there in
      omega (arith, most, is.counter, loop.maxcount)

  -- ---- an executed instruction

  pub executed_holds : (i : Executed) (executed : List Executed) (watch : Watch) (walk : List ℕ) (number index : ℕ) → HoldsAt executed watch walk number index → IsExecutedIn u number index i
      → HoldsAt (i ∷ executed) (executed_at watch i.address) walk number (suc index)
  executed_holds i executed watch walk number index h is = record {
    in_node = record {
      node = h.in_node.node;
      function = h.in_node.function;
      block = h.in_node.block;
      at = h.in_node.at;
      chain = calls_executed watch.frames i.address ∙ h.in_node.chain;
      follows = executes i executed walk number index h.in_node.follows is;
      are_open = open_executed image start watch.frames i.address h.in_node.are_open;
    };
    stays = h.stays;
    counts = λ l loop since count s.
        let was = h.counts l loop since count s in
        let now = frame_at watch.frames loop.node.chain i.address was.of.younger was.of.older was.frame was.of.are was.of.calls in
        record { frame = now.frame; of = now.of; counter = ap (λ (c : ℕ → ℕ). c loop.info.head) now.counters ∙ was.counter };
    totals = h.totals;
    bounded = bounded_executed facts watch.frames watch.totals i.address h.bounded;
    stayed_before = h.stayed_before;
    bounded_before = h.bounded_before;
  }

  -- ---- a move

  module _ (paths_law : HeadsAreOnPaths) (edges_law : LoopsAreEnteredAtHeads) (blocks_law : BlocksLieInLoops) (heads_law : HeadsBeginBlocks) (past : StepsGoPast) (ends : EndsInMemory image)
      (i : Executed) (executed : List Executed) (before after : Watch) (to : ℕ) (mv : IsMoving image facts start machine program sound.is u unfolds i executed before after to)
      (walk : List ℕ) (number j : ℕ) (h : HoldsAt (i ∷ executed) before walk number (suc j)) where
    function_old : IsFunctionAt image facts start machine program sound.is h.in_node.node.function h.in_node.function
    function_old = function_of image facts start machine program sound.is u unfolds number h.in_node.node h.in_node.function h.in_node.block h.in_node.at

    block_old : IsBlock image facts machine h.in_node.function.entry h.in_node.block
    block_old =
        block_is image facts start machine program sound.is h.in_node.node.function h.in_node.function h.in_node.node.block h.in_node.block function_old h.in_node.at.is.block_stands

    -- ---- on in the block

    module _ (walk_after : List ℕ) (number_after : ℕ) (index : ℕ) (s : HasStayed image facts start machine program sound.is u unfolds before after walk number index h.in_node.function h.in_node.block walk_after number_after to) where
      -- no head stands inside a block
      no_leader : IsLeader image facts h.in_node.function.entry to → ⊥
      no_leader k = block_old.count.unentered index s.later s.within (subst (λ a. IsLeader image facts h.in_node.function.entry a) s.index_is k)

      stayed_counts : (l : ULoop) (loop : IsLoop program u.nodes u.edges l) (count : ℕ) → IsCountedAt image facts start machine program sound u unfolds l loop before.frames count
          → IsCountedAt image facts start machine program sound u unfolds l loop after.frames count
      stayed_counts l loop count was =
          kept image facts start machine program sound u unfolds l loop before.frames before.totals after h.in_node.function s.from to h.in_node.node.function s.moved function_old count
          (λ calls at.
          let home : loop.head.function.entry ≡ h.in_node.function.entry =
          loop.head.is.entry ∙ ap (entry_after program.start) (sym calls ∙ h.in_node.chain) ∙ sym h.in_node.at.is.entry in
          let is = loop_here image facts start machine program sound u unfolds l loop in
          let leader = heads_law image facts loop.head.function.entry loop.info.head ends is.head in
          no_leader (subst (λ a. IsLeader image facts h.in_node.function.entry a) (sym at) (subst (λ x. IsLeader image facts x loop.info.head) home leader)))
          was

      stayed_totals : after.totals ≡ before.totals
      stayed_totals = by s.moved.move.counter after.totals s.moved.move.counts
        where
          by : (counter totals_after : ℕ → ℕ) → Counts (map judged_function program.functions) s.moved.move.youngest to before.totals counter totals_after → totals_after ≡ before.totals
          by counter totals_after (counts_at_head bl found counter_is few totals_is in_total) =
              let info = judged_loop image facts start machine program sound.is h.in_node.node.function h.in_node.function to bl function_old
              (ap (λ x. loop_at (map judged_function program.functions) x to) (sym s.moved.function) ∙ found) in
              let is = loop_is image facts start machine program sound.is h.in_node.node.function h.in_node.function info.info function_old info.listed in
              absurd (no_leader (subst (λ a. IsLeader image facts h.in_node.function.entry a) info.head_is (heads_law image facts h.in_node.function.entry info.info.head ends is.head)))
          by counter totals_after (elsewhere none counter_is totals_is) = totals_is

      stayed : (index_after : ℕ) → Inside (i ∷ executed) after.frames walk_after number_after index_after → HoldsAt (i ∷ executed) after walk_after number_after index_after
      stayed index_after new = record {
        in_node = new;
        stays = λ l loop k. subst (λ w. IsInStay u l w) (sym s.walk_is) (h.stays l loop (subst (λ x. Contains l.members x) s.number_is k));
        counts = λ l loop since count k. stayed_counts l loop count (h.counts l loop since count (subst (λ w. StaysInLoop u l w since count) s.walk_is k));
        totals = λ address edges all count k. ap (λ (t : ℕ → ℕ). t address) stayed_totals ∙ h.totals address edges all count (subst (λ w. Takes edges w count) s.walk_is k);
        bounded = bounded_moved image facts start machine program sound.is before.frames before.totals to after s.moved.move h.in_node.node.function h.in_node.function function_old s.moved.function h.bounded;
        stayed_before = λ l loop earlier node part k. h.stayed_before l loop earlier node (part_of walk_after walk earlier node s.walk_is part) k;
        bounded_before = λ l loop earlier since node count part k. h.bounded_before l loop earlier since node count (part_of walk_after walk earlier node s.walk_is part) k;
      }

    -- ---- along an edge

    module _ (walk_after : List ℕ) (number_after index_after : ℕ) (new : Inside (i ∷ executed) after.frames walk_after number_after index_after) (begins : new.block.start ≡ to)
        (x : HasCrossed image facts start machine program sound.is u unfolds before after walk number h.in_node.node h.in_node.block walk_after number_after new.node new.function to) where
      place_new : IsFunctionAt image facts start machine program sound.is new.node.function new.function
      place_new = function_of image facts start machine program sound.is u unfolds number_after new.node new.function new.block new.at

      bounded_by : Crosses image facts start machine program sound.is u unfolds before after h.in_node.node h.in_node.block new.node new.function to → AreBounded facts after.frames after.totals
      bounded_by (inside chain m) = bounded_moved image facts start machine program sound.is before.frames before.totals to after m.move new.node.function new.function place_new m.function h.bounded
      bounded_by (enters chain entry frames totals) =
          subst (λ (t : ℕ → ℕ). AreBounded facts after.frames t) (sym totals) (subst (λ (fs : List Frame). AreBounded facts fs before.totals) (sym frames) (bounded_pushed facts before.frames before.totals to h.bounded))
      bounded_by (leaves site entry frame others chain frames m) =
          bounded_moved image facts start machine program sound.is others before.totals to after m.move new.node.function new.function place_new m.function
          (bounded_below facts frame others before.totals (subst (λ (fs : List Frame). AreBounded facts fs before.totals) frames h.bounded))

      stays_now : (l : ULoop) (loop : IsLoop program u.nodes u.edges l) → Contains l.members number_after → IsInStay u l walk_after
      stays_now l loop k =
          subst (λ w. IsInStay u l w) (sym x.walk_is)
          (in_stay image facts start machine program sound u unfolds l loop paths_law edges_law blocks_law ends before after walk number h.in_node.node h.in_node.function h.in_node.block number_after new.node new.function
          new.block to h.in_node.at new.at h.in_node.chain new.chain begins x.edge_number x.edge x.stands x.from x.to_is x.crosses (h.stays l loop) k)

      counts_now : (l : ULoop) (loop : IsLoop program u.nodes u.edges l) (since : List ℕ) (count : ℕ) → StaysInLoop u l walk_after since count → IsCountedAt image facts start machine program sound u unfolds l loop after.frames count
      counts_now l loop since count k =
          counts_on image facts start machine program sound u unfolds l loop paths_law edges_law blocks_law ends before after walk number h.in_node.node h.in_node.function h.in_node.block number_after new.node new.function
          new.block to h.in_node.at new.at h.in_node.chain new.chain begins x.edge_number x.edge x.stands x.from x.to_is x.crosses (h.counts l loop) since count
          (subst (λ w. StaysInLoop u l w since count) x.walk_is k)

      crossed : HoldsAt (i ∷ executed) after walk_after number_after index_after
      crossed = record {
        in_node = new;
        stays = stays_now;
        counts = counts_now;
        totals = λ address edges all count k.
            totals_on image facts start machine program sound u unfolds paths_law edges_law blocks_law ends before after walk number h.in_node.node h.in_node.function h.in_node.block number_after new.node new.function
            new.block to h.in_node.at new.at begins x.edge_number x.edge x.stands x.from x.to_is x.crosses address edges all (h.totals address edges all) count
            (subst (λ w. Takes edges w count) x.walk_is k);
        bounded = bounded_by x.crosses;
        stayed_before = λ l loop earlier node part k. elim (part_cases x.edge_number walk_after walk earlier node x.walk_is part) [
          | inl whole ↦
              let is_walk = followed_walks_are_walks u (i ∷ executed) walk_after number_after index_after new.follows in
              let same : node ≡ number_after = one_end u earlier node number_after part.leads (subst (λ w. IsWalk u w number_after) whole is_walk) in
              subst (λ w. IsInStay u l w) whole (stays_now l loop (subst (λ a. Contains l.members a) same k))
          | inr rest ↦ h.stayed_before l loop earlier node rest k
        ];
        bounded_before = λ l loop earlier since node count part k. elim (part_cases x.edge_number walk_after walk earlier node x.walk_is part) [
          | inl whole ↦ most_in l loop after.frames after.totals count (bounded_by x.crosses) (counts_now l loop since count (subst (λ w. StaysInLoop u l w since count) (sym whole) k))
          | inr rest ↦ h.bounded_before l loop earlier since node count rest k
        ];
      }

    -- the run is at the place of its next instruction
    pub record IsThere : Type 0 where
      pub walk_after : List ℕ
      pub number_after : ℕ
      pub index_after : ℕ
      pub holds : HoldsAt (i ∷ executed) after walk_after number_after index_after
      pub within : index_after < length holds.in_node.block.insns
      pub place : to ≡ behind holds.in_node.block.start index_after

    pub is_there : IsThere
    unfolding stayed crossed
    is_there =
        let a = arrives image facts start machine program sound.is u unfolds past i executed before after to mv walk number j h.in_node in
        elim a.how [
          | inl s ↦ record {
            walk_after = a.walk_after;
            number_after = a.number_after;
            index_after = a.index_after;
            holds = stayed a.walk_after a.number_after (suc j) s a.index_after a.new;
            within = a.within;
            place = a.place;
          }
          | inr x ↦ record {
            walk_after = a.walk_after;
            number_after = a.number_after;
            index_after = a.index_after;
            holds = crossed a.walk_after a.number_after a.index_after a.new x.1 x.0;
            within = a.within;
            place = a.place;
          }
        ]
