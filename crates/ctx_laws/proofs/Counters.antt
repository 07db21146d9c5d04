-- What a move counts in the frame of a loop's head, and that members are entered through the head.
use Rattle.wx_base.specs.Paths.{Path}
use Rattle.std.proofs.Common.{◌≡◌, ℕ, ◌+◌, ◌++◌, ◌↔◌, true, false, cond, List, [], ◌∷◌, map, slice_get, refl, sym, ap, subst, ◌∙◌, inl, inr, append_assoc}
use Rattle.std.specs.Prelude.{Contains, Option, Some}
use Rattle.std.specs.Option.{option_map_or}
use Rattle.std.proofs.lemmas.Bool.{cases_eq, eq-eqb, ne_eqb}
use Rattle.wx_base.specs.declared.facts.Facts.{Facts}
use Rattle.wx_base.specs.declared.image.Image.{Image}
use Rattle.wx_base.specs.declared.machine.Machine.{Machine}
use Rattle.wx_base.specs.Functions.{ways_at}
use Rattle.wx_base.specs.Monitor as monitor
use Rattle.wx_base.specs.Monitor.{BoundedLoop, Frame, Watch, count_into, goes_back, is_one_of, loop_at, opened, total_into}
use Rattle.wx_base.specs.State.{replaced}
use Rattle.flow_block.specs.declared.block.Block.{Block}
use Rattle.flow_graph.specs.declared.program.Function.{Function}
use Rattle.flow_graph.specs.declared.program.Program.{Program}
use Rattle.flow_graph.specs.Program.{bounded_loop, judged_function}
use Rattle.flow_graph.specs.Refusals.{IsSoundProgram}
use Rattle.graph_loops.specs.Laws.{HeadsAreOnPaths, LoopsAreEnteredAtHeads}
use Rattle.run_laws.specs.Moving.{Counts, MovesYoungest}
use Rattle.run_laws.specs.Moving.Counts.{at_head as counts_at_head, elsewhere}
use Rattle.flow_laws.specs.Programs.{BlocksLieInLoops, EndsInMemory}
use Rattle.flow_ctx.specs.declared.unfolded.Call.{Call}
use Rattle.flow_ctx.specs.declared.unfolded.Edge.{Edge}
use Rattle.flow_ctx.specs.declared.unfolded.ULoop.{ULoop}
use Rattle.flow_ctx.specs.declared.unfolded.UNode.{UNode}
use Rattle.flow_ctx.specs.declared.unfolded.Unfolded.{Unfolded}
use Rattle.flow_ctx.specs.Nodes.{last_address, entry_after}
use Rattle.flow_ctx.specs.Stays.{StaysInLoop}
use Rattle.flow_ctx.specs.Stays.StaysInLoop.{enters as stay_enters, repeats, moves as stay_moves}
use Rattle.flow_ctx.specs.Unfolding.{IsLoop, IsUnfolding}
use Rattle.ctx_laws.specs.Following.{IsFrameOf, IsInStay, calls_of}
use Rattle.ctx_laws.proofs.Lists.{EndsWith, ends_with, first, later, not_longer, one_element}
use Rattle.ctx_laws.proofs.Programs.{IsFunctionAt, IsInfoOf, judged_loop, no_loop, one_loop}
use Rattle.ctx_laws.proofs.Nodes.{IsNodeAt, function_of}
use Rattle.ctx_laws.proofs.Frames.{calls_counted, counted, frame_cases, frame_pushed, frame_top}
use Rattle.ctx_laws.proofs.Moves.{Crosses, MovesIn, inside, enters, leaves}
use Rattle.ctx_laws.proofs.Members.{IsHeadNode, IsIn, as_own, as_within, at_head, back_source, decided, entry_in, function_head, in_within, is_head, is_in, no_shorter, none_of, one_of, own_source, way_in}

pub put_there : (values : ℕ → ℕ) (at value : ℕ) → replaced values at value at ≡ value
put_there values at value = ap (λ b. cond b value (values at)) (eq-eqb at at refl)

pub put_elsewhere : (values : ℕ → ℕ) (at value k : ℕ) → (k ≡ at → ⊥) → replaced values at value k ≡ values k
put_elsewhere values at value k other = ap (λ b. cond b value (values k)) (ne_eqb k at other)

module _ (image : Image) (facts : Facts) (start : ℕ) (machine : Machine) (program : Program) (sound : IsSoundProgram image facts start machine program)
    (u : Unfolded) (unfolds : IsUnfolding program u) (l : ULoop) (loop : IsLoop program u.nodes u.edges l) where
  abbrev NodeAt : ℕ → UNode → Function → Block → Type 0
  NodeAt number node f b = IsNodeAt image facts start machine program sound.is u unfolds number node f b

  abbrev Moves : List Frame → (ℕ → ℕ) → Watch → Function → ℕ → ℕ → Type 0
  Moves frames totals after g from to = MovesIn image facts start machine program sound.is u unfolds frames totals after g from to

  abbrev judging : List monitor.Function
  judging = map judged_function program.functions

  -- the counter for the head's address in the frame of the head's chain
  pub record IsCountedAt (frames : List Frame) (count : ℕ) : Type 0 where
    pub frame : Frame
    pub of : IsFrameOf frames loop.node.chain frame
    pub counter : frame.counter loop.info.head ≡ count

  -- ---- what a move to the head counts, and one elsewhere

  pub back_is : (frame : Frame) (a : ℕ) → frame.last ≡ Some a → goes_back (bounded_loop loop.info) frame ≡ is_one_of loop.info.members a
  back_is frame a e = ap (λ (o : Option ℕ). option_map_or (is_one_of loop.info.members) o false) e

  pub record IsAtHead (frames : List Frame) (totals : ℕ → ℕ) (after : Watch) (to : ℕ) (move : MovesYoungest judging frames totals to after) : Type 0 where
    pub counter : move.counter loop.info.head ≡ count_into (bounded_loop loop.info) move.youngest
    pub totals_are : after.totals ≡ replaced totals loop.info.head (total_into (bounded_loop loop.info) move.youngest totals)

  module _ (frames : List Frame) (totals : ℕ → ℕ) (after : Watch) (g : Function) (from to place : ℕ) (mv : Moves frames totals after g from to)
      (function : IsFunctionAt image facts start machine program sound.is place g) where
    info_of : (bl : BoundedLoop) → loop_at judging mv.move.youngest.function to ≡ Some bl → IsInfoOf image facts start machine program sound.is g bl to
    info_of bl e = judged_loop image facts start machine program sound.is place g to bl function (ap (λ a. loop_at judging a to) (sym mv.function) ∙ e)

    pub to_head : g ≡ loop.head.function → to ≡ loop.info.head → IsAtHead frames totals after to mv.move
    to_head same at = by mv.move.counter after.totals mv.move.counts refl refl
      where
        by : (counter totals_after : ℕ → ℕ) → Counts judging mv.move.youngest to totals counter totals_after → counter ≡ mv.move.counter → totals_after ≡ after.totals → IsAtHead frames totals after to mv.move
        by counter totals_after (counts_at_head bl found counter_is few totals_is in_total) e f =
            let info = info_of bl found in
            let listed = subst (λ (h : Function). Contains h.loops info.info) same info.listed in
            let one = one_loop image facts start machine program sound.is loop.node.function loop.head.function info.info loop.info
            (function_head image facts start machine program sound u unfolds l loop) listed loop.head.listed (info.head_is ∙ at) in
            let it : bl ≡ bounded_loop loop.info = sym info.is ∙ ap bounded_loop one in
            record {
              counter = ap (λ (h : ℕ → ℕ). h loop.info.head) (sym e ∙ counter_is ∙ ap (λ (x : BoundedLoop). replaced mv.move.youngest.counter x.head (count_into x mv.move.youngest)) it)
                  ∙ put_there mv.move.youngest.counter loop.info.head (count_into (bounded_loop loop.info) mv.move.youngest);
              totals_are = sym f ∙ totals_is ∙ ap (λ (x : BoundedLoop). replaced totals x.head (total_into x mv.move.youngest totals)) it;
            }
        by counter totals_after (elsewhere none counter_is totals_is) e f =
            absurd (no_loop image facts start machine program sound.is place g to loop.info function (ap (λ a. loop_at judging a to) (sym mv.function) ∙ none)
            (subst (λ (h : Function). Contains h.loops loop.info) (sym same) loop.head.listed) (sym at))

    pub to_elsewhere : (to ≡ loop.info.head → ⊥) → mv.move.counter loop.info.head ≡ mv.move.youngest.counter loop.info.head
    to_elsewhere other = by mv.move.counter after.totals mv.move.counts refl
      where
        by : (counter totals_after : ℕ → ℕ) → Counts judging mv.move.youngest to totals counter totals_after → counter ≡ mv.move.counter → mv.move.counter loop.info.head ≡ mv.move.youngest.counter loop.info.head
        by counter totals_after (counts_at_head bl found counter_is few totals_is in_total) e =
            let info = info_of bl found in
            let at : bl.head ≡ to = ap (λ (x : BoundedLoop). x.head) (sym info.is) ∙ info.head_is in
            ap (λ (h : ℕ → ℕ). h loop.info.head) (sym e ∙ counter_is)
            ∙ put_elsewhere mv.move.youngest.counter bl.head (count_into bl mv.move.youngest) loop.info.head (λ k. other (sym at ∙ sym k))
        by counter totals_after (elsewhere none counter_is totals_is) e = ap (λ (h : ℕ → ℕ). h loop.info.head) (sym e ∙ counter_is)

    -- a frame of the head's chain among those before keeps its counter, unless the move is one to the head
    pub kept : (count : ℕ) → (calls_of frames ≡ loop.node.chain → to ≡ loop.info.head → ⊥) → IsCountedAt frames count → IsCountedAt after.frames count
    kept count other before = elim (frame_cases frames loop.node.chain mv.move.youngest mv.move.callers mv.move.were before.frame before.of) [
      | inl top ↦ record {
        frame = counted mv.move.youngest mv.move.counter;
        of = record { younger = []; older = mv.move.callers; are = mv.move.are; calls = calls_counted mv.move.youngest mv.move.counter mv.move.callers ∙ ap calls_of (sym mv.move.were) ∙ top.1 };
        counter = to_elsewhere (other top.1) ∙ ap (λ (f : Frame). f.counter loop.info.head) (sym top.0) ∙ before.counter;
      }
      | inr below ↦ record {
        frame = before.frame;
        of = subst (λ (fs : List Frame). IsFrameOf fs loop.node.chain before.frame) (sym mv.move.are) (frame_pushed mv.move.callers loop.node.chain before.frame (counted mv.move.youngest mv.move.counter) below);
        counter = before.counter;
      }
    ]

    -- the frame that moved is that of the head's chain
    head_frame : (count : ℕ) → calls_of after.frames ≡ loop.node.chain → mv.move.counter loop.info.head ≡ count → IsCountedAt after.frames count
    head_frame count chain e = record {
      frame = counted mv.move.youngest mv.move.counter;
      of = record { younger = []; older = mv.move.callers; are = mv.move.are; calls = ap calls_of (sym mv.move.are) ∙ chain };
      counter = e;
    }

    pub from_elsewhere : g ≡ loop.head.function → to ≡ loop.info.head → calls_of after.frames ≡ loop.node.chain → (Contains loop.info.members from → ⊥) → IsCountedAt after.frames 0
    from_elsewhere same at chain none =
        let back : goes_back (bounded_loop loop.info) mv.move.youngest ≡ false = back_is mv.move.youngest from mv.last ∙ none_of loop.info.members from none in
        head_frame 0 chain ((to_head same at).counter ∙ ap (λ b. cond b (mv.move.youngest.counter loop.info.head + 1) 0) back)

    pub from_member : (count : ℕ) → g ≡ loop.head.function → to ≡ loop.info.head → calls_of after.frames ≡ loop.node.chain → Contains loop.info.members from → IsCountedAt frames count → IsCountedAt after.frames (count + 1)
    from_member count same at chain listed before =
        let back : goes_back (bounded_loop loop.info) mv.move.youngest ≡ true = back_is mv.move.youngest from mv.last ∙ one_of loop.info.members from listed in
        let chain_before : calls_of frames ≡ loop.node.chain = ap calls_of mv.move.were ∙ sym (calls_counted mv.move.youngest mv.move.counter mv.move.callers) ∙ ap calls_of (sym mv.move.are) ∙ chain in
        let frame = frame_top frames loop.node.chain mv.move.youngest mv.move.callers mv.move.were before.frame before.of chain_before in
        let was : mv.move.youngest.counter loop.info.head ≡ count = ap (λ (f : Frame). f.counter loop.info.head) (sym frame) ∙ before.counter in
        head_frame (count + 1) chain ((to_head same at).counter ∙ ap (λ b. cond b (mv.move.youngest.counter loop.info.head + 1) 0) back ∙ ap (λ k. k + 1) was)

  -- ---- along an edge

  module _ (paths_law : HeadsAreOnPaths) (edges_law : LoopsAreEnteredAtHeads) (blocks_law : BlocksLieInLoops) (ends : EndsInMemory image)
      (before after : Watch) (walk : List ℕ) (from : ℕ) (n : UNode) (f : Function) (b : Block) (number : ℕ) (m : UNode) (g : Function) (c : Block) (to : ℕ)
      (at_n : NodeAt from n f b) (at_m : NodeAt number m g c) (old_chain : calls_of before.frames ≡ n.chain) (new_chain : calls_of after.frames ≡ m.chain) (begins : c.start ≡ to)
      (e : ℕ) (edge : Edge) (stands : slice_get u.edges e ≡ Some edge) (from_is : edge.from ≡ from) (to_is : edge.to ≡ number)
      (crosses : Crosses image facts start machine program sound.is u unfolds before after n b m g to) where
    place_m : IsFunctionAt image facts start machine program sound.is m.function g
    place_m = function_of image facts start machine program sound.is u unfolds number m g c at_m

    head_of : number ≡ l.head → IsHeadNode image facts start machine program sound u unfolds l loop m g c
    head_of h = is_head image facts start machine program sound u unfolds l loop number m g c at_m h

    own_source_here : n.chain ≡ loop.node.chain → Contains l.members from ↔ Contains loop.info.members (last_address b)
    own_source_here chain = own_source image facts start machine program sound u unfolds l loop paths_law edges_law blocks_law ends from n f b at_n chain

    back_source_here : (call : Call) → n.chain ≡ loop.node.chain ++ call ∷ [] → Contains l.members from ↔ Contains loop.info.members call.site
    back_source_here call chain = back_source image facts start machine program sound u unfolds l loop paths_law edges_law blocks_law ends from n f b call at_n chain

    -- into the head from elsewhere
    entered : number ≡ l.head → (Contains l.members from → ⊥) → IsCountedAt after.frames 0
    entered h outside = by crosses
      where
        node : IsHeadNode image facts start machine program sound u unfolds l loop m g c
        node = head_of h

        by : Crosses image facts start machine program sound.is u unfolds before after n b m g to → IsCountedAt after.frames 0
        by (inside chain mv) =
            from_elsewhere before.frames before.totals after g (last_address b) to m.function mv place_m node.function (sym begins ∙ node.start_is) (new_chain ∙ node.chain)
            (λ k. outside ((own_source_here (sym chain ∙ node.chain)).1 k))
        by (enters chain entry frames totals) = record {
          frame = opened to;
          of = record { younger = []; older = before.frames; are = frames; calls = ap calls_of (sym frames) ∙ new_chain ∙ node.chain };
          counter = refl;
        }
        by (leaves site entry frame others chain frames mv) =
            from_elsewhere others before.totals after g site to m.function mv place_m node.function (sym begins ∙ node.start_is) (new_chain ∙ node.chain)
            (λ k. outside ((back_source_here (record { site = site; entry = entry }) (chain ∙ ap (λ (x : List Call). x ++ record { site = site; entry = entry } ∷ []) node.chain)).1 k))

    -- the frame of the head's chain is one of the callers of a function that returns to a member
    below : (count site entry : ℕ) (frame : Frame) (others : List Frame) → n.chain ≡ m.chain ++ record { site = site; entry = entry } ∷ [] → before.frames ≡ frame ∷ others
        → IsIn image facts start machine program sound u unfolds l loop m c → IsCountedAt before.frames count → IsCountedAt others count
    below count site entry frame others chain frames member old = elim (frame_cases before.frames loop.node.chain frame others frames old.frame old.of) [
      | inl top ↦ absurd (no_shorter image facts start machine program sound u unfolds l loop m c (record { site = site; entry = entry }) (sym chain ∙ sym old_chain ∙ top.1) member)
      | inr rest ↦ record { frame = old.frame; of = rest; counter = old.counter }
    ]

    member_m : Contains l.members number → IsIn image facts start machine program sound u unfolds l loop m c
    member_m k = is_in image facts start machine program sound u unfolds l loop number m g c at_m k

    -- into the head from a member
    repeated : (count : ℕ) → number ≡ l.head → Contains l.members from → IsCountedAt before.frames count → IsCountedAt after.frames (count + 1)
    repeated count h member old = by crosses
      where
        node : IsHeadNode image facts start machine program sound u unfolds l loop m g c
        node = head_of h

        source : IsIn image facts start machine program sound u unfolds l loop n b
        source = is_in image facts start machine program sound u unfolds l loop from n f b at_n member

        by : Crosses image facts start machine program sound.is u unfolds before after n b m g to → IsCountedAt after.frames (count + 1)
        by (inside chain mv) =
            from_member before.frames before.totals after g (last_address b) to m.function mv place_m count node.function (sym begins ∙ node.start_is) (new_chain ∙ node.chain)
            ((own_source_here (sym chain ∙ node.chain)).0 member) old
        by (enters chain entry frames totals) =
            absurd (no_shorter image facts start machine program sound u unfolds l loop n b (record { site = last_address b; entry = to }) (sym chain ∙ node.chain) source)
        by (leaves site entry frame others chain frames mv) =
            let call : Call = record { site = site; entry = entry } in
            let longer : n.chain ≡ loop.node.chain ++ call ∷ [] = chain ∙ ap (λ (x : List Call). x ++ call ∷ []) node.chain in
            let listed = (back_source_here call longer).0 member in
            let rest : IsCountedAt others count = elim (frame_cases before.frames loop.node.chain frame others frames old.frame old.of) [
              | inl top ↦ absurd (not_longer loop.node.chain call [] (sym top.1 ∙ old_chain ∙ longer))
              | inr below ↦ record { frame = old.frame; of = below; counter = old.counter }
            ] in
            from_member others before.totals after g site to m.function mv place_m count node.function (sym begins ∙ node.start_is) (new_chain ∙ node.chain) listed rest

    -- to another member
    moved : (count : ℕ) → (number ≡ l.head → ⊥) → Contains l.members number → IsCountedAt before.frames count → IsCountedAt after.frames count
    moved count other member old = by crosses
      where
        no_head : (frames : List Frame) → calls_of frames ≡ m.chain → calls_of frames ≡ loop.node.chain → to ≡ loop.info.head → ⊥
        no_head frames mine its at = other (at_head image facts start machine program sound u unfolds l loop number m g c at_m (sym mine ∙ its) (begins ∙ at))

        by : Crosses image facts start machine program sound.is u unfolds before after n b m g to → IsCountedAt after.frames count
        by (inside chain mv) = kept before.frames before.totals after g (last_address b) to m.function mv place_m count (no_head before.frames (old_chain ∙ sym chain)) old
        by (enters chain entry frames totals) = record {
          frame = old.frame;
          of = subst (λ (fs : List Frame). IsFrameOf fs loop.node.chain old.frame) (sym frames) (frame_pushed before.frames loop.node.chain old.frame (opened to) old.of);
          counter = old.counter;
        }
        by (leaves site entry frame others chain frames mv) =
            kept others before.totals after g site to m.function mv place_m count
            (no_head others (ap calls_of mv.move.were ∙ sym (calls_counted mv.move.youngest mv.move.counter mv.move.callers) ∙ ap calls_of (sym mv.move.are) ∙ new_chain))
            (below count site entry frame others chain frames (member_m member) old)

    -- in each stay behind the edge
    pub counts_on : ((since : List ℕ) (count : ℕ) → StaysInLoop u l walk since count → IsCountedAt before.frames count)
        → (since : List ℕ) (count : ℕ) → StaysInLoop u l (e ∷ walk) since count → IsCountedAt after.frames count
    counts_on old since count (stay_enters _ _ listed) =
        let is = (loop.entries e).0 listed in
        let same : is.edge ≡ edge = one_element u.edges e is.edge edge is.stands stands in
        entered (sym to_is ∙ ap (λ (x : Edge). x.to) (sym same) ∙ is.into) (λ k. is.outside (subst (λ a. Contains l.members a) (sym (ap (λ (x : Edge). x.from) same ∙ from_is)) k))
    counts_on old since count (repeats _ _ _ before_count stays listed) =
        let is = (loop.back e).0 listed in
        let same : is.edge ≡ edge = one_element u.edges e is.edge edge is.stands stands in
        repeated before_count (sym to_is ∙ ap (λ (x : Edge). x.to) (sym same) ∙ is.into) (subst (λ a. Contains l.members a) (ap (λ (x : Edge). x.from) same ∙ from_is) is.inside) (old since before_count stays)
    counts_on old since count (stay_moves _ taken_edge _ _ _ stays taken_stands other member) =
        let same : taken_edge ≡ edge = one_element u.edges e taken_edge edge taken_stands stands in
        let there : taken_edge.to ≡ number = ap (λ (x : Edge). x.to) same ∙ to_is in
        moved count (λ h. other (there ∙ h)) (subst (λ a. Contains l.members a) there member) (old since count stays)

    -- ---- members are entered through the head

    source_in : (number ≡ l.head → ⊥) → IsIn image facts start machine program sound u unfolds l loop m c → Contains l.members from
    source_in other member = by crosses member
      where
        not_at : m.chain ≡ loop.node.chain → to ≡ loop.info.head → ⊥
        not_at chain at = other (at_head image facts start machine program sound u unfolds l loop number m g c at_m chain (begins ∙ at))

        home_is : m.chain ≡ loop.node.chain → g.entry ≡ loop.head.function.entry
        home_is chain = at_m.is.entry ∙ ap (entry_after program.start) chain ∙ sym loop.head.is.entry

        listed_to : Contains loop.info.members c.start → Contains loop.info.members to
        listed_to k = subst (λ a. Contains loop.info.members a) begins k

        by : Crosses image facts start machine program sound.is u unfolds before after n b m g to → IsIn image facts start machine program sound u unfolds l loop m c → Contains l.members from
        by (inside chain mv) (as_own own listed) =
            (own_source_here (sym chain ∙ own)).1
            (way_in image facts start machine program sound u unfolds l loop paths_law edges_law blocks_law ends (last_address b) to
            (subst (λ (x : ℕ). Path (ways_at image facts) [] x (last_address b)) (home_is own) mv.path) mv.way (listed_to listed) (not_at own))
        by (inside chain mv) (as_within call calls longer listed) = in_within image facts start machine program sound u unfolds l loop from n f b call calls at_n (sym chain ∙ longer) listed
        by (enters chain entry frames totals) (as_own own listed) =
            let home : to ≡ loop.head.function.entry = sym entry ∙ home_is own in
            absurd (entry_in image facts start machine program sound u unfolds l loop paths_law edges_law blocks_law ends (subst (λ a. Contains loop.info.members a) home (listed_to listed)) (λ k. not_at own (home ∙ k)))
        by (enters chain entry frames totals) (as_within call calls longer listed) =
            by_end call calls listed (ends_with loop.node.chain call calls n.chain (record { site = last_address b; entry = to }) (sym longer ∙ chain))
          where
            by_end : (call : Call) (calls : List Call) → Contains loop.info.members call.site → EndsWith loop.node.chain call n.chain (record { site = last_address b; entry = to }) → Contains l.members from
            by_end call calls listed (first same one) = (own_source_here (sym same)).1 (subst (λ (d : Call). Contains loop.info.members d.site) one listed)
            by_end call calls listed (later rest same) = in_within image facts start machine program sound u unfolds l loop from n f b call rest at_n same listed
        by (leaves site entry frame others chain frames mv) (as_own own listed) =
            let call : Call = record { site = site; entry = entry } in
            (back_source_here call (chain ∙ ap (λ (x : List Call). x ++ call ∷ []) own)).1
            (way_in image facts start machine program sound u unfolds l loop paths_law edges_law blocks_law ends site to
            (subst (λ (x : ℕ). Path (ways_at image facts) [] x site) (home_is own) mv.path) mv.way (listed_to listed) (not_at own))
        by (leaves site entry frame others chain frames mv) (as_within call calls longer listed) =
            let last : Call = record { site = site; entry = entry } in
            in_within image facts start machine program sound u unfolds l loop from n f b call (calls ++ last ∷ []) at_n
            (chain ∙ ap (λ (x : List Call). x ++ last ∷ []) longer ∙ append_assoc loop.node.chain (call ∷ calls) (last ∷ [])) listed

    -- at a member behind the edge the run is in a stay
    pub in_stay : (Contains l.members from → IsInStay u l walk) → Contains l.members number → IsInStay u l (e ∷ walk)
    in_stay old member = elim (cases_eq number l.head) [
      | inl h ↦ elim (decided l.members from) [
        | inl k ↦
            let stay = old k in
            record {
              since = stay.since;
              count = stay.count + 1;
              stays = repeats e walk stay.since stay.count stay.stays
                  ((loop.back e).1 (record { edge = edge; stands = stands; into = to_is ∙ h; inside = subst (λ a. Contains l.members a) (sym from_is) k }));
            }
        | inr none ↦ record {
          since = e ∷ walk;
          count = 0;
          stays = stay_enters e walk ((loop.entries e).1 (record { edge = edge; stands = stands; into = to_is ∙ h; outside = λ k. none (subst (λ a. Contains l.members a) from_is k) }));
        }
      ]
      | inr other ↦
          let stay = old (source_in other (member_m member)) in
          record {
            since = stay.since;
            count = stay.count;
            stays = stay_moves e edge walk stay.since stay.count stay.stays stands (λ h. other (sym to_is ∙ h)) (subst (λ a. Contains l.members a) (sym to_is) member);
          }
    ]
