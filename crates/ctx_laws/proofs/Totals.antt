-- What a move counts in the totals of a run.
use Rattle.std.proofs.Common.{◌≡◌, ℕ, ◌+◌, ◌++◌, ◌↔◌, true, cond, List, [], ◌∷◌, map, slice_get, sym, ap, subst, ◌∙◌, inl, inr}
use Rattle.std.specs.Prelude.{Contains, Some}
use Rattle.std.proofs.lemmas.Bool.{cases_eq, cases_Bool}
use Rattle.wx_base.specs.declared.facts.Facts.{Facts}
use Rattle.wx_base.specs.declared.image.Image.{Image}
use Rattle.wx_base.specs.declared.machine.Machine.{Machine}
use Rattle.wx_base.specs.Monitor as monitor
use Rattle.wx_base.specs.Monitor.{BoundedLoop, Frame, Watch, goes_back, is_one_of, loop_at, total_into}
use Rattle.wx_base.specs.State.{replaced}
use Rattle.flow_block.specs.declared.block.Block.{Block}
use Rattle.flow_graph.specs.declared.program.Function.{Function}
use Rattle.flow_graph.specs.declared.program.Program.{Program}
use Rattle.flow_graph.specs.Program.{bounded_loop, judged_function}
use Rattle.flow_graph.specs.Refusals.{IsSoundProgram}
use Rattle.graph_loops.specs.Laws.{HeadsAreOnPaths, LoopsAreEnteredAtHeads}
use Rattle.run_laws.specs.Moving.{Counts}
use Rattle.run_laws.specs.Moving.Counts.{at_head as counts_at_head, elsewhere}
use Rattle.flow_laws.specs.Programs.{BlocksLieInLoops, EndsInMemory}
use Rattle.flow_ctx.specs.declared.unfolded.Call.{Call}
use Rattle.flow_ctx.specs.declared.unfolded.Edge.{Edge}
use Rattle.flow_ctx.specs.declared.unfolded.ULoop.{ULoop}
use Rattle.flow_ctx.specs.declared.unfolded.UNode.{UNode}
use Rattle.flow_ctx.specs.declared.unfolded.Unfolded.{Unfolded}
use Rattle.flow_ctx.specs.Nodes.{last_address}
use Rattle.flow_ctx.specs.Stays.{Takes}
use Rattle.flow_ctx.specs.Stays.Takes.{one, other}
use Rattle.flow_ctx.specs.Unfolding.{IsLoop, IsUnfolding}
use Rattle.ctx_laws.specs.Following.{AreAllBackTo, IsBackTo}
use Rattle.ctx_laws.proofs.Lists.{all_in, listed, one_element, some_of}
use Rattle.ctx_laws.proofs.Programs.{IsFunctionAt, IsInfoOf, judged_loop, one_loop}
use Rattle.ctx_laws.proofs.Nodes.{IsNodeAt, block_of, function_of, one_block_of}
use Rattle.ctx_laws.proofs.Moves.{Crosses, MovesIn, inside, enters, leaves}
use Rattle.ctx_laws.proofs.Members.{IsHeadNode, back_source, function_head, head_at, is_head, is_in, no_shorter, of_one, one_of, own_source}
use Rattle.ctx_laws.proofs.Counters.{back_is, put_elsewhere, put_there, to_head}

module _ (image : Image) (facts : Facts) (start : ℕ) (machine : Machine) (program : Program) (sound : IsSoundProgram image facts start machine program)
    (u : Unfolded) (unfolds : IsUnfolding program u)
    (paths_law : HeadsAreOnPaths) (edges_law : LoopsAreEnteredAtHeads) (blocks_law : BlocksLieInLoops) (ends : EndsInMemory image) where
  abbrev NodeAt : ℕ → UNode → Function → Block → Type 0
  NodeAt number node f b = IsNodeAt image facts start machine program sound.is u unfolds number node f b

  abbrev Moves : List Frame → (ℕ → ℕ) → Watch → Function → ℕ → ℕ → Type 0
  Moves frames totals after g from to = MovesIn image facts start machine program sound.is u unfolds frames totals after g from to

  abbrev judging : List monitor.Function
  judging = map judged_function program.functions

  pub loop_of : (l : ULoop) → Contains u.loops l → IsLoop program u.nodes u.edges l
  loop_of l c = all_in (λ m. IsLoop program u.nodes u.edges m) u.loops l unfolds.loops.each c

  module _ (before after : Watch) (walk : List ℕ) (from : ℕ) (n : UNode) (f : Function) (b : Block) (number : ℕ) (m : UNode) (g : Function) (c : Block) (to : ℕ)
      (at_n : NodeAt from n f b) (at_m : NodeAt number m g c) (begins : c.start ≡ to)
      (e : ℕ) (edge : Edge) (stands : slice_get u.edges e ≡ Some edge) (from_is : edge.from ≡ from) (to_is : edge.to ≡ number)
      (crosses : Crosses image facts start machine program sound.is u unfolds before after n b m g to) where
    place_m : IsFunctionAt image facts start machine program sound.is m.function g
    place_m = function_of image facts start machine program sound.is u unfolds number m g c at_m

    -- where the moving frame comes from is a member of a loop with its head at the target exactly if the node left is one
    record IsSource (a : ℕ) : Type 0 where
      members : (l : ULoop) (loop : IsLoop program u.nodes u.edges l) → m.chain ≡ loop.node.chain → Contains l.members from ↔ Contains loop.info.members a

    own_here : m.chain ≡ n.chain → IsSource (last_address b)
    own_here chain = record { members = λ l loop same. own_source image facts start machine program sound u unfolds l loop paths_law edges_law blocks_law ends from n f b at_n (sym chain ∙ same) }

    back_here : (call : Call) → n.chain ≡ m.chain ++ call ∷ [] → IsSource call.site
    back_here call chain = record {
      members = λ l loop same.
          back_source image facts start machine program sound u unfolds l loop paths_law edges_law blocks_law ends from n f b call at_n (chain ∙ ap (λ (x : List Call). x ++ call ∷ []) same);
    }

    -- ---- a back edge

    module _ (address : ℕ) (bt : IsBackTo u address e) where
      loop : IsLoop program u.nodes u.edges bt.l
      loop = loop_of bt.l bt.listed

      address_is : loop.info.head ≡ address
      address_is =
          sym loop.head.head
          ∙ ap (λ (x : Block). x.start) (sym (one_block_of image facts start machine program sound.is u unfolds bt.l.head loop.node loop.head.function loop.head.block bt.head.block
          (head_at image facts start machine program sound u unfolds bt.l loop) bt.head.is))
          ∙ bt.head.start

      edge_is : ((loop.back e).0 bt.back).edge ≡ edge
      edge_is = one_element u.edges e ((loop.back e).0 bt.back).edge edge ((loop.back e).0 bt.back).stands stands

      into_head : number ≡ bt.l.head
      into_head = sym to_is ∙ ap (λ (x : Edge). x.to) (sym edge_is) ∙ ((loop.back e).0 bt.back).into

      from_member : Contains bt.l.members from
      from_member = subst (λ a. Contains bt.l.members a) (ap (λ (x : Edge). x.from) edge_is ∙ from_is) ((loop.back e).0 bt.back).inside

      node : IsHeadNode image facts start machine program sound u unfolds bt.l loop m g c
      node = is_head image facts start machine program sound u unfolds bt.l loop number m g c at_m into_head

      by_move : (frames : List Frame) (a : ℕ) → Moves frames before.totals after g a to → IsSource a → after.totals address ≡ before.totals address + 1
      by_move frames a mv source =
          let there = to_head image facts start machine program sound u unfolds bt.l loop frames before.totals after g a to m.function mv place_m node.function (sym begins ∙ node.start_is) in
          let member = (source.members bt.l loop node.chain).0 from_member in
          let back : goes_back (bounded_loop loop.info) mv.move.youngest ≡ true = back_is image facts start machine program sound u unfolds bt.l loop mv.move.youngest a mv.last ∙ one_of loop.info.members a member in
          let total = total_into (bounded_loop loop.info) mv.move.youngest before.totals in
          let value : total ≡ before.totals loop.info.head + 1 = ap (λ t. cond t (before.totals loop.info.head + 1) (before.totals loop.info.head)) back in
          ap (λ (h : ℕ → ℕ). h address) there.totals_are
          ∙ ap (replaced before.totals loop.info.head total) (sym address_is) ∙ put_there before.totals loop.info.head total ∙ value ∙ ap (λ a. before.totals a + 1) address_is

      counted_back : Crosses image facts start machine program sound.is u unfolds before after n b m g to → after.totals address ≡ before.totals address + 1
      counted_back (inside chain mv) = by_move before.frames (last_address b) mv (own_here chain)
      counted_back (enters chain entry frames totals) =
          absurd (no_shorter image facts start machine program sound u unfolds bt.l loop n b (record { site = last_address b; entry = to }) (sym chain ∙ node.chain)
          (is_in image facts start machine program sound u unfolds bt.l loop from n f b at_n from_member))
      counted_back (leaves site entry frame others chain frames mv) = by_move others site mv (back_here (record { site = site; entry = entry }) chain)

    -- ---- any other edge

    module _ (address : ℕ) (not_back : IsBackTo u address e → ⊥) where
      -- a move that counts goes along a back edge
      is_back : (frames : List Frame) (a : ℕ) (mv : Moves frames before.totals after g a to) → IsSource a → (bl : BoundedLoop) → IsInfoOf image facts start machine program sound.is g bl to
          → address ≡ to → goes_back bl mv.move.youngest ≡ true → IsBackTo u address e
      is_back frames a mv source bl info at back =
          let some = some_of (λ (l : ULoop). l.head ≡ number) u.loops
          (unfolds.loops.whole number (record { node = m; info = info.info; stands = at_m.stands; head = record { function = g; block = c; is = at_m.is; listed = info.listed; head = begins ∙ sym info.head_is } })) in
          let l = some.element in
          let c_l = listed u.loops some.place l some.stands in
          let loop = loop_of l c_l in
          let node = is_head image facts start machine program sound u unfolds l loop number m g c at_m (sym some.holds) in
          let same = one_loop image facts start machine program sound.is loop.node.function loop.head.function info.info loop.info (function_head image facts start machine program sound u unfolds l loop)
          (subst (λ (h : Function). Contains h.loops info.info) node.function info.listed) loop.head.listed (info.head_is ∙ sym begins ∙ node.start_is) in
          let it : bl ≡ bounded_loop loop.info = sym info.is ∙ ap bounded_loop same in
          let one_of_members : is_one_of loop.info.members a ≡ true =
          sym (back_is image facts start machine program sound u unfolds l loop mv.move.youngest a mv.last) ∙ ap (λ (x : BoundedLoop). goes_back x mv.move.youngest) (sym it) ∙ back in
          let member = (source.members l loop node.chain).1 (of_one loop.info.members a one_of_members) in
          record {
            l = l;
            listed = c_l;
            head = record {
              block = loop.head.block;
              is = block_of image facts start machine program sound.is u unfolds l.head loop.node loop.head.function loop.head.block (head_at image facts start machine program sound u unfolds l loop);
              start = loop.head.head ∙ sym node.start_is ∙ begins ∙ sym at;
            };
            back = (loop.back e).1 (record { edge = edge; stands = stands; into = to_is ∙ sym some.holds; inside = subst (λ x. Contains l.members x) (sym from_is) member });
          }

      by_other : (frames : List Frame) (a : ℕ) (mv : Moves frames before.totals after g a to) → IsSource a → (counter totals_after : ℕ → ℕ) → Counts judging mv.move.youngest to before.totals counter totals_after
          → totals_after address ≡ before.totals address
      by_other frames a mv source counter totals_after (counts_at_head bl found counter_is few totals_is in_total) =
          let info = judged_loop image facts start machine program sound.is m.function g to bl place_m (ap (λ x. loop_at judging x to) (sym mv.function) ∙ found) in
          let at : bl.head ≡ to = ap (λ (x : BoundedLoop). x.head) (sym info.is) ∙ info.head_is in
          let total = total_into bl mv.move.youngest before.totals in
          elim (cases_eq address to) [
            | inl same ↦ elim (cases_Bool (goes_back bl mv.move.youngest)) [
              | inl back ↦ absurd (not_back (is_back frames a mv source bl info same back))
              | inr back ↦
                  let value : total ≡ before.totals bl.head = ap (λ t. cond t (before.totals bl.head + 1) (before.totals bl.head)) back in
                  let here : address ≡ bl.head = same ∙ sym at in
                  ap (λ (h : ℕ → ℕ). h address) totals_is ∙ ap (replaced before.totals bl.head total) here ∙ put_there before.totals bl.head total ∙ value ∙ ap before.totals (sym here)
            ]
            | inr apart ↦ ap (λ (h : ℕ → ℕ). h address) totals_is ∙ put_elsewhere before.totals bl.head total address (λ k. apart (k ∙ at))
          ]
      by_other frames a mv source counter totals_after (elsewhere none_there counter_is totals_is) = ap (λ (h : ℕ → ℕ). h address) totals_is

      counted_other : Crosses image facts start machine program sound.is u unfolds before after n b m g to → after.totals address ≡ before.totals address
      counted_other (inside chain mv) = by_other before.frames (last_address b) mv (own_here chain) mv.move.counter after.totals mv.move.counts
      counted_other (enters chain entry frames totals) = ap (λ (h : ℕ → ℕ). h address) totals
      counted_other (leaves site entry frame others chain frames mv) = by_other others site mv (back_here (record { site = site; entry = entry }) chain) mv.move.counter after.totals mv.move.counts

    -- the totals behind the edge
    pub totals_on : (address : ℕ) (edges : List ℕ) → AreAllBackTo u address edges → ((count : ℕ) → Takes edges walk count → before.totals address ≡ count)
        → (count : ℕ) → Takes edges (e ∷ walk) count → after.totals address ≡ count
    totals_on address edges all old count (one _ _ before_count k taken) = counted_back address ((all.exact e).0 k) crosses ∙ ap (λ x. x + 1) (old before_count taken)
    totals_on address edges all old count (other _ _ _ k taken) = counted_other address (λ bt. k ((all.exact e).1 bt)) crosses ∙ old count taken
