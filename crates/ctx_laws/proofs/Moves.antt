-- From an executed instruction to the place of the next one: on in its block, or along an edge.
use Rattle.std.proofs.Common.{◌≡◌, ℕ, zero, suc, ◌<◌, ◌^◌, ◌++◌, Bool, true, false, cond, List, [], ◌∷◌, length, map, slice_get, refl, sym, ap, subst, ◌∙◌, inl, inr, arith}
use Rattle.std.specs.Prelude.{◌⊎◌, All, Contains, Option, Some, None, unwrap_or}
use Rattle.std.proofs.lemmas.Bool.{false≢true, cases_lt, cases_Bool}
use Rattle.std.proofs.lemmas.List.Elements.{All-head, All-tail}
use Rattle.std.proofs.lemmas.Option.{slice_get_within}
use Rattle.wx_base.specs.declared.facts.Facts.{Facts}
use Rattle.wx_base.specs.declared.flow.FlowKind.{FlowKind}
use Rattle.wx_base.specs.declared.image.Image.{Image}
use Rattle.wx_base.specs.declared.machine.Machine.{Machine}
use Rattle.wx_base.specs.Bits.{add_words}
use Rattle.wx_base.specs.Functions.{callees_at, callees_by, code_at, ways_at, IsReached}
use Rattle.wx_base.specs.Monitor.{Frame, Watch, is_call, last_of, opened}
use Rattle.wx_base.specs.Paths.{Path}
use Rattle.wx_base.specs.Run.{Executed}
use Rattle.flow_block.specs.declared.block.Block.{Block}
use Rattle.flow_block.specs.Blocks.{Begins, IsBlock, IsLength, last_of_block}
use Rattle.flow_block.specs.Blocks.Begins.{leader, cut}
use Rattle.flow_block.specs.Blocks.IsLeader.{first as first_leader, target, after_end}
use Rattle.flow_block.specs.Sites.{behind, flow_at, goes_past_at, is_end, jumps_by}
use Rattle.flow_graph.specs.declared.program.Function.{Function}
use Rattle.flow_graph.specs.declared.program.Program.{Program}
use Rattle.flow_graph.specs.Program.{IsProgram, judged_function}
use Rattle.run_laws.specs.Chains.{TellLast}
use Rattle.run_laws.specs.Flowing.{GoesBehind}
use Rattle.run_laws.specs.Moving.{GoesTo, MovesYoungest, executed_flow}
use Rattle.run_laws.specs.Moving.GoesTo.{behind as goes_behind, jumps, calls, returns}
use Rattle.run_laws.specs.Reached.{IsInFunction}
use Rattle.flow_laws.specs.Programs.{StepsGoPast}
use Rattle.flow_ctx.specs.declared.unfolded.Call.{Call}
use Rattle.flow_ctx.specs.declared.unfolded.Edge.{Edge}
use Rattle.flow_ctx.specs.declared.unfolded.UNode.{UNode}
use Rattle.flow_ctx.specs.declared.unfolded.Unfolded.{Unfolded}
use Rattle.flow_ctx.specs.Nodes.{BeginsAt, entry_after, last_address}
use Rattle.flow_ctx.specs.Nodes.Leads.{next as leads_next, jump as leads_jump, call as leads_call, ret as leads_ret}
use Rattle.flow_ctx.specs.Unfolding.{IsUnfolding}
use Rattle.ctx_laws.specs.Following.{Follows, IsExecutedIn, LeadsOn, calls_of}
use Rattle.ctx_laws.specs.Following.Follows.{executes, moves}
use Rattle.ctx_laws.proofs.Lists.{heads}
use Rattle.ctx_laws.proofs.Programs.{IsFunctionAt, block_is, has_function}
use Rattle.ctx_laws.proofs.Nodes.{HasEdge, IsNodeAt, block_of, entry_behind, function_of, has_edge, has_place, one_block_of}
use Rattle.ctx_laws.proofs.Frames.{AreOpen, MadeCall, above, calls_counted, calls_pushed, entry_of, open_below, open_counted, opening}
use Rattle.ctx_laws.proofs.Flows.{call_ends, call_way, callee_is_call, callees_same, flow_same, jump_way, next_place, next_way, one_behind, one_more, past_same, place_zero}

-- the last executed instruction is of the node's block
pub last_in : (u : Unfolded) (i : Executed) (executed : List Executed) (walk : List ℕ) (number j : ℕ) → Follows u (i ∷ executed) walk number (suc j) → IsExecutedIn u number j i
last_in u i executed walk number j (executes _ _ _ _ _ f x) = x

module _ (image : Image) (facts : Facts) (first : ℕ) (machine : Machine) (program : Program) (built : IsProgram image facts first machine program)
    (u : Unfolded) (unfolds : IsUnfolding program u) where
  abbrev NodeAt : ℕ → UNode → Function → Block → Type 0
  NodeAt number node f b = IsNodeAt image facts first machine program built u unfolds number node f b

  -- a run is in the block of a node, in the node's chain
  pub record IsInside (executed : List Executed) (frames : List Frame) (walk : List ℕ) (number index : ℕ) : Type 0 where
    pub node : UNode
    pub function : Function
    pub block : Block
    pub at : NodeAt number node function block
    pub chain : calls_of frames ≡ node.chain
    pub follows : Follows u executed walk number index
    pub are_open : AreOpen image first frames

  -- a move of the youngest of some frames in its function, from an address to another
  pub record MovesIn (frames : List Frame) (totals : ℕ → ℕ) (after : Watch) (g : Function) (from to : ℕ) : Type 0 where
    pub move : MovesYoungest (map judged_function program.functions) frames totals to after
    pub last : move.youngest.last ≡ Some from
    pub function : move.youngest.function ≡ g.entry
    pub path : Path (ways_at image facts) [] g.entry from
    pub way : Contains (ways_at image facts from) to

  -- what an edge from one node to another makes of the frames: a move in the function, a call, or a return
  pub data Crosses (before after : Watch) (n : UNode) (b : Block) (m : UNode) (g : Function) (to : ℕ) : Type 0 where
    inside : m.chain ≡ n.chain → MovesIn before.frames before.totals after g (last_address b) to → Crosses before after n b m g to
    enters : m.chain ≡ n.chain ++ record { site = last_address b; entry = to } ∷ [] → g.entry ≡ to → after.frames ≡ opened to ∷ before.frames
        → after.totals ≡ before.totals → Crosses before after n b m g to
    leaves : (site entry : ℕ) (frame : Frame) (others : List Frame) → n.chain ≡ m.chain ++ record { site = site; entry = entry } ∷ []
        → before.frames ≡ frame ∷ others → MovesIn others before.totals after g site to → Crosses before after n b m g to

  -- the run went along an edge
  pub record HasCrossed (before after : Watch) (walk : List ℕ) (number : ℕ) (n : UNode) (b : Block) (walk_after : List ℕ) (number_after : ℕ) (m : UNode) (g : Function) (to : ℕ) : Type 0 where
    pub edge_number : ℕ
    pub edge : Edge
    pub stands : slice_get u.edges edge_number ≡ Some edge
    pub from : edge.from ≡ number
    pub to_is : edge.to ≡ number_after
    pub walk_is : walk_after ≡ edge_number ∷ walk
    pub crosses : Crosses before after n b m g to

  -- the run went on in the block
  pub record HasStayed (before after : Watch) (walk : List ℕ) (number index : ℕ) (f : Function) (b : Block) (walk_after : List ℕ) (number_after to : ℕ) : Type 0 where
    pub number_is : number_after ≡ number
    pub walk_is : walk_after ≡ walk
    pub from : ℕ
    pub moved : MovesIn before.frames before.totals after f from to
    pub index_is : to ≡ behind b.start index
    pub later : 0 < index
    pub within : index < length b.insns

  -- where the next instruction is
  pub record Arrives (i : Executed) (executed : List Executed) (before after : Watch) (walk : List ℕ) (number index : ℕ) (old : IsInside (i ∷ executed) before.frames walk number index) (to : ℕ) : Type 0 where
    pub walk_after : List ℕ
    pub number_after : ℕ
    pub index_after : ℕ
    pub new : IsInside (i ∷ executed) after.frames walk_after number_after index_after
    pub within : index_after < length new.block.insns
    pub place : to ≡ behind new.block.start index_after
    pub how : HasStayed before after walk number index old.function old.block walk_after number_after to
        ⊎ ((HasCrossed before after walk number old.node old.block walk_after number_after new.node new.function to) × (new.block.start ≡ to))

  -- what is known of a move
  pub record IsMoving (i : Executed) (executed : List Executed) (before after : Watch) (to : ℕ) : Type 0 where
    pub goes : GoesTo facts (map judged_function program.functions) i to before after
    pub tells : TellLast (i ∷ executed) before.frames
    pub functions : All (IsInFunction image facts first) before.frames
    pub word : code_at image i.address ≡ Some i.done.entry.word
    pub reached : IsReached image facts first i.address
    pub small : to < 2 ^ 32

  module _ (past : StepsGoPast) (i : Executed) (executed : List Executed) (before after : Watch) (to : ℕ) (mv : IsMoving i executed before after to)
      (walk : List ℕ) (number j : ℕ) (old : IsInside (i ∷ executed) before.frames walk number (suc j)) where
    youngest_last : (y : Frame) (cs : List Frame) → before.frames ≡ y ∷ cs → y.last ≡ Some i.address
    youngest_last y cs e = ap (λ (f : Frame). f.last) (heads y mv.tells.youngest cs mv.tells.callers (sym e ∙ mv.tells.are)) ∙ mv.tells.last

    youngest_function : (y : Frame) (cs : List Frame) → before.frames ≡ y ∷ cs → y.function ≡ old.function.entry
    youngest_function y cs e =
        entry_of image first program.start y cs built.start (subst (λ (fs : List Frame). AreOpen image first fs) e old.are_open)
        ∙ ap (entry_after program.start) (ap calls_of (sym e) ∙ old.chain) ∙ sym old.at.is.entry

    executed_in : IsExecutedIn u number j i
    executed_in = last_in u i executed walk number j old.follows

    block_is_old : executed_in.block ≡ old.block
    block_is_old = one_block_of image facts first machine program built u unfolds number old.node old.function old.block executed_in.block old.at executed_in.is

    address_is : i.address ≡ behind old.block.start j
    address_is = executed_in.address ∙ ap (λ (b : Block). behind b.start j) block_is_old

    within_old : j < length old.block.insns
    within_old = subst (λ (b : Block). j < length b.insns) block_is_old (slice_get_within executed_in.block.insns j executed_in.insn executed_in.stands)

    straight : suc j < length old.block.insns → i.done.entry.taken ≡ false
    straight less = executed_in.straight (subst (λ (b : Block). suc j < length b.insns) (sym block_is_old) less)

    function_old : IsFunctionAt image facts first machine program built old.node.function old.function
    function_old = function_of image facts first machine program built u unfolds number old.node old.function old.block old.at

    block_old : IsBlock image facts machine old.function.entry old.block
    block_old = block_is image facts first machine program built old.node.function old.function old.node.block old.block function_old old.at.is.block_stands

    path_here : Path (ways_at image facts) [] old.function.entry i.address
    path_here =
        let all : All (IsInFunction image facts first) (mv.tells.youngest ∷ mv.tells.callers) = subst (λ (fs : List Frame). All (IsInFunction image facts first) fs) mv.tells.are mv.functions in
        let it = All-head (IsInFunction image facts first) mv.tells.youngest mv.tells.callers all in
        subst (λ (e : ℕ). Path (ways_at image facts) [] e i.address) (youngest_function mv.tells.youngest mv.tells.callers mv.tells.are) (it.last i.address mv.tells.last)

    flow_here : flow_at image i.address ≡ executed_flow i
    flow_here = flow_same image facts i.address i.done.entry.word mv.word

    -- the frames after a move of the youngest
    chain_after : (m : MovesYoungest (map judged_function program.functions) before.frames before.totals to after) → calls_of after.frames ≡ old.node.chain
    chain_after m = ap calls_of m.are ∙ calls_counted m.youngest m.counter m.callers ∙ ap calls_of (sym m.were) ∙ old.chain

    open_after : (m : MovesYoungest (map judged_function program.functions) before.frames before.totals to after) → AreOpen image first after.frames
    open_after m = subst (λ (fs : List Frame). AreOpen image first fs) (sym m.are) (open_counted image first m.youngest m.counter m.callers (subst (λ (fs : List Frame). AreOpen image first fs) m.were old.are_open))

    moves_in : (m : MovesYoungest (map judged_function program.functions) before.frames before.totals to after) → (g : Function) → old.function.entry ≡ g.entry → (from : ℕ) → i.address ≡ from
        → Contains (ways_at image facts i.address) to → MovesIn before.frames before.totals after g from to
    moves_in m g same from e way = record {
      move = m;
      last = youngest_last m.youngest m.callers m.were ∙ ap Some e;
      function = youngest_function m.youngest m.callers m.were ∙ same;
      path = subst (λ (a : ℕ). Path (ways_at image facts) [] g.entry a) e (subst (λ (x : ℕ). Path (ways_at image facts) [] x i.address) same path_here);
      way = subst (λ (a : ℕ). Contains (ways_at image facts a) to) e way;
    }

    -- ---- on in the block

    on_inside : suc j < length old.block.insns → (g : GoesBehind (executed_flow i) i.done.entry.word i.address to)
        → MovesYoungest (map judged_function program.functions) before.frames before.totals to after → Arrives i executed before after walk number (suc j) old to
    on_inside less g m =
        let place : to ≡ behind old.block.start (suc j) = g.behind ∙ ap (λ a. add_words a 4) address_is ∙ next_place old.block.start j in
        let way : Contains (ways_at image facts i.address) to = subst (λ (a : ℕ). Contains (ways_at image facts i.address) a) (sym g.behind) (next_way image facts i.address i.done.entry.word mv.word g.may) in
        record {
          walk_after = walk;
          number_after = number;
          index_after = suc j;
          new = record { node = old.node; function = old.function; block = old.block; at = old.at; chain = chain_after m; follows = old.follows; are_open = open_after m };
          within = less;
          place = place;
          how = inl (record { number_is = refl; walk_is = refl; from = i.address; moved = moves_in m old.function refl i.address refl way; index_is = place; later = omega arith; within = less });
        }

    -- ---- along an edge

    module _ (whole : suc j ≡ length old.block.insns) where
      last_is : last_address old.block ≡ i.address
      last_is = ap (λ n. last_of_block old.block.start n) (sym whole) ∙ sym address_is

      along_edge : (taken : Bool) (chain : List Call) → taken ≡ i.done.entry.taken → (e : HasEdge image facts first machine program built u unfolds number taken chain to) → calls_of after.frames ≡ chain
          → AreOpen image first after.frames → Crosses before after old.node old.block e.node e.function to → Arrives i executed before after walk number (suc j) old to
      along_edge taken chain as_taken e chain_is opens crosses =
          let on : LeadsOn u e.number e.edge (suc j) i = record {
            stands = e.stands;
            block = old.block;
            is = block_of image facts first machine program built u unfolds e.edge.from old.node old.function old.block (subst (λ (k : ℕ). NodeAt k old.node old.function old.block) (sym e.from_is) old.at);
            whole = whole;
            taken = e.taken_is ∙ as_taken;
          } in
          let there = function_of image facts first machine program built u unfolds e.edge.to e.node e.function e.block e.at in
          let is = block_is image facts first machine program built e.node.function e.function e.node.block e.block there e.at.is.block_stands in
          record {
            walk_after = e.number ∷ walk;
            number_after = e.edge.to;
            index_after = zero;
            new = record {
              node = e.node;
              function = e.function;
              block = e.block;
              at = e.at;
              chain = chain_is ∙ sym e.chain_is;
              follows = moves i executed walk (suc j) e.number e.edge (subst (λ (k : ℕ). Follows u (i ∷ executed) walk k (suc j)) (sym e.from_is) old.follows) on;
              are_open = opens;
            };
            within = is.count.some;
            place = sym (ap (λ a. behind a zero) e.start ∙ place_zero to mv.small);
            how = inr (record { edge_number = e.number; edge = e.edge; stands = e.stands; from = e.from_is; to_is = refl; walk_is = refl; crosses = crosses }, e.start);
          }

      -- the function is the same, and so is its entry
      same_entry : (taken : Bool) (e : HasEdge image facts first machine program built u unfolds number taken old.node.chain to) → old.function.entry ≡ e.function.entry
      same_entry taken e = old.at.is.entry ∙ ap (entry_after program.start) (sym e.chain_is) ∙ sym e.at.is.entry

      begins_behind : (flow_at image i.address).next ≡ true → to ≡ add_words i.address 4 → Contains (ways_at image facts i.address) to → Begins image facts machine old.function.entry to
      begins_behind next at way = elim (cases_Bool (is_end (flow_at image i.address))) [
        | inl ends ↦
            let e : to ≡ behind i.address 1 = at ∙ one_behind i.address in
            subst (λ (a : ℕ). Begins image facts machine old.function.entry a) (sym e)
            (leader (after_end path_here ends (subst (λ (a : ℕ). Path (ways_at image facts) [] old.function.entry a) e (one_more (ways_at image facts) path_here way))))
        | inr on ↦
            let e : to ≡ behind old.block.start (suc j) = at ∙ ap (λ a. add_words a 4) address_is ∙ next_place old.block.start j in
            let ends : is_end (flow_at image (behind old.block.start j)) ≡ false = ap (λ a. is_end (flow_at image a)) (sym address_is) ∙ on in
            subst (λ (a : ℕ). Begins image facts machine old.function.entry a) (sym e) (cut block_old.begins (subst (λ n. IsLength image facts machine old.function.entry old.block.start n) (sym whole) block_old.count) ends)
      ]

      on_next : GoesBehind (executed_flow i) i.done.entry.word i.address to → i.done.entry.taken ≡ false
          → MovesYoungest (map judged_function program.functions) before.frames before.totals to after → Arrives i executed before after walk number (suc j) old to
      on_next g untaken m =
          let may : (flow_at image i.address).next ≡ true = ap (λ (f : FlowKind). f.next) flow_here ∙ g.may in
          let way : Contains (ways_at image facts i.address) to = subst (λ (a : ℕ). Contains (ways_at image facts i.address) a) (sym g.behind) (next_way image facts i.address i.done.entry.word mv.word g.may) in
          let past_here : goes_past_at image (last_address old.block) ≡ true = ap (λ a. goes_past_at image a) last_is ∙ past_same image facts i.address i.done.entry.word mv.word ∙ past i.done.entry.word i.address to g in
          let after_block : behind old.block.start (length old.block.insns) ≡ to = ap (λ n. behind old.block.start n) (sym whole) ∙ sym (g.behind ∙ ap (λ a. add_words a 4) address_is ∙ next_place old.block.start j) in
          let next_is : old.block.next ≡ Some to = block_old.next ∙ (λ k. cond (past_here k) (Some (after_block k)) None) in
          let place = has_place image facts first machine program built u unfolds old.node.function old.function old.node.chain to function_old old.at.is.entry (begins_behind may g.behind way) in
          let edge = has_edge image facts first machine program built u unfolds number old.node old.function old.block false place.node old.node.chain to old.at place.begins
          (leads_next old.function old.block to place.node old.at.is next_is place.begins) in
          along_edge false old.node.chain (sym untaken) edge (chain_after m) (open_after m) (inside edge.chain_is (moves_in m edge.function (same_entry false edge) (last_address old.block) (sym last_is) way))

      on_jump : i.done.entry.taken ≡ true → Contains (jumps_by facts i.address (executed_flow i)) to → MovesYoungest (map judged_function program.functions) before.frames before.totals to after
          → Arrives i executed before after walk number (suc j) old to
      on_jump taken c m =
          let way = jump_way image facts i.address i.done.entry.word mv.word to c in
          let here : Contains (jumps_by facts i.address (flow_at image i.address)) to = subst (λ (f : FlowKind). Contains (jumps_by facts i.address f) to) (sym flow_here) c in
          let listed : Contains old.block.jumps to =
          subst (λ (xs : List ℕ). Contains xs to) (sym block_old.jumps) (subst (λ (a : ℕ). Contains (jumps_by facts a (flow_at image a)) to) (sym last_is) here) in
          let place = has_place image facts first machine program built u unfolds old.node.function old.function old.node.chain to function_old old.at.is.entry (leader (target path_here here)) in
          let edge = has_edge image facts first machine program built u unfolds number old.node old.function old.block true place.node old.node.chain to old.at place.begins
          (leads_jump old.function old.block to place.node old.at.is listed place.begins) in
          along_edge true old.node.chain (sym taken) edge (chain_after m) (open_after m) (inside edge.chain_is (moves_in m edge.function (same_entry true edge) (last_address old.block) (sym last_is) way))

      on_call : i.done.entry.taken ≡ true → Contains (callees_by facts i.address (executed_flow i)) to → after.frames ≡ opened to ∷ before.frames → after.totals ≡ before.totals
          → Arrives i executed before after walk number (suc j) old to
      on_call taken c frames totals =
          let here : Contains (callees_at image facts i.address) to = subst (λ (xs : List ℕ). Contains xs to) (sym (callees_same image facts i.address i.done.entry.word mv.word)) c in
          let listed : Contains old.block.calls to = subst (λ (xs : List ℕ). Contains xs to) (sym block_old.calls) (subst (λ (a : ℕ). Contains (callees_at image facts a) to) (sym last_is) here) in
          let call : Call = record { site = last_address old.block; entry = to } in
          let callee = has_function image facts first machine program built to (inr (record { site = i.address; reached = mv.reached; callee = here })) in
          let entry : callee.function.entry ≡ entry_after program.start (old.node.chain ++ call ∷ []) = callee.is ∙ sym (entry_behind program.start old.node.chain call) in
          let place = has_place image facts first machine program built u unfolds callee.place callee.function (old.node.chain ++ call ∷ []) to callee.at entry
          (subst (λ (a : ℕ). Begins image facts machine callee.function.entry a) callee.is (leader first_leader)) in
          let edge = has_edge image facts first machine program built u unfolds number old.node old.function old.block true place.node (old.node.chain ++ call ∷ []) to old.at place.begins
          (leads_call old.function old.block to place.node old.at.is listed place.begins) in
          let y = mv.tells.youngest in
          let cs = mv.tells.callers in
          let last : last_of y ≡ i.address = ap (λ (o : Option ℕ). unwrap_or o 0) (youngest_last y cs mv.tells.are) in
          let made : MadeCall image first y = record {
            last = youngest_last y cs mv.tells.are ∙ ap Some (sym last);
            call = ap (λ a. is_call (flow_at image a)) last ∙ ap is_call flow_here ∙ callee_is_call facts i.address (executed_flow i) to c;
          } in
          let frames_are : after.frames ≡ opened to ∷ y ∷ cs = frames ∙ ap (λ (fs : List Frame). opened to ∷ fs) mv.tells.are in
          let site : opening (opened to) y ≡ call = λ k. record { site = (last ∙ sym last_is) k; entry = to } in
          let chain_is : calls_of after.frames ≡ old.node.chain ++ call ∷ [] =
          ap calls_of frames_are ∙ calls_pushed (opened to) y cs ∙ (λ k. (ap calls_of (sym mv.tells.are) ∙ old.chain) k ++ site k ∷ []) in
          let opens : AreOpen image first after.frames =
          subst (λ (fs : List Frame). AreOpen image first fs) (sym frames_are) (above (opened to) y cs made (subst (λ (fs : List Frame). AreOpen image first fs) mv.tells.are old.are_open)) in
          along_edge true (old.node.chain ++ call ∷ []) (sym taken) edge chain_is opens
          (enters edge.chain_is (edge.at.is.entry ∙ ap (entry_after program.start) edge.chain_is ∙ entry_behind program.start old.node.chain call) frames totals)

      on_return : (frame caller : Frame) (others : List Frame) → i.done.entry.taken ≡ true → (executed_flow i).ret ≡ true → before.frames ≡ frame ∷ caller ∷ others → to ≡ add_words (last_of caller) 4
          → MovesYoungest (map judged_function program.functions) (caller ∷ others) before.totals to after → Arrives i executed before after walk number (suc j) old to
      on_return frame caller others taken ret frames at m =
          let returns_here : old.block.ret ≡ true = block_old.ret ∙ ap (λ a. (flow_at image a).ret) last_is ∙ ap (λ (f : FlowKind). f.ret) flow_here ∙ ret in
          let rest = open_below image first frame caller others (subst (λ (fs : List Frame). AreOpen image first fs) frames old.are_open) in
          let site = last_of caller in
          let callers = calls_of (caller ∷ others) in
          let chain_is : old.node.chain ≡ callers ++ opening frame caller ∷ [] = sym old.chain ∙ ap calls_of frames ∙ calls_pushed frame caller others in
          let all : All (IsInFunction image facts first) (frame ∷ caller ∷ others) = subst (λ (fs : List Frame). All (IsInFunction image facts first) fs) frames mv.functions in
          let it = All-head (IsInFunction image facts first) caller others (All-tail (IsInFunction image facts first) frame (caller ∷ others) all) in
          let home = has_function image facts first machine program built caller.function it.function in
          let entry : home.function.entry ≡ entry_after program.start callers = home.is ∙ entry_of image first program.start caller others built.start rest.0 in
          let path : Path (ways_at image facts) [] home.function.entry site = subst (λ (e : ℕ). Path (ways_at image facts) [] e site) (sym home.is) (it.last site rest.1.last) in
          let way4 = call_way image facts site rest.1.call in
          let e : to ≡ behind site 1 = at ∙ one_behind site in
          let way : Contains (ways_at image facts site) to = subst (λ (a : ℕ). Contains (ways_at image facts site) a) (sym at) way4 in
          let begins_there : Begins image facts machine home.function.entry (behind site 1) =
          leader (after_end path (call_ends (flow_at image site) rest.1.call) (subst (λ (a : ℕ). Path (ways_at image facts) [] home.function.entry a) e (one_more (ways_at image facts) path way))) in
          let place = has_place image facts first machine program built u unfolds home.place home.function callers (behind site 1) home.at entry begins_there in
          let edge = has_edge image facts first machine program built u unfolds number old.node old.function old.block true place.node callers to old.at
          (subst (λ (a : ℕ). BeginsAt program place.node callers a) (sym e) place.begins)
          (leads_ret old.function old.block callers (opening frame caller) place.node old.at.is returns_here chain_is place.begins) in
          let mine : m.youngest ≡ caller = heads m.youngest caller m.callers others (sym m.were) in
          let home_entry : home.function.entry ≡ edge.function.entry = entry ∙ ap (entry_after program.start) (sym edge.chain_is) ∙ sym edge.at.is.entry in
          let after_chain : calls_of after.frames ≡ callers = ap calls_of m.are ∙ calls_counted m.youngest m.counter m.callers ∙ ap calls_of (sym m.were) in
          let after_open : AreOpen image first after.frames =
          subst (λ (fs : List Frame). AreOpen image first fs) (sym m.are) (open_counted image first m.youngest m.counter m.callers (subst (λ (fs : List Frame). AreOpen image first fs) m.were rest.0)) in
          let moved : MovesIn (caller ∷ others) before.totals after edge.function site to = record {
            move = m;
            last = ap (λ (f : Frame). f.last) mine ∙ rest.1.last;
            function = ap (λ (f : Frame). f.function) mine ∙ sym home.is ∙ home_entry;
            path = subst (λ (x : ℕ). Path (ways_at image facts) [] x site) home_entry path;
            way = way;
          } in
          along_edge true callers (sym taken) edge after_chain after_open
          (leaves site frame.function frame (caller ∷ others) (chain_is ∙ ap (λ (c : List Call). c ++ opening frame caller ∷ []) (sym edge.chain_is)) frames moved)

      at_end : GoesTo facts (map judged_function program.functions) i to before after → Arrives i executed before after walk number (suc j) old to
      at_end (goes_behind untaken g m) = on_next g untaken m
      at_end (jumps taken c m) = on_jump taken c m
      at_end (calls taken c frames totals) = on_call taken c frames totals
      at_end (returns frame caller others taken ret frames at m) = on_return frame caller others taken ret frames at m

    in_block : suc j < length old.block.insns → GoesTo facts (map judged_function program.functions) i to before after → Arrives i executed before after walk number (suc j) old to
    in_block less (goes_behind untaken g m) = on_inside less g m
    in_block less (jumps taken c m) = absurd (false≢true (sym (straight less) ∙ taken))
    in_block less (calls taken c frames totals) = absurd (false≢true (sym (straight less) ∙ taken))
    in_block less (returns frame caller others taken ret frames at m) = absurd (false≢true (sym (straight less) ∙ taken))

    pub arrives : Arrives i executed before after walk number (suc j) old to
    arrives = elim (cases_lt (suc j) (length old.block.insns)) [
      | inl less ↦ in_block less mv.goes
      | inr over ↦ at_end (omega (arith, within_old)) mv.goes
    ]
