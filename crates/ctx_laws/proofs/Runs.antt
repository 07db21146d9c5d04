-- Each run follows the unfolding.
use Rattle.flow_ctx.specs.Nodes.{IsBlockOf, entry_after}
use Rattle.std.proofs.Common.{◌≡◌, ℕ, zero, suc, ◌<◌, ◌≤◌, ◌^◌, ◌++◌, true, false, List, [], ◌∷◌, length, refl, sym, ap, subst, ◌∙◌, inl, inr, arith}
use Rattle.std.specs.Prelude.{◌⊎◌, All, Contains, Option, Some, None, Result, Ok, Err}
use Rattle.std.proofs.lemmas.Bool.{false≢true, cases_eq}
use Rattle.std.proofs.lemmas.List.Elements.{All-head}
use Rattle.wx_base.specs.declared.fact_kind.FactKind.{FactKind}
use Rattle.wx_base.specs.declared.facts.Facts.{Facts}
use Rattle.wx_base.specs.declared.image.Image.{Image}
use Rattle.wx_base.specs.declared.machine.Machine.{Machine}
use Rattle.wx_base.specs.Flow.{flow_of}
use Rattle.wx_base.specs.Functions.{code_at, fact_on, IsReached}
use Rattle.wx_base.specs.Monitor.{Rules, Watch, first_watch, opened}
use Rattle.wx_base.specs.Recurrence.{Entry, next}
use Rattle.wx_base.specs.Run.{Broken, End, Executed, Finished, Halted, IsStart, Run, Start, advanced, dones, after_judgement, after_outcome, end_after, entry_at, extended, run_of, watch_at, watch_before}
use Rattle.wx_base.specs.State.{State, Outcome, Next, Ended, Stopped, pc}
use Rattle.wx_base.specs.Step.{current_word, step}
use Rattle.flow_block.specs.declared.block.Block.{Block}
use Rattle.flow_block.specs.Sites.{behind, flow_at, is_end}
use Rattle.flow_graph.specs.declared.program.Program.{Program}
use Rattle.flow_graph.specs.Program.{bounded_loop, rules_of}
use Rattle.flow_graph.specs.Refusals.{IsSoundProgram}
use Rattle.graph_loops.specs.Laws.{HeadsAreOnPaths, LoopsAreEnteredAtHeads}
use Rattle.run_laws.specs.Chains.{FramesTellLast, TellLast}
use Rattle.run_laws.specs.Flowing.{StepsFollowFlow}
use Rattle.run_laws.specs.Moving.{RunsGoByFlow}
use Rattle.run_laws.specs.Ranges.{ExecutedWordsAreTheImages, RunsStayInRange}
use Rattle.run_laws.specs.Reached.{FramesStayInFunctions, RunsStayInReached, TakesTargets}
use Rattle.flow_laws.specs.Programs.{BlocksLieInLoops, EndsInMemory, HeadsBeginBlocks, StepsGoPast}
use Rattle.flow_ctx.specs.declared.unfolded.ULoop.{ULoop}
use Rattle.flow_ctx.specs.declared.unfolded.Unfolded.{Unfolded}
use Rattle.flow_ctx.specs.Stays.StaysInLoop.{starts}
use Rattle.flow_ctx.specs.Stays.{IsWalk, StaysInLoop, Takes}
use Rattle.flow_ctx.specs.Stays.IsWalk.{starts as walk_starts}
use Rattle.flow_ctx.specs.Stays.Takes.{none}
use Rattle.flow_ctx.specs.Unfolding.{IsLoop, IsUnfolding}
use Rattle.ctx_laws.specs.Following.{Follows, HasHeadAt, IsCounted, IsExecutedIn, IsFollowing, IsInStay}
use Rattle.ctx_laws.specs.Following.Follows.{begins}
use Rattle.ctx_laws.specs.Laws.{RunsFollowUnfoldings}
use Rattle.ctx_laws.proofs.Lists.{not_empty}
use Rattle.ctx_laws.proofs.Programs.{block_is}
use Rattle.ctx_laws.proofs.Nodes.{IsNodeAt, block_of, function_of, one_block_of}
use Rattle.ctx_laws.proofs.Frames.{outermost}
use Rattle.ctx_laws.proofs.Flows.{flow_same, place_zero, taken_ends}
use Rattle.ctx_laws.proofs.Moves.{IsMoving}
use Rattle.ctx_laws.proofs.Members.{IsIn, as_own, as_within, at_head, entry_in, head_at, is_head, is_in, loop_here}
use Rattle.ctx_laws.proofs.Counters.{IsCountedAt}
use Rattle.ctx_laws.proofs.Totals.{loop_of}
use Rattle.ctx_laws.proofs.Bounds.{bounded_first, not_exceeded}
use Rattle.ctx_laws.proofs.Executed.{executed_in}
use Rattle.ctx_laws.proofs.Walks.{one_end}
use Rattle.ctx_laws.proofs.Steps.{HoldsAt, executed_holds, is_there}

-- the laws of the crates below
pub record AreKnown : Type 0 where
  pub paths : HeadsAreOnPaths
  pub edges : LoopsAreEnteredAtHeads
  pub heads : HeadsBeginBlocks
  pub blocks : BlocksLieInLoops
  pub past : StepsGoPast
  pub flow : StepsFollowFlow
  pub last : FramesTellLast
  pub goes : RunsGoByFlow
  pub reached : RunsStayInReached
  pub functions : FramesStayInFunctions
  pub words : ExecutedWordsAreTheImages
  pub ranges : RunsStayInRange

-- nothing was executed yet
record IsBegun (u : Unfolded) (walk : List ℕ) (number index : ℕ) : Type 0 where
  walk_is : walk ≡ []
  number_is : number ≡ u.start
  index_is : index ≡ 0

is_begun : (u : Unfolded) (walk : List ℕ) (number index : ℕ) → Follows u [] walk number index → IsBegun u walk number index
is_begun u walk number index begins = record { walk_is = refl; number_is = refl; index_is = refl }

before_is : (k : ℕ) → 0 < k → (j : ℕ) × (k ≡ suc j)
before_is zero h = absurd (omega arith)
before_is (suc j) h = (j, refl)

module _ (known : AreKnown) (image : Image) (facts : Facts) (entry : ℕ) (machine : Machine) (program : Program) (u : Unfolded) (start : Start)
    (ends : EndsInMemory image) (sound : IsSoundProgram image facts entry machine program) (unfolds : IsUnfolding program u) (started : IsStart machine image entry start) where
  abbrev rules : Rules
  rules = rules_of facts program

  abbrev run_at : ℕ → Run
  run_at n = run_of machine image rules entry start n

  abbrev Holds : List Executed → Watch → List ℕ → ℕ → ℕ → Type 0
  Holds executed watch walk number index = HoldsAt image facts entry machine program sound u unfolds executed watch walk number index

  takes : TakesTargets facts rules
  takes = record { branches = refl; calls = refl }

  -- what is kept along the run
  record IsKept (run : Run) : Type 0 where
    walk : List ℕ
    number : ℕ
    index : ℕ
    holds : Holds run.executed run.watch walk number index
    come : (run.executed ≡ []) ⊎ (0 < index)
    fresh : run.executed ≡ [] → run.state.registers pc ≡ entry

  -- ---- the start

  start_node : IsNodeAt image facts entry machine program sound.is u unfolds u.start unfolds.start.node unfolds.start.starts.function unfolds.start.starts.block
  start_node = record { stands = unfolds.start.stands; is = unfolds.start.starts.is }

  start_chain : unfolds.start.node.chain ≡ []
  start_chain = unfolds.start.starts.has

  start_begins : unfolds.start.starts.block.start ≡ entry
  start_begins = unfolds.start.starts.start ∙ sound.is.start

  at_start : (l : ULoop) (loop : IsLoop program u.nodes u.edges l) → Contains l.members u.start → u.start ≡ l.head
  at_start l loop c = by (is_in image facts entry machine program sound u unfolds l loop u.start unfolds.start.node unfolds.start.starts.function unfolds.start.starts.block start_node c)
    where
      same_entry : unfolds.start.node.chain ≡ loop.node.chain → entry ≡ loop.head.function.entry
      same_entry own = sym sound.is.start ∙ ap (entry_after program.start) (sym start_chain ∙ own) ∙ sym loop.head.is.entry

      by : IsIn image facts entry machine program sound u unfolds l loop unfolds.start.node unfolds.start.starts.block → u.start ≡ l.head
      by (as_own own listed) = elim (cases_eq entry loop.info.head) [
        | inl same ↦ at_head image facts entry machine program sound u unfolds l loop u.start unfolds.start.node unfolds.start.starts.function unfolds.start.starts.block start_node own (start_begins ∙ same)
        | inr other ↦
            absurd (entry_in image facts entry machine program sound u unfolds l loop known.paths known.edges known.blocks ends
            (subst (λ a. Contains loop.info.members a) (start_begins ∙ same_entry own) listed) (λ k. other (same_entry own ∙ k)))
      ]
      by (as_within call calls longer listed) = absurd (not_empty loop.node.chain call calls (sym start_chain ∙ longer))

  first_holds : Holds [] (first_watch entry) [] u.start 0
  first_holds = record {
    in_node = record {
      node = unfolds.start.node;
      function = unfolds.start.starts.function;
      block = unfolds.start.starts.block;
      at = start_node;
      chain = sym start_chain;
      follows = begins;
      are_open = outermost (opened entry) refl;
    };
    stays = λ l loop c. record { since = []; count = 0; stays = starts (at_start l loop c) };
    counts = λ l loop since count k. first_count l loop since count k;
    totals = λ address edges all count k. first_total edges count k;
    bounded = bounded_first facts entry;
    stayed_before = λ l loop earlier node part k.
        let none : [] ≡ earlier = no_part earlier part.later part.are in
        let same : node ≡ u.start = one_end u earlier node u.start part.leads (subst (λ w. IsWalk u w u.start) none walk_starts) in
        subst (λ w. IsInStay u l w) none (record { since = []; count = 0; stays = starts (at_start l loop (subst (λ a. Contains l.members a) same k)) });
    bounded_before = λ l loop earlier since node count part k.
        no_count l since count (subst (λ w. StaysInLoop u l w since count) (sym (no_part earlier part.later part.are)) k);
  }
    where
      no_part : (earlier later : List ℕ) → [] ≡ later ++ earlier → [] ≡ earlier
      no_part earlier [] e = e
      no_part earlier (x ∷ later) e = absurd (not_empty [] x (later ++ earlier) e)

      no_count : (l : ULoop) (since : List ℕ) (count : ℕ) → StaysInLoop u l [] since count → count ≤ l.maxcount
      no_count l since count (starts e) = omega arith

      first_count : (l : ULoop) (loop : IsLoop program u.nodes u.edges l) (since : List ℕ) (count : ℕ) → StaysInLoop u l [] since count
          → IsCountedAt image facts entry machine program sound u unfolds l loop (opened entry ∷ []) count
      first_count l loop since count (starts e) =
          let head = is_head image facts entry machine program sound u unfolds l loop u.start unfolds.start.node unfolds.start.starts.function unfolds.start.starts.block start_node e in
          record { frame = opened entry; of = record { younger = []; older = []; are = refl; calls = sym start_chain ∙ head.chain }; counter = refl }

      first_total : (edges : List ℕ) (count : ℕ) → Takes edges [] count → 0 ≡ count
      first_total edges count none = refl

  -- ---- one step more

  module _ (n : ℕ) where
    abbrev run : Run
    run = run_at n

    -- the run is at the place of the next instruction
    record IsAt (executed : List Executed) (watch : Watch) : Type 0 where
      walk : List ℕ
      number : ℕ
      index : ℕ
      holds : Holds executed watch walk number index
      within : index < length holds.in_node.block.insns
      place : run.state.registers pc ≡ behind holds.in_node.block.start index

    moving : (watch : Watch) (i : Executed) (executed : List Executed) → run.end ≡ None → watch_at rules run ≡ Ok watch → run.executed ≡ i ∷ executed
        → IsMoving image facts entry machine program sound.is u unfolds i executed run.watch watch (run.state.registers pc)
    moving watch i executed going allowed is =
        let W : Executed → Type 0 = λ e. code_at image e.address ≡ Some e.done.entry.word in
        let R : Executed → Type 0 = λ e. IsReached image facts entry e.address in
        record {
          goes = known.goes machine image facts rules entry start n i executed watch takes going is allowed;
          tells = subst (λ (es : List Executed). TellLast es run.watch.frames) is (known.last machine image rules entry start n);
          functions = known.functions machine image facts rules entry start n started takes;
          word = All-head W i executed (subst (λ (es : List Executed). All W es) is (known.words machine image rules entry start n started));
          reached = All-head R i executed (subst (λ (es : List Executed). All R es) is (known.reached machine image facts rules entry start n started takes));
          small = (known.ranges machine image rules entry start n started).words pc;
        }

    -- nothing was executed
    at_entry : IsKept run → run.executed ≡ [] → IsAt run.executed run.watch
    at_entry kept is =
        let h = kept.holds in
        let none = is_begun u kept.walk kept.number kept.index (subst (λ (es : List Executed). Follows u es kept.walk kept.number kept.index) is h.in_node.follows) in
        let function = function_of image facts entry machine program sound.is u unfolds kept.number h.in_node.node h.in_node.function h.in_node.block h.in_node.at in
        let block = block_is image facts entry machine program sound.is h.in_node.node.function h.in_node.function h.in_node.node.block h.in_node.block function h.in_node.at.is.block_stands in
        let of = block_of image facts entry machine program sound.is u unfolds kept.number h.in_node.node h.in_node.function h.in_node.block h.in_node.at in
        let same : h.in_node.block ≡ unfolds.start.starts.block =
        one_block_of image facts entry machine program sound.is u unfolds u.start unfolds.start.node unfolds.start.starts.function unfolds.start.starts.block h.in_node.block start_node
        (subst (λ k. IsBlockOf u k h.in_node.block) none.number_is of) in
        let begins_there : h.in_node.block.start ≡ entry = ap (λ (b : Block). b.start) same ∙ start_begins in
        let small : entry < 2 ^ 32 = subst (λ a. a < 2 ^ 32) started.entered (started.words pc) in
        record {
          walk = kept.walk;
          number = kept.number;
          index = kept.index;
          holds = h;
          within = subst (λ k. k < length h.in_node.block.insns) (sym none.index_is) block.count.some;
          place = kept.fresh is ∙ sym ((λ i. behind (begins_there i) (none.index_is i)) ∙ place_zero entry small);
        }

    same_watch : (a b : Watch) → ◌≡◌ {A = Result Watch FactKind} (Ok a) (Ok b) → a ≡ b
    same_watch a b e = cc

    looks : (watch : Watch) (executed : List Executed) → run.executed ≡ executed → run.end ≡ None → watch_at rules run ≡ Ok watch → IsKept run → IsAt run.executed watch
    looks watch [] is going allowed kept =
        let same : run.watch ≡ watch = same_watch run.watch watch (sym (ap (λ (es : List Executed). watch_before rules es run.watch (run.state.registers pc)) is) ∙ allowed) in
        subst (λ (w : Watch). IsAt run.executed w) same (at_entry kept is)
    looks watch (i ∷ executed) is going allowed kept =
        let some = before_is kept.index (elim kept.come [ inl nothing ↦ absurd (omega (arith, ap length (sym nothing ∙ is))) | inr more ↦ more ]) in
        let h : Holds (i ∷ executed) run.watch kept.walk kept.number (suc some.0) =
        subst (λ k. Holds (i ∷ executed) run.watch kept.walk kept.number k) some.1 (subst (λ (es : List Executed). Holds es run.watch kept.walk kept.number kept.index) is kept.holds) in
        let there = is_there image facts entry machine program sound u unfolds known.paths known.edges known.blocks known.heads known.past ends i executed run.watch watch (run.state.registers pc)
        (moving watch i executed going allowed is) kept.walk kept.number some.0 h in
        subst (λ (es : List Executed). IsAt es watch) (sym is)
        (record { walk = there.walk_after; number = there.number_after; index = there.index_after; holds = there.holds; within = there.within; place = there.place })

    IsWord : Executed → Type 0
    IsWord i = code_at image i.address ≡ Some i.done.entry.word

    -- an instruction is executed there
    went_on : (watch : Watch) (e : Entry) (state : State) (end : Option End) → IsAt run.executed watch → All IsWord (extended machine run watch e state end).executed
        → (e.taken ≡ true → is_end (flow_of e.word (run.state.registers pc)) ≡ true) → IsKept (extended machine run watch e state end)
    unfolding IsWord
    went_on watch e state end at words jumps =
        let h = at.holds in
        let address = run.state.registers pc in
        let i : Executed = record { address = address; done = record { entry = e; times = next machine [] (dones run.executed) e } } in
        let code : code_at image address ≡ Some e.word = All-head IsWord i run.executed words in
        let function = function_of image facts entry machine program sound.is u unfolds at.number h.in_node.node h.in_node.function h.in_node.block h.in_node.at in
        let block = block_is image facts entry machine program sound.is h.in_node.node.function h.in_node.function h.in_node.node.block h.in_node.block function h.in_node.at.is.block_stands in
        let of = block_of image facts entry machine program sound.is u unfolds at.number h.in_node.node h.in_node.function h.in_node.block h.in_node.at in
        let ends_there : e.taken ≡ true → is_end (flow_at image address) ≡ true = λ t. ap is_end (flow_same image facts address e.word code) ∙ jumps t in
        let is : IsExecutedIn u at.number at.index i =
        executed_in image facts machine h.in_node.function.entry h.in_node.block block at.index at.within u at.number of i at.place code ends_there in
        record {
          walk = at.walk;
          number = at.number;
          index = suc at.index;
          holds = executed_holds image facts entry machine program sound u unfolds i run.executed watch at.walk at.number at.index h is;
          come = inr (omega arith);
          fresh = λ nothing. absurd (omega (arith, ap length nothing));
        }

    stopped : (end : End) → IsKept run → IsKept (record run { end = Some end })
    stopped end kept = record { walk = kept.walk; number = kept.number; index = kept.index; holds = kept.holds; come = kept.come; fresh = kept.fresh }

    by_outcome : (watch : Watch) (outcome : Outcome) → run.end ≡ None → watch_at rules run ≡ Ok watch → step machine image run.state ≡ outcome
        → All IsWord (after_outcome machine run watch outcome).executed → IsKept run → IsKept (after_outcome machine run watch outcome)
    by_outcome watch (Next went) going allowed is words kept =
        let flow = known.flow machine image run.state went is in
        went_on watch (entry_at machine run went.taken went.slow) went.state (end_after run watch went.taken) (looks watch run.executed refl going allowed kept) words
        (λ t. taken_ends (flow_of (current_word run.state) (run.state.registers pc)) (went.state.registers pc) (flow.taken t))
    by_outcome watch Ended going allowed is words kept =
        went_on watch (entry_at machine run false false) run.state (Some Finished) (looks watch run.executed refl going allowed kept) words (λ t. absurd (false≢true t))
    by_outcome watch (Stopped why) going allowed is words kept = stopped (Halted why) kept

    by_judgement : (judgement : Result Watch FactKind) → run.end ≡ None → watch_at rules run ≡ judgement
        → All IsWord (after_judgement machine image run judgement).executed → IsKept run → IsKept (after_judgement machine image run judgement)
    by_judgement (Err breach) going allowed words kept = stopped (Broken breach) kept
    by_judgement (Ok watch) going allowed words kept = by_outcome watch (step machine image run.state) going allowed refl words kept

    by_end : (end : Option End) → run.end ≡ end → All IsWord (advanced machine image rules run end).executed → IsKept run → IsKept (advanced machine image rules run end)
    by_end (Some end) is words kept = kept
    by_end None is words kept = by_judgement (watch_at rules run) is refl words kept

  kept_at : (n : ℕ) → IsKept (run_at n)
  unfolding run_of IsWord
  kept_at zero = record { walk = []; number = u.start; index = 0; holds = first_holds; come = inl refl; fresh = λ nothing. started.entered }
  kept_at (suc n) = by_end n (run_at n).end refl (known.words machine image rules entry start (suc n) started) (kept_at n)

  -- ---- what follows

  counted_in : (n : ℕ) (l : ULoop) (loop : IsLoop program u.nodes u.edges l) (count : ℕ)
      → IsCountedAt image facts entry machine program sound u unfolds l loop (run_at n).watch.frames count → IsCounted u (run_at n).watch.frames l count
  counted_in n l loop count is = record {
    head = loop.node;
    stands = loop.stands;
    block = loop.head.block;
    is = block_of image facts entry machine program sound.is u unfolds l.head loop.node loop.head.function loop.head.block (head_at image facts entry machine program sound u unfolds l loop);
    frame = is.frame;
    of = is.of;
    counter = ap is.frame.counter loop.head.head ∙ is.counter;
  }

  most_of : (n : ℕ) (kept : IsKept (run_at n)) (l : ULoop) (loop : IsLoop program u.nodes u.edges l) (address total : ℕ) → HasHeadAt u l address → l.totalcount ≡ Some total → (run_at n).watch.totals address ≤ total
  most_of n kept l loop address total head has =
      let fact = (loop_here image facts entry machine program sound u unfolds l loop).bounds in
      let same = one_block_of image facts entry machine program sound.is u unfolds l.head loop.node loop.head.function loop.head.block head.block
      (head_at image facts entry machine program sound u unfolds l loop) head.is in
      let at : loop.info.head ≡ address = sym loop.head.head ∙ ap (λ (b : Block). b.start) (sym same) ∙ head.start in
      let within = not_exceeded ((run_at n).watch.totals loop.info.head) total loop.info.totalcount (sym loop.totalcount ∙ has) (kept.holds.bounded.totals_are loop.info.head (fact_on (bounded_loop loop.info)) fact) in
      subst (λ a. (run_at n).watch.totals a ≤ total) at within

  loop_from : (l : ULoop) → Contains u.loops l → IsLoop program u.nodes u.edges l
  loop_from l c = loop_of image facts entry machine program sound u unfolds known.paths known.edges known.blocks ends l c

  following : (n : ℕ) → IsFollowing u (run_at n)
  following n =
      let kept = kept_at n in
      record {
        walk = kept.walk;
        node = kept.number;
        index = kept.index;
        follows = kept.holds.in_node.follows;
        inside = kept.come;
        stays = λ l earlier number c part member. kept.holds.stayed_before l (loop_from l c) earlier number part member;
        bounds = λ l earlier since number count c part stay. kept.holds.bounded_before l (loop_from l c) earlier since number count part stay;
        counts = λ l since count c stay. counted_in n l (loop_from l c) count (kept.holds.counts l (loop_from l c) since count stay);
        totals = λ address edges count all taken. kept.holds.totals address edges all count taken;
        most = λ l address total edges count c head has all taken.
            subst (λ k. k ≤ total) (kept.holds.totals address edges all count taken) (most_of n kept l (loop_from l c) address total head has);
      }

pub runs_follow_unfoldings : AreKnown → RunsFollowUnfoldings
runs_follow_unfoldings known image facts entry machine program u start n ends sound unfolds started = following known image facts entry machine program u start ends sound unfolds started n
