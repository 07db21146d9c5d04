-- A run that follows the unfolding pays visits along its walk, and was cut in one more.
use Rattle.std.proofs.Common.{◌≡◌, ℕ, suc, ◌+◌, ◌<◌, ◌≤◌, Bool, true, not, ◌==◌, List, [], ◌∷◌, ◌++◌, length, map, take, reverse, slice_get, refl, sym, ap, subst, ◌∙◌, inl, inr, arith}
use Rattle.std.specs.Prelude.{All, Some}
use Rattle.std.specs.List.{list_any}
use Rattle.std.proofs.lemmas.Bool.{cases_Bool, eqb-true, false≢true}
use Rattle.std.proofs.lemmas.List.{map-append, take_all}
use Rattle.std.proofs.lemmas.List.Elements.{All-head, All-tail}
use Rattle.std.proofs.lemmas.List.Folds.{list_any-from_Any}
use Rattle.std.proofs.lemmas.Option.{same_Some, slice_get_within}
use Rattle.wx_base.specs.declared.facts.Facts.{Facts}
use Rattle.wx_base.specs.declared.image.Image.{Image}
use Rattle.wx_base.specs.declared.machine.Machine.{Machine}
use Rattle.wx_base.specs.declared.machine.UnitKind.TheVariants.{Mul, Mem}
use Rattle.wx_base.specs.Cache.{Lines, IsCache, accessed, holds_line, line_of}
use Rattle.wx_base.specs.Functions.{code_at}
use Rattle.wx_base.specs.Instruction.{unit_of}
use Rattle.wx_base.specs.Machine.{IsShape}
use Rattle.wx_base.specs.Recurrence.{Entry}
use Rattle.wx_base.specs.Run.{Executed}
use Rattle.arm_code.specs.declared.insn.Insn.{Insn}
use Rattle.arm_code.specs.Encoding.{WordsAreSpelled}
use Rattle.flow_block.specs.declared.block.Block.{Block}
use Rattle.flow_block.specs.declared.block.Slot.{Slot}
use Rattle.flow_block.specs.declared.block.SlotKind.TheVariants.{Data}
use Rattle.flow_block.specs.Blocks.{IsBlock, slots_of}
use Rattle.flow_block.specs.Sites.{behind}
use Rattle.flow_graph.specs.declared.program.Program.{Program}
use Rattle.flow_graph.specs.Program.{IsProgram}
use Rattle.flow_ctx.specs.declared.unfolded.Edge.{Edge}
use Rattle.flow_ctx.specs.declared.unfolded.Unfolded.{Unfolded}
use Rattle.flow_ctx.specs.Nodes.{IsBlockOf}
use Rattle.flow_ctx.specs.Unfolding.{IsUnfolding}
use Rattle.pipe_block.specs.Events.{entries_from, entries_of}
use Rattle.time_laws.specs.Stretches.{jumping, executed_in}
use Rattle.run_laws.specs.Stepping.{MayBeSlow}
use Rattle.run_laws.specs.Stepping.MayBeSlow.{multiplies, transfers}
use Rattle.ctx_laws.specs.Following.{Follows, IsExecutedIn, LeadsOn}
use Rattle.ctx_laws.specs.Following.Follows.{begins, executes, moves}
use Rattle.cache_lru.specs.Laws.{AccessKeepsCache, SecondAccessHits}
use Rattle.cache_pers.specs.Stays.{cache_along}
use Rattle.cache_class.specs.Accesses.{lines_fetched}
use Rattle.class_laws.specs.Visits.{Visit, stretch_of}
use Rattle.class_laws.proofs.Caches.{cached, outcomes}
use Rattle.class_laws.proofs.Fits.{Fits, FitsAt, count_is, entry_of, executed_are, last_taken, slow_in}
use Rattle.class_laws.proofs.Fits.Fits.{none, one}
use Rattle.class_laws.proofs.Fronts.{front_more, front_of}
use Rattle.class_laws.proofs.Lists.{heads}
use Rattle.class_laws.proofs.Runs.{AreMet, IsMet, cache_behind}
use Rattle.class_laws.proofs.Nodes.{IsSomeBlock, block_is, one_block, start_block, target_block}
use Rattle.class_laws.proofs.Visited.{AreVisited, IsVisited}
use Rattle.class_laws.proofs.Visited.AreVisited.{none as no_visit, one as one_visit}
use Rattle.class_laws.proofs.Works.{data_transfers}

-- the words that were executed are the image's
abbrev pub IsCode : Image → Executed → Type 0
IsCode image i = code_at image i.address ≡ Some i.done.entry.word

-- the entries of some instructions are as many as these
entries_count : (f : ℕ → Bool) (events : List Slot) (place : ℕ) (insns : List Insn) → length (entries_from f events place insns) ≡ length insns
entries_count f events place [] = refl
entries_count f events place (x ∷ insns) = ap suc (entries_count f events (place + 1) insns)

joined_taken : (i : Executed) (executed recent before : List Executed) → i ∷ executed ≡ recent ++ before → 0 < length recent → last_taken recent ≡ i.done.entry.taken
joined_taken i executed [] before e some = absurd (omega arith)
joined_taken i executed (j ∷ recent) before e some = ap (λ (x : Executed). x.done.entry.taken) (sym (heads i j executed (recent ++ before) e))

module _ (image : Image) (facts : Facts) (machine : Machine) (entry : ℕ) (b : Block) (is : IsBlock image facts machine entry b) (cache : Lines) where
  slow_transfer : (word : ℕ) → unit_of word ≡ Mem → MayBeSlow machine word → list_any (λ region. region.slow) machine.regions ≡ true
  slow_transfer word memory (multiplies e) = absurd (let f : Mem ≡ Mul = sym memory ∙ e in cc)
  slow_transfer word memory (transfers e any) = list_any-from_Any (λ region. region.slow) machine.regions any

  -- where an access to data was slow the machine has a slow region
  slow_regions : (executed : List Executed) (place : ℕ) → Fits image machine b cache executed place → (number : ℕ) (event : Slot)
      → slice_get b.slots number ≡ Some event → event.kind ≡ Data → slow_in executed event.at ≡ true → list_any (λ region. region.slow) machine.regions ≡ true
  slow_regions executed place none number event stands data_kind slow = absurd (false≢true slow)
  slow_regions executed place (one i before k fits at) number event stands data_kind slow = elim (cases_Bool (event.at == length before)) [
    | inl e ↦
        let here : event.at ≡ k = eqb-true event.at (length before) e ∙ count_is image machine b cache before k fits in
        let is_slow : i.done.entry.slow ≡ true = rw e at slow in
        let transfer = data_transfers image machine b.start (length b.insns) number event (ap (λ (s : List Slot). slice_get s number) (sym is.slots) ∙ stands) data_kind in
        let same : i.done.entry.word ≡ transfer.word = same_Some i.done.entry.word transfer.word (sym at.code ∙ ap (λ p. code_at image (behind b.start p)) (sym here) ∙ transfer.code) in
        slow_transfer i.done.entry.word (ap unit_of same ∙ transfer.unit) (at.slow is_slow)
    | inr e ↦ slow_regions before k fits number event stands data_kind (rw e at slow)
  ]

module _ (keeps : AccessKeepsCache) (again : SecondAccessHits) (spelled : WordsAreSpelled) (image : Image) (facts : Facts) (entry : ℕ) (machine : Machine)
    (program : Program) (built : IsProgram image facts entry machine program) (u : Unfolded) (unfolds : IsUnfolding program u) (shape : IsShape machine.shape)
    (first : Lines) (c : IsCache machine.shape first) where
  -- what was executed are the instructions of visits along the walk, and so many first ones of the node's block
  pub record IsCut (executed : List Executed) (walk : List ℕ) (node index : ℕ) : Type 0 where
    pub visits : List Visit
    pub cache : Lines
    pub is_cache : IsCache machine.shape cache
    pub recent : List Executed
    pub before : List Executed
    pub block : Block
    pub is : IsBlockOf u node block
    pub joined : executed ≡ recent ++ before
    pub fits : Fits image machine block cache recent index
    pub short : index ≤ length block.insns
    pub visited : AreVisited u machine first visits walk node cache
    pub behind : map entry_of before ≡ executed_in (map stretch_of visits)
    pub front : cache_behind machine.shape first executed ≡ front_of image machine block.start cache index

  -- the visit of a block of which some instructions were executed
  abbrev pub visit_by : ℕ → Block → Lines → List Executed → Bool → Visit
  visit_by node block cache recent taken = record { node = node; block = block; outcomes = outcomes machine.shape cache (slow_in recent) block.slots; taken = taken }

  pub entries_are : (executed : List Executed) (walk : List ℕ) (node index : ℕ) → (cut : IsCut executed walk node index) → (taken : Bool) → last_taken cut.recent ≡ taken
      → map entry_of executed ≡ jumping taken (reverse (take index (entries_of cut.block (outcomes machine.shape cut.cache (slow_in cut.recent) cut.block.slots)))) ++ executed_in (map stretch_of cut.visits)
  entries_are executed walk node index cut taken e =
      let some = block_is image facts entry machine program built u unfolds node cut.block cut.is in
      let own = executed_are keeps again image facts machine shape some.entry cut.block some.is cut.cache cut.is_cache cut.recent index cut.short cut.fits in
      let given = take index (entries_of cut.block (outcomes machine.shape cut.cache (slow_in cut.recent) cut.block.slots)) in
      ap (map entry_of) cut.joined
      ∙ map-append entry_of cut.recent cut.before
      ∙ (λ i. own i ++ cut.behind i)
      ∙ ap (λ t. jumping t (reverse given) ++ executed_in (map stretch_of cut.visits)) e

  pub visited_by : (executed : List Executed) (walk : List ℕ) (node index : ℕ) → (cut : IsCut executed walk node index) → (taken : Bool)
      → IsVisited u machine first cut.cache node (visit_by node cut.block cut.cache cut.recent taken)
  visited_by executed walk node index cut taken =
      let some = block_is image facts entry machine program built u unfolds node cut.block cut.is in
      record {
        here = refl;
        is = cut.is;
        slow = slow_in cut.recent;
        come = refl;
        regions = slow_regions image facts machine some.entry cut.block some.is cut.cache cut.recent index cut.fits;
      }

  -- ---- the start

  at_start : IsCut [] [] u.start 0
  at_start =
      let has = start_block image facts entry machine program built u unfolds in
      record {
        visits = [];
        cache = first;
        is_cache = c;
        recent = [];
        before = [];
        block = has.block;
        is = has.is;
        joined = refl;
        fits = none;
        short = omega arith;
        visited = no_visit;
        behind = refl;
        front = refl;
      }

  -- ---- one more instruction

  module _ (i : Executed) (executed : List Executed) (walk : List ℕ) (node index : ℕ) (cut : IsCut executed walk node index)
      (is : IsExecutedIn u node index i) (met : IsMet machine (cache_behind machine.shape first executed) i) (code : IsCode image i) where
    same_block : is.block ≡ cut.block
    same_block = one_block u node is.block cut.block is.is cut.is

    stands : slice_get cut.block.insns index ≡ Some is.insn
    stands = ap (λ (x : Block). slice_get x.insns index) (sym same_block) ∙ is.stands

    within : index < length cut.block.insns
    within = slice_get_within cut.block.insns index is.insn stands

    address : i.address ≡ behind cut.block.start index
    address = is.address ∙ ap (λ (x : Block). behind x.start index) same_block

    fits_there : FitsAt image machine cut.block cut.cache index i
    fits_there = record {
      insn = is.insn;
      stands = stands;
      word = spelled i.done.entry.word is.insn met.small is.means;
      code = ap (code_at image) (sym address) ∙ code;
      miss = met.miss ∙ (λ j. not (holds_line machine.shape (cut.front j) (line_of machine.shape (address j))));
      slow = met.slow;
      straight = λ less. is.straight (subst (λ (x : Block). suc index < length x.insns) (sym same_block) less);
    }

    cut_on : IsCut (i ∷ executed) walk node (suc index)
    cut_on =
        let some = block_is image facts entry machine program built u unfolds node cut.block cut.is in
        record {
          visits = cut.visits;
          cache = cut.cache;
          is_cache = cut.is_cache;
          recent = i ∷ cut.recent;
          before = cut.before;
          block = cut.block;
          is = cut.is;
          joined = ap (λ (xs : List Executed). i ∷ xs) cut.joined;
          fits = one i cut.recent index cut.fits fits_there;
          short = omega (arith, within);
          visited = cut.visited;
          behind = cut.behind;
          front = (λ j. accessed machine.shape (cut.front j) (line_of machine.shape (address j)))
              ∙ sym (front_more image machine cut.block.start keeps again shape cut.cache cut.is_cache index (omega (arith, within, some.is.count.short)));
        }

  -- ---- a move to the next node

  module _ (i : Executed) (executed : List Executed) (walk : List ℕ) (index number : ℕ) (edge : Edge) (cut : IsCut (i ∷ executed) walk edge.from index)
      (on : LeadsOn u number edge index i) where
    some_block : IsSomeBlock image facts machine cut.block
    some_block = block_is image facts entry machine program built u unfolds edge.from cut.block cut.is

    whole : index ≡ length cut.block.insns
    whole = on.whole ∙ ap (λ (x : Block). length x.insns) (one_block u edge.from on.block cut.block on.is cut.is)

    taken_is : last_taken cut.recent ≡ edge.taken
    taken_is =
        joined_taken i executed cut.recent cut.before cut.joined (omega (arith, whole, count_is image machine cut.block cut.cache cut.recent index cut.fits, some_block.is.count.some))
        ∙ sym on.taken

    abbrev visit : Visit
    visit = visit_by edge.from cut.block cut.cache cut.recent edge.taken

    all_of_it : take index (entries_of cut.block visit.outcomes) ≡ entries_of cut.block visit.outcomes
    all_of_it = take_all index (entries_of cut.block visit.outcomes) (omega (arith, whole, entries_count visit.outcomes cut.block.slots 0 cut.block.insns))

    moved : IsCut (i ∷ executed) (number ∷ walk) edge.to 0
    moved =
        let has = target_block image facts entry machine program built u unfolds number edge on.stands in
        record {
          visits = visit ∷ cut.visits;
          cache = cache_along machine.shape cut.cache (lines_fetched cut.block.slots);
          is_cache = cached keeps machine.shape shape cut.cache (lines_fetched cut.block.slots) cut.is_cache;
          recent = [];
          before = i ∷ executed;
          block = has.block;
          is = has.is;
          joined = refl;
          fits = none;
          short = omega arith;
          visited = one_visit cut.visits walk number edge visit cut.cache cut.visited on.stands refl (visited_by (i ∷ executed) walk edge.from index cut edge.taken);
          behind = entries_are (i ∷ executed) walk edge.from index cut edge.taken taken_is
              ∙ ap (λ (es : List Entry). jumping edge.taken (reverse es) ++ executed_in (map stretch_of cut.visits)) all_of_it;
          front = cut.front
              ∙ ap (λ k. cache_along machine.shape cut.cache (lines_fetched (slots_of image machine cut.block.start k))) whole
              ∙ ap (λ (s : List Slot). cache_along machine.shape cut.cache (lines_fetched s)) (sym some_block.is.slots);
        }

  pub is_cut : (executed : List Executed) (walk : List ℕ) (node index : ℕ) → Follows u executed walk node index → AreMet machine first executed → All (IsCode image) executed
      → IsCut executed walk node index
  is_cut executed walk node index begins met code = at_start
  is_cut executed walk node index (executes i before w number k f is) met code =
      cut_on i before w number k (is_cut before w number k f met.1 (All-tail (IsCode image) i before code)) is met.0 (All-head (IsCode image) i before code)
  is_cut executed walk node index (moves i before w k number edge f on) met code = moved i before w k number edge (is_cut (i ∷ before) w edge.from k f met code) on
