-- Each frame of a run stays in its function.
use Rattle.std.proofs.Common.{◌≡◌, ℕ, Bool, true, false, ◌||◌, List, [], ◌∷◌, sym, ap, subst, ◌∙◌, inr}
use Rattle.std.specs.Prelude.{Option, Some, None, All, Contains, is_some, unwrap_or}
use Rattle.std.proofs.lemmas.Bool.{false≢true}
use Rattle.std.proofs.lemmas.List.Elements.{All-cons, All-head, All-tail, Contains-append_left, Contains-append_right}
use Rattle.std.specs.Option.{option_map_or}
use Rattle.wx_base.specs.declared.facts.Facts.{Facts}
use Rattle.wx_base.specs.declared.image.Image.{Image}
use Rattle.wx_base.specs.Bits.{add_words}
use Rattle.wx_base.specs.Flow.{flow_of}
use Rattle.wx_base.specs.Functions.{callees_at, callees_of, code_at, leads_at, ways_at, IsEntry, IsReached}
use Rattle.wx_base.specs.Monitor.{Rules, Watch, Frame, frames_at, is_call, is_target, last_of, leaves, opened}
use Rattle.wx_base.specs.Paths.{Path}
use Rattle.wx_base.specs.Paths.Path.{here}
use Rattle.wx_base.specs.Ways.{ways_of}
use Rattle.run_laws.specs.Flowing.{IsTakenTo, GoesBehind}
use Rattle.run_laws.specs.Flowing.IsTakenTo.{jump, call, call_any, ret, indirect}
use Rattle.run_laws.specs.Reached.{TakesTargets, IsInFunction}
use Rattle.run_laws.proofs.ChainLemmas.{leaving}
use Rattle.run_laws.proofs.MoveLemmas.{IsMove, IsToTarget, counted}
use Rattle.run_laws.proofs.MoveLemmas.IsMove.{on, by_jump, by_call, by_return, out}
use Rattle.run_laws.proofs.ReachLemmas.{none_there, one_more, way_behind, way_of_jump, way_of_target, callee_of_call, callee_of_target, call_alone}

module _ (image : Image) (facts : Facts) (entry : ℕ) where
  -- a frame that made a call: it goes on behind its last address
  pub record IsCaller (frame : Frame) : Type 0 where
    pub site : ℕ
    pub last : frame.last ≡ Some site
    pub inside : IsInFunction image facts entry frame
    pub reached : IsReached image facts entry site
    pub behind : Contains (ways_at image facts site) (add_words site 4)

  -- the youngest frame is in its function, and the others made calls
  abbrev pub AreInside : List Frame → Type 0
  AreInside [] = Unit {0}
  AreInside (frame ∷ callers) = IsInFunction image facts entry frame × All IsCaller callers

  -- where the machine looks: in the function of the youngest frame
  pub record LooksInside (frames : List Frame) (to : ℕ) : Type 0 where
    pub youngest : Frame
    pub callers : List Frame
    pub are : frames ≡ youngest ∷ callers
    pub function : IsEntry image facts entry youngest.function
    pub path : Path (ways_at image facts) [] youngest.function to
    pub led : Path (leads_at image facts) [] entry to
    pub all : All IsCaller callers

  -- what is executed there stays inside
  pub executed_inside : (frames : List Frame) (to : ℕ) → LooksInside frames to → AreInside (frames_at frames to)
  executed_inside frames to l =
      subst (λ (fs : List Frame). AreInside (frames_at fs to)) (sym l.are)
      (record { function = l.function; last = λ a e. subst (λ (x : ℕ). Path (ways_at image facts) [] l.youngest.function x) (same to a e) l.path }, l.all)
    where
      same : (a b : ℕ) → Some a ≡ Some b → a ≡ b
      same a b e = cc

  -- ---- one move on

  module _ (rules : Rules) (targets : TakesTargets facts rules) (frame : Frame) (callers : List Frame) (inside : IsInFunction image facts entry frame) (all : All IsCaller callers)
      (address word to : ℕ) (last : frame.last ≡ Some address) (reached : IsReached image facts entry address) (code : code_at image address ≡ Some word) where
    ways_are : ways_at image facts address ≡ ways_of facts word address
    ways_are = ap (λ (o : Option ℕ). option_map_or (λ w. ways_of facts w address) o []) code

    callees_are : callees_at image facts address ≡ callees_of facts word address
    callees_are = ap (λ (o : Option ℕ). option_map_or (λ w. callees_of facts w address) o []) code

    is_way : Contains (ways_of facts word address) to → Contains (ways_at image facts address) to
    is_way h = subst (λ (xs : List ℕ). Contains xs to) (sym ways_are) h

    is_callee : Contains (callees_of facts word address) to → Contains (callees_at image facts address) to
    is_callee h = subst (λ (xs : List ℕ). Contains xs to) (sym callees_are) h

    -- on in the same function
    same_function : (after : Watch) (counter : ℕ → ℕ) → after.frames ≡ counted frame counter ∷ callers → Contains (ways_at image facts address) to → LooksInside after.frames to
    same_function after counter are way = record {
      youngest = counted frame counter;
      callers = callers;
      are = are;
      function = inside.function;
      path = one_more (ways_at image facts) (inside.last address last) way;
      led = one_more (leads_at image facts) reached.path (Contains-append_left (ways_at image facts address) (callees_at image facts address) to way);
      all = all;
    }

    -- into a function that is called
    new_function : (after : Watch) → is_call (flow_of word address) ≡ true → after.frames ≡ opened to ∷ frame ∷ callers → Contains (callees_at image facts address) to → LooksInside after.frames to
    new_function after calls are callee = record {
      youngest = opened to;
      callers = frame ∷ callers;
      are = are;
      function = inr (record { site = address; reached = reached; callee = callee });
      path = here to (none_there to);
      led = one_more (leads_at image facts) reached.path (Contains-append_right (ways_at image facts address) (callees_at image facts address) to callee);
      all = All-cons IsCaller frame callers (record {
        site = address;
        last = last;
        inside = inside;
        reached = reached;
        behind = subst (λ (xs : List ℕ). Contains xs (add_words address 4)) (sym ways_are) (way_behind facts address (flow_of word address) (call_alone word address calls).next);
      }) all;
    }

    -- back into the function of the caller
    caller_function : (after : Watch) (caller : Frame) (others : List Frame) (counter : ℕ → ℕ) → callers ≡ caller ∷ others → after.frames ≡ counted caller counter ∷ others
        → to ≡ add_words (last_of caller) 4 → LooksInside after.frames to
    caller_function after caller others counter split are behind =
        let these : All IsCaller (caller ∷ others) = subst (λ (cs : List Frame). All IsCaller cs) split all in
        let c = All-head IsCaller caller others these in
        let e : to ≡ add_words c.site 4 = behind ∙ ap (λ (o : Option ℕ). add_words (unwrap_or o 0) 4) c.last in
        let way : Contains (ways_at image facts c.site) to = subst (λ (x : ℕ). Contains (ways_at image facts c.site) x) (sym e) c.behind in
        record {
          youngest = counted caller counter;
          callers = others;
          are = are;
          function = c.inside.function;
          path = one_more (ways_at image facts) (c.inside.last c.site c.last) way;
          led = one_more (leads_at image facts) c.reached.path (Contains-append_left (ways_at image facts c.site) (callees_at image facts c.site) to way);
          all = All-tail IsCaller caller others these;
        }

    -- the address that the frame tells is this one
    at : last_of frame ≡ address
    at = ap (λ (o : Option ℕ). unwrap_or o 0) last

    known_branch : is_target rules.branches (last_of frame) to ≡ true → is_target facts.branches address to ≡ true
    known_branch e = sym (λ i. is_target (targets.branches i) (at i) to) ∙ e

    known_call : is_target rules.calls (last_of frame) to ≡ true → is_target facts.calls address to ≡ true
    known_call e = sym (λ i. is_target (targets.calls i) (at i) to) ∙ e

    no_jump_call : (a b : Bool) → (a || b) ≡ false → (a ≡ true → ⊥) × (b ≡ true → ⊥)
    no_jump_call true b e = absurd (false≢true (sym e))
    no_jump_call false true e = absurd (false≢true (sym e))
    no_jump_call false false e = (λ f. false≢true f, λ f. false≢true f)

    jump_way : IsTakenTo (flow_of word address) to → IsToTarget rules (flow_of word address) (last_of frame) to → is_call (flow_of word address) ≡ false → (flow_of word address).ret ≡ false
        → Contains (ways_at image facts address) to
    jump_way (jump e) target no_call no_return = is_way (way_of_jump facts address (flow_of word address) to e)
    jump_way (call e) target no_call no_return = absurd ((no_jump_call _ _ no_call).0 (ap is_some e))
    jump_way (call_any e) target no_call no_return = absurd ((no_jump_call _ _ no_call).1 e)
    jump_way (ret e) target no_call no_return = absurd (false≢true (sym no_return ∙ e))
    jump_way (indirect e) target no_call no_return = is_way (way_of_target facts address (flow_of word address) to e (known_branch (target.indirect e)))

    call_way : IsTakenTo (flow_of word address) to → IsToTarget rules (flow_of word address) (last_of frame) to → is_call (flow_of word address) ≡ true → Contains (callees_at image facts address) to
    call_way (jump e) target calls = absurd (let n = (call_alone word address calls).no_jump in let f : None ≡ Some to = sym n ∙ e in cc)
    call_way (call e) target calls = is_callee (callee_of_call facts address (flow_of word address) to e)
    call_way (call_any e) target calls = is_callee (callee_of_target facts address (flow_of word address) to e (known_call (target.call_any e)))
    call_way (ret e) target calls = absurd (false≢true (sym (call_alone word address calls).no_return ∙ e))
    call_way (indirect e) target calls = absurd (false≢true (sym (call_alone word address calls).direct ∙ e))

    pub move_inside : (totals : ℕ → ℕ) (taken : Bool) (after : Watch) → (taken ≡ false → GoesBehind (flow_of word address) word address to) → (taken ≡ true → IsTakenTo (flow_of word address) to)
        → leaves (frame ∷ callers) (flow_of word address) taken ≡ false → IsMove rules frame callers totals (flow_of word address) taken to after → LooksInside after.frames to
    move_inside totals taken after untaken away stays (on t counter are counts) =
        let g = untaken t in
        same_function after counter are (is_way (subst (λ (x : ℕ). Contains (ways_of facts word address) x) (sym g.behind) (way_behind facts address (flow_of word address) g.may)))
    move_inside totals taken after untaken away stays (by_jump t target no_call no_return counter are counts) = same_function after counter are (jump_way (away t) target no_call no_return)
    move_inside totals taken after untaken away stays (by_call t target calls are totals_are) = new_function after calls are (call_way (away t) target calls)
    move_inside totals taken after untaken away stays (by_return t no_call back caller others split behind counter are counts) = caller_function after caller others counter split are behind
    move_inside totals taken after untaken away stays (out t no_call back none are) = absurd (false≢true (sym stays ∙ leaving (flow_of word address) taken frame callers t back none))
