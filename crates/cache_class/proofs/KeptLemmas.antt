-- In which scopes lines are kept.
use Rattle.std.proofs.Common.{◌≡◌, ℕ, ◌+◌, ◌<◌, ◌≤◌, ◌⊎◌, Bool, true, false, List, [], length, get_or, slice_get, Option, Some, None, refl, sym, ap, ◌∙◌, subst, inl, inr, arith}
use Rattle.std.specs.Bool.{Decides}
use Rattle.std.specs.List.{Contains}
use Rattle.std.specs.Option.{option_map_or}
use Rattle.std.proofs.lemmas.Bool.{cases_lt, false≢true}
use Rattle.std.proofs.lemmas.List.{get_or_default}
use Rattle.std.proofs.lemmas.Option.{get_or_from_slice_get, same_Some, slice_get_within, slice_get-get_or}
use Rattle.wx_base.specs.declared.machine.Shape.{Shape}
use Rattle.cache_flow.specs.declared.flow.Flow.{Flow}
use Rattle.cache_flow.specs.Flows.{Part}
use Rattle.cache_flow.specs.Shown.{IsKept}
use Rattle.flow_ctx.specs.declared.scope.Scope.{Scope}
use Rattle.flow_ctx.specs.declared.scope.Scope.TheVariants.{Run, Loop}
use Rattle.flow_ctx.specs.declared.unfolded.ULoop.{ULoop}
use Rattle.flow_ctx.specs.declared.unfolded.Unfolded.{Unfolded}
use Rattle.flow_ctx.specs.Unfolding.{IsUnfolding}
use Rattle.cache_class.specs.Accesses.{part_of}
use Rattle.cache_class.specs.Chains.{has_node, HasWithin, IsChain}
use Rattle.cache_class.specs.Classes.{IsOutside, IsKeptIn}
use Rattle.cache_class.specs.Tables.{IsFirstKept, IsOutermost}
use Rattle.cache_class.proofs.OneTable.{one_of_contained}
use Rattle.cache_class.proofs.OrderLemmas.{members_within}
use Rattle.cache_class.proofs.TableLemmas.{contained, in_range, loop_part, part}

-- what is kept in a part is kept in a part of it, since the same states are a solution there
kept_inside : (shape : Shape) (flow : Flow) (whole inner : Part) (node place line : ℕ) → ((n : ℕ) → Contains inner.members n → Contains whole.members n)
    → IsKept shape flow whole node place line → IsKept shape flow inner node place line
kept_inside shape flow whole inner node place line within is = record {
  states = is.states;
  solution = record {
    head = record { known = λ n k. absurd (false≢true k); held = λ n other k h. absurd (false≢true k) };
    moves = λ m c from to. is.solution.moves m c (within m.from from) (within m.to to);
  };
  kept = is.kept;
}

-- there are no other loops
numbered : (u : Unfolded) (node number : ℕ) → Contains (part_of u (Loop number)).members node → number < length u.loops
numbered u node number member = by (slice_get u.loops number) refl
  where
    by : (o : Option ULoop) → slice_get u.loops number ≡ o → number < length u.loops
    by (Some l) e = slice_get_within u.loops number l e
    by None e =
        let members : (part_of u (Loop number)).members ≡ [] = ap (λ o. (option_map_or (λ (l : ULoop). part l.head l.members) o (part 0 [])).members) e in
        let nobody : Contains {X = ℕ} [] node = subst (λ (ms : List ℕ). Contains ms node) members member in
        absurd (omega (arith, nobody.1))

module _ (shape : Shape) (u : Unfolded) (flow : Flow) (node place line : ℕ) where
  pub run_decided : (kept : Bool) → node < length u.nodes → Decides kept (IsKept shape flow (part_of u Run) node place line)
      → Decides kept (IsKeptIn shape u flow node place line Run)
  run_decided kept inside told = (λ yes. record { member = in_range (length u.nodes) node inside; kept = told.0 yes }, λ is. told.1 is.kept)

  pub loop_decided : (kept : Bool) (number : ℕ) → has_node u node number ≡ true → Decides kept (IsKept shape flow (part_of u (Loop number)) node place line)
      → Decides kept (IsKeptIn shape u flow node place line (Loop number))
  loop_decided kept number has told = (λ yes. record { member = contained (part_of u (Loop number)).members node has; kept = told.0 yes }, λ is. told.1 is.kept)

  -- what is kept in the run is kept in each loop that has the node
  run_loop : IsUnfolding u.program u → (number : ℕ) → number < length u.loops → has_node u node number ≡ true → IsKeptIn shape u flow node place line Run
      → IsKeptIn shape u flow node place line (Loop number)
  run_loop unfolds number h has is = record {
    member = contained (part_of u (Loop number)).members node has;
    kept = kept_inside shape flow (part_of u Run) (part_of u (Loop number)) node place line (λ n c. in_range (length u.nodes) n (within n c)) is.kept;
  }
    where
      nowhere : ULoop
      nowhere = record { head = 0; members = []; back = []; entries = []; maxcount = 0; totalcount = None }

      within : (n : ℕ) → Contains (part_of u (Loop number)).members n → n < length u.nodes
      within n c =
          let at = slice_get-get_or u.loops number nowhere h in
          members_within u unfolds number (get_or u.loops number nowhere) at n (subst (λ (p : Part). Contains p.members n) (loop_part u number (get_or u.loops number nowhere) at) c)

  -- and what is kept in a loop is kept in one within it
  loop_loop : (outer inner : ℕ) → HasWithin u outer inner → has_node u node inner ≡ true → IsKeptIn shape u flow node place line (Loop outer)
      → IsKeptIn shape u flow node place line (Loop inner)
  loop_loop outer inner within has is = record {
    member = contained (part_of u (Loop inner)).members node has;
    kept = kept_inside shape flow (part_of u (Loop outer)) (part_of u (Loop inner)) node place line
        (λ n c. contained (part_of u (Loop outer)).members n
        (within node n (one_of_contained (part_of u (Loop outer)).members node is.member) has (one_of_contained (part_of u (Loop inner)).members n c))) is.kept;
  }

  -- ---- halving

  pub record IsHalved (chain : List ℕ) (low high : ℕ) : Type 0 where
    pub order : low ≤ high
    pub within : high ≤ length chain
    pub before : (k number : ℕ) → k < low → slice_get chain k ≡ Some number → IsKeptIn shape u flow node place line (Loop number) → ⊥
    pub here : (number : ℕ) → slice_get chain high ≡ Some number → IsKeptIn shape u flow node place line (Loop number)

  pub halved_none : (chain : List ℕ) (high : ℕ) → high ≡ length chain → IsHalved chain 0 high
  halved_none chain high e = record {
    order = omega arith;
    within = omega (arith, e);
    before = λ k number h at is. absurd (omega (arith, h));
    here = λ number at. absurd (omega (arith, e, slice_get_within chain high number at));
  }

  pub halved_high : (chain : List ℕ) (low high middle number : ℕ) → IsHalved chain low high → low ≤ middle → middle < high → slice_get chain middle ≡ Some number
      → IsKeptIn shape u flow node place line (Loop number) → IsHalved chain low middle
  halved_high chain low high middle number so above below at is = record {
    order = above;
    within = omega (arith, below, so.within);
    before = so.before;
    here = λ other there. subst (λ (n : ℕ). IsKeptIn shape u flow node place line (Loop n)) (same_Some number other (sym at ∙ there)) is;
  }

  pub halved_low : (nested : Bool) (chain : List ℕ) (low high middle number : ℕ) → IsChain u nested node chain → IsHalved chain low high → low ≤ middle → middle < high
      → (nested ≡ false → middle ≡ low) → slice_get chain middle ≡ Some number → (IsKeptIn shape u flow node place line (Loop number) → ⊥) → IsHalved chain (middle + 1) high
  halved_low nested chain low high middle number is so above below first at never = record {
    order = omega (arith, below);
    within = so.within;
    before = λ k other h there kept. elim (cases_lt k low) [
      | inl early ↦ so.before k other early there kept
      | inr late ↦ elim (cases_lt k middle) [
        | inr ge ↦ let e : k ≡ middle = omega (arith, ge, h) in
            let same : other ≡ number = same_Some other number (sym there ∙ ap (slice_get chain) e ∙ at) in
            never (subst (λ (n : ℕ). IsKeptIn shape u flow node place line (Loop n)) same kept)
        | inl lt ↦ by nested refl k other late lt there kept
      ]
    ];
    here = so.here;
  }
    where
      has : has_node u node number ≡ true
      has = ((is.exact number).0 (middle, slice_get_within chain middle number at, get_or_from_slice_get chain middle number number at)).1

      by : (b : Bool) → nested ≡ b → (k other : ℕ) → low ≤ k → k < middle → slice_get chain k ≡ Some other → IsKeptIn shape u flow node place line (Loop other) → ⊥
      by false e k other late lt there kept = omega (arith, first e, late, lt)
      by true e k other late lt there kept =
          let inside = slice_get_within chain middle number at in
          let k_inside = slice_get_within chain k other there in
          let pair : HasWithin u (get_or chain k 0) (get_or chain middle 0) = is.within e k middle 0 lt inside in
          let within : HasWithin u other number = subst (λ (n : ℕ). HasWithin u n number) (get_or_from_slice_get chain k other 0 there)
          (subst (λ (n : ℕ). HasWithin u (get_or chain k 0) n) (get_or_from_slice_get chain middle number 0 at) pair) in
          never (loop_loop other number within has kept)

  pub halved_all : (chain : List ℕ) (low high : ℕ) → IsHalved chain low high → high ≤ low → IsFirstKept shape u flow node place line chain low
  halved_all chain low high so h =
      let e : high ≡ low = omega (arith, h, so.order) in
      record { within = omega (arith, e, so.within); before = so.before; here = λ number at. so.here number (ap (slice_get chain) e ∙ at) }

  -- ---- the outermost scope

  nowhere_outside : (outer : Scope) → IsOutside u outer Run → ⊥
  nowhere_outside Run out = out
  nowhere_outside (Loop number) out = out

  pub run_outermost : IsKeptIn shape u flow node place line Run → IsOutermost shape u flow node place line Run
  run_outermost is = record { is = is; outermost = λ outer out kept. nowhere_outside outer out }

  not_both : (k m : ℕ) → IsOutside u (Loop k) (Loop m) → IsOutside u (Loop m) (Loop k) → ⊥
  not_both k m (inl h) (inl g) = omega (arith, h, g)
  not_both k m (inl h) (inr q) = omega (arith, h, q.0)
  not_both k m (inr p) (inl g) = omega (arith, p.0, g)
  not_both k m (inr p) (inr q) = omega (arith, p.1, q.1)

  module _ (unfolds : IsUnfolding u.program u) (nested : Bool) (chain : List ℕ) (found : ℕ) (is : IsChain u nested node chain)
      (so : IsFirstKept shape u flow node place line chain found) (not_first : found ≡ 0 → IsKeptIn shape u flow node place line Run → ⊥) where
    run_not : IsKeptIn shape u flow node place line Run → ⊥
    run_not kept = by (cases_lt 0 found)
      where
        by : (0 < found) ⊎ (found ≤ 0) → ⊥
        by (inr le) = not_first (omega (arith, le)) kept
        by (inl lt) =
            let inside : 0 < length chain = omega (arith, lt, so.within) in
            let first = get_or chain 0 0 in
            let there = (is.exact first).0 (0, inside, get_or_default chain 0 first 0 inside) in
            so.before 0 first lt (slice_get-get_or chain 0 0 inside) (run_loop unfolds first there.0 there.1 kept)

    -- a loop in which the line is kept stands in the chain, no earlier than the one that was found
    stands : (other : ℕ) → IsKeptIn shape u flow node place line (Loop other) → (k : ℕ) × (slice_get chain k ≡ Some other) × (found ≤ k)
    stands other kept =
        let c = (is.exact other).1 (numbered u node other kept.member, one_of_contained (part_of u (Loop other)).members node kept.member) in
        let at : slice_get chain c.0 ≡ Some other = slice_get-get_or chain c.0 other c.1 ∙ ap Some c.2 in
        elim (cases_lt c.0 found) [
          | inl lt ↦ absurd (so.before c.0 other lt at kept)
          | inr ge ↦ (c.0, at, ge)
        ]

    pub loop_outermost : (number : ℕ) → slice_get chain found ≡ Some number → IsOutermost shape u flow node place line (Loop number)
    loop_outermost number at = record { is = so.here number at; outermost = out }
      where
        out : (outer : Scope) → IsOutside u outer (Loop number) → IsKeptIn shape u flow node place line outer → ⊥
        out Run o kept = run_not kept
        out (Loop other) o kept =
            let s = stands other kept in
            elim (cases_lt found s.0) [
              | inr ge ↦
                  let e : s.0 ≡ found = omega (arith, ge, s.2) in
                  let same : other ≡ number = same_Some other number (sym s.1 ∙ ap (slice_get chain) e ∙ at) in
                  not_both number number (subst (λ (n : ℕ). IsOutside u (Loop n) (Loop number)) same o) (subst (λ (n : ℕ). IsOutside u (Loop n) (Loop number)) same o)
              | inl lt ↦
                  let pair = is.outside_in found s.0 0 lt (slice_get_within chain s.0 other s.1) in
                  let later : IsOutside u (Loop number) (Loop other) = subst (λ (n : ℕ). IsOutside u (Loop n) (Loop other)) (get_or_from_slice_get chain found number 0 at)
                  (subst (λ (n : ℕ). IsOutside u (Loop (get_or chain found 0)) (Loop n)) (get_or_from_slice_get chain s.0 other 0 s.1) pair) in
                  not_both number other later o
            ]

    pub none_outermost : length chain ≤ found → (scope : Scope) → IsKeptIn shape u flow node place line scope → ⊥
    none_outermost past Run kept = run_not kept
    none_outermost past (Loop other) kept = let s = stands other kept in omega (arith, past, s.2, slice_get_within chain s.0 other s.1)
