-- The rules of an image are one, since its functions and loops are told by their entries and heads.
use Rattle.std.proofs.Common.{◌≡◌, ℕ, Some, sym, ap, ◌∙◌, subst, List}
use Rattle.wx_base.specs.declared.facts.Facts.{Facts}
use Rattle.wx_base.specs.declared.facts.LoopFact.{LoopFact}
use Rattle.wx_base.specs.declared.image.Image.{Image}
use Rattle.wx_base.specs.Functions.{ways_at, fact_of, fact_on, IsEntry, IsLoop, AreLoops, AreFunctions}
use Rattle.wx_base.specs.Monitor.{BoundedLoop, Function}
use Rattle.wx_base.specs.Paths.{IsHead, IsMember}
use Rattle.flow_block.proofs.KeyedLists.{numbers_one, told_by_keys}
use Rattle.flow_graph.specs.Laws.{RulesAreOne}

one_fact : (f g : LoopFact) → Some f ≡ Some g → f ≡ g
one_fact f g e = cc

module _ (image : Image) (facts : Facts) where
  -- a head has one loop
  loop_one : (entry : ℕ) (l m : BoundedLoop) → IsLoop image facts entry l → IsLoop image facts entry m → l.head ≡ m.head → l ≡ m
  loop_one entry l m p q e =
      let K : ℕ → Type 0 = IsMember (ways_at image facts) entry l.head in
      let members = numbers_one K l.members m.members p.ascending p.members p.whole
      q.ascending (λ a c. subst (λ h. IsMember (ways_at image facts) entry h a) (sym e) (q.members a c)) (λ a k. q.whole a (subst (λ h. IsMember (ways_at image facts) entry h a) e k)) in
      let fact = one_fact (fact_on l) (fact_on m) (sym p.bounds ∙ ap (fact_of facts) e ∙ q.bounds) in
      λ i. record { head = e i; members = members i; maxcount = (fact i).maxcount; totalcount = (fact i).totalcount }

  loops_one : (entry : ℕ) (ls ms : List BoundedLoop) → AreLoops image facts entry ls → AreLoops image facts entry ms → ls ≡ ms
  loops_one entry ls ms p q = told_by_keys (λ l. l.head) (IsLoop image facts entry) (loop_one entry) (IsHead (ways_at image facts) entry) (λ l is. is.head) ls ms
      p.ascending p.each p.whole q.ascending q.each q.whole

  module _ (start : ℕ) where
    -- a function of the image, with its loops
    record IsFunction (f : Function) : Type 0 where
      entry : IsEntry image facts start f.entry
      loops : AreLoops image facts f.entry f.loops

    function_one : (f g : Function) → IsFunction f → IsFunction g → f.entry ≡ g.entry → f ≡ g
    function_one f g p q e =
        let loops = loops_one f.entry f.loops g.loops p.loops (subst (λ entry. AreLoops image facts entry g.loops) (sym e) q.loops) in
        λ i. record { entry = e i; loops = loops i }

    functions_one : (fs gs : List Function) → AreFunctions image facts start fs → AreFunctions image facts start gs → fs ≡ gs
    functions_one fs gs p q = told_by_keys (λ f. f.entry) IsFunction function_one (IsEntry image facts start) (λ f is. is.entry) fs gs
        p.ascending (λ k d within. record { entry = p.entries k d within; loops = p.loops k d within }) p.whole
        q.ascending (λ k d within. record { entry = q.entries k d within; loops = q.loops k d within }) q.whole

pub rules_one : RulesAreOne
rules_one image facts start r s p q =
    let branches = p.branches ∙ sym q.branches in
    let calls = p.calls ∙ sym q.calls in
    let functions = functions_one image facts start r.functions s.functions p.functions q.functions in
    λ i. record { branches = branches i; calls = calls i; functions = functions i }
