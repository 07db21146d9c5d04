-- The loops of a function, where no cause stands.
use Rattle.std.proofs.Common.{◌≡◌, inl, inr, ℕ, ◌^◌, ◌<◌, Bool, true, false, cond, ◌==◌, List, [], ◌∷◌, map, Option, Some, None, refl, sym, ap, ◌∙◌, subst}
use Rattle.std.specs.List.{All, Any, Contains, find}
use Rattle.std.proofs.lemmas.Bool.{eqb-true}
use Rattle.std.proofs.lemmas.List.Elements.{All-map}
use Rattle.wx_base.specs.declared.facts.Facts.{Facts}
use Rattle.wx_base.specs.declared.facts.LoopFact.{LoopFact}
use Rattle.wx_base.specs.declared.image.Image.{Image}
use Rattle.wx_base.specs.declared.machine.Machine.{Machine}
use Rattle.wx_base.specs.Functions.{AreLoops, IsEntry, IsLoop, IsReached, fact_of, ways_at}
use Rattle.wx_base.specs.Paths.{IsHead, IsMember}
use Rattle.flow_graph.specs.declared.error.FlowError.{FlowError}
use Rattle.flow_graph.specs.declared.error.FlowError.TheVariants.{LoopNoBound}
use Rattle.flow_graph.specs.declared.program.LoopInfo.{LoopInfo}
use Rattle.flow_graph.specs.Program.{bounded_loop}
use Rattle.flow_graph.specs.Refusals.{IsCause}
use Rattle.flow_laws.specs.Programs.{EndsInMemory}
use Rattle.program_laws.proofs.Collected.{any_map, collect, pairs_map}
use Rattle.program_laws.proofs.Flow.{inside, one_more, within}

-- a fact that is found is on that head
found_on : (head : ℕ) (facts : List LoopFact) (fact : LoopFact) → find (λ f. f.address == head) facts ≡ Some fact → fact.address ≡ head
found_on head [] fact e = absurd (cc)
found_on head (f ∷ facts) fact e = by (f.address == head) refl (found_on head facts fact) e
  where
    by : (b : Bool) → (f.address == head) ≡ b → (find (λ f. f.address == head) facts ≡ Some fact → fact.address ≡ head) → cond b (Some f) (find (λ f. f.address == head) facts) ≡ Some fact → fact.address ≡ head
    by true is later e = let same : f ≡ fact = cc in ap (λ (g : LoopFact). g.address) (sym same) ∙ eqb-true f.address head is
    by false is later e = later e

-- one of a list of numbers with each number that is asked for is one of them
any_contains : (numbers : List ℕ) (a : ℕ) → Any (λ x. x ≡ a) numbers → Contains numbers a
any_contains numbers a h = subst (Contains numbers) h.4 (h.0, h.2, h.3)

each_contained : (P : ℕ → Type 0) (numbers : List ℕ) (a : ℕ) → All P numbers → Contains numbers a → P a
each_contained P numbers a all h = subst P h.2 (all h.0 a h.1)

module _ (image : Image) (facts : Facts) (start : ℕ) (machine : Machine) (ends : EndsInMemory image) (sound : (cause : FlowError) → IsCause image facts start machine cause → ⊥) (entry : ℕ) (function : IsEntry image facts start entry) (reached : IsReached image facts start entry) where
  head_within : (head : ℕ) → IsHead (ways_at image facts) entry head → head < 2 ^ 32
  head_within head h =
      within image facts start machine ends sound head (inside image facts start machine ends sound reached (one_more (ways_at image facts) h.back.reached h.back.edge))

  member_within : (head : ℕ) → IsHead (ways_at image facts) entry head → (a : ℕ) → IsMember (ways_at image facts) entry head a → a < 2 ^ 32
  member_within head h a (inl e) = subst (λ k. k < 2 ^ 32) (sym e) (head_within head h)
  member_within head h a (inr inner) = within image facts start machine ends sound a (inside image facts start machine ends sound reached inner.reached)

  bounded : (head : ℕ) → IsHead (ways_at image facts) entry head → (fact : LoopFact) × (fact_of facts head ≡ Some fact)
  bounded head h = by (fact_of facts head) refl
    where
      by : (o : Option LoopFact) → fact_of facts head ≡ o → (fact : LoopFact) × (fact_of facts head ≡ Some fact)
      by (Some fact) e = (fact, e)
      by None e = absurd (sound (LoopNoBound head) (record { entry = entry; function = function; head = h; unbounded = e }))

  loop_at : (head : ℕ) → IsHead (ways_at image facts) entry head → ((l : LoopInfo) → l.head ≡ head → IsLoop image facts entry (bounded_loop l) → ⊥) → ⊥
  loop_at head h stop =
      collect (λ a. a) (IsMember (ways_at image facts) entry head) (IsMember (ways_at image facts) entry head) (2 ^ 32) (member_within head h)
      (λ a member found. found a refl member)
      (λ members are.
      let fact = bounded head h in
      let on : fact.0.address ≡ head = found_on head facts.loops fact.0 fact.1 in
      stop (record { head = head; members = members; maxcount = fact.0.maxcount; totalcount = fact.0.totalcount }) refl
      (record {
        head = h;
        bounds = fact.1 ∙ (λ i. Some (record { address = on i; maxcount = fact.0.maxcount; totalcount = fact.0.totalcount }));
        ascending = are.ascending;
        members = λ a there. each_contained (IsMember (ways_at image facts) entry head) members a are.each there;
        whole = λ a member. any_contains members a (are.whole a member);
      }))

  pub has_loops : ((loops : List LoopInfo) → AreLoops image facts entry (map bounded_loop loops) → ⊥) → ⊥
  has_loops stop =
      collect (λ l. l.head) (λ l. IsLoop image facts entry (bounded_loop l)) (IsHead (ways_at image facts) entry) (2 ^ 32) head_within loop_at
      (λ loops are.
      stop loops
      (record {
        ascending = pairs_map bounded_loop (λ l m. l.head < m.head) loops are.ascending;
        each = All-map (IsLoop image facts entry) bounded_loop loops are.each;
        whole = λ head h. any_map bounded_loop (λ l. l.head ≡ head) loops (are.whole head h);
      }))
