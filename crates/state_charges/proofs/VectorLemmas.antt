-- Rises of a cost whose events are settled by their classes, and rises at allowed combinations.
use Rattle.std.proofs.Common.{◌≡◌, ℕ, ◌-◌, Bool, true, false, List, length, slice_get, Some, if◌then◌else◌, eqb, sym, ap, subst, ◌∙◌, inl, inr}
use Rattle.std.proofs.Math.Path.{fun_ext}
use Rattle.std.proofs.lemmas.Bool.{cases_Bool, eqb-true}
use Rattle.std.proofs.lemmas.Option.{same_Some, slice_get_within}
use Rattle.wx_base.specs.declared.machine.Machine.{Machine}
use Rattle.flow_block.specs.declared.block.Block.{Block}
use Rattle.flow_ctx.specs.declared.scope.Scope.{Scope}
use Rattle.cache_class.specs.declared.class.Class.{Class}
use Rattle.cache_class.specs.declared.class.Class.TheVariants.{FirstMiss}
use Rattle.xdd_table.specs.Diagram.{Combination, with_event}
use Rattle.pipe_time.specs.declared.vector.Vector.{Vector}
use Rattle.xdd_table.specs.declared.node.Node.{Node}
use Rattle.flow_ctx.specs.declared.unfolded.Unfolded.{Unfolded}
use Rattle.pipe_block.specs.declared.diagrams.Leaving.{Leaving}
use Rattle.node_exits.specs.declared.work.Work.{Work}
use Rattle.node_exits.specs.NodeExits.{IsAnswer, IsNodeLeaving}
use Rattle.cert_judge.specs.Settled.{settled_miss, settled}
use Rattle.cert_judge.proofs.SettledLemmas.{settled_allowed, settled_is_allowed}
use Rattle.state_charges.specs.declared.miss.Miss.{Miss}
use Rattle.state_charges.specs.Raising.{Raises, IsEarly, IsListedRise, IsVectorRise, cost_from, rise_at}
use Rattle.state_charges.specs.Subject.{IsFirstMiss}
use Rattle.state_charges.proofs.RaisingLemmas.{raised_alike}

-- what stands at the number of an answer is what the node's block hands on
pub is_leaving : (nodes : List Node) (u : Unfolded) (m : Machine) (node : ℕ) (from : Vector) (taken : Bool) (work : Work) (number : ℕ) (l : Leaving)
    → IsAnswer nodes u m node from taken work number → slice_get work.memo.leavings number ≡ Some l → IsNodeLeaving nodes u m node from taken l
is_leaving nodes u m node from taken work number l a at = subst (λ (x : Leaving). IsNodeLeaving nodes u m node from taken x) (same_Some a.leaving l (sym a.listed ∙ at)) a.is

-- what is given of a first miss is settled as it is
pub given_settled : (kinds : List Class) (f : Combination) (event : ℕ) (miss : Bool) (scope : Scope) → slice_get kinds event ≡ Some (FirstMiss scope)
    → settled kinds (with_event f event miss) ≡ with_event (settled kinds f) event miss
given_settled kinds f event miss scope class = fun_ext λ e. at e
  where
    at : (e : ℕ) → settled_miss (slice_get kinds e) (if eqb e event then miss else f e) ≡ (if eqb e event then miss else settled_miss (slice_get kinds e) (f e))
    at e = elim (cases_Bool (eqb e event)) [
      | inl same ↦
          let is : slice_get kinds e ≡ Some (FirstMiss scope) = ap (slice_get kinds) (eqb-true e event same) ∙ class in
          rw (same, is)
      | inr other ↦ rw other
    ]

module _ (m : Machine) (block : Block) (kinds : List Class) (taken : Bool) (misses : List Miss) (v : Vector) (count : ℕ) (cost : Combination → ℕ)
    (first : (k : ℕ) (x : Miss) → slice_get misses k ≡ Some x → IsFirstMiss kinds count x)
    (cost_is : (f : Combination) → cost f ≡ cost_from m block taken v (settled kinds f)) where
  -- a cost with an event given
  at_given : (k : ℕ) (x : Miss) (f : Combination) (miss : Bool) → slice_get misses k ≡ Some x
      → cost (with_event f x.event miss) ≡ cost_from m block taken v (with_event (settled kinds f) x.event miss)
  at_given k x f miss stands =
      let w = first k x stands in
      cost_is (with_event f x.event miss) ∙ ap (cost_from m block taken v) (given_settled kinds f x.event miss w.scope w.class)

  -- a rise of the settled cost is one at the settled combination
  rise_settled : (k : ℕ) (x : Miss) (f : Combination) → slice_get misses k ≡ Some x
      → rise_at cost x.event f ≡ rise_at (cost_from m block taken v) x.event (settled kinds f)
  rise_settled k x f stands =
      ap (λ (n : ℕ). n - cost (with_event f x.event false)) (at_given k x f true stands)
      ∙ ap (λ (n : ℕ). cost_from m block taken v (with_event (settled kinds f) x.event true) - n) (at_given k x f false stands)

  to_vector : (i n : ℕ) → IsEarly (IsListedRise cost misses) (length misses) i n → IsVectorRise m block kinds taken misses v i n
  to_vector i n e = record {
    place = e.step;
    x = e.is.x;
    f = settled kinds e.is.is.f;
    stands = e.is.stands;
    group = e.is.is.group;
    allowed = settled_is_allowed kinds e.is.is.f;
    is = e.is.is.is ∙ rise_settled e.step e.is.x e.is.is.f e.is.stands;
  }

  to_listed : (i n : ℕ) → IsVectorRise m block kinds taken misses v i n → IsEarly (IsListedRise cost misses) (length misses) i n
  to_listed i n w = record {
    step = w.place;
    early = slice_get_within misses w.place w.x w.stands;
    is = record {
      x = w.x;
      stands = w.stands;
      is = record {
        group = w.group;
        f = w.f;
        is = w.is ∙ sym (rise_settled w.place w.x w.f w.stands ∙ ap (rise_at (cost_from m block taken v) w.x.event) (settled_allowed kinds w.f w.allowed));
      };
    };
  }

  -- what the diagram of the settled cost raises, the vector does
  pub vector_raised : (a b : List ℕ) → Raises (IsEarly (IsListedRise cost misses) (length misses)) a b → Raises (IsVectorRise m block kinds taken misses v) a b
  vector_raised a b raises = raised_alike (IsEarly (IsListedRise cost misses) (length misses)) (IsVectorRise m block kinds taken misses v) a b to_vector to_listed raises
