-- From what is judged over diagrams to the rules on vectors, and back.
use Rattle.std.proofs.Common.{◌≡◌, ℕ, ◌+◌, ◌<◌, ◌≤◌, Bool, List, [], ◌∷◌, length, get_or, slice_get, Some, All, IsTrue, ◌↔◌, sym, ap, subst, ◌∙◌, arith}
use Rattle.std.specs.Prelude.{Decides}
use Rattle.std.proofs.lemmas.List.Elements.{All-head, All-tail}
use Rattle.std.proofs.lemmas.Option.{same_Some, slice_get_within, get_or_from_slice_get}
use Rattle.wx_base.specs.declared.machine.Machine.{Machine}
use Rattle.wx_base.specs.Blocks.{Exit, exit_from, finish_from}
use Rattle.xdd_table.specs.declared.node.Dd.{Dd}
use Rattle.xdd_table.specs.declared.node.Node.{Node}
use Rattle.xdd_table.specs.Diagram.{Combination, time}
use Rattle.flow_block.specs.declared.block.Block.{Block}
use Rattle.flow_block.specs.Blocks.{most_slots}
use Rattle.flow_graph.specs.declared.program.Function.{Function}
use Rattle.flow_ctx.specs.declared.unfolded.Edge.{Edge}
use Rattle.flow_ctx.specs.declared.unfolded.UNode.{UNode}
use Rattle.flow_ctx.specs.declared.unfolded.Unfolded.{Unfolded}
use Rattle.flow_ctx.specs.Nodes.{IsBlockOf}
use Rattle.pipe_time.specs.declared.vector.Vector.{Vector}
use Rattle.pipe_block.specs.declared.diagrams.Leaving.{Leaving}
use Rattle.pipe_block.specs.declared.diagrams.Outcome.{Outcome}
use Rattle.pipe_block.specs.Events.{entries_of}
use Rattle.pipe_block.specs.Leavings.{outcome_of_exit}
use Rattle.pipe_block.specs.Times.{IsDiagram}
use Rattle.node_exits.specs.declared.work.Work.{Work}
use Rattle.node_exits.specs.NodeExits.{IsAnswer, IsNodeLeaving}
use Rattle.cache_class.specs.declared.class.Class.{Class}
use Rattle.cache_class.specs.declared.class.Classes.{Classes}
use Rattle.cache_class.specs.Allowed.{IsAllowed}
use Rattle.cert_text.specs.declared.certificate.CertVector.{CertVector}
use Rattle.cert_text.specs.declared.certificate.Certificate.{Certificate}
use Rattle.cert_rules.specs.Prices.{missed, entering, returning}
use Rattle.cert_rules.specs.Rules.{HasSmallNumbers, IsClassed, IsListed, IsSmallVector, PaysFinish, PaysEdges, PaysOn}
use Rattle.cert_judge.specs.Offers.{offered}
use Rattle.cert_judge.specs.Payments.{PaysForEdge, PaysForFinish, PaysInto}
use Rattle.cert_check.specs.Judging.{FamilyPays, IsSite, IsSubject, VectorPaysEdge, VectorPaysEdges, VectorPaysFinish}
use Rattle.cert_check.specs.Places.{IsCost}

-- a node has one block
one_block : (u : Unfolded) (node : ℕ) (x y : Block) → IsBlockOf u node x → IsBlockOf u node y → x ≡ y
one_block u node x y a b =
    let n : a.node ≡ b.node = same_Some a.node b.node (sym a.stands ∙ b.stands) in
    let f : a.function ≡ b.function =
    same_Some a.function b.function (sym a.function_stands ∙ (ap (λ (k : UNode). slice_get u.program.functions k.function) n ∙ b.function_stands)) in
    same_Some x y (sym a.block_stands
    ∙ (ap (λ (g : Function). slice_get g.blocks a.node.block) f ∙ (ap (λ (k : UNode). slice_get b.function.blocks k.block) n ∙ b.block_stands)))

module _ (nodes : List Node) (u : Unfolded) (m : Machine) (classes : Classes) (c : Certificate) (node : ℕ) (kinds : List Class) (charged : Dd)
    (s : IsSite nodes u classes c node kinds charged) where
  kinds_are : (block : Block) (others : List Class) → IsClassed u classes node block others → kinds ≡ others
  kinds_are block others is = same_Some kinds others (sym s.is.stands ∙ is.stands)

  -- what misses are charged, by whichever block and classes the node has
  charged_is : (block : Block) (others : List Class) (f : Combination) → IsClassed u classes node block others
      → time nodes f charged.place ≡ missed c.charges f block others
  charged_is block others f is =
      s.times f ∙ (ap (λ (b : Block). missed c.charges f b kinds) (one_block u node s.block block s.is.is is.is)
      ∙ ap (λ (ks : List Class). missed c.charges f block ks) (kinds_are block others is))

  allowed_is : (block : Block) (others : List Class) (f : Combination) → IsClassed u classes node block others → IsAllowed others f → IsAllowed kinds f
  allowed_is block others f is allowed = subst (λ (ks : List Class). IsAllowed ks f) (sym (kinds_are block others is)) allowed

  module _ (v : CertVector) where
    -- the finish is a diagram
    module _ (finish : ℕ) (at : (block : Block) (f : Combination) → IsBlockOf u node block → time nodes f finish ≡ finish_from m v.slots.slots (entries_of block f)) where
      pub finish_sound : PaysForFinish nodes kinds (offered nodes charged v.potential) finish → VectorPaysFinish u m classes c node v
      finish_sound pays = record {
        each = λ block others f is allowed.
            let le = pays.each f (allowed_is block others f is allowed) in
            omega (arith, le, at block f is.is, charged_is block others f is);
      }

      pub finish_complete : VectorPaysFinish u m classes c node v → PaysForFinish nodes kinds (offered nodes charged v.potential) finish
      finish_complete pays = record {
        each = λ f allowed.
            let le = pays.each s.block kinds f s.is allowed in
            omega (arith, le, at s.block f s.is.is, s.times f);
      }

    -- an edge of the node, the family of its target, and what the block hands on along it
    module _ (number : ℕ) (edge : Edge) (family : List CertVector) (cost_in cost_back : ℕ) (leaving : Leaving)
        (stands : slice_get u.edges number ≡ Some edge) (from : edge.from ≡ node) (target : slice_get c.families edge.to ≡ Some family)
        (enters : cost_in ≡ entering c u number) (returns : cost_back ≡ returning c u number)
        (leaves : IsNodeLeaving nodes u m node v.slots edge.taken leaving) where
      abbrev exit_of : Block → Combination → Exit
      exit_of block f = exit_from m v.slots.slots (entries_of block f) edge.taken

      into_on : (block : Block) (others : List Class) (f : Combination) → IsClassed u classes node block others
          → PaysInto family cost_in cost_back (offered nodes charged v.potential f) (exit_of block f).cost (exit_of block f).slots
          → PaysOn u c number edge (v.potential + missed c.charges f block others) (exit_of block f)
      into_on block others f is p = record {
        place = p.place;
        next = p.next;
        listed = record { family = family; stands = target; listed = p.listed };
        covers = p.leads.covers;
        pays = let enough = p.leads.enough in omega (arith, enough, enters, returns, charged_is block others f is);
      }

      on_into : (f : Combination) → PaysOn u c number edge (v.potential + missed c.charges f s.block kinds) (exit_of s.block f)
          → PaysInto family cost_in cost_back (offered nodes charged v.potential f) (exit_of s.block f).cost (exit_of s.block f).slots
      on_into f p = record {
        place = p.place;
        next = p.next;
        listed = subst (λ (xs : List CertVector). slice_get xs p.place ≡ Some p.next) (same_Some p.listed.family family (sym p.listed.stands ∙ target)) p.listed.listed;
        leads = record {
          covers = p.covers;
          enough = let enough = p.pays in omega (arith, enough, enters, returns, s.times f);
        };
      }

      pub edge_sound : PaysForEdge nodes kinds (offered nodes charged v.potential) leaving (PaysInto family cost_in cost_back) → VectorPaysEdge u m classes c v number
      edge_sound pays = record {
        each = λ other block others f at is allowed.
            let same : edge ≡ other = same_Some edge other (sym stands ∙ at) in
            let here : IsClassed u classes node block others =
            subst (λ n. IsClassed u classes n block others) (ap (λ (e : Edge). e.from) (sym same) ∙ from) is in
            subst (λ (e : Edge). PaysOn u c number e (v.potential + missed c.charges f block others) (exit_from m v.slots.slots (entries_of block f) e.taken)) same
            (into_on block others f here
            (pays.each f (outcome_of_exit (exit_of block f)) (allowed_is block others f here allowed) ((leaves.each block here.is).each f)));
      }

      pub edge_complete : VectorPaysEdge u m classes c v number → PaysForEdge nodes kinds (offered nodes charged v.potential) leaving (PaysInto family cost_in cost_back)
      edge_complete pays = record {
        each = λ f o allowed at.
            let same : outcome_of_exit (exit_of s.block f) ≡ o = same_Some (outcome_of_exit (exit_of s.block f)) o (sym ((leaves.each s.block s.is.is).each f) ∙ at) in
            subst (λ (o : Outcome). PaysInto family cost_in cost_back (offered nodes charged v.potential f) o.cost o.vector.slots) same
            (on_into f (pays.each edge s.block kinds f stands (subst (λ n. IsClassed u classes n s.block kinds) (sym from) s.is) allowed));
      }

-- each position is one in the list
pub listed_by : (nodes : List Node) (u : Unfolded) (m : Machine) (node : ℕ) (from : Vector) (taken : Bool) (leaving : Leaving) (block : Block) → IsBlockOf u node block
    → IsNodeLeaving nodes u m node from taken leaving → (f : Combination) → time nodes f leaving.place.place < length leaving.list
listed_by nodes u m node from taken leaving block is w f =
    slice_get_within leaving.list (time nodes f leaving.place.place) (outcome_of_exit (exit_from m from.slots (entries_of block f) taken)) ((w.each block is).each f)

-- the two diagrams are in the table
pub cost_diagram : (nodes : List Node) (u : Unfolded) (m : Machine) (node : ℕ) (from : Vector) (taken : Bool) (leaving : Leaving)
    → IsNodeLeaving nodes u m node from taken leaving → IsDiagram nodes most_slots leaving.cost
cost_diagram nodes u m node from taken leaving w = All-head (IsDiagram nodes most_slots) leaving.cost (leaving.place ∷ []) w.diagrams

pub place_diagram : (nodes : List Node) (u : Unfolded) (m : Machine) (node : ℕ) (from : Vector) (taken : Bool) (leaving : Leaving)
    → IsNodeLeaving nodes u m node from taken leaving → IsDiagram nodes most_slots leaving.place
place_diagram nodes u m node from taken leaving w =
    All-head (IsDiagram nodes most_slots) leaving.place [] (All-tail (IsDiagram nodes most_slots) leaving.cost (leaving.place ∷ []) w.diagrams)

-- what holds of the vectors of a family is what the rules say of a node
module _ (u : Unfolded) (m : Machine) (classes : Classes) (c : Certificate) (node : ℕ) (family : List CertVector) (stands : slice_get c.families node ≡ Some family) where
  at_place : (place : ℕ) (v : CertVector) → IsListed c node place v → slice_get family place ≡ Some v
  at_place place v l = subst (λ (xs : List CertVector). slice_get xs place ≡ Some v) (same_Some l.family family (sym l.stands ∙ stands)) l.listed

  pub finish_rule : (place : ℕ) → FamilyPays (VectorPaysFinish u m classes c node) family place → PaysFinish u m classes c node place
  finish_rule place pays = record {
    each = λ block kinds v f is listed allowed. (pays.each v (at_place place v listed)).each block kinds f is allowed;
  }

  pub rule_finish : (place : ℕ) → PaysFinish u m classes c node place → FamilyPays (VectorPaysFinish u m classes c node) family place
  rule_finish place pays = record {
    each = λ v at. record {
      each = λ block kinds f is allowed. pays.each block kinds v f is (record { family = family; stands = stands; listed = at }) allowed;
    };
  }

  pub edges_rule : (place : ℕ) → FamilyPays (VectorPaysEdges u m classes c node) family place → PaysEdges u m classes c node place
  edges_rule place pays = record {
    each = λ number edge block kinds v f at from is listed allowed.
        ((pays.each v (at_place place v listed)).each number edge at from).each edge block kinds f at
        (subst (λ n. IsClassed u classes n block kinds) (sym from) is) allowed;
  }

  pub rule_edges : (place : ℕ) → PaysEdges u m classes c node place → FamilyPays (VectorPaysEdges u m classes c node) family place
  rule_edges place pays = record {
    each = λ v at. record {
      each = λ number edge there from. record {
        each = λ other block kinds f here is allowed.
            let same : edge ≡ other = same_Some edge other (sym there ∙ here) in
            let from_other : other.from ≡ node = ap (λ (e : Edge). e.from) (sym same) ∙ from in
            pays.each number other block kinds v f here from_other (subst (λ n. IsClassed u classes n block kinds) from_other is)
            (record { family = family; stands = stands; listed = at }) allowed;
      };
    };
  }

-- an edge leads to a node that has a family
pub target_within : (u : Unfolded) (m : Machine) (classes : Classes) (c : Certificate) (number : ℕ) (edge : Edge) → IsSubject u m classes c
    → slice_get u.edges number ≡ Some edge → edge.to < length c.families
target_within u m classes c number edge s at =
    let w = s.unfolded.unfolded.edges.each number edge (slice_get_within u.edges number edge at) in
    let is : get_or u.edges number edge ≡ edge = get_or_from_slice_get u.edges number edge edge at in
    let to : slice_get u.nodes edge.to ≡ Some w.target = ap (λ (e : Edge). slice_get u.nodes e.to) (sym is) ∙ w.to in
    omega (arith, slice_get_within u.nodes edge.to w.target to, s.shape.families)

-- a test that tells one fact tells another that is the same
pub decides : (b : Bool) (P Q : Type 0) → (P → Q) → (Q → P) → (IsTrue b ↔ P) → Decides b Q
decides b P Q to back told = (λ t. to (told.0 t), λ q. told.1 (back q))

-- nothing is asked where no family is
pub finish_beyond : (u : Unfolded) (m : Machine) (classes : Classes) (c : Certificate) (node place : ℕ) → length c.families ≤ node → PaysFinish u m classes c node place
finish_beyond u m classes c node place g = record {
  each = λ block kinds v f is listed allowed. absurd (omega (arith, g, slice_get_within c.families node listed.family listed.stands));
}

pub edges_beyond : (u : Unfolded) (m : Machine) (classes : Classes) (c : Certificate) (node place : ℕ) → length c.families ≤ node → PaysEdges u m classes c node place
edges_beyond u m classes c node place g = record {
  each = λ number edge block kinds v f at from is listed allowed. absurd (omega (arith, g, slice_get_within c.families node listed.family listed.stands));
}

-- the vectors of a node are small
pub family_small : (c : Certificate) (node : ℕ) (family : List CertVector) → HasSmallNumbers c → slice_get c.families node ≡ Some family
    → All (λ v. IsSmallVector v) family
family_small c node family small at =
    subst (λ (xs : List CertVector). All (λ v. IsSmallVector v) xs) (get_or_from_slice_get c.families node family family at)
    (small.families node family (slice_get_within c.families node family at))

-- the cost of what a block hands on along an edge
pub cost_found : (nodes : List Node) (u : Unfolded) (m : Machine) (node : ℕ) (v : CertVector) (edge : Edge) (leaving : Leaving) → edge.from ≡ node
    → IsNodeLeaving nodes u m node v.slots edge.taken leaving → IsCost nodes u m v edge leaving.cost
cost_found nodes u m node v edge leaving from w = record {
  diagram = cost_diagram nodes u m node v.slots edge.taken leaving w;
  each = λ block f is. (w.each block (subst (λ n. IsBlockOf u n block) from is)).cost f;
}

-- the answer with a number is what the block hands on along an edge
pub answer_leaves : (nodes : List Node) (u : Unfolded) (m : Machine) (node : ℕ) (from : Vector) (found edge : Edge) (work : Work) (number : ℕ) (leaving : Leaving) → found ≡ edge
    → found.from ≡ node → IsAnswer nodes u m found.from from found.taken work number → slice_get work.memo.leavings number ≡ Some leaving
    → IsNodeLeaving nodes u m node from edge.taken leaving
answer_leaves nodes u m node from found edge work number leaving same at answer stands =
    let one : answer.leaving ≡ leaving = same_Some answer.leaving leaving (sym answer.listed ∙ stands) in
    subst (λ (e : Edge). IsNodeLeaving nodes u m node from e.taken leaving) same
    (subst (λ (n : ℕ). IsNodeLeaving nodes u m n from found.taken leaving) at
    (subst (λ (l : Leaving). IsNodeLeaving nodes u m found.from from found.taken l) one answer.is))
