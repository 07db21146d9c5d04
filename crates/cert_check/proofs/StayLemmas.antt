-- What is said of diagrams stays as the table grows.
use Rattle.std.proofs.Common.{ℕ, List, refl, sym, ◌∙◌, arith}
use Rattle.wx_base.specs.declared.machine.Machine.{Machine}
use Rattle.xdd_table.specs.declared.node.Dd.{Dd}
use Rattle.xdd_table.specs.declared.node.Node.{Node}
use Rattle.xdd_table.specs.Diagram.{Keeps}
use Rattle.flow_block.specs.Blocks.{most_slots}
use Rattle.flow_ctx.specs.declared.unfolded.Edge.{Edge}
use Rattle.flow_ctx.specs.declared.unfolded.Unfolded.{Unfolded}
use Rattle.pipe_block.specs.Times.{IsDiagram}
use Rattle.cache_class.specs.declared.class.Class.{Class}
use Rattle.cache_class.specs.declared.class.Classes.{Classes}
use Rattle.cert_text.specs.declared.certificate.CertVector.{CertVector}
use Rattle.cert_text.specs.declared.certificate.Certificate.{Certificate}
use Rattle.cert_judge.specs.Settled.{settled}
use Rattle.cert_check.specs.Judging.{IsSite}
use Rattle.cert_check.specs.Places.{IsCost, IsFinish, edges_of, AreNodeFinishes, AreVectorCosts, AreNodeCosts}
use Rattle.cert_check.proofs.ListLemmas.{for_each_all}

-- a table keeps what it has, at once and in two steps
pub keeps_self : (nodes : List Node) → Keeps nodes nodes
keeps_self nodes = record { grows = omega arith; nodes = λ p h. refl; times = λ f p h. refl; begins = λ e p h b. b; events = λ p bound h e. e }

pub keeps_twice : (a b c : List Node) → Keeps a b → Keeps b c → Keeps a c
keeps_twice a b c k l = record {
  grows = omega (arith, k.grows, l.grows);
  nodes = λ p h. l.nodes p (omega (arith, k.grows)) ∙ k.nodes p h;
  times = λ f p h. l.times f p (omega (arith, k.grows)) ∙ k.times f p h;
  begins = λ e p h b. l.begins e p (omega (arith, k.grows)) (k.begins e p h b);
  events = λ p bound h e. l.events p bound (omega (arith, k.grows)) (k.events p bound h e);
}

module _ (old new : List Node) (k : Keeps old new) where
  pub diagram_stays : (bound : ℕ) (d : Dd) → IsDiagram old bound d → IsDiagram new bound d
  diagram_stays bound d w = record { within = omega (arith, w.within, k.grows); events = k.events d.place bound w.within w.events }

  pub site_stays : (u : Unfolded) (classes : Classes) (c : Certificate) (node : ℕ) (kinds : List Class) (charged : Dd) → IsSite old u classes c node kinds charged
      → IsSite new u classes c node kinds charged
  site_stays u classes c node kinds charged s = record {
    block = s.block;
    is = s.is;
    diagram = record {
      few = s.diagram.few;
      within = omega (arith, s.diagram.within, k.grows);
      alike = λ f. k.times (settled kinds f) charged.place s.diagram.within ∙ (s.diagram.alike f ∙ sym (k.times f charged.place s.diagram.within));
    };
    times = λ f. k.times f charged.place s.diagram.within ∙ s.times f;
  }

  module _ (u : Unfolded) (m : Machine) where
    pub finish_stays : (node : ℕ) (v : CertVector) (d : Dd) → IsFinish old u m node v d → IsFinish new u m node v d
    finish_stays node v d w = record {
      diagram = diagram_stays most_slots d w.diagram;
      each = λ block f is. k.times f d.place w.diagram.within ∙ w.each block f is;
    }

    pub cost_stays : (v : CertVector) (edge : Edge) (d : Dd) → IsCost old u m v edge d → IsCost new u m v edge d
    cost_stays v edge d w = record {
      diagram = diagram_stays most_slots d w.diagram;
      each = λ block f is. k.times f d.place w.diagram.within ∙ w.each block f is;
    }

    pub node_finishes_stay : (node : ℕ) (family : List CertVector) (ds : List Dd) → AreNodeFinishes old u m node family ds → AreNodeFinishes new u m node family ds
    node_finishes_stay node family ds w =
        for_each_all (λ place v d. IsFinish old u m node v d) (λ place v d. IsFinish new u m node v d) family ds (λ place v d x. finish_stays node v d x) w

    pub vector_costs_stay : (node : ℕ) (v : CertVector) (ds : List Dd) → AreVectorCosts old u m node v ds → AreVectorCosts new u m node v ds
    vector_costs_stay node v ds w =
        for_each_all (λ place edge d. IsCost old u m v edge d) (λ place edge d. IsCost new u m v edge d) (edges_of u node) ds (λ place edge d x. cost_stays v edge d x) w

    pub node_costs_stay : (node : ℕ) (family : List CertVector) (costs : List (List Dd)) → AreNodeCosts old u m node family costs → AreNodeCosts new u m node family costs
    node_costs_stay node family costs w =
        for_each_all (λ place v ds. AreVectorCosts old u m node v ds) (λ place v ds. AreVectorCosts new u m node v ds) family costs
        (λ place v ds x. vector_costs_stay node v ds x) w
