-- What is known when one node more was judged, and what stays as the table grows.
use Rattle.std.proofs.Common.{◌≡◌, ℕ, ◌+◌, ◌<◌, List, [], ◌∷◌, ◌++◌, length, get_or, slice_get, Option, Some, None, ap, sym, subst, arith}
use Rattle.std.proofs.lemmas.Option.{slice_get-get_or}
use Rattle.wx_base.specs.declared.machine.Machine.{Machine}
use Rattle.xdd_table.specs.declared.node.Dd.{Dd}
use Rattle.xdd_table.specs.declared.node.Node.{Node}
use Rattle.xdd_table.specs.Diagram.{Keeps}
use Rattle.flow_ctx.specs.declared.unfolded.Unfolded.{Unfolded}
use Rattle.cache_class.specs.declared.class.Classes.{Classes}
use Rattle.cert_text.specs.declared.certificate.Certificate.{Certificate}
use Rattle.cert_text.specs.declared.certificate.CertVector.{CertVector}
use Rattle.cert_rules.specs.Rules.{PaysEdges, PaysFinish}
use Rattle.cert_rules.specs.Judged.{HoldsForAll}
use Rattle.cert_check.specs.declared.refused.Refused.{Refused}
use Rattle.cert_check.specs.Places.{Along, AreCosts, AreFinishes, AreNodeCosts, AreNodeFinishes}
use Rattle.cert_check.specs.Progress.{HasCosts, HasCostsOr, HasFinishes}
use Rattle.cert_check.proofs.ListLemmas.{along_all, along_none, front_step, one_longer}
use Rattle.cert_check.proofs.NameLemmas.{nodes_all, nodes_more}
use Rattle.cert_check.proofs.PayLemmas.{edges_beyond, finish_beyond}
use Rattle.cert_check.proofs.StayLemmas.{node_costs_stay, node_finishes_stay}

module _ (u : Unfolded) (m : Machine) (classes : Classes) (c : Certificate) where
  pub finishes_none : (nodes : List Node) (finishes : List (List Dd)) → finishes ≡ [] → HasFinishes nodes u m classes c 0 finishes
  finishes_none nodes finishes none =
      let P : ℕ → List CertVector → List Dd → Type 0 = λ node family d. AreNodeFinishes nodes u m node family d in
      record {
        long = ap (λ (xs : List (List Dd)). length xs) none;
        along = subst (λ (xs : List (List Dd)). Along P c.families xs) (sym none) (along_none P c.families);
        pays = λ earlier place l. absurd (omega (arith, l));
      }

  pub costs_none : (nodes : List Node) (costs : List (List (List Dd))) → costs ≡ [] → HasCosts nodes u m classes c 0 costs
  costs_none nodes costs none =
      let P : ℕ → List CertVector → List (List Dd) → Type 0 = λ node family d. AreNodeCosts nodes u m node family d in
      record {
        long = ap (λ (xs : List (List (List Dd))). length xs) none;
        along = subst (λ (xs : List (List (List Dd))). Along P c.families xs) (sym none) (along_none P c.families);
        pays = λ earlier place l. absurd (omega (arith, l));
      }

  pub finishes_more : (old new : List Node) → Keeps old new → (node : ℕ) (finishes more : List (List Dd)) (found : List Dd)
      → node < length c.families → HasFinishes old u m classes c node finishes
      → ((family : List CertVector) → slice_get c.families node ≡ Some family → AreNodeFinishes new u m node family found)
      → ((place : ℕ) → PaysFinish u m classes c node place) → more ≡ finishes ++ found ∷ [] → HasFinishes new u m classes c (node + 1) more
  finishes_more old new kept node finishes more found within has are pays grown =
      let family = get_or c.families node [] in
      let at = slice_get-get_or c.families node [] within in
      record {
        long = one_longer finishes more found node has.long grown;
        along = front_step (λ k w d. AreNodeFinishes old u m k w d) (λ k w d. AreNodeFinishes new u m k w d) c.families finishes more node family found
            has.long at (λ k w d is. node_finishes_stay old new kept u m k w d is) (are family at) grown has.along;
        pays = nodes_more (PaysFinish u m classes c) node has.pays pays;
      }

  pub costs_more : (old new : List Node) → Keeps old new → (node : ℕ) (costs more : List (List (List Dd))) (found : List (List Dd))
      → node < length c.families → HasCosts old u m classes c node costs
      → ((family : List CertVector) → slice_get c.families node ≡ Some family → AreNodeCosts new u m node family found)
      → ((place : ℕ) → PaysEdges u m classes c node place) → more ≡ costs ++ found ∷ [] → HasCosts new u m classes c (node + 1) more
  costs_more old new kept node costs more found within has are pays grown =
      let family = get_or c.families node [] in
      let at = slice_get-get_or c.families node [] within in
      record {
        long = one_longer costs more found node has.long grown;
        along = front_step (λ k w d. AreNodeCosts old u m k w d) (λ k w d. AreNodeCosts new u m k w d) c.families costs more node family found
            has.long at (λ k w d is. node_costs_stay old new kept u m k w d is) (are family at) grown has.along;
        pays = nodes_more (PaysEdges u m classes c) node has.pays pays;
      }

  pub progress_finishes_stay : (old new : List Node) → Keeps old new → (count : ℕ) (finishes : List (List Dd))
      → HasFinishes old u m classes c count finishes → HasFinishes new u m classes c count finishes
  progress_finishes_stay old new kept count finishes has = record {
    long = has.long;
    along = along_all (λ k w d. AreNodeFinishes old u m k w d) (λ k w d. AreNodeFinishes new u m k w d) c.families finishes
        (λ k w d is. node_finishes_stay old new kept u m k w d is) has.along;
    pays = has.pays;
  }

  pub progress_costs_stay : (old new : List Node) → Keeps old new → (count : ℕ) (costs : List (List (List Dd))) (refused : Option Refused)
      → HasCostsOr old u m classes c count costs refused → HasCostsOr new u m classes c count costs refused
  progress_costs_stay old new kept count costs None has = record {
    long = has.long;
    along = along_all (λ k w d. AreNodeCosts old u m k w d) (λ k w d. AreNodeCosts new u m k w d) c.families costs
        (λ k w d is. node_costs_stay old new kept u m k w d is) has.along;
    pays = has.pays;
  }
  progress_costs_stay old new kept count costs (Some refused) has = has

  pub finishes_all : (nodes : List Node) (count : ℕ) (finishes : List (List Dd)) → count ≡ length c.families
      → HasFinishes nodes u m classes c count finishes → AreFinishes nodes u m c.families finishes × HoldsForAll (PaysFinish u m classes c)
  finishes_all nodes count finishes all has = (
    record { long = omega (arith, all, has.long); along = has.along },
    nodes_all (PaysFinish u m classes c) count has.pays (λ node place g. finish_beyond u m classes c node place (omega (arith, g, all))),
  )

  pub costs_all : (nodes : List Node) (count : ℕ) (costs : List (List (List Dd))) → count ≡ length c.families
      → HasCosts nodes u m classes c count costs → AreCosts nodes u m c.families costs × HoldsForAll (PaysEdges u m classes c)
  costs_all nodes count costs all has = (
    record { long = omega (arith, all, has.long); along = has.along },
    nodes_all (PaysEdges u m classes c) count has.pays (λ node place g. edges_beyond u m classes c node place (omega (arith, g, all))),
  )
