-- The nodes in their order, and their numbers.
use Rattle.std.proofs.Common.{◌≡◌, ℕ, zero, suc, ◌+◌, ◌<◌, ◌≤◌, ◌⊎◌, Bool, true, false, not, if◌then◌else◌, List, [], ◌∷◌, length, get_or, slice_get, Option, Some, None, refl, sym, ap, ◌∙◌, subst, inl, inr, arith, nat_lt, is_some}
use Rattle.std.specs.List.{All, AllPairs, Any, Contains, IsDistinct, list_any, position, position_or_len, prefix_len}
use Rattle.std.specs.List.Sorted.{IsPermutation, IsSorted}
use Rattle.std.proofs.lemmas.Bool.{cases_lt, false≢true}
use Rattle.std.proofs.lemmas.Bool.Decides.{nat_tests}
use Rattle.std.proofs.lemmas.List.{length-map, get_or-map}
use Rattle.std.proofs.lemmas.List.Elements.{All-contains, All-map, All-weaker}
use Rattle.std.proofs.lemmas.List.Folds.{list_any-from_Any}
use Rattle.std.proofs.lemmas.List.Sorted.{All-permutation, Contains-permutation}
use Rattle.std.proofs.lemmas.Option.{cond_some, slice_get-get_or, slice_get-map, slice_get_cases, slice_get_read, slice_get_within, get_or_from_slice_get}
use Rattle.flow_graph.specs.declared.program.Program.{Program}
use Rattle.flow_ctx.specs.declared.place.Place.{Place}
use Rattle.flow_ctx.specs.declared.unfolded.Call.{Call}
use Rattle.flow_ctx.specs.declared.unfolded.UNode.{UNode}
use Rattle.flow_ctx.specs.Found.{AreFoundIn, nodes_of}
use Rattle.flow_ctx.specs.Nodes.{IsReached, along, start, entry_after}
use Rattle.flow_ctx.specs.Order.{IsNodeBefore}
use Rattle.flow_ctx.specs.Targets.{HasBlockAt, IsFunctionNumber, IsInOrder, node_of}
use Rattle.flow_ctx.specs.Unfolding.{AreNodes}
use Rattle.flow_ctx.proofs.FoundLemmas.{node_there, place_there}
use Rattle.flow_ctx.proofs.TargetLemmas.{reached_has_block}
use Rattle.flow_ctx.proofs.OrderLemmas.{node_apart, node_through, sorted_ascends}
use Rattle.flow_ctx.proofs.PlaceLemmas.{place_before, place_cmp, place_eq, place_tells}
use Rattle.flow_ctx.proofs.SearchLemmas.{same_function}

-- the place of a node is not two
pub node_once : (nodes : List UNode) (i j : ℕ) (n : UNode) → AllPairs IsNodeBefore nodes → slice_get nodes i ≡ Some n → slice_get nodes j ≡ Some n → i ≡ j
node_once nodes i j n up is is' =
    let ei = get_or_from_slice_get nodes i n n is in
    let ej = get_or_from_slice_get nodes j n n is' in
    elim (cases_lt i j) [
      | inl less ↦ absurd (node_apart (get_or nodes i n) (get_or nodes j n) (ei ∙ sym ej) (up i j n less (slice_get_within nodes j n is')))
      | inr more ↦ elim (cases_lt j i) [
        | inl less ↦ absurd (node_apart (get_or nodes j n) (get_or nodes i n) (ej ∙ sym ei) (up j i n less (slice_get_within nodes i n is)))
        | inr other ↦ omega arith
      ]
    ]

-- the node at a place of the list
pub node_stands : (places : List Place) (i : ℕ) (p : Place) → slice_get places i ≡ Some p → slice_get (nodes_of places) i ≡ Some (node_of p)
node_stands places i p is =
    let within = slice_get_within places i p is in
    slice_get_read (nodes_of places) (length (nodes_of places)) i (node_of p) refl (rw length-map within)
    (sym (get_or-map node_of places i p (node_of p) within ∙ ap node_of (get_or_from_slice_get places i p p is)))

prefix_holds : {X : Type 0} (p : X → Bool) (xs : List X) (d : X) → prefix_len (λ x. not (p x)) xs < length xs → p (get_or xs (prefix_len (λ x. not (p x)) xs) d) ≡ true
prefix_holds p [] d h = absurd (omega arith)
prefix_holds {X} p (x ∷ xs) d h = by (p x) refl (λ k. prefix_holds p xs d k) h
  where
    by : (b : Bool) → p x ≡ b → (prefix_len (λ (y : X). not (p y)) xs < length xs → p (get_or xs (prefix_len (λ (y : X). not (p y)) xs) d) ≡ true)
        → (if not b then 1 + prefix_len (λ (y : X). not (p y)) xs else 0) < length (x ∷ xs)
        → p (get_or (x ∷ xs) (if not b then 1 + prefix_len (λ (y : X). not (p y)) xs else 0) d) ≡ true
    by true e rest h = e
    by false e rest h =
        let k : 1 + prefix_len (λ (y : X). not (p y)) xs ≡ suc (prefix_len (λ (y : X). not (p y)) xs) = omega arith in
        rw k (rest (omega (arith, h)))

-- the position of a test holds an element that passes it
pub position_found : {X : Type 0} (p : X → Bool) (xs : List X) (n : ℕ) (d : X) → Some n ≡ position p xs → (n < length xs) × (p (get_or xs n d) ≡ true)
position_found {X} p xs n d e =
    let c = cond_some (nat_lt (position_or_len p xs) (length xs)) (position_or_len p xs) n (sym e) in
    let within : position_or_len p xs < length xs = less c.0 in
    (subst (λ (k : ℕ). k < length xs) c.1 within, subst (λ (k : ℕ). p (get_or xs k d) ≡ true) c.1 (prefix_holds p xs d within))
  where
    less : {a b : ℕ} → nat_lt a b ≡ true → a < b
    less h = grind (arith, nat_tests)

pub number_found : (places : List Place) (place : Place) (n : ℕ) → Some n ≡ position (place_eq place) places → slice_get (nodes_of places) n ≡ Some (node_of place)
number_found places place n e =
    let f = position_found (place_eq place) places n place e in
    let k = get_or places n place in
    node_stands places n k (slice_get-get_or places n place f.0) ∙ ap (λ (m : UNode). Some m) (sym (place_tells.same place k f.1))

pub number_there : (places : List Place) (place : Place) → Contains (nodes_of places) (node_of place) → list_any (place_eq place) places ≡ true
number_there places place c =
    let a = place_there places (node_of place) c in
    list_any-from_Any (place_eq place) places (a.0, a.1, a.2, a.3, place_tells.again place a.1 (sym a.4))

-- a place of the nodes is reached
pub reached_at : (program : Program) (places : List Place) (i : ℕ) (p : Place) → AreNodes program (nodes_of places) → slice_get places i ≡ Some p → IsReached program (node_of p)
reached_at program places i p are is = All-contains (λ n. IsReached program n) (nodes_of places) (node_of p) are.reached
    (node_there places i p (slice_get_within places i p is) (get_or_from_slice_get places i p p is))

module _ (program : Program) (order : IsInOrder program) (old new : List Place) (moved : IsPermutation old new) (found : AreFoundIn program (nodes_of old)) where
  reached_place : All (λ p. IsReached program (node_of p)) old
  reached_place k d within = All-contains (λ n. IsReached program n) (nodes_of old) (node_of (get_or old k d)) found.each (node_there old k (get_or old k d) within (same k d within))
    where
      same : (k : ℕ) (d : Place) → k < length old → get_or old k (get_or old k d) ≡ get_or old k d
      same k d within = get_or_from_slice_get old k (get_or old k d) (get_or old k d) (slice_get-get_or old k d within)

  reached_moved : All (λ p. IsReached program (node_of p)) new
  reached_moved = All-permutation (λ p. IsReached program (node_of p)) old new moved reached_place

  pub ordered : IsSorted place_cmp new → IsDistinct place_eq new → AreNodes program (nodes_of new)
  ordered sorted distinct = record {
    ascending = λ i j d less within.
        let within' : j < length new = subst (λ (k : ℕ). j < k) (length-map new node_of) within in
        elim ((slice_get_cases new j).1) [
          | inl w ↦
              let b = up i j w.0 less within' in
              let ei = get_or-map node_of new i w.0 d (omega (arith, within')) in
              let ej = get_or-map node_of new j w.0 d within' in
              subst (λ (n : UNode). IsNodeBefore n (get_or (nodes_of new) j d)) (sym ei) (subst (λ (n : UNode). IsNodeBefore (node_of (get_or new i w.0)) n) (sym ej) b)
          | inr w ↦ absurd (omega (arith, within', w.0))
        ];
    reached = All-map (λ n. IsReached program n) node_of new reached_moved;
    whole = λ n r.
        let a = place_there old n (found.whole n r) in
        let c = Contains-permutation old new a.1 moved (a.0, a.2, a.3) in
        subst (λ (m : UNode). Contains (nodes_of new) m) a.4 (node_there new c.0 a.1 c.1 c.2);
  }
    where
      up : AllPairs (λ p q. IsNodeBefore (node_of p) (node_of q)) new
      up = sorted_ascends place_cmp place_eq (λ p q. IsNodeBefore (node_of p) (node_of q)) (λ x y z. node_through (node_of x) (node_of y) (node_of z)) new sorted distinct
          (λ k d h low other.
          let p = get_or new k d in
          let q = get_or new (suc k) d in
          place_before p q (λ same. alike p q (reached_moved k d (omega (arith, h))) (reached_moved (suc k) d h) same) low
          (λ one. false≢true (sym other ∙ place_tells.again p q one)))
        where
          alike : (p q : Place) → IsReached program (node_of p) → IsReached program (node_of q) → p.chain.items ≡ q.chain.items → p.function ≡ q.function
          alike p q r s same =
              let a = reached_has_block program (node_of p) r in
              let b = reached_has_block program (node_of q) s in
              same_function program order (entry_after program.start q.chain.items) p.function q.function
              (record { function = a.function; stands = a.is.function_stands; begins = a.is.entry ∙ ap (entry_after program.start) same })
              (record { function = b.function; stands = b.is.function_stands; begins = b.is.entry })
