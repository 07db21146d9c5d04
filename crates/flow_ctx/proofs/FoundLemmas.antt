-- How the nodes that are reached are found.
use Rattle.std.proofs.Common.{◌≡◌, ℕ, zero, suc, ◌+◌, ◌<◌, ◌≤◌, ◌⊎◌, Bool, true, false, if◌then◌else◌, List, [], ◌∷◌, ◌++◌, map, length, get_or, slice_get, Some, None, refl, sym, ap, ◌∙◌, subst, inl, inr, arith, append_assoc, ◌↔◌}
use Rattle.std.specs.List.{All, AllPairs, Any, Contains, IsDistinct, list_any}
use Rattle.std.proofs.lemmas.Bool.{false≢true}
use Rattle.std.proofs.lemmas.List.{append-nil, length-map, map-append, get_or-map}
use Rattle.std.proofs.lemmas.Option.{none-some, same_Some, slice_get_cases, slice_get_read, slice_get_within, get_or_from_slice_get}
use Rattle.std.proofs.lemmas.Bool.{cases_lt}
use Rattle.std.proofs.Math.ListN.{get_or-append}
use Rattle.std.proofs.lemmas.List.Elements.{All-append, All-cons, All-contains, All-from_recursion, All-get_or, All-map, All-nil, All-push, All-weaker, Contains-append_left, Contains-append_right, Contains-push}
use Rattle.std.proofs.lemmas.List.Folds.{Any-from_list_any}
use Rattle.indexmap.specs.IndexSet.{insert_key}
use Rattle.flow_graph.specs.declared.program.Program.{Program}
use Rattle.flow_ctx.specs.declared.place.Place.{Place}
use Rattle.flow_ctx.specs.declared.target.Target.{Target}
use Rattle.flow_ctx.specs.declared.unfolded.UNode.{UNode}
use Rattle.flow_ctx.specs.Found.{AreDifferent, AreFoundIn, IsGrown, nodes_of}
use Rattle.flow_ctx.specs.Nodes.{BeginsAt, IsReached, IsStart, Leads, along, start, next, jump, call, ret}
use Rattle.flow_ctx.specs.Targets.{AreTargets, HasPlace, IsInOrder, node_of}
use Rattle.flow_ctx.proofs.OrderLemmas.{distinct_at}
use Rattle.flow_ctx.proofs.SearchLemmas.{begins_once}
use Rattle.flow_ctx.proofs.TargetLemmas.{reached_has_block}

-- a test that tells whether two places are one node
pub record TellsNodes (eq : Place → Place → Bool) : Type 0 where
  pub same : (p q : Place) → eq p q ≡ true → node_of p ≡ node_of q
  pub again : (p q : Place) → node_of p ≡ node_of q → eq p q ≡ true

-- the targets behind those that are left are added
pub record GrownSoFar (all left : List Target) (old new : List Place) : Type 0 where
  pub done : List Target
  pub is : all ≡ left ++ done
  pub grown : IsGrown done old new

pub grown_none : (all : List Target) (old : List Place) → GrownSoFar all all old old
grown_none all old = record {
  done = [];
  is = sym (append-nil all);
  grown = record {
    added = [];
    is = sym (append-nil old);
    among = All-nil (λ p. Any (λ t. node_of t.place ≡ node_of p) []);
    there = All-nil (λ t. Contains (nodes_of old) (node_of t.place));
  };
}

any_cons : {X : Type 0} (P : X → Type 0) (x : X) (xs : List X) → Any P xs → Any P (x ∷ xs)
any_cons P x xs a = (suc a.0, a.1, omega (arith, a.2), a.3, a.4)

-- the node of a place in a list is among the nodes
pub node_there : (places : List Place) (k : ℕ) (p : Place) → k < length places → get_or places k p ≡ p → Contains (nodes_of places) (node_of p)
node_there places k p within is = (k, rw length-map within, get_or-map node_of places k p (node_of p) within ∙ ap node_of is)

-- a node among those of some places is one of them
pub place_there : (places : List Place) (n : UNode) → Contains (nodes_of places) n → Any (λ p. node_of p ≡ n) places
place_there places n c =
    let within : c.0 < length places = subst (λ (k : ℕ). c.0 < k) (length-map places node_of) c.1 in
    elim ((slice_get_cases places c.0).1) [
      | inl w ↦ (c.0, w.0, within, w.3, sym (get_or-map node_of places c.0 w.0 n within ∙ ap node_of w.3) ∙ c.2)
      | inr w ↦ absurd (omega (arith, within, w.0))
    ]

pub nodes_more : (old added : List Place) (n : UNode) → Contains (nodes_of old) n → Contains (nodes_of (old ++ added)) n
nodes_more old added n c = subst (λ (l : List UNode). Contains l n) (sym (map-append node_of old added)) (Contains-append_left (nodes_of old) (nodes_of added) n c)

pub nodes_last : (old added : List Place) (n : UNode) → Contains (nodes_of added) n → Contains (nodes_of (old ++ added)) n
nodes_last old added n c = subst (λ (l : List UNode). Contains l n) (sym (map-append node_of old added)) (Contains-append_right (nodes_of old) (nodes_of added) n c)

module _ (eq : Place → Place → Bool) (tells : TellsNodes eq) where
  -- a place that is known is among the nodes
  known : (places : List Place) (p : Place) → list_any (eq p) places ≡ true → Contains (nodes_of places) (node_of p)
  known places p h =
      let a = Any-from_list_any (eq p) places h in
      subst (λ (n : UNode). Contains (nodes_of places) n) (sym (tells.same p a.1 a.4)) (node_there places a.0 a.1 a.2 a.3)

  -- one target more
  grown_more : (t : Target) (done : List Target) (old new : List Place) → IsGrown done old new → IsGrown (t ∷ done) old (insert_key eq new t.place)
  grown_more t done old new g = by (list_any (eq t.place) new) refl
    where
      Among : Place → Type 0
      Among p = Any (λ u. node_of u.place ≡ node_of p) (t ∷ done)

      among : All (λ p. Any (λ u. node_of u.place ≡ node_of p) (t ∷ done)) g.added
      among = All-weaker (λ p. Any (λ u. node_of u.place ≡ node_of p) done) (λ p. Any (λ u. node_of u.place ≡ node_of p) (t ∷ done))
          (λ p a. any_cons (λ u. node_of u.place ≡ node_of p) t done a) g.added g.among

      by : (b : Bool) → list_any (eq t.place) new ≡ b → IsGrown (t ∷ done) old (if b then new else new ++ t.place ∷ [])
      by true h = record {
        added = g.added;
        is = g.is;
        among = among;
        there = All-cons (λ u. Contains (nodes_of new) (node_of u.place)) t done (known new t.place h) g.there;
      }
      by false h = record {
        added = g.added ++ t.place ∷ [];
        is = ap (λ (l : List Place). l ++ t.place ∷ []) g.is ∙ append_assoc old g.added (t.place ∷ []);
        among = All-push (λ p. Any (λ u. node_of u.place ≡ node_of p) (t ∷ done)) g.added t.place among (0, t, omega arith, refl, refl);
        there = All-cons (λ u. Contains (nodes_of (new ++ t.place ∷ [])) (node_of u.place)) t done
            (nodes_last new (t.place ∷ []) (node_of t.place) (node_there (t.place ∷ []) 0 t.place (omega arith) refl))
            (All-weaker (λ u. Contains (nodes_of new) (node_of u.place)) (λ u. Contains (nodes_of (new ++ t.place ∷ [])) (node_of u.place))
            (λ u c. nodes_more new (t.place ∷ []) (node_of u.place) c) done g.there);
      }

  pub grown_next : (all left rest : List Target) (t : Target) (old new after : List Place) → GrownSoFar all left old new → left ≡ rest ++ t ∷ []
      → after ≡ insert_key eq new t.place → GrownSoFar all rest old after
  grown_next all left rest t old new after g e is = record {
    done = t ∷ g.done;
    is = g.is ∙ ap (λ (l : List Target). l ++ g.done) e ∙ append_assoc rest (t ∷ []) g.done;
    grown = subst (λ (l : List Place). IsGrown (t ∷ g.done) old l) (sym is) (grown_more t g.done old new g.grown);
  }

  -- places no two of which are equal are different nodes
  pub different : (places : List Place) → IsDistinct eq places → AreDifferent (nodes_of places)
  different places d i j n less within =
      let within' : j < length places = subst (λ (k : ℕ). j < k) (length-map places node_of) within in
      elim ((slice_get_cases places j).1) [
        | inl w ↦ λ same. false≢true (sym (apart i j w.0 less within') ∙ tells.again (get_or places i w.0) (get_or places j w.0)
            (sym (get_or-map node_of places i w.0 n (omega (arith, within'))) ∙ same ∙ get_or-map node_of places j w.0 n within'))
        | inr w ↦ absurd (omega (arith, within', w.0))
      ]
    where
      apart : (i j : ℕ) (p : Place) → i < j → j < length places → eq (get_or places i p) (get_or places j p) ≡ false
      apart i j p h k = distinct_at eq places i j p d h k

-- where nothing stands the list is over
pub no_more : (places : List Place) (i : ℕ) → None ≡ slice_get places i → length places ≤ i
no_more places i e = elim ((slice_get_cases places i).1) [ inl w ↦ absurd (none-some w.0 (e ∙ w.2)) | inr w ↦ w.0 ]

-- what was looked at among the places found so far: their nodes are reached, the start is one, and what the first i lead to is there
pub record Explored (program : Program) (i : ℕ) (places : List Place) : Type 0 where
  pub reached : All (λ n. IsReached program n) (nodes_of places)
  pub starts : (n : UNode) → IsStart program n → Contains (nodes_of places) n
  pub closed : (k : ℕ) (p : Place) (taken : Bool) (to : UNode) → k < i → slice_get places k ≡ Some p → Leads program (node_of p) taken to
      → Contains (nodes_of places) to

module _ (program : Program) (order : IsInOrder program) where
  pub begun : (places : List Place) (p : Place) → places ≡ p ∷ [] → IsStart program (node_of p) → Explored program 0 places
  begun places p e s = record {
    reached = subst (λ (l : List Place). All (λ n. IsReached program n) (nodes_of l)) (sym e) (All-cons (λ n. IsReached program n) (node_of p) [] (start (node_of p) s) (All-nil (λ n. IsReached program n)));
    starts = λ n t. subst (λ (l : List Place). Contains (nodes_of l) n) (sym e) (0, omega arith, begins_once program order (node_of p) n [] program.start s t);
    closed = λ k q taken to h. absurd (omega (arith, h));
  }

  pub all_found : (i : ℕ) (places : List Place) → length places ≤ i → Explored program i places → AreFoundIn program (nodes_of places)
  all_found i places h e = record { each = e.reached; whole = whole }
    where
      whole : (n : UNode) → IsReached program n → Contains (nodes_of places) n
      whole n (start x s) = e.starts x s
      whole n (along from taken x r l) =
          let a = place_there places from (whole from r) in
          e.closed a.0 a.1 taken x (omega (arith, h, a.2)) (slice_get_read places (length places) a.0 a.1 refl a.2 (sym a.3)) (subst (λ (m : UNode). Leads program m taken x) (sym a.4) l)

  pub reached_has_place : (q : Place) → IsReached program (node_of q) → HasPlace program q
  reached_has_place q r = let a = reached_has_block program (node_of q) r in record { function = a.function; block = a.block; is = a.is }

  -- a place that was found has a block
  pub found_has_place : (i : ℕ) (places : List Place) (k : ℕ) (p : Place) → Explored program i places → slice_get places k ≡ Some p → HasPlace program p
  found_has_place i places k p e is = reached_has_place p (All-contains (λ n. IsReached program n) (nodes_of places) (node_of p) e.reached
      (node_there places k p (slice_get_within places k p is) (get_or_from_slice_get places k p p is)))

  pub explored_more : (i : ℕ) (old new : List Place) (p : Place) (targets : List Target) → Explored program i old → slice_get old i ≡ Some p
      → AreTargets program (node_of p) targets → IsGrown targets old new → Explored program (i + 1) new
  explored_more i old new p targets e is are g = subst (λ (l : List Place). Explored program (i + 1) l) (sym g.is) (record {
    reached = subst (λ (l : List UNode). All (λ n. IsReached program n) l) (sym (map-append node_of old g.added))
        (All-append (λ n. IsReached program n) (nodes_of old) (nodes_of g.added) e.reached
        (All-map (λ n. IsReached program n) node_of g.added (All-weaker (λ q. Any (λ t. node_of t.place ≡ node_of q) targets) (λ q. IsReached program (node_of q)) reach g.added g.among)));
    starts = λ n s. nodes_more old g.added n (e.starts n s);
    closed = closed;
  })
    where
      from_is : IsReached program (node_of p)
      from_is = All-contains (λ n. IsReached program n) (nodes_of old) (node_of p) e.reached (node_there old i p (slice_get_within old i p is) (get_or_from_slice_get old i p p is))

      reach : (q : Place) → Any (λ t. node_of t.place ≡ node_of q) targets → IsReached program (node_of q)
      reach q a = subst (λ (n : UNode). IsReached program n) a.4 (along (node_of p) a.1.taken (node_of a.1.place) from_is
          (All-contains (λ t. Leads program (node_of p) t.taken (node_of t.place)) targets a.1 are.each (a.0, a.2, a.3)))

      within : i < length old
      within = slice_get_within old i p is

      closed : (k : ℕ) (q : Place) (taken : Bool) (to : UNode) → k < i + 1 → slice_get (old ++ g.added) k ≡ Some q → Leads program (node_of q) taken to
          → Contains (nodes_of (old ++ g.added)) to
      closed k q taken to h at l = elim (cases_lt k i) [
        | inl less ↦ nodes_more old g.added to (e.closed k q taken to less (same_front k q (omega (arith, less, within)) at) l)
        | inr more ↦
            let k_is : k ≡ i = omega (arith, h, more) in
            let q_is : p ≡ q = same_Some p q (sym is ∙ same_front i q within (subst (λ (m : ℕ). slice_get (old ++ g.added) m ≡ Some q) k_is at)) in
            let a = are.whole taken to (subst (λ (x : Place). Leads program (node_of x) taken to) (sym q_is) l) in
            subst (λ (n : UNode). Contains (nodes_of (old ++ g.added)) n) a.4.1
            (subst (λ (l : List Place). Contains (nodes_of l) (node_of a.1.place)) g.is (All-contains (λ t. Contains (nodes_of new) (node_of t.place)) targets a.1 g.there (a.0, a.2, a.3)))
      ]
        where
          same_front : (k : ℕ) (q : Place) → k < length old → slice_get (old ++ g.added) k ≡ Some q → slice_get old k ≡ Some q
          same_front k q below s = elim ((slice_get_cases old k).1) [
            | inl w ↦ w.2 ∙ ap (λ (x : Place). Some x) (sym w.3 ∙ sym (get_or-append old g.added w.0 k below) ∙ get_or_from_slice_get (old ++ g.added) k q w.0 s)
            | inr w ↦ absurd (omega (arith, below, w.0))
          ]
