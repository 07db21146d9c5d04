-- The chains of nodes, as far as they are made.
use Rattle.std.proofs.Common.{◌≡◌, ℕ, zero, suc, ◌+◌, ◌-◌, ◌<◌, ◌≤◌, ◌⊎◌, Bool, true, false, cond, List, [], ◌∷◌, ◌++◌, length, get_or, take, slice_get, Some, refl, sym, ap, ◌∙◌, subst, inl, inr, arith, ◌==◌, ◌||◌}
use Rattle.std.specs.Global.{Vec}
use Rattle.std.specs.List.{AllPairs, Contains, filter}
use Rattle.std.specs.Option.{option_and_then}
use Rattle.std.specs.Vec.{with_items}
use Rattle.std.proofs.lemmas.Bool.{cases_Bool, cases_eq, cases_lt, eq-eqb, ne_eqb, true≢false}
use Rattle.std.proofs.lemmas.List.{append-nil, get_or-take, get_or_default, length-take, take_more, with_items_is}
use Rattle.std.proofs.lemmas.List.Elements.{filter-append}
use Rattle.std.proofs.lemmas.List.Folds.{list_any-append}
use Rattle.std.proofs.lemmas.List.Kept.{AllPairs-filter}
use Rattle.std.proofs.lemmas.List.Quantifiers.{all_pairs_push}
use Rattle.std.proofs.lemmas.Option.{slice_get_within, same_Some}
use Rattle.wx_base.specs.Facts.{AreAscending}
use Rattle.flow_ctx.specs.declared.scope.Scope.TheVariants.{Loop}
use Rattle.flow_ctx.specs.declared.unfolded.ULoop.{ULoop}
use Rattle.flow_ctx.specs.declared.unfolded.Unfolded.{Unfolded}
use Rattle.flow_ctx.specs.Unfolding.{IsUnfolding}
use Rattle.cache_ages.specs.Bounds.{is_one_of}
use Rattle.cache_flow.specs.Flows.{Part}
use Rattle.cache_class.specs.declared.chains.Chains.{Chains}
use Rattle.cache_class.specs.Chains.{has_node, last_of, last_at, AreAlike, AreChains, AreChainsOf, AreEmpty, HasWithin, IsChain, IsPushed}
use Rattle.cache_class.specs.Classes.{IsOutside}
use Rattle.cache_class.proofs.OrderLemmas.{members_ascend, members_within}
use Rattle.cache_class.proofs.TableLemmas.{absent, contained, loop_part, pick, picked}

-- ---- the last number of a list

pub last_is : (numbers : List ℕ) → slice_get numbers (length numbers - 1) ≡ last_of numbers
last_is [] = refl
last_is (x ∷ []) = refl
last_is (x ∷ y ∷ numbers) =
    let e : length (x ∷ y ∷ numbers) - 1 ≡ suc (length (y ∷ numbers) - 1) = omega arith in
    ap (slice_get (x ∷ y ∷ numbers)) e ∙ last_is (y ∷ numbers)

-- of the numbers of a list that pass a test the last one
record IsLastOf (p : ℕ → Bool) (numbers : List ℕ) : Type 0 where
  place : ℕ
  inside : place < length numbers
  passes : p (get_or numbers place 0) ≡ true
  last : last_of (filter p numbers) ≡ Some (get_or numbers place 0)
  greatest : (k : ℕ) → k < length numbers → p (get_or numbers k 0) ≡ true → k ≤ place

record NoneOf (p : ℕ → Bool) (numbers : List ℕ) : Type 0 where
  empty : filter p numbers ≡ []
  fails : (k : ℕ) → k < length numbers → p (get_or numbers k 0) ≡ false

longer : (x : ℕ) (ys : List ℕ) (last : ℕ) → last_of ys ≡ Some last → last_of (x ∷ ys) ≡ Some last
longer x [] last e = absurd cc
longer x (y ∷ ys) last e = e

last_found : (p : ℕ → Bool) (numbers : List ℕ) → NoneOf p numbers ⊎ IsLastOf p numbers
last_found p [] = inl (record { empty = refl; fails = λ k h. absurd (omega (arith, h)) })
last_found p (x ∷ numbers) = by (last_found p numbers) (cases_Bool (p x))
  where
    by : NoneOf p numbers ⊎ IsLastOf p numbers → (p x ≡ true) ⊎ (p x ≡ false) → NoneOf p (x ∷ numbers) ⊎ IsLastOf p (x ∷ numbers)
    by (inl none) (inl e) = inr (record {
      place = 0;
      inside = omega arith;
      passes = e;
      last = rw (e, none.empty) refl;
      greatest = λ k h passes. before k h passes;
    })
      where
        before : (k : ℕ) → k < length (x ∷ numbers) → p (get_or (x ∷ numbers) k 0) ≡ true → k ≤ 0
        before zero h passes = omega arith
        before (suc k) h passes = absurd (true≢false (sym passes ∙ none.fails k (omega (arith, h))))
    by (inl none) (inr e) = inl (record { empty = rw e none.empty; fails = λ k h. fails k h })
      where
        fails : (k : ℕ) → k < length (x ∷ numbers) → p (get_or (x ∷ numbers) k 0) ≡ false
        fails zero h = e
        fails (suc k) h = none.fails k (omega (arith, h))
    by (inr some) q = inr (record {
      place = suc some.place;
      inside = omega (arith, some.inside);
      passes = some.passes;
      last = kept q;
      greatest = λ k h passes. before k h passes;
    })
      where
        kept : (p x ≡ true) ⊎ (p x ≡ false) → last_of (filter p (x ∷ numbers)) ≡ Some (get_or numbers some.place 0)
        kept (inl e) = rw e (longer x (filter p numbers) (get_or numbers some.place 0) some.last)
        kept (inr e) = rw e some.last

        before : (k : ℕ) → k < length (x ∷ numbers) → p (get_or (x ∷ numbers) k 0) ≡ true → k ≤ suc some.place
        before zero h passes = omega arith
        before (suc k) h passes = omega (arith, some.greatest k (omega (arith, h)) passes)

-- ---- one loop more

pub chain_at : (chains : List (Vec ℕ)) (node : ℕ) (chain : Vec ℕ) → slice_get chains node ≡ Some chain → last_at chains node ≡ last_of chain.items
chain_at chains node chain at = ap (λ o. option_and_then (λ (c : Vec ℕ). last_of c.items) o) at

-- an element of a list
pub element : {X : Type 0} (xs : List X) (k : ℕ) → k < length xs → (x : X) × (slice_get xs k ≡ Some x)
element [] k h = absurd (omega (arith, h))
element (x ∷ xs) zero h = (x, refl)
element (x ∷ xs) (suc k) h = element xs k (omega (arith, h))

last_told : (u : Unfolded) (order : List ℕ) (chains : List (Vec ℕ)) → AreChains u order chains → (node : ℕ) → node < length u.nodes
    → last_at chains node ≡ last_of (filter (has_node u node) order)
last_told u order chains are node h =
    let chain = element chains node (omega (arith, h, are.long)) in
    chain_at chains node chain.0 chain.1 ∙ ap last_of (are.each node chain.0 chain.1)

-- what holds of the last loop of one chain holds of the other's, if they end alike
passes_too : (u : Unfolded) (order : List ℕ) (node other last : ℕ) → last_of (filter (has_node u node) order) ≡ Some last
    → last_of (filter (has_node u node) order) ≡ last_of (filter (has_node u other) order) → has_node u other last ≡ true
passes_too u order node other last e same = by (last_found (has_node u other) order)
  where
    by : NoneOf (has_node u other) order ⊎ IsLastOf (has_node u other) order → has_node u other last ≡ true
    by (inl none) = let f : Some last ≡ last_of [] = sym e ∙ same ∙ ap last_of none.empty in absurd cc
    by (inr some) =
        let f : last ≡ get_or order some.place 0 = same_Some last (get_or order some.place 0) (sym e ∙ same ∙ some.last) in
        subst (λ (n : ℕ). has_node u other n ≡ true) (sym f) some.passes

pub nested_more : (u : Unfolded) (order : List ℕ) (number : ℕ) (chains : List (Vec ℕ)) (members : List ℕ) → AllPairs (HasWithin u) order → AreChains u order chains
    → ((node : ℕ) → has_node u node number ≡ true → Contains members node × (node < length u.nodes)) → AreAlike chains members
    → AllPairs (HasWithin u) (order ++ number ∷ [])
nested_more u order number chains members nested are within alike =
    all_pairs_push (HasWithin u) order number nested (λ k d h node other has_k has_number has_other. one k d h node other has_k has_number has_other)
  where
    one : (k d : ℕ) → k < length order → HasWithin u (get_or order k d) number
    one k d h node other has_k has_number has_other = by (last_found (has_node u node) order)
      where
        first : has_node u node (get_or order k 0) ≡ true
        first = subst (λ (n : ℕ). has_node u node n ≡ true) (get_or_default order k d 0 h) has_k

        back : has_node u other (get_or order k 0) ≡ true → has_node u other (get_or order k d) ≡ true
        back e = subst (λ (n : ℕ). has_node u other n ≡ true) (sym (get_or_default order k d 0 h)) e

        here : Contains members node × (node < length u.nodes)
        here = within node has_number

        there : Contains members other × (other < length u.nodes)
        there = within other has_other

        same : last_of (filter (has_node u node) order) ≡ last_of (filter (has_node u other) order)
        same = sym (last_told u order chains are node here.1) ∙ alike node other here.0 there.0 ∙ last_told u order chains are other there.1

        by : NoneOf (has_node u node) order ⊎ IsLastOf (has_node u node) order → has_node u other (get_or order k d) ≡ true
        by (inl none) = absurd (true≢false (sym first ∙ none.fails k h))
        by (inr some) =
            let passes = passes_too u order node other (get_or order some.place 0) some.last same in
            elim (cases_lt k some.place) [
              | inl lt ↦ back (nested k some.place 0 lt some.inside node other first some.passes passes)
              | inr ge ↦ let e : some.place ≡ k = omega (arith, ge, some.greatest k h first) in back (subst (λ (n : ℕ). has_node u other (get_or order n 0) ≡ true) e passes)
            ]

-- ---- chains with a loop more

pub pushed_chains : (u : Unfolded) (order : List ℕ) (number : ℕ) (members : List ℕ) (old new : List (Vec ℕ)) → AreChains u order old → IsPushed members number old new
    → ((node : ℕ) → has_node u node number ≡ is_one_of members node) → AreChains u (order ++ number ∷ []) new
pushed_chains u order number members old new are pushed same = record {
  long = pushed.long ∙ are.long;
  each = λ node chain at.
      let before = element old node (omega (arith, pushed.long, slice_get_within new node chain at)) in
      pushed.each node before.0 chain before.1 at ∙ told node (are.each node before.0 before.1) (cases_Bool (is_one_of members node)) ∙ sym (filter-append (has_node u node) order (number ∷ []));
}
  where
    told : (node : ℕ) {items : List ℕ} → items ≡ filter (has_node u node) order → (is_one_of members node ≡ true) ⊎ (is_one_of members node ≡ false)
        → cond (is_one_of members node) (items ++ number ∷ []) items ≡ filter (has_node u node) order ++ filter (has_node u node) (number ∷ [])
    told node e (inl one) = rw (one, same node ∙ one) (ap (λ xs. xs ++ number ∷ []) e)
    told node e (inr none) = rw (none, same node ∙ none) (e ∙ sym (append-nil (filter (has_node u node) order)))

pub no_chains : (u : Unfolded) (chains : List (Vec ℕ)) → AreEmpty (length u.nodes) chains → AreChains u [] chains
no_chains u chains are = record { long = are.long; each = are.each }

-- ---- a loop more in the chains of some nodes

not_before : (nodes : List ℕ) (i : ℕ) → AreAscending nodes → i < length nodes → is_one_of (take i nodes) (get_or nodes i 0) ≡ false
not_before nodes i up h = absent (take i nodes) (get_or nodes i 0) (λ k lt e.
    let early : k < i = omega (arith, lt, length-take i nodes) in
    omega (arith, up k i 0 early h, sym (get_or-take i nodes k 0 early) ∙ e))

or_false : (t : Bool) → (t || false) ≡ t
or_false true = refl
or_false false = refl

pub pushed_none : (number : ℕ) (chains : List (Vec ℕ)) → IsPushed [] number chains chains
pushed_none number chains = record { long = refl; each = λ node before after a b. ap (λ (c : Vec ℕ). c.items) (same_Some after before (sym b ∙ a)) }

pub pushed_more : (nodes : List ℕ) (i number : ℕ) (a b c : List (Vec ℕ)) → AreAscending nodes → i < length nodes
    → IsPushed (take i nodes) number a b → IsPushed (get_or nodes i 0 ∷ []) number b c → IsPushed (take (i + 1) nodes) number a c
pushed_more nodes i number a b c up h first next = record {
  long = next.long ∙ first.long;
  each = λ node before after at there.
      let middle = element b node (omega (arith, first.long, slice_get_within a node before at)) in
      let one : is_one_of (take (i + 1) nodes) node ≡ (is_one_of (take i nodes) node || is_one_of (get_or nodes i 0 ∷ []) node)
      = ap (λ xs. is_one_of xs node) (take_more nodes i 0 h) ∙ list_any-append (λ other. other == node) (take i nodes) (get_or nodes i 0 ∷ []) in
      let p = first.each node before middle.0 at middle.1 in
      let q = next.each node middle.0 after middle.1 there in
      told node before.items middle.0.items after.items one p q (cases_eq (get_or nodes i 0) node);
}
  where
    told : (node : ℕ) (x y z : List ℕ) → is_one_of (take (i + 1) nodes) node ≡ (is_one_of (take i nodes) node || is_one_of (get_or nodes i 0 ∷ []) node)
        → y ≡ cond (is_one_of (take i nodes) node) (x ++ number ∷ []) x → z ≡ cond (is_one_of (get_or nodes i 0 ∷ []) node) (y ++ number ∷ []) y
        → (get_or nodes i 0 ≡ node) ⊎ (get_or nodes i 0 ≡ node → ⊥) → z ≡ cond (is_one_of (take (i + 1) nodes) node) (x ++ number ∷ []) x
    told node x y z one p q (inl same) =
        let before : is_one_of (take i nodes) node ≡ false = subst (λ (n : ℕ). is_one_of (take i nodes) n ≡ false) same (not_before nodes i up h) in
        let here : (get_or nodes i 0 == node) ≡ true = eq-eqb (get_or nodes i 0) node same in
        let y_is : y ≡ x = rw before at p in
        let z_is : z ≡ y ++ number ∷ [] = rw here at q in
        rw (one, before, here) (z_is ∙ ap (λ xs. xs ++ number ∷ []) y_is)
    told node x y z one p q (inr other) =
        let here : (get_or nodes i 0 == node) ≡ false = ne_eqb (get_or nodes i 0) node other in
        let z_is : z ≡ y = rw here at q in
        let one_is : is_one_of (take (i + 1) nodes) node ≡ (is_one_of (take i nodes) node || false) = rw here at one in
        z_is ∙ p ∙ ap (λ b. cond b (x ++ number ∷ []) x) (sym (one_is ∙ or_false (is_one_of (take i nodes) node)))

-- numbers that all have the first one's last loop have the same
pub alike_all : (chains : List (Vec ℕ)) (nodes : List ℕ) (i : ℕ) → length nodes ≤ i
    → ((k : ℕ) → k < i → last_at chains (get_or nodes k 0) ≡ last_at chains (get_or nodes 0 0)) → AreAlike chains nodes
alike_all chains nodes i all so node other a b = first node a ∙ sym (first other b)
  where
    first : (n : ℕ) → Contains nodes n → last_at chains n ≡ last_at chains (get_or nodes 0 0)
    first n c = ap (last_at chains) (sym (get_or_default nodes c.0 0 n c.1 ∙ c.2)) ∙ so c.0 (omega (arith, c.1, all))

-- ---- the loop that is put in

module _ (u : Unfolded) (is : IsUnfolding u.program u) (number : ℕ) (l : ULoop) (at : slice_get u.loops number ≡ Some l) (members : List ℕ) (same : members ≡ l.members) where
  pub nodes_within : (node : ℕ) → Contains members node → node < length u.nodes
  nodes_within node c = members_within u is number l at node (subst (λ (ms : List ℕ). Contains ms node) same c)

  pub nodes_ascend : AreAscending members
  nodes_ascend = subst AreAscending (sym same) (members_ascend u is number l at)

  pub has_by_members : (node : ℕ) → has_node u node number ≡ is_one_of members node
  has_by_members node = ap (λ (p : Part). is_one_of p.members node) (loop_part u number l at) ∙ ap (λ (ms : List ℕ). is_one_of ms node) (sym same)

  pub has_within : (node : ℕ) → has_node u node number ≡ true → Contains members node × (node < length u.nodes)
  has_within node has =
      let c = contained members node (sym (has_by_members node) ∙ has) in
      (c, nodes_within node c)

-- a Vec whose items were all written
pub written : {X : Type 0} (v : Vec X) (new : List X) → length new ≡ length v.items → (with_items v new).items ≡ new
written v new same = with_items_is v new (same ∙ sym v.ok.0)

-- ---- the chain of a node

pub chain_is : (u : Unfolded) (made : Chains) (node : ℕ) (chain : List ℕ) → (are : AreChainsOf u made) → chain ≡ filter (has_node u node) are.order
    → IsChain u made.are_nested node chain
chain_is u made node chain are e = subst (λ (c : List ℕ). IsChain u made.are_nested node c) (sym e) (record {
  outside_in = AllPairs-filter (λ k m. IsOutside u (Loop k) (Loop m)) (has_node u node) are.order are.ordered.outside_in;
  exact = λ number. (
    λ c. let p = picked (has_node u node) are.order number c in ((are.ordered.exact number).0 p.0, p.1),
    λ h. pick (has_node u node) are.order number ((are.ordered.exact number).1 h.0) h.1,
  );
  within = λ nested. AllPairs-filter (HasWithin u) (has_node u node) are.order (are.nested nested);
})
