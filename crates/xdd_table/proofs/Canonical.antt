-- Two diagrams with the same time at every combination have one place.
use Rattle.std.proofs.Common.{◌≡◌, ℕ, zero, suc, ◌+◌, ◌<◌, Bool, true, false, List, length, slice_get, Option, Some, None, IfSome, refl, sym, ap, ◌∙◌, inl, inr, arith, if◌then◌else◌, eqb}
use Rattle.std.proofs.lemmas.Bool.{cases_lt}
use Rattle.std.proofs.lemmas.Bool.Decides.{nat_tests}
use Rattle.std.proofs.lemmas.Option.{slice_get_cases}
use Rattle.xdd_table.specs.declared.node.Dd.{Dd}
use Rattle.xdd_table.specs.declared.node.Node.{Node}
use Rattle.xdd_table.specs.declared.node.Node.TheVariants.{Leaf, Branch}
use Rattle.xdd_table.specs.Diagram.{Combination, with_event, time, BeginsAfter, ReadsAfter, IsBranchAt, IsTable}
use Rattle.xdd_table.proofs.TimeLaws.{time-node}

-- a given event, and the others
given : (f : Combination) (e : ℕ) (b : Bool) → with_event f e b e ≡ b
given f e b = let t : eqb e e ≡ true = grind (arith, nat_tests) in rw t refl

others : (f : Combination) (e x : ℕ) (b : Bool) → e < x → with_event f e b x ≡ f x
others f e x b h = let t : eqb x e ≡ false = grind (arith, nat_tests) in rw t refl

-- a place within the table has a node
pub record At (nodes : List Node) (p : ℕ) : Type 0 where
  pub node : Node
  pub is : slice_get nodes p ≡ Some node

pub node_at : (nodes : List Node) (p : ℕ) → p < length nodes → At nodes p
node_at nodes p h = elim ((slice_get_cases nodes p).1) [ inl w ↦ record { node = w.0; is = w.2 } | inr w ↦ absurd (omega arith) ]

module _ (nodes : List Node) (table : IsTable nodes) where
  pub leaf_time : (f : Combination) (p t : ℕ) → slice_get nodes p ≡ Some (Leaf t) → time nodes f p ≡ t
  leaf_time f p t is = time-node f nodes p (Leaf t) is (table.each p (Leaf t) is)

  pub branch_of : (p e : ℕ) (hit miss : Dd) → slice_get nodes p ≡ Some (Branch e hit miss) → IsBranchAt nodes p e hit.place miss.place
  branch_of p e hit miss is = table.each p (Branch e hit miss) is

  pub branch_time : (f : Combination) (p e : ℕ) (hit miss : Dd) → slice_get nodes p ≡ Some (Branch e hit miss)
      → time nodes f p ≡ (if f e then time nodes f miss.place else time nodes f hit.place)
  branch_time f p e hit miss is = time-node f nodes p (Branch e hit miss) is (table.each p (Branch e hit miss) is)

  -- what begins after an event begins after each lower one
  pub begins_after_less : (a b p : ℕ) → a < b → BeginsAfter nodes b p → BeginsAfter nodes a p
  begins_after_less a b p h after = weaker (slice_get nodes p) after
    where
      weaker : (o : Option Node) → IfSome o (ReadsAfter b) → IfSome o (ReadsAfter a)
      weaker None w = tt
      weaker (Some (Leaf t)) w = tt
      weaker (Some (Branch e hit miss)) w = omega arith

  -- places before the n-th read no event before their root's
  abbrev Unread : ℕ → Type 0
  Unread n = (p : ℕ) (f : Combination) (e : ℕ) (b : Bool) → p < n → p < length nodes → BeginsAfter nodes e p → time nodes (with_event f e b) p ≡ time nodes f p

  unread_node : (n p : ℕ) (f : Combination) (e : ℕ) (b : Bool) → Unread n → p < suc n → p < length nodes → BeginsAfter nodes e p
      → (x : Node) → slice_get nodes p ≡ Some x → time nodes (with_event f e b) p ≡ time nodes f p
  unread_node n p f e b below less within after (Leaf t) is = leaf_time (with_event f e b) p t is ∙ sym (leaf_time f p t is)
  unread_node n p f e b below less within after (Branch e' hit miss) is =
      let w = branch_of p e' hit miss is in
      let later : e < e' = rw is at after in
      let h = below hit.place f e b (omega (arith, w.hit_before)) (omega (arith, w.hit_before)) (begins_after_less e e' hit.place later w.hit_after) in
      let m = below miss.place f e b (omega (arith, w.miss_before)) (omega (arith, w.miss_before)) (begins_after_less e e' miss.place later w.miss_after) in
      let c = others f e e' b later in
      let new = branch_time (with_event f e b) p e' hit miss is in
      let old = branch_time f p e' hit miss is in
      cc

  -- a diagram reads no event before its root's
  pub unread : (n : ℕ) → Unread n
  unread zero p f e b less within after = absurd (omega arith)
  unread (suc n) p f e b less within after = let a = node_at nodes p within in unread_node n p f e b (unread n) less within after a.node a.is

  -- the branches of a diagram are the diagram with its event given
  pub hit_time : (f : Combination) (p e : ℕ) (hit miss : Dd) → p < length nodes → slice_get nodes p ≡ Some (Branch e hit miss) → time nodes f hit.place ≡ time nodes (with_event f e false) p
  hit_time f p e hit miss within is =
      let w = branch_of p e hit miss is in
      let u = unread p hit.place f e false w.hit_before (omega (arith, w.hit_before)) w.hit_after in
      let t = branch_time (with_event f e false) p e hit miss is in
      let g = given f e false in
      let t' = rw g at t in
      cc

  pub miss_time : (f : Combination) (p e : ℕ) (hit miss : Dd) → p < length nodes → slice_get nodes p ≡ Some (Branch e hit miss) → time nodes f miss.place ≡ time nodes (with_event f e true) p
  miss_time f p e hit miss within is =
      let w = branch_of p e hit miss is in
      let u = unread p miss.place f e true w.miss_before (omega (arith, w.miss_before)) w.miss_after in
      let t = branch_time (with_event f e true) p e hit miss is in
      let g = given f e true in
      let t' = rw g at t in
      cc

  -- places before the n-th with equal times are equal
  abbrev Apart : ℕ → Type 0
  Apart n = (p q : ℕ) → p < n → q < n → p < length nodes → q < length nodes → ((f : Combination) → time nodes f p ≡ time nodes f q) → p ≡ q

  -- a branch hangs on its event
  hangs : (n p e : ℕ) (hit miss : Dd) → Apart n → p < suc n → p < length nodes → slice_get nodes p ≡ Some (Branch e hit miss)
      → ((f : Combination) (b : Bool) → time nodes (with_event f e b) p ≡ time nodes f p) → ⊥
  hangs n p e hit miss below less within is free =
      let w = branch_of p e hit miss is in
      w.differ (below hit.place miss.place (omega (arith, w.hit_before)) (omega (arith, w.miss_before)) (omega (arith, w.hit_before)) (omega (arith, w.miss_before))
      (λ f. hit_time f p e hit miss within is ∙ (free f false ∙ (sym (free f true) ∙ sym (miss_time f p e hit miss within is)))))

  dd_from_place : (a b : Dd) → a.place ≡ b.place → a ≡ b
  dd_from_place a b e = ap (λ x. record { place = x }) e

  module _ (n p q : ℕ) (below : Apart n) (p_less : p < suc n) (q_less : q < suc n) (p_in : p < length nodes) (q_in : q < length nodes) (alike : (f : Combination) → time nodes f p ≡ time nodes f q) where
    leaf_leaf : (t u : ℕ) → slice_get nodes p ≡ Some (Leaf t) → slice_get nodes q ≡ Some (Leaf u) → p ≡ q
    leaf_leaf t u is is' =
        let f : Combination = λ x. false in
        let e : u ≡ t = sym (leaf_time f q u is') ∙ (sym (alike f) ∙ leaf_time f p t is) in
        table.once p q (Leaf t) is (rw (← e) is')

    leaf_branch : (t e : ℕ) (hit miss : Dd) → slice_get nodes p ≡ Some (Leaf t) → slice_get nodes q ≡ Some (Branch e hit miss) → p ≡ q
    leaf_branch t e hit miss is is' = absurd (hangs n q e hit miss below q_less q_in is'
        (λ f b. sym (alike (with_event f e b)) ∙ (leaf_time (with_event f e b) p t is ∙ (sym (leaf_time f p t is) ∙ alike f))))

    branch_leaf : (t e : ℕ) (hit miss : Dd) → slice_get nodes p ≡ Some (Branch e hit miss) → slice_get nodes q ≡ Some (Leaf t) → p ≡ q
    branch_leaf t e hit miss is is' = absurd (hangs n p e hit miss below p_less p_in is
        (λ f b. alike (with_event f e b) ∙ (leaf_time (with_event f e b) q t is' ∙ (sym (leaf_time f q t is') ∙ sym (alike f)))))

    earlier : (e e' : ℕ) (hit miss hit' miss' : Dd) → e < e' → slice_get nodes p ≡ Some (Branch e hit miss) → slice_get nodes q ≡ Some (Branch e' hit' miss') → p ≡ q
    earlier e e' hit miss hit' miss' less is is' =
        let after : BeginsAfter nodes e q = rw is' less in
        absurd (hangs n p e hit miss below p_less p_in is
        (λ f b. alike (with_event f e b) ∙ (unread (suc n) q f e b q_less q_in after ∙ sym (alike f))))

    later : (e e' : ℕ) (hit miss hit' miss' : Dd) → e' < e → slice_get nodes p ≡ Some (Branch e hit miss) → slice_get nodes q ≡ Some (Branch e' hit' miss') → p ≡ q
    later e e' hit miss hit' miss' less is is' =
        let after : BeginsAfter nodes e' p = rw is less in
        absurd (hangs n q e' hit' miss' below q_less q_in is'
        (λ f b. sym (alike (with_event f e' b)) ∙ (unread (suc n) p f e' b p_less p_in after ∙ alike f)))

    one_event : (e : ℕ) (hit miss hit' miss' : Dd) → slice_get nodes p ≡ Some (Branch e hit miss) → slice_get nodes q ≡ Some (Branch e hit' miss') → p ≡ q
    one_event e hit miss hit' miss' is is' =
        let w = branch_of p e hit miss is in
        let w' = branch_of q e hit' miss' is' in
        let h : hit.place ≡ hit'.place = below hit.place hit'.place (omega (arith, w.hit_before)) (omega (arith, w'.hit_before)) (omega (arith, w.hit_before)) (omega (arith, w'.hit_before))
        (λ f. hit_time f p e hit miss p_in is ∙ (alike (with_event f e false) ∙ sym (hit_time f q e hit' miss' q_in is'))) in
        let m : miss.place ≡ miss'.place = below miss.place miss'.place (omega (arith, w.miss_before)) (omega (arith, w'.miss_before)) (omega (arith, w.miss_before)) (omega (arith, w'.miss_before))
        (λ f. miss_time f p e hit miss p_in is ∙ (alike (with_event f e true) ∙ sym (miss_time f q e hit' miss' q_in is'))) in
        let h' : hit' ≡ hit = sym (dd_from_place hit hit' h) in
        let m' : miss' ≡ miss = sym (dd_from_place miss miss' m) in
        table.once p q (Branch e hit miss) is (rw (← h', ← m') is')

    branch_branch : (e e' : ℕ) (hit miss hit' miss' : Dd) → slice_get nodes p ≡ Some (Branch e hit miss) → slice_get nodes q ≡ Some (Branch e' hit' miss') → p ≡ q
    branch_branch e e' hit miss hit' miss' is is' =
        elim (cases_lt e e') [
          | inl l ↦ earlier e e' hit miss hit' miss' l is is'
          | inr g ↦ elim (cases_lt e' e) [
            | inl l ↦ later e e' hit miss hit' miss' l is is'
            | inr g' ↦ let same : e' ≡ e = omega arith in one_event e hit miss hit' miss' is (rw (← same) is')
          ]
        ]

    of_nodes : (x y : Node) → slice_get nodes p ≡ Some x → slice_get nodes q ≡ Some y → p ≡ q
    of_nodes (Leaf t) (Leaf u) is is' = leaf_leaf t u is is'
    of_nodes (Leaf t) (Branch e hit miss) is is' = leaf_branch t e hit miss is is'
    of_nodes (Branch e hit miss) (Leaf t) is is' = branch_leaf t e hit miss is is'
    of_nodes (Branch e hit miss) (Branch e' hit' miss') is is' = branch_branch e e' hit miss hit' miss' is is'

  apart : (n : ℕ) → Apart n
  apart zero p q p_less q_less p_in q_in alike = absurd (omega arith)
  apart (suc n) p q p_less q_less p_in q_in alike =
      let a = node_at nodes p p_in in
      let b = node_at nodes q q_in in
      of_nodes n p q (apart n) p_less q_less p_in q_in alike a.node b.node a.is b.is

  -- canonicity: equal times, equal places
  pub canonical : (p q : ℕ) → p < length nodes → q < length nodes → ((f : Combination) → time nodes f p ≡ time nodes f q) → p ≡ q
  canonical p q p_in q_in alike = apart (suc (p + q)) p q (omega arith) (omega arith) p_in q_in alike
