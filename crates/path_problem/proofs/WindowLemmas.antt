-- The weights of some arcs, put together.
use Rattle.std.proofs.Common.{◌≡◌, ℕ, ◌+◌, ◌<◌, ◌≤◌, Bool, true, false, cond, ◌||◌, List, take, length, get_or, set, refl, sym, ap, subst, ◌∙◌, arith}
use Rattle.std.specs.Prelude.{ℤ, pos, ◌+ℤ◌, nat_eq}
use Rattle.std.specs.List.{All}
use Rattle.std.proofs.Common.{get_or-set_same, get_or-set_other}
use Rattle.std.proofs.Math.ListN.{length-set}
use Rattle.std.proofs.lemmas.Bool.{ne_eqb, eq-eqb}
use Rattle.std.proofs.lemmas.List.Folds.{list_any_more}
use Rattle.std.proofs.lemmas.List.Elements.{All-set}
use Rattle.path_graph.specs.declared.graph.Graph.{Graph}
use Rattle.path_graph.specs.Graph.{has, arc_at}
use Rattle.path_graph.proofs.Cases.{by_same}

-- the amount is added at each arc that the first i list, and the stamp tells which these are
pub record AddedSoFar (listed : List ℕ) (i first : ℕ) (amount : ℤ) (stamp : ℕ) (old new : List ℤ) (stamps : List ℕ) : Type 0 where
  pub count : length new ≡ length old
  pub counts : length stamps ≡ length old
  pub marked : (k : ℕ) → k < length old → has (take i listed) (first + k) ≡ nat_eq (get_or stamps k 0) stamp
  pub added : (k : ℕ) → k < length old → get_or new k (pos 0) ≡ cond (nat_eq (get_or stamps k 0) stamp) (get_or old k (pos 0) +ℤ amount) (get_or old k (pos 0))
  pub within : All (λ s. s ≤ stamp) stamps

module _ (listed : List ℕ) (i first : ℕ) (amount : ℤ) (stamp : ℕ) (old new : List ℤ) (stamps : List ℕ) (h : i < length listed) (s : AddedSoFar listed i first amount stamp old new stamps) where
  one_more : (n : ℕ) → has (take (i + 1) listed) n ≡ (has (take i listed) n || nat_eq (get_or listed i 0) n)
  one_more n = list_any_more (λ m. nat_eq m n) listed i 0 h

  or_false : (b c : Bool) → c ≡ false → (b || c) ≡ b
  or_false true c e = refl
  or_false false c e = e

  or_true : (b c : Bool) → b ≡ true → (b || c) ≡ true
  or_true b c e = ap (λ d. d || c) e

  or_right : (b c : Bool) → c ≡ true → (b || c) ≡ true
  or_right true c e = refl
  or_right false c e = e

  -- an arc outside changes nothing
  pub other : ((k : ℕ) → k < length old → get_or listed i 0 ≡ first + k → ⊥) → AddedSoFar listed (i + 1) first amount stamp old new stamps
  other out = record {
    count = s.count;
    counts = s.counts;
    marked = λ k b. one_more (first + k) ∙ or_false (has (take i listed) (first + k)) (nat_eq (get_or listed i 0) (first + k)) (ne_eqb (get_or listed i 0) (first + k) (out k b)) ∙ s.marked k b;
    added = s.added;
    within = s.within;
  }

  module _ (j : ℕ) (b : j < length old) (at : get_or listed i 0 ≡ first + j) where
    away : (k : ℕ) → (k ≡ j → ⊥) → nat_eq (get_or listed i 0) (first + k) ≡ false
    away k n = ne_eqb (get_or listed i 0) (first + k) (λ e. n (omega arith))

    -- an arc that has the amount already
    pub again : get_or stamps j 0 ≡ stamp → AddedSoFar listed (i + 1) first amount stamp old new stamps
    again is = record {
      count = s.count;
      counts = s.counts;
      marked = λ k c. one_more (first + k) ∙ by_same k j
          (λ e.
          let there : nat_eq (get_or stamps k 0) stamp ≡ true = eq-eqb (get_or stamps k 0) stamp (ap (λ m. get_or stamps m 0) e ∙ is) in
          or_true (has (take i listed) (first + k)) (nat_eq (get_or listed i 0) (first + k)) (s.marked k c ∙ there) ∙ sym there)
          (λ n. or_false (has (take i listed) (first + k)) (nat_eq (get_or listed i 0) (first + k)) (away k n) ∙ s.marked k c);
      added = s.added;
      within = s.within;
    }

    -- an arc that gets the amount now
    pub now : (x : ℤ) → (get_or stamps j 0 ≡ stamp → ⊥) → x ≡ (get_or new j (pos 0) +ℤ amount) → AddedSoFar listed (i + 1) first amount stamp old (set new j x) (set stamps j stamp)
    now x is e = record {
      count = length-set new j x ∙ s.count;
      counts = length-set stamps j stamp ∙ s.counts;
      marked = λ k c. one_more (first + k) ∙ by_same k j
          (λ q.
          let there : nat_eq (get_or (set stamps j stamp) k 0) stamp ≡ true = eq-eqb (get_or (set stamps j stamp) k 0) stamp (ap (λ m. get_or (set stamps j stamp) m 0) q ∙ same) in
          let here : nat_eq (get_or listed i 0) (first + k) ≡ true = eq-eqb (get_or listed i 0) (first + k) (at ∙ ap (λ m. first + m) (sym q)) in
          or_right (has (take i listed) (first + k)) (nat_eq (get_or listed i 0) (first + k)) here ∙ sym there)
          (λ n.
          let stays : get_or (set stamps j stamp) k 0 ≡ get_or stamps k 0 = get_or-set_other stamps j k stamp 0 n in
          or_false (has (take i listed) (first + k)) (nat_eq (get_or listed i 0) (first + k)) (away k n) ∙ s.marked k c ∙ ap (λ m. nat_eq m stamp) (sym stays));
      added = λ k c. by_same k j
          (λ q.
          let there : nat_eq (get_or (set stamps j stamp) k 0) stamp ≡ true = eq-eqb (get_or (set stamps j stamp) k 0) stamp (ap (λ m. get_or (set stamps j stamp) m 0) q ∙ same) in
          let before : get_or new j (pos 0) ≡ get_or old j (pos 0) = s.added j b ∙ ap (λ t. cond t (get_or old j (pos 0) +ℤ amount) (get_or old j (pos 0))) (ne_eqb (get_or stamps j 0) stamp is) in
          let F : ℕ → Type 0 = λ m. get_or (set new j x) m (pos 0) ≡ (get_or old m (pos 0) +ℤ amount) in
          subst F (sym q) (get_or-set_same new j x (pos 0) (subst (λ (m : ℕ). j < m) (sym s.count) b) ∙ e ∙ ap (λ z. z +ℤ amount) before) ∙ sym (ap (λ t. cond t (get_or old k (pos 0) +ℤ amount) (get_or old k (pos 0))) there))
          (λ n.
          let stays : get_or (set stamps j stamp) k 0 ≡ get_or stamps k 0 = get_or-set_other stamps j k stamp 0 n in
          get_or-set_other new j k x (pos 0) n ∙ s.added k c ∙ ap (λ m. cond (nat_eq m stamp) (get_or old k (pos 0) +ℤ amount) (get_or old k (pos 0))) (sym stays));
      within = All-set (λ t. t ≤ stamp) stamps j stamp (omega arith) s.within;
    }
      where
        same : get_or (set stamps j stamp) j 0 ≡ stamp
        same = get_or-set_same stamps j stamp 0 (subst (λ (m : ℕ). j < m) (sym s.counts) b)

pub moved : {listed : List ℕ} {i first : ℕ} {amount : ℤ} {stamp : ℕ} {old new new' : List ℤ} {stamps stamps' : List ℕ} → new' ≡ new → stamps' ≡ stamps → AddedSoFar listed i first amount stamp old new stamps → AddedSoFar listed i first amount stamp old new' stamps'
moved {listed} {i} {first} {amount} {stamp} {old} {new} {new'} {stamps} {stamps'} e q s =
    let F : List ℤ → Type 0 = λ n. AddedSoFar listed i first amount stamp old n stamps' in
    let G : List ℕ → Type 0 = λ t. AddedSoFar listed i first amount stamp old new t in
    subst F (sym e) (subst G (sym q) s)

-- where the amount is still to come, the weight is the old one
pub not_yet : {listed : List ℕ} {i first : ℕ} {amount : ℤ} {stamp : ℕ} {old new : List ℤ} {stamps : List ℕ} → AddedSoFar listed i first amount stamp old new stamps → (j : ℕ) → j < length old → (get_or stamps j 0 ≡ stamp → ⊥) → get_or new j (pos 0) ≡ get_or old j (pos 0)
not_yet {listed} {i} {first} {amount} {stamp} {old} {new} {stamps} s j b is =
    s.added j b ∙ ap (λ t. cond t (get_or old j (pos 0) +ℤ amount) (get_or old j (pos 0))) (ne_eqb (get_or stamps j 0) stamp is)

-- the first of some weights are those of their arcs, without tolls, and have no stamps
pub record OwnSoFar (g : Graph) (first count : ℕ) (weights : List ℤ) (stamps : List ℕ) : Type 0 where
  pub own : (k : ℕ) → k < count → get_or weights k (pos 0) ≡ (arc_at g (first + k)).weight
  pub fresh : (k : ℕ) → k < count → get_or stamps k 0 ≡ 0
