-- How many back arcs a walk takes that keeps to a loop's count.
use Rattle.std.proofs.Common.{◌≡◌, ℕ, ◌+◌, ◌*◌, ◌≤◌, Bool, true, false, cond, ◌||◌, List, [], ◌∷◌, ◌++◌, refl, ap, ◌∙◌, arith}
use Rattle.std.specs.Prelude.{count_by}
use Rattle.path_graph.specs.declared.graph.LoopArcs.{LoopArcs}
use Rattle.path_graph.specs.Graph.{has}
use Rattle.path_problem.specs.Law.{turns, enters, KeepsCount}
use Rattle.path_graph.proofs.Cases.{by_test}
use Rattle.std.proofs.lemmas.List.Sums.{sum_by-cons}

pub count_by-cons : (p : ℕ → Bool) (x : ℕ) (xs : List ℕ) → count_by p (x ∷ xs) ≡ cond (p x) 1 0 + count_by p xs
count_by-cons p x xs = sum_by-cons (λ y. cond (p y) 1 0) x xs

-- how many arcs of a walk enter a loop
abbrev pub entries_of : List ℕ → LoopArcs → ℕ
entries_of walk l = count_by (has l.entries) walk

module _ (l : LoopArcs) (apart : (a : ℕ) → has l.entries a ≡ true → has l.back a ≡ false) where
  -- after some back arcs of the present stretch, no stretch of the rest takes too many
  pub record Keeps (taken : ℕ) (walk : List ℕ) : Type 0 where
    pub front : (stretch after : List ℕ) → walk ≡ stretch ++ after → enters stretch l ≡ false → taken + turns stretch l ≤ l.maxcount
    pub inner : (before stretch after : List ℕ) → walk ≡ (before ++ stretch) ++ after → enters stretch l ≡ false → turns stretch l ≤ l.maxcount

  pub at_most : (walk : List ℕ) (taken : ℕ) → Keeps taken walk → taken + turns walk l ≤ l.maxcount * (entries_of walk l + 1)
  at_most [] taken k = let h = k.front [] [] refl refl in omega arith
  at_most (a ∷ walk) taken k =
      let one = count_by-cons (has l.back) a walk in
      let two = count_by-cons (has l.entries) a walk in
      let m = l.maxcount in
      by_test (has l.entries a)
      (λ e.
      let none = apart a e in
      let begun : Keeps 0 walk = record {
        front = λ s t q h. let u = k.inner (a ∷ []) s t (ap (λ r. a ∷ r) q) h in omega arith;
        inner = λ b s t q h. k.inner (a ∷ b) s t (ap (λ r. a ∷ r) q) h;
      } in
      let rest = at_most walk 0 begun in
      let before = k.front [] (a ∷ walk) refl refl in
      let x : turns (a ∷ walk) l ≡ 0 + turns walk l = one ∙ ap (λ b. cond b 1 0 + turns walk l) none in
      let y : entries_of (a ∷ walk) l ≡ 1 + entries_of walk l = two ∙ ap (λ b. cond b 1 0 + entries_of walk l) e in
      let z : l.maxcount * entries_of (a ∷ walk) l ≡ l.maxcount * (1 + entries_of walk l) = ap (λ n. l.maxcount * n) y in
      omega arith)
      (λ e.
      let more : Keeps (taken + cond (has l.back a) 1 0) walk = record {
        front = λ s t q h.
            let u = k.front (a ∷ s) t (ap (λ r. a ∷ r) q) (ap (λ b. b || enters s l) e ∙ h) in
            let c = count_by-cons (has l.back) a s in
            omega arith;
        inner = λ b s t q h. k.inner (a ∷ b) s t (ap (λ r. a ∷ r) q) h;
      } in
      let rest = at_most walk (taken + cond (has l.back a) 1 0) more in
      let y : entries_of (a ∷ walk) l ≡ 0 + entries_of walk l = two ∙ ap (λ b. cond b 1 0 + entries_of walk l) e in
      let z : l.maxcount * entries_of (a ∷ walk) l ≡ l.maxcount * (0 + entries_of walk l) = ap (λ n. l.maxcount * n) y in
      omega arith)

  pub at_most_entered : (walk : List ℕ) → ((front after : List ℕ) → walk ≡ front ++ after → enters front l ≡ false → turns front l ≡ 0) → ((before stretch after : List ℕ) → walk ≡ (before ++ stretch) ++ after → enters stretch l ≡ false → turns stretch l ≤ l.maxcount) → turns walk l ≤ l.maxcount * entries_of walk l
  at_most_entered [] out inner = omega arith
  at_most_entered (a ∷ walk) out inner =
      let one = count_by-cons (has l.back) a walk in
      let two = count_by-cons (has l.entries) a walk in
      by_test (has l.entries a)
      (λ e.
      let none = apart a e in
      let begun : Keeps 0 walk = record {
        front = λ s t q h. let u = inner (a ∷ []) s t (ap (λ r. a ∷ r) q) h in omega arith;
        inner = λ b s t q h. inner (a ∷ b) s t (ap (λ r. a ∷ r) q) h;
      } in
      let rest = at_most walk 0 begun in
      let x : turns (a ∷ walk) l ≡ 0 + turns walk l = one ∙ ap (λ b. cond b 1 0 + turns walk l) none in
      let y : entries_of (a ∷ walk) l ≡ 1 + entries_of walk l = two ∙ ap (λ b. cond b 1 0 + entries_of walk l) e in
      let z : l.maxcount * entries_of (a ∷ walk) l ≡ l.maxcount * (1 + entries_of walk l) = ap (λ n. l.maxcount * n) y in
      omega arith)
      (λ e.
      let rest = at_most_entered walk
      (λ f t q h.
      let u = out (a ∷ f) t (ap (λ r. a ∷ r) q) (ap (λ b. b || enters f l) e ∙ h) in
      let c = count_by-cons (has l.back) a f in
      omega arith)
      (λ b s t q h. inner (a ∷ b) s t (ap (λ r. a ∷ r) q) h) in
      let alone = out (a ∷ []) walk refl (ap (λ b. b || false) e) in
      let c = count_by-cons (has l.back) a [] in
      let y : entries_of (a ∷ walk) l ≡ 0 + entries_of walk l = two ∙ ap (λ b. cond b 1 0 + entries_of walk l) e in
      let z : l.maxcount * entries_of (a ∷ walk) l ≡ l.maxcount * (0 + entries_of walk l) = ap (λ n. l.maxcount * n) y in
      omega arith)

  -- a walk that keeps to the count takes at most so many back arcs for each entry, and once more if it begins inside
  pub turns-le : (v : ℕ) (walk : List ℕ) → KeepsCount v walk l → turns walk l ≤ l.maxcount * entries_of walk l + cond (has l.members v) l.maxcount 0
  turns-le v walk k =
      by_test (has l.members v)
      (λ e.
      let all : Keeps 0 walk = record {
        front = λ s t q h. let u = k.stretches [] s t q h in omega arith;
        inner = k.stretches;
      } in
      let rest = at_most walk 0 all in
      let y : cond (has l.members v) l.maxcount 0 ≡ l.maxcount = ap (λ b. cond b l.maxcount 0) e in
      omega arith)
      (λ e.
      let rest = at_most_entered walk (k.outside e) k.stretches in
      omega arith)
