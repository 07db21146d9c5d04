-- A walk has one list of finished places, and walks over lines are walks over their places.
use Rattle.std.proofs.Common.{◌≡◌, ℕ, zero, suc, ◌-◌, ◌<◌, Bool, true, false, List, [], ◌∷◌, ◌++◌, length, map, slice_get, get_or, Some, refl, sym, ap, ◌∙◌, arith, eqb, ◌||◌}
use Rattle.std.proofs.lemmas.Bool.{false≢true}
use Rattle.std.proofs.lemmas.Bool.Decides.{nat_tests}
use Rattle.std.proofs.lemmas.Option.{slice_get-get_or}
use Rattle.xdd_table.specs.declared.node.Dd.{Dd}
use Rattle.xdd_table.specs.declared.node.Node.{Node}
use Rattle.xdd_table.specs.declared.node.Node.TheVariants.{Leaf, Branch}
use Rattle.xdd_table.specs.Order.{has, Finishes, met, leaf, branch}
use Rattle.xdd_ops.specs.Read.{IsLineAt, AreLines, placed, ArePlaced}
use Rattle.xdd_ops.proofs.LineLemmas.{hit_place, miss_place}
use Rattle.xdd_ops.proofs.PlaceLemmas.{one_index}

-- a walk's list is the only one
pub one_walk : (nodes : List Node) {p : ℕ} {done a b : List ℕ} → Finishes nodes p done a → Finishes nodes p done b → a ≡ b
one_walk nodes (met h) (met h') = refl
one_walk nodes (met h) (leaf new at) = absurd (false≢true (sym new ∙ h))
one_walk nodes (met h) (branch new at w v) = absurd (false≢true (sym new ∙ h))
one_walk nodes (leaf new at) (met h) = absurd (false≢true (sym new ∙ h))
one_walk nodes (leaf {p} {t} {done} new at) (leaf new' at') = refl
one_walk nodes (leaf {p} {t} new at) (branch {p = p'} {e} {hit} {miss} new' at' w v) = let f : Some (Leaf t) ≡ Some (Branch e hit miss) = sym at ∙ at' in cc
one_walk nodes (branch new at w v) (met h) = absurd (false≢true (sym new ∙ h))
one_walk nodes (branch {p} {e} {hit} {miss} new at w v) (leaf {p = p'} {t} new' at') = let f : Some (Branch e hit miss) ≡ Some (Leaf t) = sym at ∙ at' in cc
one_walk nodes (branch {p} {e} {hit} {miss} {done} {between} {after} new at w v) (branch {p = p'} {e = e'} {hit = hit'} {miss = miss'} {done = done'} {between = between'} {after = after'} new' at' w' v') =
    let f : Some (Branch e' hit' miss') ≡ Some (Branch e hit miss) = sym at' ∙ at in
    let a : hit' ≡ hit = cc in
    let b : miss' ≡ miss = cc in
    let c : between' ≡ between = sym (one_walk nodes w (rw a at w')) in
    ap (λ l. l ++ p ∷ []) (one_walk nodes v (rw (b, c) at v'))

last_moved : (lines : List Node) (m n : ℕ) (own : List ℕ) → m ≡ n → Finishes lines (m - 1) [] own → Finishes lines (n - 1) [] own
last_moved lines m n own e w = rw e at w

-- numbers below a bound
abbrev pub AllBelow : ℕ → List ℕ → Type 0
AllBelow n [] = Unit {0}
AllBelow n (k ∷ ks) = (k < n) × AllBelow n ks

below_push : (n k : ℕ) (ks : List ℕ) → AllBelow n ks → k < n → AllBelow n (ks ++ k ∷ [])
below_push n k [] b h = (h, tt)
below_push n k (j ∷ ks) b h = (b.0, below_push n k ks b.1 h)

below_at : (n i k : ℕ) (ks : List ℕ) → AllBelow n ks → slice_get ks i ≡ Some k → k < n
below_at n i k [] b h = cc
below_at n zero k (j ∷ ks) b h = let e : j ≡ k = cc in rw (← e) b.0
below_at n (suc i) k (j ∷ ks) b h = below_at n i k ks b.1 h

map_push : (f : ℕ → ℕ) (ks : List ℕ) (k : ℕ) → map f (ks ++ k ∷ []) ≡ map f ks ++ f k ∷ []
map_push f [] k = refl
map_push f (j ∷ ks) k = ap (λ l. f j ∷ l) (map_push f ks k)

pub map_at : (f : ℕ → ℕ) (ks : List ℕ) (i k : ℕ) → slice_get ks i ≡ Some k → slice_get (map f ks) i ≡ Some (f k)
map_at f [] i k h = cc
map_at f (j ∷ ks) zero k h = let e : j ≡ k = cc in rw e refl
map_at f (j ∷ ks) (suc i) k h = map_at f ks i k h

map_from : (f : ℕ → ℕ) (ks : List ℕ) (i q : ℕ) → slice_get (map f ks) i ≡ Some q → (k : ℕ) × (slice_get ks i ≡ Some k) × (f k ≡ q)
map_from f [] i q h = cc
map_from f (j ∷ ks) zero q h = (j, refl, cc)
map_from f (j ∷ ks) (suc i) q h = map_from f ks i q h

either_same : (a b c d : Bool) → a ≡ b → c ≡ d → (a || c) ≡ (b || d)
either_same a b c d e e' = rw (e, e') refl

equal_tests : (b c : Bool) (x y u v : ℕ) → eqb x y ≡ b → eqb u v ≡ c → (x ≡ y → u ≡ v) → (u ≡ v → x ≡ y) → b ≡ c
equal_tests true true x y u v e e' f g = refl
equal_tests false false x y u v e e' f g = refl
equal_tests true false x y u v e e' f g = let h : x ≡ y = grind (arith, nat_tests) in let k = f h in let t : eqb u v ≡ true = grind (arith, nat_tests) in sym t ∙ e'
equal_tests false true x y u v e e' f g = let h : u ≡ v = grind (arith, nat_tests) in let k = g h in let t : eqb x y ≡ true = grind (arith, nat_tests) in sym e ∙ t

module _ (nodes lines : List Node) (places : List ℕ) (all : ArePlaced nodes lines places) (proper : AreLines lines) (count : length places ≡ length lines) where
  one_line : (j k : ℕ) → j < length places → k < length places → get_or places j 0 ≡ get_or places k 0 → j ≡ k
  one_line = one_index places (record { each = all.apart })

  has_same : (i : ℕ) (own : List ℕ) → i < length places → AllBelow (length places) own → has (map (λ k. get_or places k 0) own) (get_or places i 0) ≡ has own i
  has_same i [] h b = refl
  has_same i (k ∷ own) h b =
      let head : eqb (get_or places i 0) (get_or places k 0) ≡ eqb i k =
      equal_tests (eqb (get_or places i 0) (get_or places k 0)) (eqb i k) (get_or places i 0) (get_or places k 0) i k refl refl (one_line i k h b.0) (λ e. ap (λ j. get_or places j 0) e) in
      either_same (eqb (get_or places i 0) (get_or places k 0)) (eqb i k) (has (map (λ j. get_or places j 0) own) (get_or places i 0)) (has own i) head (has_same i own h b.1)

  line_of : (i : ℕ) → i < length places → (x : Node) × (slice_get lines i ≡ Some x) × (slice_get nodes (get_or places i 0) ≡ Some (placed places x)) × IsLineAt lines i x
  line_of i h =
      let at : slice_get lines i ≡ Some (get_or lines i (Leaf 0)) = slice_get-get_or lines i (Leaf 0) (omega arith) in
      (get_or lines i (Leaf 0), at, all.each i (get_or places i 0) (get_or lines i (Leaf 0)) (slice_get-get_or places i 0 h) at, proper.each i (get_or lines i (Leaf 0)) at)

  leaf_line : (i t : ℕ) (x : Node) → slice_get lines i ≡ Some x → placed places x ≡ Leaf t → slice_get lines i ≡ Some (Leaf t)
  leaf_line i t (Leaf u) at is = at ∙ ap Some is
  leaf_line i t (Branch e hit miss) at is = cc

  -- the line of a branch of the table
  record BranchLine (i e h m : ℕ) : Type 0 where
    hit : Dd
    miss : Dd
    at : slice_get lines i ≡ Some (Branch e hit miss)
    hit_is : get_or places hit.place 0 ≡ h
    miss_is : get_or places miss.place 0 ≡ m
    hit_less : hit.place < i
    miss_less : miss.place < i

  branch_line : (i e : ℕ) (hit miss : Dd) (x : Node) → slice_get lines i ≡ Some x → IsLineAt lines i x → placed places x ≡ Branch e hit miss → BranchLine i e hit.place miss.place
  branch_line i e hit miss (Leaf u) at w is = cc
  branch_line i e hit miss (Branch e' hit' miss') at w is =
      let event : e' ≡ e = cc in
      record {
        hit = hit';
        miss = miss';
        at = at ∙ ap (λ n. Some (Branch n hit' miss')) event;
        hit_is = ap hit_place is;
        miss_is = ap miss_place is;
        hit_less = w.hit_earlier;
        miss_less = w.miss_earlier;
      }

  -- a walk over the lines with the same list, told by places
  record Over (i : ℕ) (own after : List ℕ) : Type 0 where
    found : List ℕ
    below : AllBelow (length places) found
    walk : Finishes lines i own found
    same : after ≡ map (λ k. get_or places k 0) found

  over : {q : ℕ} {done after : List ℕ} → Finishes nodes q done after → (i : ℕ) (own : List ℕ) → i < length places → get_or places i 0 ≡ q → AllBelow (length places) own → done ≡ map (λ k. get_or places k 0) own → Over i own after
  over (met {p = q} {done} h) i own less is below same =
      let e : has own i ≡ true = sym (has_same i own less below) ∙ (ap (has (map (λ k. get_or places k 0) own)) is ∙ (ap (λ l. has l q) (sym same) ∙ h)) in
      record { found = own; below = below; walk = met e; same = same }
  over (leaf {p = q} {t} {done} new at) i own less is below same =
      let e : has own i ≡ false = sym (has_same i own less below) ∙ (ap (has (map (λ k. get_or places k 0) own)) is ∙ (ap (λ l. has l q) (sym same) ∙ new)) in
      let l = line_of i less in
      let n : Some (placed places l.0) ≡ Some (Leaf t) = sym l.2 ∙ (ap (slice_get nodes) is ∙ at) in
      let n' : placed places l.0 ≡ Leaf t = cc in
      record {
        found = own ++ i ∷ [];
        below = below_push (length places) i own below less;
        walk = leaf e (leaf_line i t l.0 l.1 n');
        same = ap (λ d. d ++ q ∷ []) same ∙ (ap (λ x. map (λ k. get_or places k 0) own ++ x ∷ []) (sym is) ∙ sym (map_push (λ k. get_or places k 0) own i));
      }
  over (branch {p = q} {e} {hit} {miss} {done} {between} {after} new at w v) i own less is below same =
      let f : has own i ≡ false = sym (has_same i own less below) ∙ (ap (has (map (λ k. get_or places k 0) own)) is ∙ (ap (λ l. has l q) (sym same) ∙ new)) in
      let l = line_of i less in
      let n : Some (placed places l.0) ≡ Some (Branch e hit miss) = sym l.2 ∙ (ap (slice_get nodes) is ∙ at) in
      let n' : placed places l.0 ≡ Branch e hit miss = cc in
      let b = branch_line i e hit miss l.0 l.1 l.3 n' in
      let hit_in : b.hit.place < length places = omega (arith, b.hit_less) in
      let miss_in : b.miss.place < length places = omega (arith, b.miss_less) in
      let x = over w b.hit.place own hit_in b.hit_is below same in
      let y = over v b.miss.place x.found miss_in b.miss_is x.below x.same in
      record {
        found = y.found ++ i ∷ [];
        below = below_push (length places) i y.found y.below less;
        walk = branch f b.at x.walk y.walk;
        same = ap (λ d. d ++ q ∷ []) y.same ∙ (ap (λ z. map (λ k. get_or places k 0) y.found ++ z ∷ []) (sym is) ∙ sym (map_push (λ k. get_or places k 0) y.found i));
      }

  -- the walk from the last line
  pub record LineWalk (order : List ℕ) : Type 0 where
    pub found : List ℕ
    pub walk : Finishes lines (length lines - 1) [] found
    pub in_turn : (k : ℕ) → k < length lines → slice_get order k ≡ slice_get places k → slice_get found k ≡ Some k
    pub turned : (k : ℕ) → k < length lines → slice_get found k ≡ Some k → slice_get order k ≡ slice_get places k

  pub line_walk : (order : List ℕ) → 0 < length lines → Finishes nodes (get_or places (length places - 1) 0) [] order → LineWalk order
  line_walk order some w =
      let o = over w (length places - 1) [] (omega arith) refl tt refl in
      record {
        found = o.found;
        walk = last_moved lines (length places) (length lines) o.found count o.walk;
        in_turn = λ k h e.
            let p : slice_get places k ≡ Some (get_or places k 0) = slice_get-get_or places k 0 (omega arith) in
            let m = map_from (λ j. get_or places j 0) o.found k (get_or places k 0) (ap (λ l. slice_get l k) (sym o.same) ∙ (e ∙ p)) in
            let less = below_at (length places) k m.0 o.found o.below m.1 in
            m.1 ∙ ap Some (one_line m.0 k less (omega arith) m.2);
        turned = λ k h e.
            let p : slice_get places k ≡ Some (get_or places k 0) = slice_get-get_or places k 0 (omega arith) in
            ap (λ l. slice_get l k) o.same ∙ (map_at (λ j. get_or places j 0) o.found k k e ∙ sym p);
      }
