-- What adding a node to a table keeps.
use Rattle.std.proofs.Common.{◌≡◌, ℕ, zero, suc, ◌+◌, ◌<◌, ◌≤◌, Bool, true, false, List, [], ◌∷◌, ◌++◌, length, slice_get, Some, refl, sym, ap, ◌∙◌, inl, inr, arith, if◌then◌else◌, length-append, ◌&&◌, ◌||◌, eqb}
use Rattle.std.specs.List.{list_any}
use Rattle.std.proofs.lemmas.Bool.{false≢true, cases_lt}
use Rattle.std.proofs.lemmas.Bool.Decides.{nat_tests}
use Rattle.xdd_table.specs.declared.node.Dd.{Dd}
use Rattle.xdd_table.specs.declared.node.Node.{Node}
use Rattle.xdd_table.specs.declared.node.Node.TheVariants.{Leaf, Branch}
use Rattle.std.proofs.lemmas.Option.{slice_get_within}
use Rattle.xdd_table.specs.Diagram.{Combination, time, BeginsAfter, IsNodeAt, IsTable, Keeps, Holds, time_of_node, IsBelow, itself, by_hit, by_miss, IsBranchAt, EventsLess}
use Rattle.xdd_table.proofs.TimeLaws.{time-append, time-node}
use Rattle.xdd_table.specs.contracts.node.NodePartialEq.TheImpl.{eq-value}

-- the front of a longer list
pub slice_get-front : (xs ys : List Node) (p : ℕ) → p < length xs → slice_get (xs ++ ys) p ≡ slice_get xs p
slice_get-front [] ys p h = absurd (omega arith)
slice_get-front (x ∷ xs) ys zero h = refl
slice_get-front (x ∷ xs) ys (suc p) h = slice_get-front xs ys p (omega arith)

at_end : (old new : List Node) (n : Node) (p : ℕ) → new ≡ old ++ n ∷ [] → slice_get new p ≡ Some n → p < length new → ((q : ℕ) → slice_get old q ≡ Some n → ⊥) → p ≡ length old
at_end old new n p is held within none = elim (cases_lt p (length old)) [
  | inl l ↦ absurd (none p (sym (slice_get-front old (n ∷ []) p l) ∙ (ap (λ l. slice_get l p) (sym is) ∙ held)))
  | inr g ↦ let e : length new ≡ length old + 1 = ap length is ∙ length-append old (n ∷ []) in omega arith
]

unfoldable pub node_eq : Node → Node → Bool
node_eq = eq-value.it

three_equal : (a b c d e f : ℕ) → (eqb a b && (eqb c d && eqb e f)) ≡ true → (a ≡ b) × (c ≡ d) × (e ≡ f)
three_equal a b c d e f h = grind (arith, nat_tests)

two_equal : (a b : ℕ) → eqb a b ≡ true → a ≡ b
two_equal a b h = grind (arith, nat_tests)

equal_itself : (a : ℕ) → eqb a a ≡ true
equal_itself a = grind (arith, nat_tests)

same_branch : (e e' : ℕ) (hit miss hit' miss' : Dd) → (e ≡ e') × (hit.place ≡ hit'.place) × (miss.place ≡ miss'.place) → Branch e hit miss ≡ Branch e' hit' miss'
same_branch e e' hit miss hit' miss' w =
    let h : hit ≡ hit' = ap (λ x. record { place = x }) w.1 in
    let m : miss ≡ miss' = ap (λ x. record { place = x }) w.2 in
    let k : e ≡ e' = w.0 in
    rw (k, h, m) refl

-- the test of two nodes tells whether they are one
pub node_eq_sound : (a b : Node) → node_eq a b ≡ true → a ≡ b
unfolding node_eq
node_eq_sound (Leaf t) (Leaf u) h = ap Leaf (two_equal t u h)
node_eq_sound (Leaf t) (Branch e hit miss) h = absurd (false≢true h)
node_eq_sound (Branch e hit miss) (Leaf t) h = absurd (false≢true h)
node_eq_sound (Branch e hit miss) (Branch e' hit' miss') h = same_branch e e' hit miss hit' miss' (three_equal e e' hit.place hit'.place miss.place miss'.place h)

pub node_eq_refl : (a : Node) → node_eq a a ≡ true
unfolding node_eq
node_eq_refl (Leaf t) = equal_itself t
node_eq_refl (Branch e hit miss) = rw (equal_itself e, equal_itself hit.place, equal_itself miss.place) refl

either_false : (a b : Bool) → (a || b) ≡ false → (a ≡ false) × (b ≡ false)
either_false true b h = absurd (false≢true (sym h))
either_false false b h = (refl, h)

-- where no node passes the test, the node is not there
pub absent : (n : Node) (nodes : List Node) → list_any (node_eq n) nodes ≡ false → (q : ℕ) → slice_get nodes q ≡ Some n → ⊥
absent n [] none q at = cc
absent n (x ∷ xs) none zero at =
    let f = either_false (node_eq n x) (list_any (node_eq n) xs) none in
    let same : x ≡ n = cc in
    false≢true (sym f.0 ∙ (ap (node_eq n) same ∙ node_eq_refl n))
absent n (x ∷ xs) none (suc q) at = absent n xs (either_false (node_eq n x) (list_any (node_eq n) xs) none).1 q at

-- how a table takes a node: it is there, or goes last
pub data Takes (old new : List Node) (n : Node) (p : ℕ) : Type 0 where
  there : new ≡ old → slice_get old p ≡ Some n → Takes old new n p
  last : new ≡ old ++ n ∷ [] → p ≡ length old → ((q : ℕ) → slice_get old q ≡ Some n → ⊥) → Takes old new n p

pub takes : (old new : List Node) (n k : Node) (p : ℕ) → new ≡ (if list_any (node_eq n) old then old else old ++ n ∷ [])
    → slice_get new p ≡ Some k → node_eq n k ≡ true → p < length new → Takes old new n p
takes old new n k p keys at same within = by_test (list_any (node_eq n) old) refl keys
  where
    held : slice_get new p ≡ Some n
    held = at ∙ ap Some (sym (node_eq_sound n k same))

    by_test : (b : Bool) → list_any (node_eq n) old ≡ b → new ≡ (if b then old else old ++ n ∷ []) → Takes old new n p
    by_test true e is = there is (rw (← is) held)
    by_test false e is =
        let none = absent n old e in
        last is (at_end old new n p is held within none) none

-- a table keeps what it has
pub keeps_itself : (nodes : List Node) → Keeps nodes nodes
keeps_itself nodes = record { grows = omega arith; nodes = λ p h. refl; times = λ f p h. refl; begins = λ e p h b. b; events = λ p bound h b. b }

slice_get-end : (xs : List Node) (x : Node) → slice_get (xs ++ x ∷ []) (length xs) ≡ Some x
slice_get-end [] x = refl
slice_get-end (y ∷ ys) x = slice_get-end ys x

-- a place of the longer list is one of the front, or the last
pub data Place (xs : List Node) (x y : Node) (q : ℕ) : Type 0 where
  front : q < length xs → slice_get xs q ≡ Some y → Place xs x y q
  end : q ≡ length xs → x ≡ y → Place xs x y q

place_of : (xs : List Node) (x y : Node) (q : ℕ) → slice_get (xs ++ x ∷ []) q ≡ Some y → Place xs x y q
place_of [] x y zero at = end refl cc
place_of [] x y (suc q) at = cc
place_of (z ∷ zs) x y zero at = front (omega arith) at
place_of (z ∷ zs) x y (suc q) at = elim (place_of zs x y q at) [ front l a ↦ front (omega arith) a | end e f ↦ end (ap suc e) f ]

-- a diagram of the table begins as before in a longer one
begins_front : (xs ys : List Node) (e p : ℕ) → p < length xs → BeginsAfter xs e p → BeginsAfter (xs ++ ys) e p
begins_front xs ys e p h b = rw (slice_get-front xs ys p h) b

node_front : (xs ys : List Node) (p : ℕ) (x : Node) → p ≤ length xs → IsNodeAt xs p x → IsNodeAt (xs ++ ys) p x
node_front xs ys p (Leaf t) h w = tt
node_front xs ys p (Branch e hit miss) h w = record {
  hit_before = w.hit_before;
  miss_before = w.miss_before;
  hit_after = begins_front xs ys e hit.place (omega (arith, w.hit_before)) w.hit_after;
  miss_after = begins_front xs ys e miss.place (omega (arith, w.miss_before)) w.miss_after;
  differ = w.differ;
}

-- what is below an old place was so before
record BelowBefore (xs : List Node) (p q : ℕ) : Type 0 where
  below : IsBelow xs p q
  within : q < length xs

below_front : (xs ys : List Node) {p q : ℕ} → IsTable xs → p < length xs → IsBelow (xs ++ ys) p q → BelowBefore xs p q
below_front xs ys table h itself = record { below = itself; within = h }
below_front xs ys table h (by_hit {p} {q} {e} {hit} {miss} is b) =
    let is' : slice_get xs p ≡ Some (Branch e hit miss) = sym (slice_get-front xs ys p h) ∙ is in
    let w : IsBranchAt xs p e hit.place miss.place = table.each p (Branch e hit miss) is' in
    let r = below_front xs ys table (omega (arith, w.hit_before)) b in
    record { below = by_hit is' r.below; within = r.within }
below_front xs ys table h (by_miss {p} {q} {e} {hit} {miss} is b) =
    let is' : slice_get xs p ≡ Some (Branch e hit miss) = sym (slice_get-front xs ys p h) ∙ is in
    let w : IsBranchAt xs p e hit.place miss.place = table.each p (Branch e hit miss) is' in
    let r = below_front xs ys table (omega (arith, w.miss_before)) b in
    record { below = by_miss is' r.below; within = r.within }

events_front : (xs ys : List Node) → IsTable xs → (p bound : ℕ) → p < length xs → EventsLess xs p bound → EventsLess (xs ++ ys) p bound
events_front xs ys table p bound h less q e hit miss b at =
    let r = below_front xs ys table h b in
    less q e hit miss r.below (sym (slice_get-front xs ys q r.within) ∙ at)

-- the events below a leaf and below a branch
pub events_leaf : (nodes : List Node) (p t bound : ℕ) → slice_get nodes p ≡ Some (Leaf t) → EventsLess nodes p bound
events_leaf nodes p t bound is q e hit miss itself at = let c : Some (Leaf t) ≡ Some (Branch e hit miss) = sym is ∙ at in cc
events_leaf nodes p t bound is q e hit miss (by_hit is' b) at = cc
events_leaf nodes p t bound is q e hit miss (by_miss is' b) at = cc

pub events_branch : (nodes : List Node) (p e bound : ℕ) (hit miss : Dd) → slice_get nodes p ≡ Some (Branch e hit miss) → e < bound → EventsLess nodes hit.place bound → EventsLess nodes miss.place bound → EventsLess nodes p bound
events_branch nodes p e bound hit miss is h less_hit less_miss q e' hit' miss' itself at = let c : Some (Branch e hit miss) ≡ Some (Branch e' hit' miss') = sym is ∙ at in let c' : e ≡ e' = cc in omega arith
events_branch nodes p e bound hit miss is h less_hit less_miss q e' hit' miss' (by_hit {e = e''} {hit = hit''} {miss = miss''} is' b) at =
    let c : Some (Branch e hit miss) ≡ Some (Branch e'' hit'' miss'') = sym is ∙ is' in let c' : hit'' ≡ hit = cc in
    less_hit q e' hit' miss' (rw c' at b) at
events_branch nodes p e bound hit miss is h less_hit less_miss q e' hit' miss' (by_miss {e = e''} {hit = hit''} {miss = miss''} is' b) at =
    let c : Some (Branch e hit miss) ≡ Some (Branch e'' hit'' miss'') = sym is ∙ is' in let c' : miss'' ≡ miss = cc in
    less_miss q e' hit' miss' (rw c' at b) at

module _ (old : List Node) (n : Node) (table : IsTable old) (shape : IsNodeAt old (length old) n) where
  each_longer : (q : ℕ) (y : Node) → slice_get (old ++ n ∷ []) q ≡ Some y → IsNodeAt (old ++ n ∷ []) q y
  each_longer q y at = elim (place_of old n y q at) [
    | front l a ↦ node_front old (n ∷ []) q y (omega arith) (table.each q y a)
    | end e f ↦ rw (e, ← f) (node_front old (n ∷ []) (length old) n (omega arith) shape)
  ]

  once_longer : ((q : ℕ) → slice_get old q ≡ Some n → ⊥) → (p q : ℕ) (y : Node) → slice_get (old ++ n ∷ []) p ≡ Some y → slice_get (old ++ n ∷ []) q ≡ Some y → p ≡ q
  once_longer none p q y at at' = elim (place_of old n y p at) [
    | front l a ↦ elim (place_of old n y q at') [
      | front l' a' ↦ table.once p q y a a'
      | end e' f' ↦ absurd (none p (a ∙ ap Some (sym f')))
    ]
    | end e f ↦ elim (place_of old n y q at') [
      | front l' a' ↦ absurd (none q (a' ∙ ap Some (sym f)))
      | end e' f' ↦ e ∙ sym e'
    ]
  ]

  longer_table : ((q : ℕ) → slice_get old q ≡ Some n → ⊥) → IsTable (old ++ n ∷ [])
  longer_table none = record { each = each_longer; once = once_longer none }

  longer_keeps : Keeps old (old ++ n ∷ [])
  longer_keeps = record {
    grows = omega (arith, length-append old (n ∷ []));
    nodes = λ p h. slice_get-front old (n ∷ []) p h;
    times = λ f p h. time-append f old (n ∷ []) p h;
    begins = λ e p h b. begins_front old (n ∷ []) e p h b;
    events = λ p bound h b. events_front old (n ∷ []) table p bound h b;
  }

  module _ (new : List Node) (p : ℕ) where
    pub takes_holds : Takes old new n p → Holds old new n p
    takes_holds (there is at) = record { at = rw is at; found = λ h. is; added = λ h. absurd (omega (arith, slice_get_within old p n at)) }
    takes_holds (last is e none) = record { at = rw (is, e) (slice_get-end old n); found = λ h. absurd (omega arith); added = λ h. is }

    pub takes_table : Takes old new n p → IsTable new
    takes_table (there is at) = rw is table
    takes_table (last is e none) = rw is (longer_table none)

    pub takes_keeps : Takes old new n p → Keeps old new
    takes_keeps (there is at) = rw is (keeps_itself old)
    takes_keeps (last is e none) = rw is longer_keeps

    -- the time of the node's own fields stays
    fields_stay : Keeps old new → (f : Combination) (x : Node) → IsNodeAt old (length old) x → time_of_node new f x ≡ time_of_node old f x
    fields_stay k f (Leaf t) w = refl
    fields_stay k f (Branch e hit miss) w = rw (k.times f hit.place w.hit_before, k.times f miss.place w.miss_before) refl

    pub takes_time : Takes old new n p → (f : Combination) → time new f p ≡ time_of_node old f n
    takes_time t f =
        let held = takes_holds t in
        let new_table = takes_table t in
        time-node f new p n held.at (new_table.each p n held.at) ∙ fields_stay (takes_keeps t) f n shape

    pub takes_within : Takes old new n p → p < length new
    takes_within t = slice_get_within new p n (takes_holds t).at
