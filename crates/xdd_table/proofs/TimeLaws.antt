-- The laws of a diagram's time: by the fields of its node, and the same in a longer table.
use Rattle.std.proofs.Common.{◌≡◌, ℕ, zero, suc, ◌+◌, ◌<◌, Bool, true, false, List, [], ◌∷◌, ◌++◌, length, get_or, fold, slice_get, Some, refl, sym, ap, ◌∙◌, arith, if◌then◌else◌, length-append}
use Rattle.std.proofs.lemmas.Grind.{common_steps}
use Rattle.std.proofs.lemmas.List.Sums.{fold-append}
use Rattle.xdd_table.specs.declared.node.Dd.{Dd}
use Rattle.xdd_table.specs.declared.node.Node.{Node}
use Rattle.xdd_table.specs.declared.node.Node.TheVariants.{Leaf, Branch}
use Rattle.xdd_table.specs.Diagram.{Combination, node_time, times, time, time_of_node, IsNodeAt}

-- the times so far, with those of further nodes behind them
abbrev further : Combination → List ℕ → List Node → List ℕ
further f earlier nodes = fold (λ ts n. ts ++ node_time f ts n ∷ []) earlier nodes

-- further nodes add as many times
length-further : (f : Combination) (ts : List ℕ) (nodes : List Node) → length (further f ts nodes) ≡ length ts + length nodes
length-further f ts [] = omega arith
length-further f ts (n ∷ nodes) = omega (arith, length-further f (ts ++ node_time f ts n ∷ []) nodes, length-append ts (node_time f ts n ∷ []))

-- and leave those that are there
further_keeps : (f : Combination) (ts : List ℕ) (nodes : List Node) (p : ℕ) → p < length ts → get_or (further f ts nodes) p 0 ≡ get_or ts p 0
further_keeps f ts [] p h = refl
further_keeps f ts (n ∷ nodes) p h =
    further_keeps f (ts ++ node_time f ts n ∷ []) nodes p (omega (arith, length-append ts (node_time f ts n ∷ []))) ∙ at_front ts (node_time f ts n ∷ []) p h
  where
    at_front : (xs ys : List ℕ) (i : ℕ) → i < length xs → get_or (xs ++ ys) i 0 ≡ get_or xs i 0
    at_front xs ys i h = grind (arith, common_steps)

length-times : (f : Combination) (nodes : List Node) → length (times f nodes) ≡ length nodes
unfolding times
length-times f nodes = omega (arith, length-further f [] nodes)

times-append : (f : Combination) (xs ys : List Node) → times f (xs ++ ys) ≡ further f (times f xs) ys
unfolding times
times-append f xs ys = fold-append (λ ts n. ts ++ node_time f ts n ∷ []) [] xs ys

-- a longer table keeps the times
pub time-append : (f : Combination) (xs ys : List Node) (p : ℕ) → p < length xs → time (xs ++ ys) f p ≡ time xs f p
unfolding time
time-append f xs ys p h = rw (times-append f xs ys) (further_keeps f (times f xs) ys p (omega (arith, length-times f xs)))

-- the time of the node behind the first nodes
time_at_end : (f : Combination) (xs ys : List Node) (n : Node) → time (xs ++ n ∷ ys) f (length xs) ≡ node_time f (times f xs) n
unfolding time
time_at_end f xs ys n =
    rw (times-append f xs (n ∷ ys)) (further_keeps f (times f xs ++ node_time f (times f xs) n ∷ []) ys (length xs) (omega (arith, length-times f xs, length-append (times f xs) (node_time f (times f xs) n ∷ []))) ∙ at_end (times f xs) (node_time f (times f xs) n) (length xs) (length-times f xs))
  where
    at_end : (ts : List ℕ) (t i : ℕ) → length ts ≡ i → get_or (ts ++ t ∷ []) i 0 ≡ t
    at_end ts t i e = grind (arith, common_steps)

-- a list cut at an element
pub record Cut (nodes : List Node) (p : ℕ) (n : Node) : Type 0 where
  pub front : List Node
  pub back : List Node
  pub whole : nodes ≡ front ++ n ∷ back
  pub place : length front ≡ p

pub cut_at : (nodes : List Node) (p : ℕ) (n : Node) → slice_get nodes p ≡ Some n → Cut nodes p n
cut_at [] p n h = cc
cut_at (x ∷ xs) zero n h = record { front = []; back = xs; whole = cc; place = refl }
cut_at (x ∷ xs) (suc p) n h = let c = cut_at xs p n h in record { front = x ∷ c.front; back = c.back; whole = ap (λ l. x ∷ l) c.whole; place = ap suc c.place }

times_at : (f : Combination) (xs ys : List Node) (p : ℕ) → p < length xs → get_or (times f xs) p 0 ≡ time (xs ++ ys) f p
unfolding time
times_at f xs ys p h = sym (time-append f xs ys p h)

-- a branch behind the first nodes, whose two diagrams are among these
branch_at_end : (f : Combination) (xs ys : List Node) (e : ℕ) (hit miss : Dd) → hit.place < length xs → miss.place < length xs
    → time (xs ++ Branch e hit miss ∷ ys) f (length xs) ≡ time_of_node (xs ++ Branch e hit miss ∷ ys) f (Branch e hit miss)
branch_at_end f xs ys e hit miss h m =
    time_at_end f xs ys (Branch e hit miss) ∙ chosen (f e)
  where
    chosen : (b : Bool) → get_or (times f xs) (if b then miss.place else hit.place) 0 ≡ (if b then time (xs ++ Branch e hit miss ∷ ys) f miss.place else time (xs ++ Branch e hit miss ∷ ys) f hit.place)
    chosen true = times_at f xs (Branch e hit miss ∷ ys) miss.place m
    chosen false = times_at f xs (Branch e hit miss ∷ ys) hit.place h

node_at_end : (f : Combination) (xs ys : List Node) (n : Node) → IsNodeAt (xs ++ n ∷ ys) (length xs) n → time (xs ++ n ∷ ys) f (length xs) ≡ time_of_node (xs ++ n ∷ ys) f n
node_at_end f xs ys (Leaf t) shape = time_at_end f xs ys (Leaf t)
node_at_end f xs ys (Branch e hit miss) shape = branch_at_end f xs ys e hit miss shape.hit_before shape.miss_before

-- the time of a node by its own fields
pub time-node : (f : Combination) (nodes : List Node) (p : ℕ) (n : Node) → slice_get nodes p ≡ Some n → IsNodeAt nodes p n → time nodes f p ≡ time_of_node nodes f n
time-node f nodes p n at shape = from_cut (cut_at nodes p n at)
  where
    from_cut : Cut nodes p n → time nodes f p ≡ time_of_node nodes f n
    from_cut c =
        let whole : nodes ≡ c.front ++ n ∷ c.back = c.whole in
        let place : length c.front ≡ p = c.place in
        let shape' : IsNodeAt (c.front ++ n ∷ c.back) (length c.front) n = rw (← whole, place) shape in
        let t = node_at_end f c.front c.back n shape' in
        rw (whole, ← place) t
