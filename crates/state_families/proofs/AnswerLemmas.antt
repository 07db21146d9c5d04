-- The answer, node by node.
use Rattle.std.proofs.Common.{◌≡◌, ℕ, ◌+◌, List, [], ◌∷◌, ◌++◌, length, map, Option, Some, None, append_assoc, sym, ap, ◌∙◌, arith}
use Rattle.std.proofs.lemmas.List.{append-nil, map_push}
use Rattle.pipe_time.specs.declared.vector.Vector.{Vector}
use Rattle.state_families.specs.declared.family_set.Joined.{Joined}
use Rattle.state_families.specs.declared.node_set.NodeSet.{NodeSet}
use Rattle.state_families.specs.Families.{joined_from, joined_one, vector_of}

-- one node more
joined_behind : (sets : List NodeSet) (number : ℕ) (set : NodeSet) → joined_from number (sets ++ set ∷ []) ≡ joined_from number sets ++ joined_one (number + length sets) set.kept
joined_behind [] number set =
    append-nil (joined_one number set.kept) ∙ ap (λ (n : ℕ). joined_one n set.kept) (let e : number ≡ number + length {A = NodeSet} [] = omega arith in e)
joined_behind (x ∷ sets) number set =
    let further : number + 1 + length sets ≡ number + length (x ∷ sets) = omega arith in
    ap (λ (js : List Joined). joined_one number x.kept ++ js)
    (joined_behind sets (number + 1) set ∙ ap (λ (n : ℕ). joined_from (number + 1) sets ++ joined_one n set.kept) further)
    ∙ sym (append_assoc (joined_one number x.kept) (joined_from (number + 1) sets) (joined_one (number + length (x ∷ sets)) set.kept))

pub joined_more : (sets some more : List NodeSet) (i : ℕ) (set : NodeSet) (before after : List Joined) → more ≡ some ++ set ∷ [] → length some ≡ i → before ≡ joined_from 0 some
    → after ≡ before ++ joined_one i set.kept → after ≡ joined_from 0 more
joined_more sets some more i set before after more_is long so_far is =
    is ∙ ap (λ (js : List Joined). js ++ joined_one i set.kept) so_far
    ∙ ap (λ (n : ℕ). joined_from 0 some ++ joined_one n set.kept) (let e : i ≡ 0 + length some = omega (arith, long) in e)
    ∙ sym (joined_behind some 0 set) ∙ ap (joined_from 0) (sym more_is)

-- one element more of a list that is made of another
pub map_more : {X Y : Type 0} (f : X → Y) (some more : List X) (x : X) (y : Y) (before after : List Y) → more ≡ some ++ x ∷ [] → before ≡ map f some → after ≡ before ++ y ∷ [] → y ≡ f x
    → after ≡ map f more
map_more {X} {Y} f some more x y before after more_is so_far is y_is =
    is ∙ ap (λ (ys : List Y). ys ++ y ∷ []) so_far ∙ ap (λ (z : Y). map f some ++ z ∷ []) y_is ∙ sym (map_push f some x) ∙ ap (map f) (sym more_is)

-- a node that is joined, and one that is not
pub joined_some : (i : ℕ) (kept : List (List ℕ)) (option : Option (List (List ℕ))) (vectors : List Vector) (before after : List Joined) → option ≡ Some kept → vectors ≡ map vector_of kept
    → after ≡ before ++ record { node = i; kept = vectors } ∷ [] → after ≡ before ++ joined_one i option
joined_some i kept option vectors before after is vectors_is pushed =
    pushed ∙ ap (λ (xs : List Vector). before ++ record { node = i; kept = xs } ∷ []) vectors_is ∙ ap (λ (o : Option (List (List ℕ))). before ++ joined_one i o) (sym is)

pub joined_nothing : (i : ℕ) (option : Option (List (List ℕ))) (before after : List Joined) → option ≡ None → after ≡ before → after ≡ before ++ joined_one i option
joined_nothing i option before after is same = same ∙ sym (append-nil before) ∙ ap (λ (o : Option (List (List ℕ))). before ++ joined_one i o) (sym is)
