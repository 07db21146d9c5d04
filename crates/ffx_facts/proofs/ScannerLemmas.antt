-- What a scanner stands for, one byte on.
use denote.Ref.{Bor}
use Rattle.std.proofs.Common.{◌≡◌, ℕ, ◌+◌, ◌-◌, ◌<◌, ◌≤◌, Bool, true, false, cond, List, [], ◌∷◌, ◌++◌, length, get_or, drop, Some, refl, sym, ap, subst, ◌∙◌, arith, length-drop}
use Rattle.std.proofs.lemmas.List.{get_or-drop, reverse-append, take_more}
use Rattle.std.proofs.Math.Path.{fun_ext}
use Rattle.std.specs.Prelude.{Option, Result, IfOk, reverse, slice_range}
use Rattle.std.specs.Ordering.{nat_cmp}
use Rattle.std.specs.Cmp.Lexicographic.{slice_cmp}
use Rattle.std.specs.Str.{bytes_eq}
use Rattle.std.specs.BTreeMap as tree
use Rattle.std.proofs.lemmas.Map.Text.{btree_map_updates_str}
use Rattle.ffx_facts.specs.Machine.{Attributes, State, added}
use Rattle.ffx_facts.specs.Scan.{goes, value}

-- a text grows by the byte that comes
pub text_more : (b : List ℕ) (start place c : ℕ) → start ≤ place → place < length b → c ≡ get_or b place 0 → slice_range b start (place + 1) ≡ slice_range b start place ++ c ∷ []
text_more b start place c within inside at =
    let n : place + 1 - start ≡ (place - start) + 1 = omega arith in
    let room : place - start < length (drop start b) = omega (arith, length-drop start b) in
    let here : get_or (drop start b) (place - start) 0 ≡ c = get_or-drop start b (place - start) 0 ∙ ap (λ k. get_or b k 0) (omega arith) ∙ sym at in
    rw (n, take_more (drop start b) (place - start) 0 room, here) refl

-- the element that is begun last is the innermost
pub reverse-push : {X : Type 0} (xs : List X) (x : X) → reverse (xs ++ x ∷ []) ≡ x ∷ reverse xs
reverse-push xs x = reverse-append xs (x ∷ [])

chosen_value : (b : Bool) (v : Bor (List ℕ)) (old : Option (Bor (List ℕ))) → value (cond b (Some v) old) ≡ cond b (Some v.now) (value old)
chosen_value true v old = refl
chosen_value false v old = refl

abbrev pub Kept : Type 0
Kept = tree.BTreeMap (Bor (List ℕ)) (Bor (List ℕ))

-- the values of the names in a map
abbrev pub values_in : Kept → Attributes
values_in m = λ q. value (tree.get_by (λ k. slice_cmp nat_cmp q k.now) m)

-- an attribute is kept beside the others
pub kept_more : (m n : Kept) (name v : Bor (List ℕ)) → tree.UpdatesBy (λ x y. slice_cmp nat_cmp x.now y.now) (λ k. slice_cmp nat_cmp name.now k.now) m n (Some v) → values_in n ≡ added (values_in m) name.now v.now
kept_more m n name v h = fun_ext λ q. ap value (btree_map_updates_str name.now m n (Some v) h q) ∙ chosen_value (bytes_eq name.now q) v _

-- a step of an equal state
pub goes_along : {E : Type 0} (r : Result Bool E) (new : State) (x y : Option State) → x ≡ y → IfOk r (λ alive. goes alive new y) → IfOk r (λ alive. goes alive new x)
goes_along r new x y e h = subst (λ (z : Option State). IfOk r (λ alive. goes alive new z)) (sym e) h
