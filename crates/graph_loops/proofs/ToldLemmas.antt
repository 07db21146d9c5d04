-- A list of the loops tells which edges are back edges.
use Rattle.std.proofs.Common.{◌≡◌, ℕ, List, [], ◌∷◌, get_or, refl, sym, subst, inl, inr, arith}
use Rattle.std.specs.Prelude.{◌⊎◌}
use Rattle.std.proofs.lemmas.Bool.{cases_eq}
use Rattle.std.proofs.lemmas.List.Elements.{All-contains, Contains-append_cases, Contains-append_left, Contains-append_right}
use Rattle.std.specs.List.{Contains}
use Rattle.wx_base.specs.Functions as functions
use Rattle.wx_base.specs.Monitor.{BoundedLoop}
use Rattle.wx_base.specs.Paths.{Path, IsBackEdge, IsHead, IsMember, IsForward}
use Rattle.graph_loops.specs.declared.loops.Loop.{Loop}
use Rattle.graph_loops.specs.Graph.{edges}
use Rattle.graph_loops.specs.Laws.{EdgesAreTold, LoopsTellEdges, LoopsTellWays}
use Rattle.graph_loops.specs.Loops.{IsLoop}
use Rattle.graph_loops.proofs.EntranceLemmas.{back_from_member, member_of_back}
use Rattle.graph_loops.proofs.WalkedLemmas.{there_or_not}

-- an element of a list with some number
record IsWith {X : Type 0} (number : X → ℕ) (xs : List X) (n : ℕ) : Type 0 where
  element : X
  among : Contains xs element
  is : number element ≡ n

first_there : {X : Type 0} (x : X) (xs : List X) → Contains (x ∷ xs) x
first_there x xs = Contains-append_left (x ∷ []) xs x (0, omega arith, refl)

with_or_without : {X : Type 0} (number : X → ℕ) (xs : List X) (n : ℕ) → IsWith number xs n ⊎ ((x : X) → Contains xs x → number x ≡ n → ⊥)
with_or_without number [] n = inr (λ x h e. absurd (omega (arith, h.1)))
with_or_without {X} number (x ∷ xs) n = elim (cases_eq (number x) n) [
  | inl e ↦ inl (record { element = x; among = first_there x xs; is = e })
  | inr apart ↦ elim (with_or_without number xs n) [
    | inl w ↦ inl (record { element = w.element; among = Contains-append_right (x ∷ []) xs w.element w.among; is = w.is })
    | inr none ↦ inr (λ y h e. elim (Contains-append_cases (x ∷ []) xs y h) [
      | inl l ↦ apart (subst (λ (z : X). number z ≡ n) (only x y l) e)
      | inr l ↦ none y l e
    ])
  ]
]
  where
    only : (x y : X) → Contains (x ∷ []) y → y ≡ x
    only x y h = let z : h.0 ≡ 0 = omega (arith, h.1) in sym (subst (λ (k : ℕ). get_or (x ∷ []) k y ≡ y) z h.2)

module _ (leads : ℕ → List ℕ) (entry : ℕ) {X : Type 0} (head : X → ℕ) (members : X → List ℕ) (loops : List X)
    (is_head : (l : X) → Contains loops l → IsHead leads entry (head l))
    (sound : (l : X) → Contains loops l → (a : ℕ) → Contains (members l) a → IsMember leads entry (head l) a)
    (whole : (l : X) → Contains loops l → (a : ℕ) → IsMember leads entry (head l) a → Contains (members l) a)
    (all : (h : ℕ) → IsHead leads entry h → IsWith head loops h) where
  at_head : (a : ℕ) → Path leads [] entry a → (w : X) → Contains loops w → Contains (leads a) (head w) → IsBackEdge leads entry a (head w) ⊎ IsForward leads entry a (head w)
  at_head a reached w among edge = elim (there_or_not (members w) a) [
    | inl m ↦ inl (back_from_member leads entry (head w) a (is_head w among) edge (sound w among a m))
    | inr none ↦ inr (record { reached = reached; edge = edge; forward = λ b. none (whole w among a (member_of_back leads entry (head w) a b)) })
  ]

  told : EdgesAreTold leads entry
  told = record {
    each = λ a b reached edge. elim (with_or_without head loops b) [
      | inl w ↦ subst (λ (h : ℕ). IsBackEdge leads entry a h ⊎ IsForward leads entry a h) w.is
          (at_head a reached w.element w.among (subst (λ (h : ℕ). Contains (leads a) h) (sym w.is) edge))
      | inr none ↦ inr (record {
        reached = reached;
        edge = edge;
        forward = λ back. let w = all b (record { source = a; back = back }) in none w.element w.among w.is;
      })
    ];
  }

pub lists_tell : LoopsTellEdges
lists_tell lists entry loops are =
    let one = λ (l : Loop) (h : Contains loops l). All-contains (λ (x : Loop). IsLoop lists entry x) loops l are.each h in
    told (edges lists) entry (λ (l : Loop). l.head) (λ (l : Loop). l.members) loops
    (λ l h. (one l h).head) (λ l h a m. ((one l h).exact a).0 m) (λ l h a m. ((one l h).exact a).1 m)
    (λ h k. let w = are.whole h k in record { element = w.1; among = (w.0, w.2, w.3); is = w.4 })

pub ways_tell : LoopsTellWays
ways_tell image facts entry loops are =
    let one = λ (l : BoundedLoop) (h : Contains loops l). All-contains (λ (x : BoundedLoop). functions.IsLoop image facts entry x) loops l are.each h in
    told (functions.ways_at image facts) entry (λ (l : BoundedLoop). l.head) (λ (l : BoundedLoop). l.members) loops
    (λ l h. (one l h).head) (λ l h a m. (one l h).members a m) (λ l h a m. (one l h).whole a m)
    (λ h k. let w = are.whole h k in record { element = w.1; among = (w.0, w.2, w.3); is = w.4 })
