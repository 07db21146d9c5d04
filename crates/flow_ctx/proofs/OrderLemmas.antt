-- The orders of chains, nodes and edges, and what sorted lists without doubles are.
use Rattle.std.proofs.Common.{◌≡◌, ℕ, zero, suc, ◌+◌, ◌<◌, ◌≤◌, ◌⊎◌, Bool, true, false, List, [], ◌∷◌, ◌++◌, length, get_or, slice_get, Some, refl, sym, ap, ◌∙◌, subst, inl, inr, arith}
use Rattle.std.specs.List.{AllPairs, IsDistinct}
use Rattle.std.specs.List.Sorted.{IsSorted}
use Rattle.std.specs.Ordering.{is_lt, nat_cmp, ordering_then}
use Rattle.std.specs.Cmp.{nat_cmp_is}
use Rattle.std.specs.Cmp.Lexicographic.{slice_cmp}
use Rattle.std.specs.declared.cmp.Ordering.{Ordering}
use Rattle.std.specs.declared.cmp.Ordering.TheVariants.{Less, Equal, Greater}
use Rattle.std.proofs.lemmas.Bool.{cases_lt, false≢true}
use Rattle.std.proofs.lemmas.List.Elements.{All-from_recursion, All-get_or}
use Rattle.flow_ctx.specs.declared.unfolded.Call.{Call}
use Rattle.flow_ctx.specs.declared.unfolded.Edge.{Edge}
use Rattle.flow_ctx.specs.declared.unfolded.UNode.{UNode}
use Rattle.flow_ctx.specs.Order.{IsCallBefore, IsChainBefore, IsEdgeBefore, IsNodeBefore}

pub nat_less : (x y : ℕ) → x < y → nat_cmp x y ≡ Less
nat_less x y h = sym (nat_cmp_is x y Less h)

pub nat_equal : (x y : ℕ) → x ≡ y → nat_cmp x y ≡ Equal
nat_equal x y e = sym (nat_cmp_is x y Equal e)

abbrev pub call_compare : Call → Call → Ordering
call_compare c d = ordering_then (nat_cmp c.site d.site) (nat_cmp c.entry d.entry)

pub call_told : (c d : Call) → IsCallBefore c d ⊎ ((c ≡ d) ⊎ IsCallBefore d c)
call_told c d = elim (cases_lt c.site d.site) [
  | inl less ↦ inl (inl less)
  | inr more ↦ elim (cases_lt d.site c.site) [
    | inl less ↦ inr (inr (inl less))
    | inr other ↦
        let site : c.site ≡ d.site = omega arith in
        elim (cases_lt c.entry d.entry) [
          | inl less ↦ inl (inr (site, less))
          | inr above ↦ elim (cases_lt d.entry c.entry) [
            | inl less ↦ inr (inr (inr (sym site, less)))
            | inr same ↦ let entry : c.entry ≡ d.entry = omega arith in inr (inl (λ i. record { site = site i; entry = entry i }))
          ]
        ]
  ]
]

pub call_less : (c d : Call) → IsCallBefore c d → call_compare c d ≡ Less
call_less c d (inl h) = ap (λ (o : Ordering). ordering_then o (nat_cmp c.entry d.entry)) (nat_less c.site d.site h)
call_less c d (inr h) = ap (λ (o : Ordering). ordering_then o (nat_cmp c.entry d.entry)) (nat_equal c.site d.site h.0) ∙ nat_less c.entry d.entry h.1

pub call_equal : (c d : Call) → c ≡ d → call_compare c d ≡ Equal
call_equal c d e = ap (λ (o : Ordering). ordering_then o (nat_cmp c.entry d.entry)) (nat_equal c.site d.site (ap (λ (x : Call). x.site) e)) ∙ nat_equal c.entry d.entry (ap (λ (x : Call). x.entry) e)

pub call_through : (c d e : Call) → IsCallBefore c d → IsCallBefore d e → IsCallBefore c e
call_through c d e (inl a) (inl b) = inl (omega (arith, a, b))
call_through c d e (inl a) (inr b) = inl (omega (arith, a, b.0))
call_through c d e (inr a) (inl b) = inl (omega (arith, a.0, b))
call_through c d e (inr a) (inr b) = inr (a.0 ∙ b.0, omega (arith, a.1, b.1))

pub chain_told : (c d : List Call) → IsChainBefore c d ⊎ ((c ≡ d) ⊎ IsChainBefore d c)
chain_told [] [] = inr (inl refl)
chain_told [] (d ∷ ds) = inl tt
chain_told (c ∷ cs) [] = inr (inr tt)
chain_told (c ∷ cs) (d ∷ ds) = elim (call_told c d) [
  | inl before ↦ inl (inl before)
  | inr rest ↦ elim rest [
    | inl same ↦ elim (chain_told cs ds) [
      | inl before ↦ inl (inr (same, before))
      | inr other ↦ elim other [
        | inl alike ↦ inr (inl (λ i. same i ∷ alike i))
        | inr after ↦ inr (inr (inr (sym same, after)))
      ]
    ]
    | inr after ↦ inr (inr (inl after))
  ]
]

pub chain_less : (c d : List Call) → IsChainBefore c d → slice_cmp call_compare c d ≡ Less
chain_less [] [] h = absurd h
chain_less [] (d ∷ ds) h = refl
chain_less (c ∷ cs) [] h = absurd h
chain_less (c ∷ cs) (d ∷ ds) (inl h) = ap (λ (o : Ordering). ordering_then o (slice_cmp call_compare cs ds)) (call_less c d h)
chain_less (c ∷ cs) (d ∷ ds) (inr h) = ap (λ (o : Ordering). ordering_then o (slice_cmp call_compare cs ds)) (call_equal c d h.0) ∙ chain_less cs ds h.1

pub chain_equal : (c : List Call) → slice_cmp call_compare c c ≡ Equal
chain_equal [] = refl
chain_equal (c ∷ cs) = ap (λ (o : Ordering). ordering_then o (slice_cmp call_compare cs cs)) (call_equal c c refl) ∙ chain_equal cs

pub chain_through : (c d e : List Call) → IsChainBefore c d → IsChainBefore d e → IsChainBefore c e
chain_through c [] e a b = absurd (nothing c a)
  where
    nothing : (c : List Call) → IsChainBefore c [] → ⊥
    nothing [] h = h
    nothing (x ∷ xs) h = h
chain_through c (d ∷ ds) [] a b = absurd b
chain_through [] (d ∷ ds) (e ∷ es) a b = tt
chain_through (c ∷ cs) (d ∷ ds) (e ∷ es) (inl a) (inl b) = inl (call_through c d e a b)
chain_through (c ∷ cs) (d ∷ ds) (e ∷ es) (inl a) (inr b) = inl (subst (λ (x : Call). IsCallBefore c x) b.0 a)
chain_through (c ∷ cs) (d ∷ ds) (e ∷ es) (inr a) (inl b) = inl (subst (λ (x : Call). IsCallBefore x e) (sym a.0) b)
chain_through (c ∷ cs) (d ∷ ds) (e ∷ es) (inr a) (inr b) = inr (a.0 ∙ b.0, chain_through cs ds es a.1 b.1)

pub chain_apart : (c : List Call) → IsChainBefore c c → ⊥
chain_apart [] h = h
chain_apart (c ∷ cs) (inl (inl h)) = omega (arith, h)
chain_apart (c ∷ cs) (inl (inr h)) = omega (arith, h.1)
chain_apart (c ∷ cs) (inr h) = chain_apart cs h.1

pub node_through : (n m k : UNode) → IsNodeBefore n m → IsNodeBefore m k → IsNodeBefore n k
node_through n m k (inl a) (inl b) = inl (chain_through n.chain m.chain k.chain a b)
node_through n m k (inl a) (inr b) = inl (subst (λ (x : List Call). IsChainBefore n.chain x) b.0 a)
node_through n m k (inr a) (inl b) = inl (subst (λ (x : List Call). IsChainBefore x k.chain) (sym a.0) b)
node_through n m k (inr a) (inr b) = inr (a.0 ∙ b.0, omega (arith, a.1, b.1))

pub node_apart : (n m : UNode) → n ≡ m → IsNodeBefore n m → ⊥
node_apart n m e (inl h) = chain_apart n.chain (subst (λ (x : List Call). IsChainBefore n.chain x) (sym (ap (λ (x : UNode). x.chain) e)) h)
node_apart n m e (inr h) = omega (arith, h.1, ap (λ (x : UNode). x.block) e)

pub edge_apart : (e f : Edge) → e ≡ f → IsEdgeBefore e f → ⊥
edge_apart e f s (inl h) = omega (arith, h, ap (λ (x : Edge). x.from) s)
edge_apart e f s (inr (a, inl h)) = omega (arith, h, ap (λ (x : Edge). x.to) s)
edge_apart e f s (inr (a, inr h)) = false≢true (sym h.1 ∙ ap (λ (x : Edge). x.taken) s ∙ h.2)

pub edge_through : (e f g : Edge) → IsEdgeBefore e f → IsEdgeBefore f g → IsEdgeBefore e g
edge_through e f g (inl a) (inl b) = inl (omega (arith, a, b))
edge_through e f g (inl a) (inr b) = inl (omega (arith, a, b.0))
edge_through e f g (inr a) (inl b) = inl (omega (arith, a.0, b))
edge_through e f g (inr (a, inl h)) (inr (b, inl k)) = inr (a ∙ b, inl (omega (arith, h, k)))
edge_through e f g (inr (a, inl h)) (inr (b, inr k)) = inr (a ∙ b, inl (omega (arith, h, k.0)))
edge_through e f g (inr (a, inr h)) (inr (b, inl k)) = inr (a ∙ b, inl (omega (arith, h.0, k)))
edge_through e f g (inr (a, inr h)) (inr (b, inr k)) = absurd (false≢true (sym k.1 ∙ h.2))

module _ {X : Type 0} (before : X → X → Type 0) (through : (x y z : X) → before x y → before y z → before x z) (xs : List X)
    (step : (k : ℕ) (d : X) → suc k < length xs → before (get_or xs k d) (get_or xs (suc k) d)) where
  -- what holds of each element and the next holds of each and all behind it
  pub all_before : AllPairs before xs
  all_before i zero d less within = absurd (omega (arith, less))
  all_before i (suc j) d less within = elim (cases_lt i j) [
    | inl below ↦ through (get_or xs i d) (get_or xs j d) (get_or xs (suc j) d) (all_before i j d below (omega (arith, within))) (step j d within)
    | inr above ↦ let e : j ≡ i = omega arith in subst (λ (k : ℕ). before (get_or xs k d) (get_or xs (suc j) d)) e (step j d within)
  ]

pub distinct_at : {X : Type 0} (eq : X → X → Bool) (xs : List X) (i j : ℕ) (p : X) → IsDistinct eq xs → i < j → j < length xs
    → eq (get_or xs i p) (get_or xs j p) ≡ false
unfolding IsDistinct
distinct_at eq [] i j p d h k = absurd (omega arith)
distinct_at eq (x ∷ xs) zero zero p d h k = absurd (omega arith)
distinct_at eq (x ∷ xs) zero (suc j) p d h k = All-get_or (λ y. eq x y ≡ false) xs j p (omega arith) (All-from_recursion (λ y. eq x y ≡ false) xs d.0)
distinct_at eq (x ∷ xs) (suc i) zero p d h k = absurd (omega arith)
distinct_at eq (x ∷ xs) (suc i) (suc j) p d h k = distinct_at eq xs i j p d.1 (omega arith) (omega arith)

-- a sorted list without doubles ascends
pub sorted_ascends : {X : Type 0} (cmp : X → X → Ordering) (eq : X → X → Bool) (before : X → X → Type 0)
    → ((x y z : X) → before x y → before y z → before x z) → (xs : List X) → IsSorted cmp xs → IsDistinct eq xs
    → ((k : ℕ) (d : X) → suc k < length xs → is_lt (cmp (get_or xs (suc k) d) (get_or xs k d)) ≡ false
    → eq (get_or xs k d) (get_or xs (suc k) d) ≡ false → before (get_or xs k d) (get_or xs (suc k) d)) → AllPairs before xs
sorted_ascends cmp eq before through xs sorted distinct step = all_before before through xs (λ k d h.
    let e : k + 1 ≡ suc k = omega arith in
    step k d h (subst (λ (m : ℕ). is_lt (cmp (get_or xs m d) (get_or xs k d)) ≡ false) e (sorted k d (omega arith) (omega (arith, h)))) (distinct_at eq xs k (suc k) d distinct (omega arith) h))
