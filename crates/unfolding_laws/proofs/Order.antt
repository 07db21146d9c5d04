-- Of two chains one is before the other, or they are one.
use Rattle.std.proofs.Common.{◌≡◌, ◌⊎◌, inl, inr, ℕ, ◌<◌, List, [], ◌∷◌, sym, ap, ◌∙◌, subst, refl, arith}
use Rattle.std.proofs.lemmas.Bool.{cases_lt}
use Rattle.flow_ctx.specs.declared.unfolded.Call.{Call}
use Rattle.flow_ctx.specs.declared.unfolded.UNode.{UNode}
use Rattle.flow_ctx.specs.Order.{IsCallBefore, IsChainBefore, IsNodeBefore}

call_told : (c d : Call) → IsCallBefore c d ⊎ ((c ≡ d) ⊎ IsCallBefore d c)
call_told c d = elim (cases_lt c.site d.site) [
  | inl less ↦ inl (inl less)
  | inr more ↦ elim (cases_lt d.site c.site) [
    | inl less ↦ inr (inr (inl less))
    | inr other ↦
        let site : c.site ≡ d.site = omega arith in
        elim (cases_lt c.entry d.entry) [
          | inl less ↦ inl (inr (site, less))
          | inr above ↦ elim (cases_lt d.entry c.entry) [
            | inl less ↦ inr (inr (inr (sym site, less)))
            | inr same ↦ let entry : c.entry ≡ d.entry = omega arith in inr (inl (λ i. record { site = site i; entry = entry i }))
          ]
        ]
  ]
]

pub chain_told : (c d : List Call) → IsChainBefore c d ⊎ ((c ≡ d) ⊎ IsChainBefore d c)
chain_told [] [] = inr (inl refl)
chain_told [] (d ∷ ds) = inl tt
chain_told (c ∷ cs) [] = inr (inr tt)
chain_told (c ∷ cs) (d ∷ ds) = elim (call_told c d) [
  | inl before ↦ inl (inl before)
  | inr rest ↦ elim rest [
    | inl same ↦ elim (chain_told cs ds) [
      | inl before ↦ inl (inr (same, before))
      | inr other ↦ elim other [
        | inl alike ↦ inr (inl (λ i. same i ∷ alike i))
        | inr after ↦ inr (inr (inr (sym same, after)))
      ]
    ]
    | inr after ↦ inr (inr (inl after))
  ]
]

call_through : (c d e : Call) → IsCallBefore c d → IsCallBefore d e → IsCallBefore c e
call_through c d e (inl a) (inl b) = inl (omega (arith, a, b))
call_through c d e (inl a) (inr b) = inl (omega (arith, a, b.0))
call_through c d e (inr a) (inl b) = inl (omega (arith, a.0, b))
call_through c d e (inr a) (inr b) = inr (a.0 ∙ b.0, omega (arith, a.1, b.1))

none_before : (c : List Call) → IsChainBefore c [] → ⊥
none_before [] h = h
none_before (x ∷ xs) h = h

chain_through : (c d e : List Call) → IsChainBefore c d → IsChainBefore d e → IsChainBefore c e
chain_through c [] e a b = absurd (none_before c a)
chain_through c (d ∷ ds) [] a b = absurd b
chain_through [] (d ∷ ds) (e ∷ es) a b = tt
chain_through (c ∷ cs) (d ∷ ds) (e ∷ es) (inl a) (inl b) = inl (call_through c d e a b)
chain_through (c ∷ cs) (d ∷ ds) (e ∷ es) (inl a) (inr b) = inl (subst (λ (x : Call). IsCallBefore c x) b.0 a)
chain_through (c ∷ cs) (d ∷ ds) (e ∷ es) (inr a) (inl b) = inl (subst (λ (x : Call). IsCallBefore x e) (sym a.0) b)
chain_through (c ∷ cs) (d ∷ ds) (e ∷ es) (inr a) (inr b) = inr (a.0 ∙ b.0, chain_through cs ds es a.1 b.1)

chain_apart : (c : List Call) → IsChainBefore c c → ⊥
chain_apart [] h = h
chain_apart (c ∷ cs) (inl (inl h)) = omega (arith, h)
chain_apart (c ∷ cs) (inl (inr h)) = omega (arith, h.1)
chain_apart (c ∷ cs) (inr h) = chain_apart cs h.1

pub node_through : (n m k : UNode) → IsNodeBefore n m → IsNodeBefore m k → IsNodeBefore n k
node_through n m k (inl a) (inl b) = inl (chain_through n.chain m.chain k.chain a b)
node_through n m k (inl a) (inr b) = inl (subst (λ (x : List Call). IsChainBefore n.chain x) b.0 a)
node_through n m k (inr a) (inl b) = inl (subst (λ (x : List Call). IsChainBefore x k.chain) (sym a.0) b)
node_through n m k (inr a) (inr b) = inr (a.0 ∙ b.0, omega (arith, a.1, b.1))

pub node_apart : (n m : UNode) → n ≡ m → IsNodeBefore n m → ⊥
node_apart n m e (inl h) = chain_apart n.chain (subst (λ (x : List Call). IsChainBefore n.chain x) (sym (ap (λ (x : UNode). x.chain) e)) h)
node_apart n m e (inr h) = omega (arith, h.1, ap (λ (x : UNode). x.block) e)
