-- Tests and orders of places and edges.
use Rattle.std.proofs.Common.{◌≡◌, ℕ, suc, ◌<◌, ◌≤◌, ◌⊎◌, Bool, true, false, ◌&&◌, List, [], ◌∷◌, length, get_or, slice_get, Some, refl, sym, ap, ◌∙◌, subst, inl, inr, arith, eqb}
use lib.Pointwise.{pointwise}
use mathlib.Core.Bool.{beq}
use Rattle.std.specs.List.{AllPairs, IsDistinct}
use Rattle.std.specs.List.Sorted.{IsSorted}
use Rattle.std.specs.declared.cmp.Ordering.{Ordering}
use Rattle.std.specs.declared.cmp.Ordering.TheVariants.{Less, Equal, Greater}
use Rattle.std.specs.Ordering.{bool_cmp, is_lt, nat_cmp, ordering_then}
use Rattle.std.specs.Cmp.Lexicographic.{slice_cmp}
use Rattle.std.proofs.lemmas.Bool.{cases_lt, false≢true}
use Rattle.std.proofs.lemmas.Bool.Decides.{nat_tests}
use Rattle.flow_ctx.specs.contracts.place.PlacePartialEq.TheImpl.{eq-value}
use Rattle.flow_ctx.specs.contracts.place.PlaceOrd.TheImpl.{cmp-value}
use Rattle.flow_ctx.specs.contracts.unfolded.EdgePartialEq.TheImpl as edge_tests
use Rattle.flow_ctx.specs.contracts.unfolded.EdgeOrd.TheImpl as edge_order
use Rattle.flow_ctx.specs.declared.place.Place.{Place}
use Rattle.flow_ctx.specs.declared.unfolded.Call.{Call}
use Rattle.flow_ctx.specs.declared.unfolded.Edge.{Edge}
use Rattle.flow_ctx.specs.declared.unfolded.UNode.{UNode}
use Rattle.flow_ctx.specs.Order.{IsEdgeBefore, IsNodeBefore}
use Rattle.flow_ctx.specs.Targets.{node_of}
use Rattle.flow_ctx.proofs.FoundLemmas.{TellsNodes}
use Rattle.flow_ctx.proofs.OrderLemmas.{call_compare, chain_equal, chain_less, chain_told, nat_equal, nat_less}

abbrev pub place_eq : Place → Place → Bool
place_eq = eq-value.it

abbrev pub place_cmp : Place → Place → Ordering
place_cmp = cmp-value.it

abbrev pub edge_eq : Edge → Edge → Bool
edge_eq = edge_tests.eq-value.it

abbrev pub edge_cmp : Edge → Edge → Ordering
edge_cmp = edge_order.cmp-value.it

pub both : (a b : Bool) → (a && b) ≡ true → (a ≡ true) × (b ≡ true)
both true b h = (refl, h)
both false b h = absurd (false≢true h)

pub from_both : (a b : Bool) → a ≡ true → b ≡ true → (a && b) ≡ true
from_both true b h k = k
from_both false b h k = absurd (false≢true h)

pub same_number : (x y : ℕ) → eqb x y ≡ true → x ≡ y
same_number x y h = grind (arith, nat_tests)

pub number_same : (x y : ℕ) → x ≡ y → eqb x y ≡ true
number_same x y h = grind (arith, nat_tests)

abbrev pub call_test : Call → Call → Bool
call_test c d = eqb c.site d.site && eqb c.entry d.entry

pub same_call : (c d : Call) → call_test c d ≡ true → c ≡ d
same_call c d h =
    let b = both (eqb c.site d.site) (eqb c.entry d.entry) h in
    let site = same_number c.site d.site b.0 in
    let entry = same_number c.entry d.entry b.1 in
    λ i. record { site = site i; entry = entry i }

pub same_chain : (c d : List Call) → pointwise call_test c d ≡ true → c ≡ d
same_chain [] [] h = refl
same_chain [] (y ∷ ys) h = absurd (false≢true h)
same_chain (x ∷ xs) [] h = absurd (false≢true h)
same_chain (x ∷ xs) (y ∷ ys) h =
    let b = both (call_test x y) (pointwise call_test xs ys) h in
    let c = both (eqb x.site y.site) (eqb x.entry y.entry) b.0 in
    let site = same_number x.site y.site c.0 in
    let entry = same_number x.entry y.entry c.1 in
    let rest = same_chain xs ys b.1 in
    λ i. record { site = site i; entry = entry i } ∷ rest i

pub chain_same : (c : List Call) → pointwise call_test c c ≡ true
chain_same [] = refl
chain_same (x ∷ xs) = from_both (call_test x x) (pointwise call_test xs xs)
    (from_both (eqb x.site x.site) (eqb x.entry x.entry) (number_same x.site x.site refl) (number_same x.entry x.entry refl)) (chain_same xs)

pub place_tells : TellsNodes place_eq
place_tells = record {
  same = λ p q h.
      let b = both (pointwise call_test p.chain.items q.chain.items) (eqb p.function q.function && eqb p.block q.block) h in
      let c = both (eqb p.function q.function) (eqb p.block q.block) b.1 in
      let chain = same_chain p.chain.items q.chain.items b.0 in
      let function = same_number p.function q.function c.0 in
      let block = same_number p.block q.block c.1 in
      λ i. record { chain = chain i; function = function i; block = block i };
  again = λ p q h. from_both (pointwise call_test p.chain.items q.chain.items) (eqb p.function q.function && eqb p.block q.block)
      (subst (λ (l : List Call). pointwise call_test p.chain.items l ≡ true) (ap (λ (n : UNode). n.chain) h) (chain_same p.chain.items))
      (from_both (eqb p.function q.function) (eqb p.block q.block) (number_same p.function q.function (ap (λ (n : UNode). n.function) h)) (number_same p.block q.block (ap (λ (n : UNode). n.block) h)));
}

-- a place that is not after another is before it or the same node, if their functions hang on their chains
pub place_before : (p q : Place) → (p.chain.items ≡ q.chain.items → p.function ≡ q.function) → is_lt (place_cmp q p) ≡ false
    → (node_of p ≡ node_of q → ⊥) → IsNodeBefore (node_of p) (node_of q)
place_before p q function low other = elim (chain_told p.chain.items q.chain.items) [
  | inl before ↦ inl before
  | inr rest ↦ elim rest [
    | inl same ↦ elim (cases_lt p.block q.block) [
      | inl less ↦ inr (same, less)
      | inr above ↦ elim (cases_lt q.block p.block) [
        | inl less ↦
            let f = function same in
            absurd (false≢true (sym low ∙ ap is_lt (
            ap (λ (o : Ordering). ordering_then o (ordering_then (nat_cmp q.function p.function) (nat_cmp q.block p.block)))
            (subst (λ (l : List Call). slice_cmp call_compare q.chain.items l ≡ Equal) (sym same) (chain_equal q.chain.items))
            ∙ ap (λ (o : Ordering). ordering_then o (nat_cmp q.block p.block)) (nat_equal q.function p.function (sym f)) ∙ nat_less q.block p.block less)))
        | inr more ↦
            let f = function same in
            let b : p.block ≡ q.block = omega arith in
            absurd (other (λ i. record { chain = same i; function = f i; block = b i }))
      ]
    ]
    | inr after ↦ absurd (false≢true (sym low ∙ ap is_lt (
        ap (λ (o : Ordering). ordering_then o (ordering_then (nat_cmp q.function p.function) (nat_cmp q.block p.block))) (chain_less q.chain.items p.chain.items after))))
  ]
]

same_bit : (a b : Bool) → beq a b ≡ true → a ≡ b
same_bit true true h = refl
same_bit true false h = absurd (false≢true h)
same_bit false true h = absurd (false≢true h)
same_bit false false h = refl

bit_same : (a : Bool) → beq a a ≡ true
bit_same true = refl
bit_same false = refl

bit_before : (a b : Bool) → is_lt (bool_cmp b a) ≡ false → beq a b ≡ false → (a ≡ false) × (b ≡ true)
bit_before true true l o = absurd (false≢true (sym o))
bit_before true false l o = absurd (false≢true (sym l))
bit_before false true l o = (refl, refl)
bit_before false false l o = absurd (false≢true (sym o))

pub edge_same : (e f : Edge) → edge_eq e f ≡ true → e ≡ f
edge_same e f h =
    let a = both (eqb e.from f.from) (eqb e.to f.to && beq e.taken f.taken) h in
    let b = both (eqb e.to f.to) (beq e.taken f.taken) a.1 in
    let from = same_number e.from f.from a.0 in
    let to = same_number e.to f.to b.0 in
    let taken = same_bit e.taken f.taken b.1 in
    λ i. record { from = from i; to = to i; taken = taken i }

-- an edge that is not after another, and another, is before it
pub edge_before : (e f : Edge) → is_lt (edge_cmp f e) ≡ false → edge_eq e f ≡ false → IsEdgeBefore e f
edge_before e f low other = elim (cases_lt e.from f.from) [
  | inl less ↦ inl less
  | inr above ↦ elim (cases_lt f.from e.from) [
    | inl less ↦ absurd (false≢true (sym low ∙ ap is_lt (ap (λ (o : Ordering). ordering_then o (ordering_then (nat_cmp f.to e.to) (bool_cmp f.taken e.taken))) (nat_less f.from e.from less))))
    | inr more ↦
        let from : e.from ≡ f.from = omega arith in
        let low' : is_lt (ordering_then (nat_cmp f.to e.to) (bool_cmp f.taken e.taken)) ≡ false =
        sym (ap is_lt (ap (λ (o : Ordering). ordering_then o (ordering_then (nat_cmp f.to e.to) (bool_cmp f.taken e.taken))) (nat_equal f.from e.from (sym from)))) ∙ low in
        elim (cases_lt e.to f.to) [
          | inl less ↦ inr (from, inl less)
          | inr past ↦ elim (cases_lt f.to e.to) [
            | inl less ↦ absurd (false≢true (sym low' ∙ ap is_lt (ap (λ (o : Ordering). ordering_then o (bool_cmp f.taken e.taken)) (nat_less f.to e.to less))))
            | inr same ↦
                let to : e.to ≡ f.to = omega arith in
                let low'' : is_lt (bool_cmp f.taken e.taken) ≡ false = sym (ap is_lt (ap (λ (o : Ordering). ordering_then o (bool_cmp f.taken e.taken)) (nat_equal f.to e.to (sym to)))) ∙ low' in
                let bits : beq e.taken f.taken ≡ false = sym (ap (λ (b : Bool). b && beq e.taken f.taken) (number_same e.to f.to to))
                ∙ sym (ap (λ (b : Bool). b && (eqb e.to f.to && beq e.taken f.taken)) (number_same e.from f.from from)) ∙ other in
                let t = bit_before e.taken f.taken low'' bits in
                inr (from, inr (to, t.0, t.1))
          ]
        ]
  ]
]
