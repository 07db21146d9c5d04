-- From what diagrams, pairs and outcomes tell to all combinations that classes allow.
use Rattle.std.proofs.Common.{◌≡◌, ℕ, ◌+◌, ◌-◌, ◌<◌, ◌≤◌, ◌↔◌, Bool, List, [], length, slice_get, Some, None, IsTrue, Result, Ok, Err, IfOk, sym, ap, subst, ◌∙◌, inl, inr, arith}
use Rattle.std.proofs.lemmas.Option.{slice_get_within, slice_get_past}
use Rattle.std.proofs.lemmas.Bool.{cases_lt}
use Rattle.wx_text.specs.declared.memory.NoMemory.{NoMemory}
use Rattle.cache_class.specs.declared.class.Class.{Class}
use Rattle.cert_text.specs.declared.certificate.CertVector.{CertVector}
use Rattle.xdd_table.specs.declared.node.Node.{Node}
use Rattle.xdd_table.specs.Diagram.{Combination, time}
use Rattle.xdd_ops.specs.Pairs.{AddsOnly}
use Rattle.pipe_block.specs.declared.diagrams.Outcome.{Outcome}
use Rattle.pipe_block.specs.declared.diagrams.Leaving.{Leaving}
use Rattle.cert_judge.specs.Settled.{settled}
use Rattle.cert_judge.specs.Payments.{PaysForFinish, LeadsOn, PaysInto, PaysForEdge, PairPays, AllPay}
use Rattle.cert_judge.proofs.SettledLemmas.{settled_allowed, settled_is_allowed}

-- a test of the excess over what is charged
pub finish_pays : (nodes : List Node) (classes : List Class) (charge : Combination → ℕ) (potential finish : ℕ) (needed given : Combination → ℕ) (within : Bool)
    → ((f : Combination) → charge (settled classes f) ≡ charge f) → ((f : Combination) → needed f ≡ time nodes (settled classes f) finish)
    → ((f : Combination) → given f ≡ charge f) → (IsTrue within ↔ ((f : Combination) → needed f - given f ≤ potential))
    → IsTrue within ↔ PaysForFinish nodes classes (λ f. potential + charge f) finish
finish_pays nodes classes charge potential finish needed given within alike needed_is given_is tells = (pays, back)
  where
    pays : IsTrue within → PaysForFinish nodes classes (λ f. potential + charge f) finish
    pays t = record {
      each = λ f allowed.
          let here : needed f ≡ time nodes f finish = needed_is f ∙ ap (λ (g : Combination). time nodes g finish) (settled_allowed classes f allowed) in
          omega (arith, here, given_is f, tells.0 t f);
    }

    back : PaysForFinish nodes classes (λ f. potential + charge f) finish → IsTrue within
    back p = tells.1 (λ f. omega (arith, needed_is f, given_is f, alike f, p.each (settled classes f) (settled_is_allowed classes f)))

-- each position of the diagram is one in the list, and each pair is that of a combination
module _ (nodes : List Node) (classes : List Class) (charge : Combination → ℕ) (leaving : Leaving) (pairs : List (ℕ × ℕ)) (a b : Combination → ℕ)
    (a_is : (f : Combination) → a f ≡ time nodes (settled classes f) leaving.place.place) (b_is : (f : Combination) → b f ≡ charge f)
    (only : (i : ℕ) (x : ℕ × ℕ) → slice_get pairs i ≡ Some x → (f : Combination) × (x ≡ (a f, b f))) where
  pub listed : ((f : Combination) → time nodes f leaving.place.place < length leaving.list) → (i : ℕ) (x : ℕ × ℕ) → slice_get pairs i ≡ Some x → x.0 < length leaving.list
  listed within i x is =
      let w = only i x is in
      let e : x.0 ≡ time nodes (settled classes w.0) leaving.place.place = ap (λ (y : ℕ × ℕ). y.0) w.1 ∙ a_is w.0 in
      rw e (within (settled classes w.0))

  pub edge_pays : (all : Bool) (potential : ℕ) (Pays : ℕ → ℕ → List ℕ → Type 0) → ((f : Combination) → charge (settled classes f) ≡ charge f)
      → ((f : Combination) → (i : ℕ) × (slice_get pairs i ≡ Some (a f, b f)))
      → (IsTrue all ↔ AllPay pairs leaving.list (λ n. Pays (potential + n)))
      → IsTrue all ↔ PaysForEdge nodes classes (λ f. potential + charge f) leaving Pays
  edge_pays all potential Pays alike has tells = (pays, back)
    where
      pays : IsTrue all → PaysForEdge nodes classes (λ f. potential + charge f) leaving Pays
      pays t = record {
        each = λ f o allowed at.
            let here : a f ≡ time nodes f leaving.place.place = a_is f ∙ ap (λ (g : Combination). time nodes g leaving.place.place) (settled_allowed classes f allowed) in
            let stands : slice_get leaving.list (a f) ≡ Some o = ap (λ n. slice_get leaving.list n) here ∙ at in
            subst (λ (n : ℕ). Pays (potential + n) o.cost o.vector.slots) (b_is f) (((tells.0 t).each (has f).0).each (a f, b f) o (has f).1 stands);
      }

      back : PaysForEdge nodes classes (λ f. potential + charge f) leaving Pays → IsTrue all
      back p = tells.1 (record { each = λ i. record { each = λ x o there is. paid i x o there is } })
        where
          paid : (i : ℕ) (x : ℕ × ℕ) (o : Outcome) → slice_get pairs i ≡ Some x → slice_get leaving.list x.0 ≡ Some o → Pays (potential + x.1) o.cost o.vector.slots
          paid i x o there is =
              let w = only i x there in
              let g : Combination = settled classes w.0 in
              let first : x.0 ≡ time nodes g leaving.place.place = ap (λ (y : ℕ × ℕ). y.0) w.1 ∙ a_is w.0 in
              let second : x.1 ≡ charge g = ap (λ (y : ℕ × ℕ). y.1) w.1 ∙ (b_is w.0 ∙ sym (alike w.0)) in
              let here : slice_get leaving.list (time nodes g leaving.place.place) ≡ Some o = ap (λ n. slice_get leaving.list n) (sym first) ∙ is in
              subst (λ (n : ℕ). Pays (potential + n) o.cost o.vector.slots) (sym second) (p.each g o (settled_is_allowed classes w.0) here)

-- what is told of an answer tells more
pub ok_more : (r : Result Bool NoMemory) (P Q : Bool → Type 0) → ((b : Bool) → P b → Q b) → IfOk r P → IfOk r Q
ok_more (Ok b) P Q more p = more b p
ok_more (Err e) P Q more p = tt

-- what is added to no pairs has the property
pub added_to_none : (old new : List (ℕ × ℕ)) (P : ℕ × ℕ → Type 0) → old ≡ [] → AddsOnly old new P → (i : ℕ) (x : ℕ × ℕ) → slice_get new i ≡ Some x → P x
added_to_none old new P none adds i x is = elim (adds.added i x is) [
  | inl there ↦ let empty : slice_get [] i ≡ Some x = subst (λ (xs : List (ℕ × ℕ)). slice_get xs i ≡ Some x) none there in absurd (cc)
  | inr p ↦ p
]

-- some listed vector leads on, or none does
pub pays_by : (family : List CertVector) (entering returning offer cost : ℕ) (slots : List ℕ) (place : ℕ) (next : CertVector) → slice_get family place ≡ Some next
    → LeadsOn next (cost + entering) (offer + returning) slots → PaysInto family entering returning offer cost slots
pays_by family entering returning offer cost slots place next is leads = record { place = place; next = next; listed = is; leads = leads }

pub pays_by_none : (family : List CertVector) (entering returning offer cost : ℕ) (slots : List ℕ)
    → ((place : ℕ) (next : CertVector) → place < length family → slice_get family place ≡ Some next → LeadsOn next (cost + entering) (offer + returning) slots → ⊥)
    → PaysInto family entering returning offer cost slots → ⊥
pays_by_none family entering returning offer cost slots none p = none p.place p.next (slice_get_within family p.place p.next p.listed) p.listed p.leads

pub none_more : (family : List CertVector) (P : CertVector → Type 0) (index : ℕ) (item : CertVector) → slice_get family index ≡ Some item → (P item → ⊥)
    → ((place : ℕ) (next : CertVector) → place < index → slice_get family place ≡ Some next → P next → ⊥)
    → (place : ℕ) (next : CertVector) → place < index + 1 → slice_get family place ≡ Some next → P next → ⊥
none_more family P index item at fails before place next less is p = elim (cases_lt place index) [
  | inl l ↦ before place next l is p
  | inr g ↦
      let e : place ≡ index = omega arith in
      let same : next ≡ item = cc in
      fails (subst P same p)
]

-- pairs that stand in the list are all that there are
pub all_from : (pairs : List (ℕ × ℕ)) (outcomes : List Outcome) (Pays : ℕ → ℕ → List ℕ → Type 0) → ((i : ℕ) → i < length pairs → PairPays pairs outcomes Pays i) → AllPay pairs outcomes Pays
all_from pairs outcomes Pays below = record { each = λ i. each_pays i }
  where
    each_pays : (i : ℕ) → PairPays pairs outcomes Pays i
    each_pays i = elim (cases_lt i (length pairs)) [
      | inl l ↦ below i l
      | inr g ↦ record {
        each = λ x o is stands.
            let past : slice_get pairs i ≡ None = slice_get_past pairs i g in
            absurd (cc);
      }
    ]

pub one_more_pays : (P : ℕ → Type 0) (i : ℕ) → ((k : ℕ) → k < i → P k) → P i → (k : ℕ) → k < i + 1 → P k
one_more_pays P i before this k less = elim (cases_lt k i) [
  | inl l ↦ before k l
  | inr g ↦
      let e : i ≡ k = omega arith in
      subst P e this
]

-- what is told of the pair and the outcome at a position is told of the position
pub pair_pays_by : (pairs : List (ℕ × ℕ)) (outcomes : List Outcome) (Pays : ℕ → ℕ → List ℕ → Type 0) (i position offer : ℕ) (o : Outcome) (answer : Bool)
    → slice_get pairs i ≡ Some (position, offer) → slice_get outcomes position ≡ Some o → (IsTrue answer ↔ Pays offer o.cost o.vector.slots)
    → IsTrue answer ↔ PairPays pairs outcomes Pays i
pair_pays_by pairs outcomes Pays i position offer o answer pair outcome tells = (pays, λ p. tells.1 (p.each (position, offer) o pair outcome))
  where
    pays : IsTrue answer → PairPays pairs outcomes Pays i
    pays t = record {
      each = λ x y is stands.
          let same : (position, offer) ≡ x = cc in
          let there : slice_get outcomes position ≡ Some y = subst (λ (z : ℕ × ℕ). slice_get outcomes z.0 ≡ Some y) (sym same) stands in
          let one : o ≡ y = cc in
          let first : Pays offer y.cost y.vector.slots = subst (λ (z : Outcome). Pays offer z.cost z.vector.slots) one (tells.0 t) in
          subst (λ (z : ℕ × ℕ). Pays z.1 y.cost y.vector.slots) same first;
    }
