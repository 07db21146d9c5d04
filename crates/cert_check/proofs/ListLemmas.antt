-- Elements of two lists at one place, and the edges of a node among all edges.
use Rattle.std.proofs.Common.{◌≡◌, ℕ, zero, suc, ◌+◌, ◌<◌, ◌≤◌, ◌⊎◌, ◌==◌, Bool, true, false, cond, List, [], ◌∷◌, ◌++◌, length, get_or, slice_get, Some, AllPairs, length-append, refl, sym, ap, subst, ◌∙◌, inl, inr, arith}
use Rattle.std.specs.List.{filter}
use Rattle.std.proofs.lemmas.Bool.{cases_lt, eq-eqb, ne_eqb}
use Rattle.std.proofs.lemmas.Option.{same_Some, slice_get_within, get_or_from_slice_get}
use Rattle.flow_ctx.specs.declared.unfolded.Edge.{Edge}
use Rattle.flow_ctx.specs.Order.{IsEdgeBefore}
use Rattle.cert_check.specs.Judging.{IsCut, IsRange}
use Rattle.cert_check.specs.Places.{Along, ForEach}

-- an element of a list that has grown by one
pub appended : {B : Type 0} (ys : List B) (y b : B) (place : ℕ) → slice_get (ys ++ y ∷ []) place ≡ Some b
    → (slice_get ys place ≡ Some b) ⊎ ((place ≡ length ys) × (y ≡ b))
appended [] y b zero is = inr (refl, same_Some y b is)
appended [] y b (suc place) is = absurd (omega (arith, slice_get_within [] place b is))
appended (z ∷ ys) y b zero is = inl is
appended (z ∷ ys) y b (suc place) is = elim (appended ys y b place is) [
  | inl h ↦ inl h
  | inr h ↦ inr (omega (arith, h.0), h.1)
]

module _ {A B : Type 0} where
  -- nothing holds along a list with no other beside it
  pub along_none : (P : ℕ → A → B → Type 0) (xs : List A) → Along P xs []
  along_none P xs = record { each = λ place x y at there. absurd (omega (arith, slice_get_within [] place y there)) }

  -- one element more
  pub along_more : (P : ℕ → A → B → Type 0) (xs : List A) (ys : List B) (x : A) (y : B) → Along P xs ys
      → slice_get xs (length ys) ≡ Some x → P (length ys) x y → Along P xs (ys ++ y ∷ [])
  along_more P xs ys x y before at holds = record {
    each = λ place a b here there. elim (appended ys y b place there) [
      | inl h ↦ before.each place a b here h
      | inr h ↦
          let e : x ≡ a = same_Some x a (sym at ∙ (ap (λ k. slice_get xs k) (sym h.0) ∙ here)) in
          rw (h.0, ← e, ← h.1) holds
    ];
  }

  -- what follows holds along the lists too
  pub along_all : (P Q : ℕ → A → B → Type 0) (xs : List A) (ys : List B) → ((place : ℕ) (x : A) (y : B) → P place x y → Q place x y)
      → Along P xs ys → Along Q xs ys
  along_all P Q xs ys more before = record { each = λ place x y at there. more place x y (before.each place x y at there) }

  pub for_each_all : (P Q : ℕ → A → B → Type 0) (xs : List A) (ys : List B) → ((place : ℕ) (x : A) (y : B) → P place x y → Q place x y)
      → ForEach P xs ys → ForEach Q xs ys
  for_each_all P Q xs ys more before = record { long = before.long; along = along_all P Q xs ys more before.along }

  -- an element more of the second list, where what holds has changed to what follows from it
  pub front_step : (P Q : ℕ → A → B → Type 0) (xs : List A) (ys more : List B) (place : ℕ) (x : A) (y : B) → length ys ≡ place
      → slice_get xs place ≡ Some x → ((k : ℕ) (a : A) (b : B) → P k a b → Q k a b) → Q place x y → more ≡ ys ++ y ∷ []
      → Along P xs ys → Along Q xs more
  front_step P Q xs ys more place x y long at step holds grown before =
      subst (λ (zs : List B). Along Q xs zs) (sym grown)
      (along_more Q xs ys x y (along_all P Q xs ys step before) (ap (λ k. slice_get xs k) long ∙ at) (subst (λ k. Q k x y) (sym long) holds))

-- the length of a list with one element more
pub one_longer : {A : Type 0} (ys more : List A) (y : A) (place : ℕ) → length ys ≡ place → more ≡ ys ++ y ∷ [] → length more ≡ place + 1
one_longer ys more y place long grown = ap (λ zs. length zs) grown ∙ (length-append ys (y ∷ []) ∙ omega (arith, long))

-- of two edges in their order the first leaves no later node
from_ascends : (e f : Edge) → IsEdgeBefore e f → e.from ≤ f.from
from_ascends e f b = elim b [
  | inl l ↦ omega (arith, l)
  | inr h ↦ omega (arith, h.0)
]

-- the edges before a cut that are behind another edge of a later node
pub range_ends : (edges : List Edge) (node first end : ℕ) (e : Edge) → AllPairs IsEdgeBefore edges → IsCut edges node first → first ≤ end
    → slice_get edges end ≡ Some e → node < e.from
    → ((k : ℕ) (x : Edge) → first ≤ k → k < end → slice_get edges k ≡ Some x → x.from ≡ node) → IsRange edges node first end
range_ends edges node first end e ascend cut order at behind inside = record {
  order = order;
  within = omega (arith, slice_get_within edges end e at);
  before = cut.before;
  inside = inside;
  after = λ k x g is. elim (cases_lt end k) [
    | inl l ↦
        let b = ascend end k e l (slice_get_within edges k x is) in
        let c : e.from ≤ x.from = from_ascends e x (subst (λ y. IsEdgeBefore e y) (get_or_from_slice_get edges k x e is)
        (subst (λ y. IsEdgeBefore y (get_or edges k e)) (get_or_from_slice_get edges end e e at) b)) in
        omega (arith, behind, c)
    | inr h ↦
        let k_is : k ≡ end = omega (arith, g, h) in
        let e_is : e ≡ x = same_Some e x (sym at ∙ (ap (λ i. slice_get edges i) (sym k_is) ∙ is)) in
        rw (← e_is) behind
  ];
}

-- all edges from the first on leave the node
pub range_is_rest : (edges : List Edge) (node first : ℕ) → IsCut edges node first
    → ((k : ℕ) (x : Edge) → first ≤ k → k < length edges → slice_get edges k ≡ Some x → x.from ≡ node) → IsRange edges node first (length edges)
range_is_rest edges node first cut inside = record {
  order = cut.within;
  within = omega arith;
  before = cut.before;
  inside = inside;
  after = λ k x g is. absurd (omega (arith, g, slice_get_within edges k x is));
}

-- no edge comes before the first node
pub cut_first : (edges : List Edge) → IsCut edges 0 0
cut_first edges = record {
  within = omega arith;
  before = λ k e l is. absurd (omega (arith, l));
  after = λ k e g is. omega arith;
}

-- where the edges of a node end, those of the next begin
pub cut_next : (edges : List Edge) (node first end : ℕ) → IsRange edges node first end → IsCut edges (node + 1) end
cut_next edges node first end r = record {
  within = r.within;
  before = λ k e l is. elim (cases_lt k first) [
    | inl b ↦ omega (arith, r.before k e b is)
    | inr g ↦ omega (arith, r.inside k e g l is)
  ];
  after = λ k e g is. omega (arith, r.after k e g is);
}

-- the elements that pass a test are those from a place up to an end
record Passes {A : Type 0} (test : A → Bool) (xs : List A) (first end : ℕ) : Type 0 where
  order : first ≤ end
  within : end ≤ length xs
  inside : (k : ℕ) (x : A) → first ≤ k → k < end → slice_get xs k ≡ Some x → test x ≡ true
  before : (k : ℕ) (x : A) → k < first → slice_get xs k ≡ Some x → test x ≡ false
  after : (k : ℕ) (x : A) → end ≤ k → slice_get xs k ≡ Some x → test x ≡ false

-- they stand there in the order of the places
record Spans {A : Type 0} (found xs : List A) (first end : ℕ) : Type 0 where
  long : first + length found ≡ end
  each : (k : ℕ) → k < length found → slice_get found k ≡ slice_get xs (first + k)

passed : {A : Type 0} (test : A → Bool) (x : A) (xs : List A) → test x ≡ true → filter test (x ∷ xs) ≡ x ∷ filter test xs
passed test x xs is = ap (λ b. cond b (x ∷ filter test xs) (filter test xs)) is

not_passed : {A : Type 0} (test : A → Bool) (x : A) (xs : List A) → test x ≡ false → filter test (x ∷ xs) ≡ filter test xs
not_passed test x xs is = ap (λ b. cond b (x ∷ filter test xs) (filter test xs)) is

first_then : {A : Type 0} (xs : List A) (x : A) (found : List A) → ((k : ℕ) → k < length found → slice_get found k ≡ slice_get xs (0 + k))
    → (k : ℕ) → k < length (x ∷ found) → slice_get (x ∷ found) k ≡ slice_get (x ∷ xs) (0 + k)
first_then xs x found each zero l = refl
first_then xs x found each (suc k) l =
    let place : suc (0 + k) ≡ 0 + suc k = omega arith in
    subst (λ n. slice_get (x ∷ found) (suc k) ≡ slice_get (x ∷ xs) n) place (each k (omega (arith, l)))

one_on : {A : Type 0} (xs : List A) (x : A) (found : List A) (first k : ℕ) → slice_get found k ≡ slice_get xs (first + k) → slice_get found k ≡ slice_get (x ∷ xs) (suc first + k)
one_on xs x found first k is =
    let place : suc (first + k) ≡ suc first + k = omega arith in
    subst (λ n. slice_get found k ≡ slice_get (x ∷ xs) n) place is

passing : {A : Type 0} (test : A → Bool) (xs : List A) (first end : ℕ) → Passes test xs first end → Spans (filter test xs) xs first end
passing test [] first end p = record { long = omega (arith, p.order, p.within); each = λ k l. absurd (omega (arith, l)) }
passing test (x ∷ xs) zero zero p =
    let x_is : test x ≡ false = p.after 0 x (omega arith) refl in
    let rest : Passes test xs 0 0 = record {
      order = omega arith;
      within = omega arith;
      inside = λ k y g l is. absurd (omega (arith, l));
      before = λ k y l is. absurd (omega (arith, l));
      after = λ k y g is. p.after (suc k) y (omega arith) is;
    } in
    let tail = passing test xs 0 0 rest in
    let none : length (filter test xs) ≡ 0 = omega (arith, tail.long) in
    subst (λ found. Spans found (x ∷ xs) 0 0) (sym (not_passed test x xs x_is)) (record { long = tail.long; each = λ k l. absurd (omega (arith, l, none)) })
passing test (x ∷ xs) zero (suc end) p =
    let x_is : test x ≡ true = p.inside 0 x (omega arith) (omega arith) refl in
    let rest : Passes test xs 0 end = record {
      order = omega arith;
      within = omega (arith, p.within);
      inside = λ k y g l is. p.inside (suc k) y (omega arith) (omega (arith, l)) is;
      before = λ k y l is. absurd (omega (arith, l));
      after = λ k y g is. p.after (suc k) y (omega (arith, g)) is;
    } in
    let tail = passing test xs 0 end rest in
    subst (λ found. Spans found (x ∷ xs) 0 (suc end)) (sym (passed test x xs x_is))
    (record { long = omega (arith, tail.long); each = first_then xs x (filter test xs) tail.each })
passing test (x ∷ xs) (suc first) zero p = absurd (omega (arith, p.order))
passing test (x ∷ xs) (suc first) (suc end) p =
    let x_is : test x ≡ false = p.before 0 x (omega arith) refl in
    let rest : Passes test xs first end = record {
      order = omega (arith, p.order);
      within = omega (arith, p.within);
      inside = λ k y g l is. p.inside (suc k) y (omega (arith, g)) (omega (arith, l)) is;
      before = λ k y l is. p.before (suc k) y (omega (arith, l)) is;
      after = λ k y g is. p.after (suc k) y (omega (arith, g)) is;
    } in
    let tail = passing test xs first end rest in
    subst (λ found. Spans found (x ∷ xs) (suc first) (suc end)) (sym (not_passed test x xs x_is)) (record {
      long = omega (arith, tail.long);
      each = λ k l. one_on xs x (filter test xs) first k (tail.each k l);
    })

-- the edges of a range are those that leave the node: so many, and each at its place
pub range_edges : (edges : List Edge) (node first end : ℕ) → IsRange edges node first end
    → (first + length (filter (λ edge. edge.from == node) edges) ≡ end)
    × ((k : ℕ) → k < length (filter (λ edge. edge.from == node) edges) → slice_get (filter (λ edge. edge.from == node) edges) k ≡ slice_get edges (first + k))
range_edges edges node first end r =
    let s = passing (λ (edge : Edge). edge.from == node) edges first end (record {
      order = r.order;
      within = r.within;
      inside = λ k e g l is. eq-eqb e.from node (r.inside k e g l is);
      before = λ k e l is. ne_eqb e.from node (λ same. absurd (omega (arith, r.before k e l is, same)));
      after = λ k e g is. ne_eqb e.from node (λ same. absurd (omega (arith, r.after k e g is, same)));
    }) in
    (s.long, s.each)

-- costs along the edges of a range, by their numbers, are costs along the edges of the node
pub along_range : {B : Type 0} (P : Edge → B → Type 0) (edges : List Edge) (node first end : ℕ) (ys : List B) → IsRange edges node first end
    → first + length ys ≡ end → ((k : ℕ) (e : Edge) (y : B) → slice_get edges (first + k) ≡ Some e → slice_get ys k ≡ Some y → P e y)
    → ForEach (λ place e y. P e y) (filter (λ edge. edge.from == node) edges) ys
along_range P edges node first end ys r long each =
    let s = range_edges edges node first end r in
    record {
      long = omega (arith, long, s.0);
      along = record {
        each = λ k e y at there.
            each k e y (sym (s.1 k (slice_get_within (filter (λ (edge : Edge). edge.from == node) edges) k e at)) ∙ at) there;
      };
    }
