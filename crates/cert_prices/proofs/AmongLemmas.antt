-- Each edge leads into the head of one loop at most, so that it has the price of that loop alone.
use Rattle.std.proofs.Common.{◌≡◌, ℕ, zero, suc, ◌+◌, ◌<◌, ◌≤◌, true, List, [], ◌∷◌, length, take, get_or, slice_get, Some, refl, sym, ap, subst, ◌∙◌, arith, cond, inl, inr, slice_index}
use Rattle.std.specs.List.{AllPairs}
use Rattle.std.proofs.lemmas.Bool.{cases_Bool}
use Rattle.std.proofs.lemmas.Option.{same_Some, slice_get_within, get_or_from_slice_get}
use Rattle.wx_base.specs.Monitor.{is_one_of}
use Rattle.flow_ctx.specs.declared.unfolded.Edge.{Edge}
use Rattle.flow_ctx.specs.declared.unfolded.ULoop.{ULoop}
use Rattle.cert_prices.specs.Sums.{AreGiven, Sets, given}
use Rattle.cert_prices.proofs.SumLemmas.{sum_places-more, sum_places-none}

-- the edges that a loop gives its price to lead to its head
pub record AllLeadInto (edges : List Edge) (edges_of : ULoop → List ℕ) (loops : List ULoop) : Type 0 where
  pub each : (i : ℕ) (l : ULoop) (number : ℕ) → slice_get loops i ≡ Some l → is_one_of (edges_of l) number ≡ true
      → (e : Edge) × (slice_get edges number ≡ Some e) × (e.to ≡ l.head)

-- heads ascend by the loops' places
ascends : (loops : List ULoop) (i j : ℕ) (l m : ULoop) → AllPairs (λ l m. l.head < m.head) loops → slice_get loops i ≡ Some l
    → slice_get loops j ≡ Some m → i < j → l.head < m.head
ascends loops i j l m pairs at there h =
    subst (λ (x : ULoop). x.head < m.head) (get_or_from_slice_get loops i l l at)
    (subst (λ (y : ULoop). (get_or loops i l).head < y.head) (get_or_from_slice_get loops j m l there)
    (pairs i j l h (slice_get_within loops j m there)))

-- no edge is given a price by two loops
apart : (edges : List Edge) (edges_of : ULoop → List ℕ) (loops : List ULoop) → AllLeadInto edges edges_of loops
    → AllPairs (λ l m. l.head < m.head) loops → (i j : ℕ) (l m : ULoop) (number : ℕ) → slice_get loops i ≡ Some l → slice_get loops j ≡ Some m
    → i < j → is_one_of (edges_of l) number ≡ true → is_one_of (edges_of m) number ≡ true → ⊥
apart edges edges_of loops into pairs i j l m number at there h a b =
    let x = into.each i l number at a in
    let y = into.each j m number there b in
    let same : x.0.to ≡ y.0.to = ap (λ (e : Edge). e.to) (same_Some x.0 y.0 (sym x.1 ∙ y.1)) in
    let less = ascends loops i j l m pairs at there h in
    omega (arith, same, x.2, y.2, less)

-- an element of a front of a list is one of the list
pub of_front : {A : Type 0} (xs : List A) (i k : ℕ) (x : A) → slice_get (take i xs) k ≡ Some x → (slice_get xs k ≡ Some x) × (k < i)
of_front xs zero k x e = absurd (omega (arith, slice_get_within [] k x e))
of_front [] (suc i) k x e = absurd (omega (arith, slice_get_within [] k x e))
of_front (y ∷ xs) (suc i) zero x e = (e, omega arith)
of_front (y ∷ xs) (suc i) (suc k) x e = let r = of_front xs i k x e in (r.0, omega (arith, r.1))

length_front : {A : Type 0} (xs : List A) (i : ℕ) → i ≤ length xs → length (take i xs) ≡ i
length_front xs zero h = refl
length_front [] (suc i) h = absurd (omega arith)
length_front (x ∷ xs) (suc i) h = ap suc (length_front xs i (omega arith))

module _ (edges : List Edge) (edges_of : ULoop → List ℕ) (loops : List ULoop) (into : AllLeadInto edges edges_of loops)
    (pairs : AllPairs (λ l m. l.head < m.head) loops) (prices : List ℕ) where
  abbrev worth : ℕ → ℕ → ULoop → ℕ
  worth edge number l = cond (is_one_of (edges_of l) edge) (slice_index prices number) 0

  no_earlier : (i : ℕ) (l : ULoop) (edge : ℕ) → slice_get loops i ≡ Some l → is_one_of (edges_of l) edge ≡ true
      → given edges_of (take i loops) prices edge ≡ 0
  no_earlier i l edge at here = sum_places-none (worth edge) 0 (take i loops)
      (λ k x e.
      let r = of_front loops i k x e in
      elim (cases_Bool (is_one_of (edges_of x) edge)) [
        | inl there ↦ absurd (apart edges edges_of loops into pairs k i x l edge r.0 at r.1 there here)
        | inr gone ↦ ap (λ b. cond b (slice_index prices (0 + k)) 0) gone
      ])

  -- the edges of one more loop get its price
  pub given_more : (i count : ℕ) (l : ULoop) (old new : List ℕ) → i < length loops → slice_get loops i ≡ Some l
      → Sets (edges_of l) (slice_index prices i) old new → AreGiven edges_of (take i loops) count prices old
      → AreGiven edges_of (take (i + 1) loops) count prices new
  given_more i count l old new h at sets were = record {
    long = sets.long ∙ were.long;
    each = λ edge below.
        let one = sum_places-more (worth edge) 0 loops i l h in
        let front = length_front loops i (omega (arith, h)) in
        let place : 0 + length (take i loops) ≡ i = omega (arith, front) in
        let so : given edges_of (take (i + 1) loops) prices edge ≡ given edges_of (take i loops) prices edge + worth edge i l
        = subst (λ n. given edges_of (take (i + 1) loops) prices edge ≡ given edges_of (take i loops) prices edge + worth edge n l) place
        (subst (λ (x : ULoop). given edges_of (take (i + 1) loops) prices edge ≡ given edges_of (take i loops) prices edge + worth edge (0 + length (take i loops)) x)
        (get_or_from_slice_get loops i l l at) one) in
        let is = sets.each edge (subst (λ n. edge < n) (sym were.long) below) in
        let was = were.each edge below in
        elim (cases_Bool (is_one_of (edges_of l) edge)) [
          | inl there ↦
              let zero = no_earlier i l edge at there in
              let now : slice_index new edge ≡ slice_index prices i = is ∙ ap (λ b. cond b (slice_index prices i) (slice_index old edge)) there in
              let w : worth edge i l ≡ slice_index prices i = ap (λ b. cond b (slice_index prices i) 0) there in
              omega (arith, so, zero, now, w)
          | inr gone ↦
              let now : slice_index new edge ≡ slice_index old edge = is ∙ ap (λ b. cond b (slice_index prices i) (slice_index old edge)) gone in
              let w : worth edge i l ≡ 0 = ap (λ b. cond b (slice_index prices i) 0) gone in
              omega (arith, so, was, now, w)
        ];
  }
