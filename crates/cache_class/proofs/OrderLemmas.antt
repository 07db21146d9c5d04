-- All loops in the order in which they lie within one another.
use Rattle.std.proofs.Common.{◌≡◌, ℕ, zero, suc, ◌+◌, ◌-◌, ◌<◌, ◌≤◌, ◌⊎◌, ◌↔◌, List, [], ◌∷◌, ◌++◌, length, get_or, slice_get, Some, None, sym, ap, ◌∙◌, subst, inl, inr, arith}
use Rattle.std.specs.List.{AllPairs, Contains}
use Rattle.std.proofs.lemmas.Bool.{cases_lt}
use Rattle.std.proofs.lemmas.List.Elements.{Contains-append_left, Contains-push, Contains-push_cases, Contains-get_or}
use Rattle.std.proofs.lemmas.List.Quantifiers.{all_pairs_push}
use Rattle.std.proofs.lemmas.Option.{get_or_from_slice_get, slice_get-get_or, slice_get_within}
use Rattle.wx_base.specs.Facts.{AreAscending}
use Rattle.flow_ctx.specs.declared.scope.Scope.TheVariants.{Loop}
use Rattle.flow_ctx.specs.declared.unfolded.ULoop.{ULoop}
use Rattle.flow_ctx.specs.declared.unfolded.Unfolded.{Unfolded}
use Rattle.flow_ctx.specs.Unfolding.{IsUnfolding, IsLoop}
use Rattle.cache_class.specs.Classes.{size_of, IsOutside}
use Rattle.cache_class.specs.Chains.{IsLarge, AreListed, AreOrdered}
use Rattle.cache_flow.specs.Flows.{Part}
use Rattle.cache_class.proofs.TableLemmas.{loop_part}

-- ---- one number more

module _ (u : Unfolded) (size count : ℕ) (order : List ℕ) (so : AreListed u size count order) where
  pub listed_skip : (size_of u (Loop count) ≡ size → ⊥) → AreListed u size (count + 1) order
  listed_skip other = record {
    outside_in = so.outside_in;
    exact = λ number. (λ c. let l = (so.exact number).0 c in (l.0, more number l.1), λ l. (so.exact number).1 (l.0, less number l.1));
  }
    where
      more : (number : ℕ) → IsLarge u size count number → IsLarge u size (count + 1) number
      more number (inl h) = inl h
      more number (inr p) = inr (p.0, omega (arith, p.1))

      less : (number : ℕ) → IsLarge u size (count + 1) number → IsLarge u size count number
      less number (inl h) = inl h
      less number (inr p) = elim (cases_lt number count) [
        | inl lt ↦ inr (p.0, lt)
        | inr ge ↦ let e : number ≡ count = omega (arith, p.1, ge) in absurd (other (subst (λ (n : ℕ). size_of u (Loop n) ≡ size) e p.0))
      ]

  outside_new : size_of u (Loop count) ≡ size → (number : ℕ) → IsLarge u size count number → IsOutside u (Loop number) (Loop count)
  outside_new e number (inl h) = inl (omega (arith, h, e))
  outside_new e number (inr p) = inr (p.0 ∙ sym e, p.1)

  pub listed_push : size_of u (Loop count) ≡ size → count < length u.loops → AreListed u size (count + 1) (order ++ count ∷ [])
  listed_push e inside = record {
    outside_in = all_pairs_push (λ k m. IsOutside u (Loop k) (Loop m)) order count so.outside_in
        (λ k d h. outside_new e (get_or order k d) ((so.exact (get_or order k d)).0 (Contains-get_or order k d h)).1);
    exact = λ number. (λ c. there number (Contains-push_cases order count number c), λ l. back number l.0 l.1);
  }
    where
      there : (number : ℕ) → Contains order number ⊎ (count ≡ number) → (number < length u.loops) × IsLarge u size (count + 1) number
      there number (inl c) = let l = (so.exact number).0 c in (l.0, grown number l.1)
        where
          grown : (n : ℕ) → IsLarge u size count n → IsLarge u size (count + 1) n
          grown n (inl h) = inl h
          grown n (inr p) = inr (p.0, omega (arith, p.1))
      there number (inr same) = (omega (arith, inside, same), inr (ap (λ n. size_of u (Loop n)) (sym same) ∙ e, omega (arith, same)))

      back : (number : ℕ) → number < length u.loops → IsLarge u size (count + 1) number → Contains (order ++ count ∷ []) number
      back number h (inl large) = Contains-append_left order (count ∷ []) number ((so.exact number).1 (h, inl large))
      back number h (inr p) = elim (cases_lt number count) [
        | inl lt ↦ Contains-append_left order (count ∷ []) number ((so.exact number).1 (h, inr (p.0, lt)))
        | inr ge ↦ let same : count ≡ number = omega (arith, p.1, ge) in subst (λ (n : ℕ). Contains (order ++ count ∷ []) n) same (Contains-push order count)
      ]

-- ---- sizes from the largest down

-- a loop has no more nodes than there are
rising_far : (numbers : List ℕ) → AreAscending numbers → (k : ℕ) → k < length numbers → k ≤ get_or numbers k 0
rising_far numbers up zero h = omega arith
rising_far numbers up (suc k) h = omega (arith, rising_far numbers up k (omega (arith, h)), up k (suc k) 0 (omega arith) h)

short : (numbers : List ℕ) (most : ℕ) → AreAscending numbers → ((n : ℕ) → Contains numbers n → n < most) → length numbers ≤ most
short numbers most up within = elim (cases_lt most (length numbers)) [
  | inr le ↦ le
  | inl more ↦ absurd (omega (arith, rising_far numbers up most more, within (get_or numbers most 0) (Contains-get_or numbers most 0 more)))
]

pub members_within : (u : Unfolded) → IsUnfolding u.program u → (number : ℕ) (l : ULoop) → slice_get u.loops number ≡ Some l → (n : ℕ) → Contains l.members n → n < length u.nodes
members_within u is number l at n c =
    let inside = slice_get_within u.loops number l at in
    let loops = subst (λ (x : ULoop). IsLoop u.program u.nodes u.edges x) (get_or_from_slice_get u.loops number l l at) (is.loops.each number l inside) in
    let member = (loops.members n).0 c in
    slice_get_within u.nodes n member.node member.stands

pub members_ascend : (u : Unfolded) → IsUnfolding u.program u → (number : ℕ) (l : ULoop) → slice_get u.loops number ≡ Some l → AreAscending l.members
members_ascend u is number l at =
    (subst (λ (x : ULoop). IsLoop u.program u.nodes u.edges x) (get_or_from_slice_get u.loops number l l at) (is.loops.each number l (slice_get_within u.loops number l at))).members_ascend

-- a loop's nodes, by its number
pub size_is : (u : Unfolded) (number : ℕ) (l : ULoop) → slice_get u.loops number ≡ Some l → size_of u (Loop number) ≡ length l.members
size_is u number l at = ap (λ (p : Part). length p.members) (loop_part u number l at)

no_larger : (u : Unfolded) → IsUnfolding u.program u → (number : ℕ) → number < length u.loops → size_of u (Loop number) ≤ length u.nodes
no_larger u is number h =
    let l = get_or u.loops number nowhere in
    let at = slice_get-get_or u.loops number nowhere h in
    omega (arith, size_is u number l at, short l.members (length u.nodes) (members_ascend u is number l at) (members_within u is number l at))
  where
    nowhere : ULoop
    nowhere = record { head = 0; members = []; back = []; entries = []; maxcount = 0; totalcount = None }

pub record AreDown (u : Unfolded) (fewer : ℕ) (order : List ℕ) : Type 0 where
  pub outside_in : AllPairs (λ k m. IsOutside u (Loop k) (Loop m)) order
  pub exact : (number : ℕ) → Contains order number ↔ ((number < length u.loops) × (length u.nodes < size_of u (Loop number) + fewer))

pub down_none : (u : Unfolded) → IsUnfolding u.program u → AreDown u 0 []
down_none u is = record {
  outside_in = λ i j d less h. absurd (omega (arith, h));
  exact = λ number. (λ c. absurd (omega (arith, c.1)), λ l. absurd (omega (arith, l.1, no_larger u is number l.0)));
}

pub down_listed : (u : Unfolded) (fewer : ℕ) (order : List ℕ) → fewer ≤ length u.nodes → AreDown u fewer order → AreListed u (length u.nodes - fewer) 0 order
down_listed u fewer order h so = record {
  outside_in = so.outside_in;
  exact = λ number. (
    λ c. let l = (so.exact number).0 c in (l.0, inl (omega (arith, h, l.1))),
    λ l. (so.exact number).1 (l.0, large number l.1),
  );
}
  where
    large : (number : ℕ) → IsLarge u (length u.nodes - fewer) 0 number → length u.nodes < size_of u (Loop number) + fewer
    large number (inl p) = omega (arith, h, p)
    large number (inr p) = absurd (omega (arith, p.1))

pub listed_down : (u : Unfolded) (fewer : ℕ) (order : List ℕ) → fewer ≤ length u.nodes → AreListed u (length u.nodes - fewer) (length u.loops) order → AreDown u (fewer + 1) order
listed_down u fewer order h so = record {
  outside_in = so.outside_in;
  exact = λ number. (
    λ c. let l = (so.exact number).0 c in (l.0, large number l.1),
    λ l. (so.exact number).1 (l.0, back number l.0 l.1),
  );
}
  where
    large : (number : ℕ) → IsLarge u (length u.nodes - fewer) (length u.loops) number → length u.nodes < size_of u (Loop number) + (fewer + 1)
    large number (inl p) = omega (arith, h, p)
    large number (inr p) = omega (arith, h, p.0)

    back : (number : ℕ) → number < length u.loops → length u.nodes < size_of u (Loop number) + (fewer + 1) → IsLarge u (length u.nodes - fewer) (length u.loops) number
    back number inside p = elim (cases_lt (length u.nodes - fewer) (size_of u (Loop number))) [
      | inl lt ↦ inl lt
      | inr ge ↦ inr (omega (arith, h, p, ge), inside)
    ]

pub down_all : (u : Unfolded) (order : List ℕ) → AreDown u (length u.nodes + 1) order → AreOrdered u order
down_all u order so = record {
  outside_in = so.outside_in;
  exact = λ number. (λ c. ((so.exact number).0 c).0, λ h. (so.exact number).1 (h, omega arith));
}
