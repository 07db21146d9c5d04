-- Groups as keys of a set.
use Rattle.std.proofs.Common.{◌≡◌, ℕ, ◌<◌, ◌⊎◌, ◌↔◌, true, List, length, get_or, map, Option, Some, None, refl, sym, ◌∙◌, ap, subst, inl, inr, arith}
use Rattle.std.specs.BTreeSet.{BTreeSet, Updates}
use Rattle.std.specs.Cmp.{IsTotalOrder}
use Rattle.std.specs.Cmp.Lexicographic.{options_total}
use Rattle.std.specs.List.{AllPairs, Contains}
use Rattle.std.specs.List.Sorted.{IsStrictlySortedBy}
use Rattle.std.specs.Option.{option_cmp}
use Rattle.std.specs.Ordering.{MatchOrdering, nat_cmp, ordering_then}
use Rattle.std.specs.declared.cmp.Ordering.{Ordering}
use Rattle.std.specs.declared.cmp.Ordering.TheVariants.{Less, Equal, Greater}
use Rattle.std.proofs.lemmas.Cmp.{nat_cmp_total, on_total, then_total, ranked}
use Rattle.std.proofs.lemmas.List.{length-map, get_or-map}
use Rattle.std.proofs.lemmas.Map.Keys.{Less-from_sorted}
use Rattle.std.proofs.lemmas.Map.Lookups.{CmpEqualImpliesEq, exact_unsigned, exact_pairs}
use Rattle.std.proofs.lemmas.Option.{same_Some}
use Rattle.flow_ctx.specs.declared.scope.Scope.{Scope}
use Rattle.flow_ctx.specs.declared.scope.Scope.TheVariants.{Run, Loop}
use Rattle.cache_class.specs.declared.group.Group.{Group}
use Rattle.cache_class.specs.Groups.{IsGroupBefore, IsScopeBefore}
use Rattle.cache_class.specs.GroupsSoFar.{group_at, key_cmp, scope_at}
use Rattle.cache_class.proofs.SetLemmas.{inserted}

abbrev Key : Type 0
Key = ℕ × Option ℕ

-- ---- the order of keys is that of groups

key_total : IsTotalOrder key_cmp
key_total = then_total (on_total (λ (k : Key). k.0) nat_cmp_total) (on_total (λ (k : Key). k.1) (options_total nat_cmp_total))

number_exact : CmpEqualImpliesEq (option_cmp nat_cmp)
number_exact None None e = refl
number_exact None (Some n) e = absurd (cc)
number_exact (Some m) None e = absurd (cc)
number_exact (Some m) (Some n) e = ap Some (exact_unsigned m n e)

key_exact : CmpEqualImpliesEq key_cmp
key_exact = exact_pairs nat_cmp (option_cmp nat_cmp) exact_unsigned number_exact

less_or_same : (m n : ℕ) (o : Ordering) (first : Ordering) → MatchOrdering first (m < n) (m ≡ n) (n < m) → ordering_then first o ≡ Less → (m < n) ⊎ ((m ≡ n) × (o ≡ Less))
less_or_same m n o Less p e = inl p
less_or_same m n o Equal p e = inr (p, e)
less_or_same m n o Greater p e = absurd (cc)

less : (m n : ℕ) (o : Ordering) → MatchOrdering o (m < n) (m ≡ n) (n < m) → o ≡ Less → m < n
less m n Less p e = p
less m n Equal p e = absurd (cc)
less m n Greater p e = absurd (cc)

scope_before : (m n : Option ℕ) → option_cmp nat_cmp m n ≡ Less → IsScopeBefore (scope_at m) (scope_at n)
scope_before None None e = absurd (cc)
scope_before None (Some n) e = tt
scope_before (Some m) None e = absurd (cc)
scope_before (Some m) (Some n) e = less m n (nat_cmp m n) (ranked m n (nat_cmp m n) refl) e

group_before : (x y : Key) → key_cmp x y ≡ Less → IsGroupBefore (group_at x) (group_at y)
group_before x y e = elim (less_or_same x.0 y.0 (option_cmp nat_cmp x.1 y.1) (nat_cmp x.0 y.0) (ranked x.0 y.0 (nat_cmp x.0 y.0) refl) e) [
  | inl h ↦ inl h
  | inr p ↦ inr (p.0, scope_before x.1 y.1 p.1)
]

-- ---- each group has one key

number_at : Scope → Option ℕ
number_at Run = None
number_at (Loop number) = Some number

key_at : Group → Key
key_at group = (group.line, number_at group.scope)

scope_again : (scope : Scope) → scope_at (number_at scope) ≡ scope
unfolding number_at
scope_again Run = refl
scope_again (Loop number) = refl

number_again : (number : Option ℕ) → number_at (scope_at number) ≡ number
unfolding number_at
number_again None = refl
number_again (Some number) = refl

group_again : (group : Group) → group_at (key_at group) ≡ group
unfolding key_at
group_again group = λ i. record { line = group.line; scope = scope_again group.scope i }

key_again : (key : Key) → key_at (group_at key) ≡ key
unfolding key_at
key_again key = λ i. (key.0, number_again key.1 i)

at_key : (keys : List Key) (group : Group) (k : ℕ) → k < length keys → get_or (map group_at keys) k group ≡ group_at (get_or keys k (key_at group))
at_key keys group k h =
    ap (λ (d : Group). get_or (map group_at keys) k d) (sym (group_again group)) ∙ get_or-map group_at keys k (key_at group) (group_at (key_at group)) h

kept : (keys : List Key) (group : Group) → Contains (map group_at keys) group → Contains keys (key_at group)
kept keys group c =
    let h : c.0 < length keys = omega (arith, c.1, length-map keys group_at) in
    let same : group_at (get_or keys c.0 (key_at group)) ≡ group = sym (at_key keys group c.0 h) ∙ c.2 in
    (c.0, h, sym (key_again (get_or keys c.0 (key_at group))) ∙ ap key_at same)

unkept : (keys : List Key) (group : Group) → Contains keys (key_at group) → Contains (map group_at keys) group
unkept keys group c =
    (c.0, omega (arith, c.1, length-map keys group_at), at_key keys group c.0 c.1 ∙ ap group_at c.2 ∙ group_again group)

-- ---- sets of keys

pub groups_ascend : (keys : List Key) → IsStrictlySortedBy key_cmp keys → AllPairs IsGroupBefore (map group_at keys)
groups_ascend keys sorted i j d before within =
    let h : j < length keys = omega (arith, within, length-map keys group_at) in
    let step = group_before (get_or keys i (key_at d)) (get_or keys j (key_at d)) (Less-from_sorted key_cmp keys i j (key_at d) sorted before h) in
    subst (λ (g : Group). IsGroupBefore g (get_or (map group_at keys) j d)) (sym (at_key keys d i (omega (arith, before, h))))
    (subst (λ (g : Group). IsGroupBefore (group_at (get_or keys i (key_at d))) g) (sym (at_key keys d j h)) step)

-- the group of an event was added
pub event_added : (old new : BTreeSet Key) (key : Key) (found : Option Group) → Updates key_cmp old new key true → Some (group_at key) ≡ found
    → (group : Group) → Contains (map group_at new.keys) group ↔ (Contains (map group_at old.keys) group ⊎ (found ≡ Some group))
event_added old new key found updates is group = (
  λ c. elim ((inserted key_total key_exact old new key updates (key_at group)).0 (kept new.keys group c)) [
    | inl k ↦ inl (unkept old.keys group k)
    | inr e ↦ inr (sym is ∙ ap Some (sym (ap group_at e) ∙ group_again group))
  ],
  λ e. unkept new.keys group ((inserted key_total key_exact old new key updates (key_at group)).1 (elim e [
    | inl c ↦ inl (kept old.keys group c)
    | inr f ↦ inr (sym (ap key_at (same_Some (group_at key) group (is ∙ f))) ∙ key_again key)
  ])),
)

-- an event belongs to no group
pub event_without : (groups : List Group) (found : Option Group) → None ≡ found → (group : Group) → Contains groups group ↔ (Contains groups group ⊎ (found ≡ Some group))
event_without groups found is group = (λ c. inl c, λ e. elim e [ inl c ↦ c | inr f ↦ absurd (none (is ∙ f)) ])
  where
    none : None ≡ Some group → ⊥
    none e = cc
