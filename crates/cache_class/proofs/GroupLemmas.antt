-- A table has one list of groups.
use Rattle.std.proofs.Common.{◌≡◌, ℕ, zero, suc, ◌<◌, ◌⊎◌, List, [], ◌∷◌, length, get_or, refl, sym, ap, ◌∙◌, subst, inl, inr, arith}
use Rattle.std.specs.List.{AllPairs, Contains}
use Rattle.flow_ctx.specs.declared.scope.Scope.{Scope}
use Rattle.flow_ctx.specs.declared.scope.Scope.TheVariants.{Run, Loop}
use Rattle.cache_class.specs.declared.group.Group.{Group}
use Rattle.cache_class.specs.Groups.{IsScopeBefore, IsGroupBefore}
use Rattle.cache_class.specs.Laws.{GroupsAreOne}
use Rattle.cache_class.proofs.Ascending.{one_list}

scope_through : (a b c : Scope) → IsScopeBefore a b → IsScopeBefore b c → IsScopeBefore a c
scope_through Run Run c p q = absurd p
scope_through Run (Loop m) Run p q = absurd q
scope_through Run (Loop m) (Loop n) p q = tt
scope_through (Loop k) Run c p q = absurd p
scope_through (Loop k) (Loop m) Run p q = absurd q
scope_through (Loop k) (Loop m) (Loop n) p q = omega (arith, p, q)

scope_apart : (a : Scope) → IsScopeBefore a a → ⊥
scope_apart Run p = p
scope_apart (Loop k) p = omega (arith, p)

group_through : (a b c : Group) → IsGroupBefore a b → IsGroupBefore b c → IsGroupBefore a c
group_through a b c (inl p) (inl q) = inl (omega (arith, p, q))
group_through a b c (inl p) (inr q) = inl (omega (arith, p, q.0))
group_through a b c (inr p) (inl q) = inl (omega (arith, p.0, q))
group_through a b c (inr p) (inr q) = inr (p.0 ∙ q.0, scope_through a.scope b.scope c.scope p.1 q.1)

itself_apart : (a : Group) → IsGroupBefore a a → ⊥
itself_apart a (inl p) = omega (arith, p)
itself_apart a (inr p) = scope_apart a.scope p.1

group_apart : (a b : Group) → a ≡ b → IsGroupBefore a b → ⊥
group_apart a b e p = itself_apart b (subst (λ (g : Group). IsGroupBefore g b) e p)

pub groups_one : GroupsAreOne
groups_one u table groups others a b =
    one_list IsGroupBefore group_through group_apart groups others a.ascending b.ascending
    (λ g c. (b.exact g).1 ((a.exact g).0 c)) (λ g c. (a.exact g).1 ((b.exact g).0 c))
