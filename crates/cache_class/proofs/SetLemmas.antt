-- What a set has behind an insertion.
use Rattle.std.proofs.Common.{◌≡◌, ◌⊎◌, ◌↔◌, Bool, true, false, cond, refl, sym, ◌∙◌, ap, subst, inl, inr, true≢false}
use Rattle.std.specs.BTreeSet.{BTreeSet, contains, Updates}
use Rattle.std.specs.Cmp.{IsTotalOrder}
use Rattle.std.specs.List.{Contains}
use Rattle.std.specs.Ordering.{is_eq}
use Rattle.std.specs.declared.cmp.Ordering.{Ordering}
use Rattle.std.specs.declared.cmp.Ordering.TheVariants.{Less, Equal, Greater}
use Rattle.std.proofs.lemmas.Cmp.{tied_itself}
use Rattle.std.proofs.lemmas.Map.Lookups.{CmpEqualImpliesEq}
use Rattle.std.proofs.lemmas.Map.Views.{btree_set_contains_iff}

tied : (o : Ordering) → is_eq o ≡ true → o ≡ Equal
tied Less e = absurd (true≢false (sym e))
tied Equal e = refl
tied Greater e = absurd (true≢false (sym e))

module _ {K : Type 0} {R : K → K → Ordering} (total : IsTotalOrder R) (exact : CmpEqualImpliesEq R) where
  pub inserted : (old new : BTreeSet K) (key : K) → Updates R old new key true
      → (other : K) → Contains new.keys other ↔ (Contains old.keys other ⊎ (other ≡ key))
  inserted old new key updates other = (
    λ c. there (is_eq (R key other)) refl ((btree_set_contains_iff total exact new other).1 c),
    λ e. (btree_set_contains_iff total exact new other).0 (elim e [
      | inl c ↦ kept (is_eq (R key other)) refl ((btree_set_contains_iff total exact old other).1 c)
      | inr same ↦ updates.0 other ∙ ap (λ (b : Bool). cond b true (contains R old other)) (ap is_eq (subst (λ (k : K). R key k ≡ Equal) (sym same) (tied_itself total key)))
    ]),
  )
    where
      there : (b : Bool) → is_eq (R key other) ≡ b → contains R new other ≡ true → Contains old.keys other ⊎ (other ≡ key)
      there true e c = inr (sym (exact key other (tied (R key other) e)))
      there false e c = inl ((btree_set_contains_iff total exact old other).0 (sym (updates.0 other ∙ ap (λ (b : Bool). cond b true (contains R old other)) e) ∙ c))

      kept : (b : Bool) → is_eq (R key other) ≡ b → contains R old other ≡ true → contains R new other ≡ true
      kept true e c = updates.0 other ∙ ap (λ (b : Bool). cond b true (contains R old other)) e
      kept false e c = updates.0 other ∙ ap (λ (b : Bool). cond b true (contains R old other)) e ∙ c
