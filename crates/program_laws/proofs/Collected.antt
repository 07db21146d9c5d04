-- Lists of what there is, in the order of keys.
use Rattle.std.proofs.Common.{◌≡◌, ⊎_elim, ℕ, zero, suc, ◌<◌, List, [], ◌∷◌, ◌++◌, map, length, get_or, All, sym, ap, ◌∙◌, subst, arith}
use Rattle.std.specs.List.{AllPairs, Any}
use Rattle.std.proofs.lemmas.Bool.{cases_lt}
use Rattle.std.proofs.lemmas.List.{get_or-map, get_or_append_left, length-append, length-map}
use Rattle.std.proofs.lemmas.List.Elements.{All-push}
use Rattle.std.proofs.lemmas.List.Quantifiers.{Any-push, all_pairs_push}

-- values whose keys ascend, each with what is asked of it, one for each key below a limit that has something
pub record AreBelow {A : Type 0} (key : A → ℕ) (Q : A → Type 0) (P : ℕ → Type 0) (limit : ℕ) (values : List A) : Type 0 where
  pub ascending : AllPairs (λ x y. key x < key y) values
  pub each : All (λ x. Q x × (key x < limit)) values
  pub whole : (k : ℕ) → k < limit → P k → Any (λ x. key x ≡ k) values

any_sooner : {A : Type 0} (P : A → Type 0) (xs : List A) (x : A) → Any P xs → Any P (xs ++ x ∷ [])
any_sooner P xs x h =
    let size = length-append xs (x ∷ []) in
    (h.0, h.1, omega (arith, size, h.2), get_or_append_left xs (x ∷ []) h.1 h.0 h.2 ∙ h.3, h.4)

collected : {A : Type 0} (key : A → ℕ) (Q : A → Type 0) (P : ℕ → Type 0) → ((k : ℕ) → P k → ((x : A) → key x ≡ k → Q x → ⊥) → ⊥) → (limit : ℕ) → ((values : List A) → AreBelow key Q P limit values → ⊥) → ⊥
collected key Q P make zero stop =
    stop []
    (record {
      ascending = λ i j d before inside. absurd (omega (arith, inside));
      each = λ k d inside. absurd (omega (arith, inside));
      whole = λ k below p. absurd (omega (arith, below));
    })
collected key Q P make (suc limit) stop =
    collected key Q P make limit
    (λ values are.
    stop values
    (record {
      ascending = are.ascending;
      each = λ k d inside. let h = are.each k d inside in (h.0, omega (arith, h.1));
      whole = λ k below p.
          ⊎_elim (λ less. are.whole k less p)
          (λ more.
          let last : k ≡ limit = omega (arith, below, more) in
          absurd (make limit (subst P last p) (λ x e q. stop (values ++ x ∷ []) (with_last values are x e q))))
          (cases_lt k limit);
    }))
  where
    with_last : (values : List _) → AreBelow key Q P limit values → (x : _) → key x ≡ limit → Q x → AreBelow key Q P (suc limit) (values ++ x ∷ [])
    with_last values are x e q = record {
      ascending = all_pairs_push (λ a b. key a < key b) values x are.ascending (λ k d inside. let h = are.each k d inside in omega (arith, h.1, e));
      each =
          All-push (λ y. Q y × (key y < suc limit)) values x (λ k d inside. let h = are.each k d inside in (h.0, omega (arith, h.1)))
          (q, omega (arith, e));
      whole = λ k below p.
          ⊎_elim (λ less. any_sooner (λ y. key y ≡ k) values x (are.whole k less p))
          (λ more. Any-push (λ y. key y ≡ k) values x (omega (arith, e, below, more)))
          (cases_lt k limit);
    }

-- values whose keys ascend, each with what is asked of it, one for each key that has something
pub record AreAll {A : Type 0} (key : A → ℕ) (Q : A → Type 0) (P : ℕ → Type 0) (values : List A) : Type 0 where
  pub ascending : AllPairs (λ x y. key x < key y) values
  pub each : All Q values
  pub whole : (k : ℕ) → P k → Any (λ x. key x ≡ k) values

-- where all keys lie below a limit there is such a list
pub collect : {A : Type 0} (key : A → ℕ) (Q : A → Type 0) (P : ℕ → Type 0) (limit : ℕ) → ((k : ℕ) → P k → k < limit) → ((k : ℕ) → P k → ((x : A) → key x ≡ k → Q x → ⊥) → ⊥)
    → ((values : List A) → AreAll key Q P values → ⊥) → ⊥
collect key Q P limit within make stop =
    collected key Q P make limit
    (λ values are. stop values (record { ascending = are.ascending; each = λ k d inside. (are.each k d inside).0; whole = λ k p. are.whole k (within k p) p }))

-- ---- the same of what values are seen as
pub pairs_map : {A B : Type 0} (f : A → B) (R : B → B → Type 0) (xs : List A) → AllPairs (λ x y. R (f x) (f y)) xs → AllPairs R (map f xs)
pairs_map f R [] all i j d before inside = absurd (omega (arith, inside))
pairs_map f R (x ∷ xs) all i j d before inside =
    let size = length-map (x ∷ xs) f in
    let last : j < length (x ∷ xs) = omega (arith, size, inside) in
    let a = get_or-map f (x ∷ xs) i x d (omega (arith, before, last)) in
    let b = get_or-map f (x ∷ xs) j x d last in
    subst (λ y. R y (get_or (map f (x ∷ xs)) j d)) (sym a) (subst (R (f (get_or (x ∷ xs) i x))) (sym b) (all i j x before last))

pub any_map : {A B : Type 0} (f : A → B) (P : B → Type 0) (xs : List A) → Any (λ x. P (f x)) xs → Any P (map f xs)
any_map f P xs h =
    let size = length-map xs f in
    (h.0, f h.1, omega (arith, size, h.2), get_or-map f xs h.0 h.1 (f h.1) h.2 ∙ ap f h.3, h.4)
