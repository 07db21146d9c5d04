-- The entries of a table as a finite map.
use Rattle.std.proofs.Common.{◌≡◌, ℕ, Bool, true, false, cond, List, [], ◌∷◌, Option, Some, refl, sym, ap, ◌∙◌, eqb, is_some, ◌||◌}
use Rattle.std.specs.Option.{unwrap_or}
use Rattle.std.specs.Ordering.{nat_cmp}
use Rattle.std.specs.Cmp.{nat_cmp_total, unsigned_tied, nat_eq_equiv}
use Rattle.std.specs.FinMap as map
use Rattle.std.specs.FinMap.{find, get-from_entries, get-insert, same_map, nat_cmp-IsAntisymmetric}
use Rattle.std.specs.Map.{lookup}
use Rattle.wx_mem.specs.Memory.{Written}

find_lookup : (q : ℕ) (es : List (ℕ × ℕ)) → find nat_cmp q es ≡ lookup (eqb q) es
find_lookup q [] = refl
find_lookup q (e ∷ es) = λ i. cond (unsigned_tied q e.0 i) (Some e.1) (find_lookup q es i)

-- the map of entries answers as a search of them
pub found : (es : List (ℕ × ℕ)) (q : ℕ) → map.get (map.from_entries {R = nat_cmp} es) q ≡ lookup (eqb q) es
found es q = get-from_entries nat_cmp_total es q ∙ find_lookup q es

-- what a map has after an entry is put into it
pub got : (m : Written) (k v q : ℕ) → map.get (map.insert m k v) q ≡ cond (eqb q k) (Some v) (map.get m q)
got m k v q = get-insert nat_cmp_total m k v q ∙ ap (λ b. cond b (Some v) (map.get m q)) (unsigned_tied q k)

-- entries that answer alike make one map
pub same : (es fs : List (ℕ × ℕ)) → ((q : ℕ) → lookup (eqb q) fs ≡ lookup (eqb q) es) → ◌≡◌ {A = Written} (map.from_entries fs) (map.from_entries es)
same es fs h = same_map nat_cmp_total nat_cmp-IsAntisymmetric _ _ (λ q. found fs q ∙ h q ∙ sym (found es q))

-- entries that answer as others after one more was put among them
pub put : (es fs : List (ℕ × ℕ)) (k v : ℕ) → ((q : ℕ) → lookup (eqb q) fs ≡ cond (eqb k q) (Some v) (lookup (eqb q) es))
    → ◌≡◌ {A = Written} (map.from_entries fs) (map.insert (map.from_entries es) k v)
put es fs k v h = same_map nat_cmp_total nat_cmp-IsAntisymmetric _ _ (λ q.
    found fs q ∙ h q ∙ (λ i. cond (nat_eq_equiv.symm k q i) (Some v) (sym (found es q) i)) ∙ sym (got (map.from_entries es) k v q))

-- the byte where a write is read, and elsewhere
pub chosen : (t : Bool) (b fill : ℕ) (o : Option ℕ) → unwrap_or (cond t (Some b) o) fill ≡ cond t b (unwrap_or o fill)
chosen true b fill o = refl
chosen false b fill o = refl

pub marked : (t : Bool) (b : ℕ) (o : Option ℕ) → is_some (cond t (Some b) o) ≡ (t || is_some o)
marked true b o = refl
marked false b o = refl
