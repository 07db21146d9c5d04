use Rattle.std.proofs.Common.{◌≡◌, ℕ, ◌||◌, List, map, take}
use Rattle.cert_text.specs.Pool.{is_listed, is_of}
use Rattle.cert_text.proofs.pool.add_family.Given as goal

abbrev pub invariant-loop-vector : goal.invariant-loop-vector
invariant-loop-vector l = (slots : List ℕ) → is_listed slots (map (λ v. v.now) l.set.keys) ≡ (is_listed slots (map (λ v. v.now) l.initial.set.keys) || is_of slots (take l.vector-index l.family))
