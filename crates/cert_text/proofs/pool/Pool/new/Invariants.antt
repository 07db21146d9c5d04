use Rattle.std.proofs.Common.{◌≡◌, ℕ, List, map, take}
use Rattle.cert_text.specs.Pool.{is_listed, is_used}
use Rattle.cert_text.proofs.pool.Pool.new.Given as goal

abbrev pub invariant-loop-family : goal.invariant-loop-family
invariant-loop-family l = (slots : List ℕ) → is_listed slots (map (λ v. v.now) l.vectors.keys) ≡ is_used slots (take l.family-index l.families)
