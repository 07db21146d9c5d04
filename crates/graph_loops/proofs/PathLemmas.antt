-- Paths of a graph: how they grow, are turned round, and first come to a vertex.
use Rattle.std.proofs.Common.{◌≡◌, ℕ, ◌<◌, List, [], ◌∷◌, length, sym, subst, inl, inr}
use Rattle.std.proofs.lemmas.Bool.{cases_eq}
use Rattle.std.specs.List.{Contains}
use Rattle.wx_base.specs.Paths.{Path}
use Rattle.wx_base.specs.Paths.Path.{here, further}
use Rattle.graph_loops.specs.Graph.{edges, IsGraph, IsReached, AreVertices}
use Rattle.graph_loops.proofs.Places.{none_there, the_one}

module _ (leads : ℕ → List ℕ) (avoided : List ℕ) where
  pub starts_free : {a b : ℕ} → Path leads avoided a b → Contains avoided a → ⊥
  starts_free (here a n) = n
  starts_free (further n e p) = n

  pub ends_free : {a b : ℕ} → Path leads avoided a b → Contains avoided b → ⊥
  ends_free (here a n) = n
  ends_free (further n e p) = ends_free p

  -- a path and an edge behind it
  pub one_more : {a b c : ℕ} → Path leads avoided a b → Contains (leads b) c → (Contains avoided c → ⊥) → Path leads avoided a c
  one_more {c = c} (here a n) e k = further n e (here c k)
  one_more (further n f p) e k = further n f (one_more p e k)

  pub joined : {a b c : ℕ} → Path leads avoided a b → Path leads avoided b c → Path leads avoided a c
  joined (here a n) q = q
  joined (further n e p) q = further n e (joined p q)

  -- a path that avoids more avoids less
  pub avoids_less : (fewer : List ℕ) → ((v : ℕ) → Contains fewer v → Contains avoided v) → {a b : ℕ} → Path leads avoided a b → Path leads fewer a b
  avoids_less fewer h (here a n) = here a (λ k. n (h a k))
  avoids_less fewer h {a} (further n e p) = further (λ k. n (h a k)) e (avoids_less fewer h p)

  -- the path of a graph turned round
  pub turned : (other : ℕ → List ℕ) → ((u v : ℕ) → Contains (leads u) v → Contains (other v) u) → {a b : ℕ} → Path leads avoided a b → Path other avoided b a
  turned other t (here a n) = here a n
  turned other t {a} (further {b = b} n e p) = one_more_of other (turned other t p) (t a b e) n
    where
      one_more_of : (f : ℕ → List ℕ) {x y z : ℕ} → Path f avoided x y → Contains (f y) z → (Contains avoided z → ⊥) → Path f avoided x z
      one_more_of f {z = z} (here x k) g l = further k g (here z l)
      one_more_of f (further k g q) h l = further k g (one_more_of f q h l)

-- a path that avoids something avoids nothing
pub anyway : (leads : ℕ → List ℕ) (avoided : List ℕ) {a b : ℕ} → Path leads avoided a b → Path leads [] a b
anyway leads avoided p = avoids_less leads avoided [] (λ v h. absurd (none_there v h)) p

-- where a path first comes to a vertex that it does not begin at: the edge there
pub record FirstComes (leads : ℕ → List ℕ) (a h : ℕ) : Type 0 where
  pub before : ℕ
  pub path : Path leads (h ∷ []) a before
  pub edge : Contains (leads before) h

pub first_comes : (leads : ℕ → List ℕ) (h : ℕ) {a b : ℕ} → (a ≡ h → ⊥) → Path leads [] a b → (Path leads (h ∷ []) a b → ⊥) → FirstComes leads a h
first_comes leads h apart (here a n) none = absurd (none (here a (λ k. apart (sym (the_one h a k)))))
first_comes leads h {a} apart (further {b = b} {c = c} n e p) none =
    let free : Contains (h ∷ []) a → ⊥ = λ k. apart (sym (the_one h a k)) in
    elim (cases_eq b h) [
      | inl is ↦ record { before = a; path = here a free; edge = subst (λ (x : ℕ). Contains (leads a) x) is e }
      | inr other ↦
          let rest = first_comes leads h {a = b} {b = c} other p (λ q. none (further free e q)) in
          record { before = rest.before; path = further free e rest.path; edge = rest.edge }
    ]

-- a path stays among the vertices
pub stays_within : (lists : List (List ℕ)) (avoided : List ℕ) → IsGraph lists → {a b : ℕ} → a < length lists → Path (edges lists) avoided a b → b < length lists
stays_within lists avoided g l (here a n) = l
stays_within lists avoided g {a} l (further {b = b} n e p) = stays_within lists avoided g (g.within a b e) p

pub reached_within : (lists : List (List ℕ)) (avoided roots : List ℕ) (v : ℕ) → IsGraph lists → AreVertices (length lists) roots → IsReached lists avoided roots v → v < length lists
reached_within lists avoided roots v g r h = stays_within lists avoided g (r.within h.root h.listed) h.path
