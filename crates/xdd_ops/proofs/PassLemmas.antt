-- How calls for the halves of a pair leave the table and the operation.
use Rattle.std.proofs.Common.{◌≡◌, ℕ, true, false, List, sym, ◌∙◌, inl, inr}
use Rattle.xdd_table.specs.declared.node.Dd.{Dd}
use Rattle.xdd_table.specs.declared.node.Node.{Node}
use Rattle.xdd_table.specs.Diagram.{Combination, with_event, time, IsTable, Keeps}
use Rattle.xdd_ops.specs.Cofactors.{IsSplit, AreLeaves}
use Rattle.xdd_ops.specs.Pairs.{IsPairOf}
use Rattle.xdd_ops.specs.Answers.{Stays, CanStill, GivesMore, Passes}
use Rattle.xdd_ops.proofs.ApplyLemmas.{keeps_self, keeps_twice}

pub stays_self : (gives : ℕ → ℕ → ℕ → Type 0) → Stays gives gives
stays_self gives = record { given = λ a b r g. g }

pub more_self : (gives : ℕ → ℕ → ℕ → Type 0) (P : ℕ × ℕ → Type 0) → GivesMore gives gives P
more_self gives P = record { more = λ a b r g. inl g }

-- nothing was done
pub passes_self : (nodes : List Node) (gives : ℕ → ℕ → ℕ → Type 0) (can : ℕ → ℕ → Type 0) (a b : ℕ) → IsTable nodes → Passes nodes nodes gives gives can can a b
passes_self nodes gives can a b table = record { table = table; kept = keeps_self nodes; stays = stays_self gives; able = record { asked = λ x y h. h }; only = more_self gives (IsPairOf nodes a b) }

-- two leaves were answered
pub more_leaves : (nodes : List Node) (a b t u : ℕ) (gives given : ℕ → ℕ → ℕ → Type 0) → AreLeaves nodes a b t u → GivesMore gives given (λ x. x ≡ (t, u)) → GivesMore gives given (IsPairOf nodes a b)
more_leaves nodes a b t u gives given l k = record {
  more = λ x y r h. elim (k.more x y r h) [
    | inl g ↦ inl g
    | inr g ↦ let f : Combination = λ e. false in inr (f, rw (l.first f, l.second f) g)
  ];
}

pub passes_leaves : (old new : List Node) (gives given : ℕ → ℕ → ℕ → Type 0) (can could : ℕ → ℕ → Type 0) (a b t u : ℕ) → AreLeaves old a b t u → IsTable new → Keeps old new
    → Stays gives given → CanStill can could → GivesMore gives given (λ x. x ≡ (t, u)) → Passes old new gives given can could a b
passes_leaves old new gives given can could a b t u l table k s w m = record { table = table; kept = k; stays = s; able = w; only = more_leaves old a b t u gives given l m }

-- the halves were answered
module _ (old new : List Node) (k : Keeps old new) (a b event : ℕ) (hits misses : Dd × Dd) (s : IsSplit old a b event hits misses) (gives given : ℕ → ℕ → ℕ → Type 0) where
  more_hits : GivesMore gives given (IsPairOf old hits.0.place hits.1.place) → GivesMore gives given (IsPairOf old a b)
  more_hits w = record {
    more = λ x y r h. elim (w.more x y r h) [
      | inl g ↦ inl g
      | inr g ↦ inr (with_event g.0 event false, rw (← s.first.hit_time g.0, ← s.second.hit_time g.0) g.1)
    ];
  }

  more_misses : GivesMore gives given (IsPairOf new misses.0.place misses.1.place) → GivesMore gives given (IsPairOf old a b)
  more_misses w = record {
    more = λ x y r h. elim (w.more x y r h) [
      | inl g ↦ inl g
      | inr g ↦
          let m : time old (with_event g.0 event true) a ≡ time new g.0 misses.0.place = sym (k.times g.0 misses.0.place s.first.miss_in ∙ s.first.miss_time g.0) in
          let m' : time old (with_event g.0 event true) b ≡ time new g.0 misses.1.place = sym (k.times g.0 misses.1.place s.second.miss_in ∙ s.second.miss_time g.0) in
          inr (with_event g.0 event true, rw (m, m') g.1)
    ];
  }

  pub passes_hits : (can could : ℕ → ℕ → Type 0) → Passes old new gives given can could hits.0.place hits.1.place → Passes old new gives given can could a b
  passes_hits can could w = record { table = w.table; kept = w.kept; stays = w.stays; able = w.able; only = more_hits w.only }

more_then : (gives given last : ℕ → ℕ → ℕ → Type 0) (P : ℕ × ℕ → Type 0) → GivesMore gives given P → GivesMore given last P → GivesMore gives last P
more_then gives given last P v w = record { more = λ x y r h. elim (w.more x y r h) [ inl g ↦ v.more x y r g | inr g ↦ inr g ] }

pub passes_misses : (t0 t1 t2 : List Node) (g0 g1 g2 : ℕ → ℕ → ℕ → Type 0) (c0 c1 c2 : ℕ → ℕ → Type 0) (a b event : ℕ) (hits misses : Dd × Dd) → IsSplit t0 a b event hits misses
    → Passes t0 t1 g0 g1 c0 c1 hits.0.place hits.1.place → Passes t1 t2 g1 g2 c1 c2 misses.0.place misses.1.place → Passes t0 t2 g0 g2 c0 c2 a b
passes_misses t0 t1 t2 g0 g1 g2 c0 c1 c2 a b event hits misses s v w = record {
  table = w.table;
  kept = keeps_twice t0 t1 t2 v.kept w.kept;
  stays = record { given = λ x y r h. w.stays.given x y r (v.stays.given x y r h) };
  able = record { asked = λ x y h. w.able.asked x y (v.able.asked x y h) };
  only = more_then g0 g1 g2 (IsPairOf t0 a b) (more_hits t0 t1 v.kept a b event hits misses s g0 g1 v.only) (more_misses t0 t1 v.kept a b event hits misses s g1 g2 w.only);
}

-- the table grew once more
pub passes_more : (t0 t1 t2 : List Node) (gives given : ℕ → ℕ → ℕ → Type 0) (can could : ℕ → ℕ → Type 0) (a b : ℕ) → Passes t0 t1 gives given can could a b → Keeps t1 t2 → IsTable t2
    → Passes t0 t2 gives given can could a b
passes_more t0 t1 t2 gives given can could a b w k table = record { table = table; kept = keeps_twice t0 t1 t2 w.kept k; stays = w.stays; able = w.able; only = w.only }
