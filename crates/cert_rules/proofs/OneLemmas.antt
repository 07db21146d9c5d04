-- A rule that is broken first is one, at one place.
use Rattle.std.proofs.Common.{◌≡◌, ℕ, ◌<◌, ◌≤◌, refl, sym, subst, arith, inl, inr}
use Rattle.std.proofs.lemmas.Bool.{cases_lt}
use Rattle.wx_base.specs.declared.machine.Machine.{Machine}
use Rattle.flow_ctx.specs.declared.unfolded.Unfolded.{Unfolded}
use Rattle.cache_class.specs.declared.class.Classes.{Classes}
use Rattle.cert_text.specs.declared.certificate.Certificate.{Certificate}
use Rattle.cert_rules.specs.Rules.{IsValid}
use Rattle.cert_rules.specs.Judged.{FailsFirst, HoldsForAll, IsBroken, shape, numbers, start, finish, edge, bound}
use Rattle.cert_rules.specs.Laws.{FirstBrokenIsOne, ValidBreaksNone}

pub breaks_none : ValidBreaksNone
breaks_none u m classes c rule node vector valid (shape never) = never valid.shape
breaks_none u m classes c rule node vector valid (numbers s never) = never valid.numbers
breaks_none u m classes c rule node vector valid (start s n never) = never valid.start
breaks_none u m classes c rule node vector valid (finish n k s nn b f) = f.fails (valid.finishes n k)
breaks_none u m classes c rule node vector valid (edge n k s nn b h f) = f.fails (valid.edges n k)
breaks_none u m classes c rule node vector valid (bound s n b h g never) = never valid.bound

-- the first failure has one place
same_place : (P : ℕ → ℕ → Type 0) (n k i j : ℕ) → FailsFirst P n k → FailsFirst P i j → (n ≡ i) × (k ≡ j)
same_place P n k i j a b = elim (cases_lt n i) [
  | inl l ↦ absurd (a.fails (b.before n k (inl l)))
  | inr g ↦ elim (cases_lt i n) [
    | inl l ↦ absurd (b.fails (a.before i j (inl l)))
    | inr h ↦
        let e : n ≡ i = omega (arith, g, h) in
        elim (cases_lt k j) [
          | inl l ↦ absurd (a.fails (b.before n k (inr (e, l))))
          | inr p ↦ elim (cases_lt j k) [
            | inl l ↦ absurd (b.fails (a.before i j (inr (sym e, l))))
            | inr q ↦ (e, omega (arith, p, q))
          ]
        ]
  ]
]

-- what holds for all fails nowhere
none_fails : (P : ℕ → ℕ → Type 0) (n k : ℕ) → HoldsForAll P → FailsFirst P n k → ⊥
none_fails P n k h f = f.fails (h.each n k)

pub one : FirstBrokenIsOne
one u m classes c r n v r' n' v' (shape never) (shape _) = (refl, refl, refl)
one u m classes c r n v r' n' v' (shape never) (numbers s _) = absurd (never s)
one u m classes c r n v r' n' v' (shape never) (start s _ _) = absurd (never s)
one u m classes c r n v r' n' v' (shape never) (finish _ _ s _ _ _) = absurd (never s)
one u m classes c r n v r' n' v' (shape never) (edge _ _ s _ _ _ _) = absurd (never s)
one u m classes c r n v r' n' v' (shape never) (bound s _ _ _ _ _) = absurd (never s)
one u m classes c r n v r' n' v' (numbers s never) (shape x) = absurd (x s)
one u m classes c r n v r' n' v' (numbers s never) (numbers _ _) = (refl, refl, refl)
one u m classes c r n v r' n' v' (numbers s never) (start _ x _) = absurd (never x)
one u m classes c r n v r' n' v' (numbers s never) (finish _ _ _ x _ _) = absurd (never x)
one u m classes c r n v r' n' v' (numbers s never) (edge _ _ _ x _ _ _) = absurd (never x)
one u m classes c r n v r' n' v' (numbers s never) (bound _ x _ _ _ _) = absurd (never x)
one u m classes c r n v r' n' v' (start s t never) (shape x) = absurd (x s)
one u m classes c r n v r' n' v' (start s t never) (numbers _ x) = absurd (x t)
one u m classes c r n v r' n' v' (start s t never) (start _ _ _) = (refl, refl, refl)
one u m classes c r n v r' n' v' (start s t never) (finish _ _ _ _ x _) = absurd (never x)
one u m classes c r n v r' n' v' (start s t never) (edge _ _ _ _ x _ _) = absurd (never x)
one u m classes c r n v r' n' v' (start s t never) (bound _ _ x _ _ _) = absurd (never x)
one u m classes c r n v r' n' v' (finish _ _ s t b f) (shape x) = absurd (x s)
one u m classes c r n v r' n' v' (finish _ _ s t b f) (numbers _ x) = absurd (x t)
one u m classes c r n v r' n' v' (finish _ _ s t b f) (start _ _ x) = absurd (x b)
one u m classes c r n v r' n' v' (finish i j s t b f) (finish k l _ _ _ g) = let e = same_place _ i j k l f g in (refl, e.0, e.1)
one u m classes c r n v r' n' v' (finish i j s t b f) (edge _ _ _ _ _ h _) = absurd (none_fails _ i j h f)
one u m classes c r n v r' n' v' (finish i j s t b f) (bound _ _ _ h _ _) = absurd (none_fails _ i j h f)
one u m classes c r n v r' n' v' (edge _ _ s t b h f) (shape x) = absurd (x s)
one u m classes c r n v r' n' v' (edge _ _ s t b h f) (numbers _ x) = absurd (x t)
one u m classes c r n v r' n' v' (edge _ _ s t b h f) (start _ _ x) = absurd (x b)
one u m classes c r n v r' n' v' (edge _ _ s t b h f) (finish k l _ _ _ g) = absurd (none_fails _ k l h g)
one u m classes c r n v r' n' v' (edge i j s t b h f) (edge k l _ _ _ _ g) = let e = same_place _ i j k l f g in (refl, e.0, e.1)
one u m classes c r n v r' n' v' (edge i j s t b h f) (bound _ _ _ _ g _) = absurd (none_fails _ i j g f)
one u m classes c r n v r' n' v' (bound s t b h g never) (shape x) = absurd (x s)
one u m classes c r n v r' n' v' (bound s t b h g never) (numbers _ x) = absurd (x t)
one u m classes c r n v r' n' v' (bound s t b h g never) (start _ _ x) = absurd (x b)
one u m classes c r n v r' n' v' (bound s t b h g never) (finish k l _ _ _ f) = absurd (none_fails _ k l h f)
one u m classes c r n v r' n' v' (bound s t b h g never) (edge k l _ _ _ _ f) = absurd (none_fails _ k l g f)
one u m classes c r n v r' n' v' (bound s t b h g never) (bound _ _ _ _ _ _) = (refl, refl, refl)
