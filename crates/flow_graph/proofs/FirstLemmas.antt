-- Which refusal is due: one kind after the other.
use Rattle.std.proofs.Common.{◌≡◌, ℕ, ◌<◌, ◌≤◌, ◌⊎◌, inl, inr, refl, arith}
use Rattle.std.proofs.lemmas.Bool.{cases_lt}
use Rattle.wx_base.specs.declared.facts.Facts.{Facts}
use Rattle.wx_base.specs.declared.image.Image.{Image}
use Rattle.wx_base.specs.declared.machine.Machine.{Machine}
use Rattle.flow_graph.specs.declared.error.FlowError.{FlowError}
use Rattle.flow_graph.specs.declared.error.FlowError.TheVariants.{NoMemory, Unsupported, LeavesCode, IndirectNoTargets, BadTarget, Recursion, Irreducible, LoopNoBound, TooManyBlocks}
use Rattle.flow_graph.specs.Refusals.{IsRecursion, IsIrreducible, IsUnbounded, HasTooManyBlocks, IsCause, IsFirst, IsNotAfter, IsClean, rank}

-- an address that is at most another, with equal targets of none
by_address : (a b : ℕ) → a ≤ b → (a < b) ⊎ ((a ≡ b) × (0 ≤ 0))
by_address a b h = elim (cases_lt a b) [ inl l ↦ inl l | inr m ↦ inr (omega arith, omega arith) ]

pub first_recursion : (image : Image) (facts : Facts) (start : ℕ) (machine : Machine) (a : ℕ) → IsClean image facts start machine 4
    → IsRecursion image facts start a → ((b : ℕ) → IsRecursion image facts start b → a ≤ b) → IsFirst image facts start machine (Recursion a)
first_recursion image facts start machine a clean cause least = record {
  cause = cause;
  first = first;
}
  where
    first : (other : FlowError) → IsCause image facts start machine other → IsNotAfter (Recursion a) other
    first NoMemory c = absurd c
    first (Unsupported b w) c = absurd (clean.none (Unsupported b w) c (omega arith))
    first (LeavesCode b) c = absurd (clean.none (LeavesCode b) c (omega arith))
    first (IndirectNoTargets b) c = absurd (clean.none (IndirectNoTargets b) c (omega arith))
    first (BadTarget b t) c = absurd (clean.none (BadTarget b t) c (omega arith))
    first (Recursion b) c = inr (refl, by_address a b (least b c))
    first (Irreducible b) c = inl (omega arith)
    first (LoopNoBound b) c = inl (omega arith)
    first TooManyBlocks c = inl (omega arith)

pub clean_recursion : (image : Image) (facts : Facts) (start : ℕ) (machine : Machine) → IsClean image facts start machine 4
    → ((b : ℕ) → IsRecursion image facts start b → ⊥) → IsClean image facts start machine 5
clean_recursion image facts start machine clean never = record { none = none }
  where
    none : (e : FlowError) → IsCause image facts start machine e → rank e ≤ 5 → ⊥
    none NoMemory c h = c
    none (Unsupported b w) c h = clean.none (Unsupported b w) c (omega arith)
    none (LeavesCode b) c h = clean.none (LeavesCode b) c (omega arith)
    none (IndirectNoTargets b) c h = clean.none (IndirectNoTargets b) c (omega arith)
    none (BadTarget b t) c h = clean.none (BadTarget b t) c (omega arith)
    none (Recursion b) c h = never b c
    none (Irreducible b) c h = absurd (omega (arith, h))
    none (LoopNoBound b) c h = absurd (omega (arith, h))
    none TooManyBlocks c h = absurd (omega (arith, h))

pub first_irreducible : (image : Image) (facts : Facts) (start : ℕ) (machine : Machine) (a : ℕ) → IsClean image facts start machine 5
    → IsIrreducible image facts start a → ((b : ℕ) → IsIrreducible image facts start b → a ≤ b) → IsFirst image facts start machine (Irreducible a)
first_irreducible image facts start machine a clean cause least = record {
  cause = cause;
  first = first;
}
  where
    first : (other : FlowError) → IsCause image facts start machine other → IsNotAfter (Irreducible a) other
    first NoMemory c = absurd c
    first (Unsupported b w) c = absurd (clean.none (Unsupported b w) c (omega arith))
    first (LeavesCode b) c = absurd (clean.none (LeavesCode b) c (omega arith))
    first (IndirectNoTargets b) c = absurd (clean.none (IndirectNoTargets b) c (omega arith))
    first (BadTarget b t) c = absurd (clean.none (BadTarget b t) c (omega arith))
    first (Recursion b) c = absurd (clean.none (Recursion b) c (omega arith))
    first (Irreducible b) c = inr (refl, by_address a b (least b c))
    first (LoopNoBound b) c = inl (omega arith)
    first TooManyBlocks c = inl (omega arith)

pub clean_irreducible : (image : Image) (facts : Facts) (start : ℕ) (machine : Machine) → IsClean image facts start machine 5
    → ((b : ℕ) → IsIrreducible image facts start b → ⊥) → IsClean image facts start machine 6
clean_irreducible image facts start machine clean never = record { none = none }
  where
    none : (e : FlowError) → IsCause image facts start machine e → rank e ≤ 6 → ⊥
    none NoMemory c h = c
    none (Unsupported b w) c h = clean.none (Unsupported b w) c (omega arith)
    none (LeavesCode b) c h = clean.none (LeavesCode b) c (omega arith)
    none (IndirectNoTargets b) c h = clean.none (IndirectNoTargets b) c (omega arith)
    none (BadTarget b t) c h = clean.none (BadTarget b t) c (omega arith)
    none (Recursion b) c h = clean.none (Recursion b) c (omega arith)
    none (Irreducible b) c h = never b c
    none (LoopNoBound b) c h = absurd (omega (arith, h))
    none TooManyBlocks c h = absurd (omega (arith, h))

pub first_unbounded : (image : Image) (facts : Facts) (start : ℕ) (machine : Machine) (a : ℕ) → IsClean image facts start machine 6
    → IsUnbounded image facts start a → ((b : ℕ) → IsUnbounded image facts start b → a ≤ b) → IsFirst image facts start machine (LoopNoBound a)
first_unbounded image facts start machine a clean cause least = record {
  cause = cause;
  first = first;
}
  where
    first : (other : FlowError) → IsCause image facts start machine other → IsNotAfter (LoopNoBound a) other
    first NoMemory c = absurd c
    first (Unsupported b w) c = absurd (clean.none (Unsupported b w) c (omega arith))
    first (LeavesCode b) c = absurd (clean.none (LeavesCode b) c (omega arith))
    first (IndirectNoTargets b) c = absurd (clean.none (IndirectNoTargets b) c (omega arith))
    first (BadTarget b t) c = absurd (clean.none (BadTarget b t) c (omega arith))
    first (Recursion b) c = absurd (clean.none (Recursion b) c (omega arith))
    first (Irreducible b) c = absurd (clean.none (Irreducible b) c (omega arith))
    first (LoopNoBound b) c = inr (refl, by_address a b (least b c))
    first TooManyBlocks c = inl (omega arith)

pub clean_unbounded : (image : Image) (facts : Facts) (start : ℕ) (machine : Machine) → IsClean image facts start machine 6
    → ((b : ℕ) → IsUnbounded image facts start b → ⊥) → IsClean image facts start machine 7
clean_unbounded image facts start machine clean never = record { none = none }
  where
    none : (e : FlowError) → IsCause image facts start machine e → rank e ≤ 7 → ⊥
    none NoMemory c h = c
    none (Unsupported b w) c h = clean.none (Unsupported b w) c (omega arith)
    none (LeavesCode b) c h = clean.none (LeavesCode b) c (omega arith)
    none (IndirectNoTargets b) c h = clean.none (IndirectNoTargets b) c (omega arith)
    none (BadTarget b t) c h = clean.none (BadTarget b t) c (omega arith)
    none (Recursion b) c h = clean.none (Recursion b) c (omega arith)
    none (Irreducible b) c h = clean.none (Irreducible b) c (omega arith)
    none (LoopNoBound b) c h = never b c
    none TooManyBlocks c h = absurd (omega (arith, h))

pub first_too_many : (image : Image) (facts : Facts) (start : ℕ) (machine : Machine) → IsClean image facts start machine 7
    → HasTooManyBlocks image facts start machine → IsFirst image facts start machine TooManyBlocks
first_too_many image facts start machine clean cause = record {
  cause = cause;
  first = first;
}
  where
    first : (other : FlowError) → IsCause image facts start machine other → IsNotAfter TooManyBlocks other
    first NoMemory c = absurd c
    first (Unsupported b w) c = absurd (clean.none (Unsupported b w) c (omega arith))
    first (LeavesCode b) c = absurd (clean.none (LeavesCode b) c (omega arith))
    first (IndirectNoTargets b) c = absurd (clean.none (IndirectNoTargets b) c (omega arith))
    first (BadTarget b t) c = absurd (clean.none (BadTarget b t) c (omega arith))
    first (Recursion b) c = absurd (clean.none (Recursion b) c (omega arith))
    first (Irreducible b) c = absurd (clean.none (Irreducible b) c (omega arith))
    first (LoopNoBound b) c = absurd (clean.none (LoopNoBound b) c (omega arith))
    first TooManyBlocks c = inr (refl, inr (refl, omega arith))

pub clean_too_many : (image : Image) (facts : Facts) (start : ℕ) (machine : Machine) → IsClean image facts start machine 7
    → (HasTooManyBlocks image facts start machine → ⊥) → IsClean image facts start machine 8
clean_too_many image facts start machine clean never = record { none = none }
  where
    none : (e : FlowError) → IsCause image facts start machine e → rank e ≤ 8 → ⊥
    none NoMemory c h = c
    none (Unsupported b w) c h = clean.none (Unsupported b w) c (omega arith)
    none (LeavesCode b) c h = clean.none (LeavesCode b) c (omega arith)
    none (IndirectNoTargets b) c h = clean.none (IndirectNoTargets b) c (omega arith)
    none (BadTarget b t) c h = clean.none (BadTarget b t) c (omega arith)
    none (Recursion b) c h = clean.none (Recursion b) c (omega arith)
    none (Irreducible b) c h = clean.none (Irreducible b) c (omega arith)
    none (LoopNoBound b) c h = clean.none (LoopNoBound b) c (omega arith)
    none TooManyBlocks c h = never c

-- where no cause of any kind stands, no refusal is due
pub clean_all : (image : Image) (facts : Facts) (start : ℕ) (machine : Machine) → IsClean image facts start machine 8
    → (e : FlowError) → IsCause image facts start machine e → ⊥
clean_all image facts start machine clean NoMemory c = clean.none NoMemory c (omega arith)
clean_all image facts start machine clean (Unsupported b w) c = clean.none (Unsupported b w) c (omega arith)
clean_all image facts start machine clean (LeavesCode b) c = clean.none (LeavesCode b) c (omega arith)
clean_all image facts start machine clean (IndirectNoTargets b) c = clean.none (IndirectNoTargets b) c (omega arith)
clean_all image facts start machine clean (BadTarget b t) c = clean.none (BadTarget b t) c (omega arith)
clean_all image facts start machine clean (Recursion b) c = clean.none (Recursion b) c (omega arith)
clean_all image facts start machine clean (Irreducible b) c = clean.none (Irreducible b) c (omega arith)
clean_all image facts start machine clean (LoopNoBound b) c = clean.none (LoopNoBound b) c (omega arith)
clean_all image facts start machine clean TooManyBlocks c = clean.none TooManyBlocks c (omega arith)
