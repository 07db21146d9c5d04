-- Two first refusals are one.
use Rattle.std.proofs.Common.{◌≡◌, ◌⊎◌, inl, inr, ℕ, ◌<◌, ◌≤◌, Some, refl, sym, ap, ◌∙◌, arith}
use Rattle.wx_base.specs.declared.facts.Facts.{Facts}
use Rattle.wx_base.specs.declared.image.Image.{Image}
use Rattle.wx_base.specs.declared.machine.Machine.{Machine}
use Rattle.wx_base.specs.Functions.{code_at}
use Rattle.flow_graph.specs.declared.error.FlowError.{FlowError}
use Rattle.flow_graph.specs.declared.error.FlowError.TheVariants.{NoMemory, Unsupported, LeavesCode, IndirectNoTargets, BadTarget, Recursion, Irreducible, LoopNoBound, TooManyBlocks}
use Rattle.flow_graph.specs.Refusals.{IsCause, address_of, rank, target_of}
use Rattle.program_laws.specs.Laws.{OneFirst}

-- numbers of which neither three come before the others are the same
same_numbers : (a b c d t u : ℕ) → (a < b) ⊎ ((a ≡ b) × ((c < d) ⊎ ((c ≡ d) × (t ≤ u)))) → (b < a) ⊎ ((b ≡ a) × ((d < c) ⊎ ((d ≡ c) × (u ≤ t)))) → (a ≡ b) × (c ≡ d) × (t ≡ u)
same_numbers a b c d t u (inl p) (inl q) = absurd (omega (arith, p, q))
same_numbers a b c d t u (inl p) (inr q) = absurd (omega (arith, p, q.0))
same_numbers a b c d t u (inr p) (inl q) = absurd (omega (arith, p.0, q))
same_numbers a b c d t u (inr (e, inl p)) (inr (f, inl q)) = absurd (omega (arith, p, q))
same_numbers a b c d t u (inr (e, inl p)) (inr (f, inr q)) = absurd (omega (arith, p, q.0))
same_numbers a b c d t u (inr (e, inr p)) (inr (f, inl q)) = absurd (omega (arith, p.0, q))
same_numbers a b c d t u (inr (e, inr p)) (inr (f, inr q)) = (e, p.0, omega (arith, p.1, q.1))

-- two words that stand at one address are one
same_word : (image : Image) (a b x y : ℕ) → a ≡ b → code_at image a ≡ Some x → code_at image b ≡ Some y → x ≡ y
same_word image a b x y e p q = let o : Some x ≡ Some y = sym p ∙ ap (code_at image) e ∙ q in cc

module _ (image : Image) (facts : Facts) (start : ℕ) (machine : Machine) where
  -- refusals of one kind, with one address and one target, are one, since an address has one word
  same_refusal : (e f : FlowError) → rank e ≡ rank f → address_of e ≡ address_of f → target_of e ≡ target_of f → IsCause image facts start machine e → IsCause image facts start machine f → e ≡ f
  same_refusal (Unsupported a x) (Unsupported b y) r h t p q = ap (λ k. Unsupported k x) h ∙ ap (Unsupported b) (same_word image a b x y h p.stands q.stands)
  same_refusal (LeavesCode a) (LeavesCode b) r h t p q = ap LeavesCode h
  same_refusal (IndirectNoTargets a) (IndirectNoTargets b) r h t p q = ap IndirectNoTargets h
  same_refusal (BadTarget a x) (BadTarget b y) r h t p q = ap (λ k. BadTarget k x) h ∙ ap (BadTarget b) t
  same_refusal (Recursion a) (Recursion b) r h t p q = ap Recursion h
  same_refusal (Irreducible a) (Irreducible b) r h t p q = ap Irreducible h
  same_refusal (LoopNoBound a) (LoopNoBound b) r h t p q = ap LoopNoBound h
  same_refusal TooManyBlocks TooManyBlocks r h t p q = refl
  same_refusal NoMemory f r h t p q = absurd p
  same_refusal e f r h t p q = absurd (omega (arith, r))

pub one_first : OneFirst
one_first image facts start machine e f p q =
    let s = same_numbers (rank e) (rank f) (address_of e) (address_of f) (target_of e) (target_of f) (p.first f q.cause) (q.first e p.cause) in
    same_refusal image facts start machine e f s.0 s.1 s.2 p.cause q.cause
