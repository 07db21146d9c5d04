-- Times put in place of the times of a diagram.
use Rattle.std.proofs.Common.{◌≡◌, ℕ, ◌<◌, List, length, slice_get, Some, Result, Ok, Err, IfOk, ap, ◌∙◌, arith, inl, inr}
use Rattle.std.proofs.lemmas.Option.{slice_get_cases}
use Rattle.wx_text.specs.declared.memory.NoMemory.{NoMemory}
use Rattle.xdd_table.specs.declared.node.Dd.{Dd}
use Rattle.xdd_table.specs.declared.node.Node.{Node}
use Rattle.xdd_table.specs.Diagram.{Combination, time, BeginsAfter, EventsLess}
use Rattle.xdd_ops.specs.Answers.{Stays}

-- what is found at last was there at first
found_first : (times given : List ℕ) (t v : ℕ) → Stays (λ a b r. slice_get times a ≡ Some r) (λ a b r. slice_get given a ≡ Some r) → t < length times → slice_get given t ≡ Some v → slice_get times t ≡ Some v
found_first times given t v s h is = elim ((slice_get_cases times t).1) [
  | inl w ↦ let g : slice_get given t ≡ Some w.0 = s.given t t w.0 w.2 in let e : w.0 ≡ v = cc in w.2 ∙ ap Some e
  | inr w ↦ absurd (omega (arith, w.0))
]

module _ (old new : List Node) (p : ℕ) where
  pub replaced_times : (times given : List ℕ) (r : Result Dd NoMemory) → Stays (λ a b r. slice_get times a ≡ Some r) (λ a b r. slice_get given a ≡ Some r) → ((f : Combination) → time old f p < length times)
      → IfOk r (λ d. (f : Combination) → slice_get given (time old f p) ≡ Some (time new f d.place)) → IfOk r (λ d. (f : Combination) → slice_get times (time old f p) ≡ Some (time new f d.place))
  replaced_times times given (Ok d) s h x = λ f. found_first times given (time old f p) (time new f d.place) s (h f) (x f)
  replaced_times times given (Err e) s h x = tt

  -- one diagram twice
  pub once_after : (r : Result Dd NoMemory) → IfOk r (λ d. (e : ℕ) → BeginsAfter old e p → BeginsAfter old e p → BeginsAfter new e d.place) → IfOk r (λ d. (e : ℕ) → BeginsAfter old e p → BeginsAfter new e d.place)
  once_after (Ok d) x = λ e a. x e a a
  once_after (Err e) x = tt

  pub once_events : (r : Result Dd NoMemory) → IfOk r (λ d. (n : ℕ) → EventsLess old p n → EventsLess old p n → EventsLess new d.place n) → IfOk r (λ d. (n : ℕ) → EventsLess old p n → EventsLess new d.place n)
  once_events (Ok d) x = λ n a. x n a a
  once_events (Err e) x = tt
