-- What holds of an answer, if there is one.
use Rattle.std.proofs.Common.{ℕ, ◌≤◌, List, length, Result, Ok, Err, IfOk, All, sym, subst, inl, inr, arith}
use Rattle.std.proofs.lemmas.Bool.{cases_lt}
use Rattle.std.proofs.lemmas.List.{get_or_past}
use Rattle.wx_base.specs.Vector.{AreWithin}

pub ok_more : {T E : Type 0} (r : Result T E) (P Q : T → Type 0) → ((x : T) → P x → Q x) → IfOk r P → IfOk r Q
ok_more (Ok x) P Q more p = more x p
ok_more (Err e) P Q more p = tt

-- the numbers of a list are within a bound, also past its end
pub are_within : (bound : ℕ) (slots : List ℕ) → All (λ time. time ≤ bound) slots → AreWithin bound slots
are_within bound slots all = record {
  each = λ k. elim (cases_lt k (length slots)) [
    | inl l ↦ all k 0 l
    | inr g ↦ subst (λ n. n ≤ bound) (sym (get_or_past slots k 0 g)) (omega arith)
  ];
}
