-- Rows put into a set of different ones, with the position of each.
use Rattle.std.proofs.Common.{◌≡◌, ℕ, ◌+◌, ◌<◌, ◌⊎◌, List, [], ◌∷◌, ◌++◌, length, take, slice_get, get_or, Some, refl, sym, ap, ◌∙◌, inl, inr, arith, length-append}
use Rattle.std.proofs.lemmas.Bool.{cases_lt}
use Rattle.std.proofs.lemmas.List.{take_more}
use Rattle.std.proofs.lemmas.Option.{slice_get_within, same_Some}
use Rattle.pipe_block.specs.declared.row.Row.{Row}
use Rattle.pipe_block.specs.Rows.{AreMerged, Extends}
use Rattle.pipe_block.proofs.Arrivals.{front, end}

nothing_at : {A : Type 0} (p : ℕ) (x : A) → slice_get [] p ≡ Some x → p < 0
nothing_at p x is = slice_get_within [] p x is

pub merged_none : (different : List Row) (places : List ℕ) → different ≡ [] → places ≡ [] → AreMerged [] different places
merged_none different places none empty = record {
  long = ap (λ (xs : List ℕ). length xs) empty;
  each = λ i r is. let n : i < 0 = nothing_at i r is in absurd (omega arith);
  given = λ p r is. let n : p < 0 = nothing_at p r (rw none at is) in absurd (omega arith);
}

pub merged_more : (rows different more : List Row) (places : List ℕ) (r : Row) (p : ℕ) → AreMerged rows different places → Extends different more
    → slice_get more p ≡ Some r → ((i : ℕ) (q : Row) → slice_get more i ≡ Some q → (slice_get different i ≡ Some q) ⊎ (q ≡ r))
    → AreMerged (rows ++ r ∷ []) more (places ++ p ∷ [])
merged_more rows different more places r p a x stands only = record {
  long = length-append places (p ∷ []) ∙ (ap (λ n. n + 1) a.long ∙ sym (length-append rows (r ∷ [])));
  each = λ i q is. elim (cases_lt i (length rows)) [
    | inl l ↦
        let w = a.each i q (sym (front rows (r ∷ []) i l) ∙ is) in
        let l' : i < length places = omega (arith, a.long) in
        (w.0, front places (p ∷ []) i l' ∙ w.1, x.kept w.0 q w.2)
    | inr g ↦
        let within : i < length (rows ++ r ∷ []) = slice_get_within (rows ++ r ∷ []) i q is in
        let long : length (rows ++ r ∷ []) ≡ length rows + 1 = length-append rows (r ∷ []) in
        let same : length rows ≡ i = omega arith in
        let here : q ≡ r = same_Some q r (sym (rw (← same) at is) ∙ end rows r) in
        let there : length places ≡ i = a.long ∙ same in
        let placed : slice_get (places ++ p ∷ []) i ≡ Some p = rw (← there) (end places p) in
        (p, placed, stands ∙ ap (λ y. Some y) (sym here))
  ];
  given = λ k q is. elim (only k q is) [
    | inl old ↦ let w = a.given k q old in (w.0, front rows (r ∷ []) w.0 (slice_get_within rows w.0 q w.1) ∙ w.1)
    | inr same ↦ (length rows, end rows r ∙ ap (λ y. Some y) (sym same))
  ];
}

pub merged_next : (rows different more : List Row) (places longer : List ℕ) (i : ℕ) (r none : Row) (p : ℕ) → i < length rows → r ≡ get_or rows i none
    → AreMerged (take i rows) different places → Extends different more → slice_get more p ≡ Some r
    → ((k : ℕ) (q : Row) → slice_get more k ≡ Some q → (slice_get different k ≡ Some q) ⊎ (q ≡ r)) → longer ≡ places ++ p ∷ []
    → AreMerged (take (i + 1) rows) more longer
merged_next rows different more places longer i r none p within here a x stands only pushed =
    let all : take (i + 1) rows ≡ take i rows ++ r ∷ [] = take_more rows i none within ∙ ap (λ (y : Row). take i rows ++ y ∷ []) (sym here) in
    rw (all, pushed) (merged_more (take i rows) different more places r p a x stands only)
