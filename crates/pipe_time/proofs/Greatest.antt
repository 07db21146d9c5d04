-- The greatest slot, and vectors with a time taken off each slot.
use Rattle.std.proofs.Common.{◌≡◌, ℕ, ◌+◌, ◌-◌, ◌<◌, ◌≤◌, List, [], ◌∷◌, ◌++◌, length, take, map, max, get_or, refl, ap, sym, ◌∙◌, arith, add-one}
use Rattle.std.proofs.lemmas.List.{ext_get_or, length-map, get_or-map}
use Rattle.wx_base.specs.Blocks.{greatest_slot}

max_regroup : (a b c : ℕ) → max a (max b c) ≡ max (max a b) c
max_regroup a b c = omega arith

pub greatest_push : (xs : List ℕ) (t : ℕ) → greatest_slot (xs ++ t ∷ []) ≡ max (greatest_slot xs) t
unfolding greatest_slot
greatest_push [] t = omega arith
greatest_push (x ∷ xs) t = ap (max x) (greatest_push xs t) ∙ max_regroup x (greatest_slot xs) t

pub greatest_none : greatest_slot [] ≡ 0
unfolding greatest_slot
greatest_none = refl

pub taken_off : (old new : List ℕ) (cost n : ℕ) → length old ≡ n → length new ≡ n → ((j : ℕ) → j < n → get_or new j 0 ≡ get_or old j 0 - cost) → new ≡ map (λ t. t - cost) old
taken_off old new cost n long long' each =
    ext_get_or 0 new (map (λ t. t - cost) old) (long' ∙ (sym long ∙ sym (length-map old (λ t. t - cost))))
    (λ j l. each j (omega arith) ∙ sym (get_or-map (λ t. t - cost) old j 0 0 (omega arith)))
