-- Caches along accesses, and what the events of a block come to from a cache.
use Rattle.std.proofs.Common.{◌≡◌, ℕ, Bool, false, not, List, [], ◌∷◌, ◌++◌, length, take, slice_get, refl, ap, ◌∙◌}
use Rattle.std.specs.Prelude.{Option, Some, None}
use Rattle.wx_base.specs.declared.machine.Shape.{Shape}
use Rattle.wx_base.specs.Machine.{IsShape}
use Rattle.wx_base.specs.Cache.{Lines, IsCache, accessed, holds_line}
use Rattle.xdd_table.specs.Diagram.{Combination}
use Rattle.flow_block.specs.declared.block.Slot.{Slot}
use Rattle.flow_block.specs.declared.block.SlotKind.{SlotKind}
use Rattle.flow_block.specs.declared.block.SlotKind.TheVariants.{Fetch, Multiply, Data}
use Rattle.cache_lru.specs.Laws.{AccessKeepsCache}
use Rattle.cache_pers.specs.Stays.{cache_along}
use Rattle.cache_class.specs.Accesses.{lines_fetched}
use Rattle.class_laws.proofs.Lists.{at_seam, take_seam}

pub cache_append : (shape : Shape) (cache : Lines) (xs ys : List ℕ) → cache_along shape cache (xs ++ ys) ≡ cache_along shape (cache_along shape cache xs) ys
cache_append shape cache [] ys = refl
cache_append shape cache (x ∷ xs) ys = cache_append shape (accessed shape cache x) xs ys

pub cached : AccessKeepsCache → (shape : Shape) → IsShape shape → (cache : Lines) (xs : List ℕ) → IsCache shape cache → IsCache shape (cache_along shape cache xs)
cached keeps shape s cache [] c = c
cached keeps shape s cache (x ∷ xs) c = cached keeps shape s (accessed shape cache x) xs (keeps shape cache x s c)

-- whether an event misses: a fetch if its line is not in the cache, another if the instruction at the place is slow
abbrev pub decided : Shape → Lines → (ℕ → Bool) → ℕ → SlotKind → Bool
decided shape cache slow at (Fetch line) = not (holds_line shape cache line)
decided shape cache slow at Multiply = slow at
decided shape cache slow at Data = slow at

abbrev pub outcome_of : Shape → Lines → (ℕ → Bool) → List Slot → Option Slot → Bool
outcome_of shape cache slow before None = false
outcome_of shape cache slow before (Some event) = decided shape (cache_along shape cache (lines_fetched before)) slow event.at event.kind

-- what the events of a block come to, from a cache at its begin
abbrev pub outcomes : Shape → Lines → (ℕ → Bool) → List Slot → Combination
outcomes shape cache slow slots = λ number. outcome_of shape cache slow (take number slots) (slice_get slots number)

pub outcome_at : (shape : Shape) (cache : Lines) (slow : ℕ → Bool) (slots front : List Slot) (event : Slot) (rest : List Slot) → slots ≡ front ++ event ∷ rest
    → outcomes shape cache slow slots (length front) ≡ decided shape (cache_along shape cache (lines_fetched front)) slow event.at event.kind
outcome_at shape cache slow slots front event rest e =
    ap (λ (xs : List Slot). outcomes shape cache slow xs (length front)) e
    ∙ (λ i. outcome_of shape cache slow (take_seam front (event ∷ rest) i) (at_seam front event rest i))
