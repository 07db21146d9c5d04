-- The events of an unfolding have classes.
use Rattle.std.proofs.Common.{◌≡◌, ℕ, zero, suc, ◌+◌, ◌<◌, List, [], ◌∷◌, length, take, map, get_or, slice_get, Some, refl, sym, ap, subst, arith}
use Rattle.std.specs.Prelude.{◌↔◌}
use Rattle.std.specs.List.{Any, Contains}
use Rattle.std.proofs.lemmas.List.Elements.{All-contains}
use Rattle.std.proofs.lemmas.Option.{none-some, same_Some}
use Rattle.wx_base.specs.declared.machine.Machine.{Machine}
use Rattle.wx_base.specs.Facts.{AreAscending}
use Rattle.flow_block.specs.declared.block.Slot.{Slot}
use Rattle.flow_block.specs.declared.block.SlotKind.{SlotKind}
use Rattle.flow_block.specs.declared.block.SlotKind.TheVariants.{Fetch, Multiply, Data}
use Rattle.flow_ctx.specs.declared.unfolded.UNode.{UNode}
use Rattle.flow_ctx.specs.declared.unfolded.Unfolded.{Unfolded}
use Rattle.cache_flow.specs.declared.flow.Flow.{Flow}
use Rattle.cache_class.specs.declared.class.Class.{Class}
use Rattle.cache_class.specs.declared.class.Class.TheVariants.{Open}
use Rattle.cache_class.specs.declared.class.Classes.{Classes}
use Rattle.cache_class.specs.Accesses.{IsFlowOf, lines_fetched, move_along, slots_of}
use Rattle.cache_class.specs.Classes.{AreNodeClasses, IsEventClass, IsKindClass, data_class}
use Rattle.program_laws.proofs.Collected.{collect}
use Rattle.verdict_laws.specs.Laws.{HasClasses}
use Rattle.verdict_laws.proofs.Outermost.{has_class}

-- ---- a value for each element of a list
pub each_some : {A B : Type 0} (R : ℕ → A → B → Type 0) (xs : List A) → ((i : ℕ) (x : A) → slice_get xs i ≡ Some x → ((y : B) → R i x y → ⊥) → ⊥)
    → ((ys : List B) → length ys ≡ length xs → ((i : ℕ) (x : A) (y : B) → slice_get xs i ≡ Some x → slice_get ys i ≡ Some y → R i x y) → ⊥) → ⊥
each_some {A} {B} R [] make go = go [] refl (λ i x y e f. absurd (none-some x e))
each_some {A} {B} R (x ∷ xs) make go =
    make 0 x refl
    (λ y r.
    each_some (λ i. R (suc i)) xs (λ i z e. make (suc i) z e)
    (λ ys long all. go (y ∷ ys) (ap suc long) (with_first y r ys all)))
  where
    with_first : (y : B) → R 0 x y → (ys : List B) → ((i : ℕ) (z : A) (w : B) → slice_get xs i ≡ Some z → slice_get ys i ≡ Some w → R (suc i) z w)
        → (i : ℕ) (z : A) (w : B) → slice_get (x ∷ xs) i ≡ Some z → slice_get (y ∷ ys) i ≡ Some w → R i z w
    with_first y r ys all zero z w e f =
        let a = same_Some x z e in
        let b = same_Some y w f in
        subst (λ v. R 0 z v) b (subst (λ v. R 0 v y) a r)
    with_first y r ys all (suc i) z w e f = all i z w e f

-- ---- the lines that are accessed
above_all : (xs : List ℕ) → (limit : ℕ) × ((x : ℕ) → Contains xs x → x < limit)
above_all [] = (0, λ x c. absurd (omega (arith, c.1)))
above_all (y ∷ ys) = let rest = above_all ys in (suc (y + rest.0), λ x c. by rest.0 rest.1 x c.0 c.1 c.2)
  where
    by : (limit : ℕ) → ((x : ℕ) → Contains ys x → x < limit) → (x k : ℕ) → k < length (y ∷ ys) → get_or (y ∷ ys) k x ≡ x → x < suc (y + limit)
    by limit below x zero h e = omega (arith, e)
    by limit below x (suc k) h e = let b = below x (k, omega (arith, h), e) in omega (arith, b)

abbrev IsAccessed : List (List ℕ) → ℕ → Type 0
IsAccessed nodes line = Any (λ accesses. Contains accesses line) nodes

above_lines : (nodes : List (List ℕ)) → (limit : ℕ) × ((line : ℕ) → IsAccessed nodes line → line < limit)
above_lines [] = (0, λ line a. absurd (omega (arith, a.2)))
above_lines (xs ∷ nodes) =
    let first = above_all xs in
    let rest = above_lines nodes in
    (first.0 + rest.0, λ line a. by first.0 first.1 rest.0 rest.1 line a.0 a.1 a.2 a.3 a.4)
  where
    by : (m : ℕ) → ((x : ℕ) → Contains xs x → x < m) → (n : ℕ) → ((line : ℕ) → IsAccessed nodes line → line < n)
        → (line k : ℕ) (accesses : List ℕ) → k < length (xs ∷ nodes) → get_or (xs ∷ nodes) k accesses ≡ accesses → Contains accesses line → line < m + n
    by m below n under line zero accesses h e c = let b = below line (subst (λ (l : List ℕ). Contains l line) (sym e) c) in omega (arith, b)
    by m below n under line (suc k) accesses h e c = let b = under line (k, accesses, omega (arith, h), e, c) in omega (arith, b)

-- the flow of an unfolding
has_flow : (u : Unfolded) → ((flow : Flow) → IsFlowOf u flow → ⊥) → ⊥
has_flow u stop =
    let nodes : List (List ℕ) = map (λ (node : UNode). lines_fetched (slots_of u.program node)) u.nodes in
    let above = above_lines nodes in
    collect (λ n. n) (IsAccessed nodes) (IsAccessed nodes) above.0 above.1 (λ n p found. found n refl p)
    (λ lines are.
    stop
    (record { start = u.start; nodes = nodes; moves = map move_along u.edges; lines = lines })
    (record {
      start = refl;
      nodes = refl;
      moves = refl;
      ascending = are.ascending;
      lines = λ line. (
        (λ c. All-contains (IsAccessed nodes) lines line are.each c),
        (λ p. let a = are.whole line p in subst (λ (k : ℕ). Contains lines k) a.4 (a.0, a.2, a.3)),
      );
    }))

-- ---- classes
module _ (machine : Machine) (u : Unfolded) (flow : Flow) where
  event : (node : ℕ) (slots : List Slot) (number : ℕ) (kind : SlotKind) → ((class : Class) → IsKindClass machine u flow node slots number kind class → ⊥) → ⊥
  event node slots number (Fetch line) stop = has_class machine.shape u flow node (length (lines_fetched (take number slots))) line stop
  event node slots number Multiply stop = stop Open refl
  event node slots number Data stop = stop (data_class machine) refl

  of_node : (node : ℕ) (slots : List Slot) → ((classes : List Class) → AreNodeClasses machine u flow node slots classes → ⊥) → ⊥
  of_node node slots stop =
      each_some (λ number slot class. IsEventClass machine u flow node slots number slot class) slots
      (λ number slot stands go. event node slots number slot.kind go)
      (λ classes long each. stop classes (record { long = long; each = each }))

pub has_classes : HasClasses
has_classes u machine stop =
    has_flow u
    (λ flow of.
    each_some (λ number (node : UNode) classes. AreNodeClasses machine u flow number (slots_of u.program node) classes) u.nodes
    (λ number node stands go. of_node machine u flow number (slots_of u.program node) go)
    (λ table long each. stop (record { slots = table }) (record { flow = flow; of = of; long = long; each = each })))
