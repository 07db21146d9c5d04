-- No finish is below 0: under the combination in which every event hits that may, no charge is taken off.
use Rattle.std.proofs.Common.{◌≡◌, ℕ, suc, ◌+◌, ◌<◌, Bool, true, false, List, [], ◌∷◌, length, get_or, slice_get, Option, Some, None, if◌then◌else◌, refl, ap, ◌∙◌, arith}
use Rattle.std.specs.Prelude.{ℤ, pos, ◌-ℤ◌, ◌≤ℤ◌}
use Rattle.std.proofs.lemmas.Int.{ints}
use Rattle.std.proofs.lemmas.Option.{slice_get-get_or}
use Rattle.wx_base.specs.Blocks.{finish_from}
use Rattle.xdd_table.specs.Diagram.{Combination}
use Rattle.pipe_block.specs.Events.{entries_of}
use Rattle.flow_block.specs.declared.block.Block.{Block}
use Rattle.flow_block.specs.declared.block.Slot.{Slot}
use Rattle.flow_block.specs.declared.block.SlotKind.{SlotKind}
use Rattle.flow_block.specs.declared.block.SlotKind.TheVariants.{Fetch, Multiply, Data}
use Rattle.cache_class.specs.declared.class.Class.{Class}
use Rattle.cache_class.specs.declared.class.Class.TheVariants.{AlwaysHit, AlwaysMiss, FirstMiss, Open}
use Rattle.cache_class.specs.Allowed.{Allows, IsAllowed}
use Rattle.cert_text.specs.declared.certificate.Charge.{Charge}
use Rattle.cert_rules.specs.Prices.{missed, missed_from, slot_charge}
use Rattle.path_graph.specs.Graph.{finish_at}
use Rattle.path_rules.specs.Pairs.{Pair, pairs}
use Rattle.path_rules.specs.Steps.{IsEnd, IsMost}
use Rattle.path_laws.specs.Laws.{FinishesAreNatural}

-- whether an event misses where every event hits that may
misses : Option Class → Bool
misses None = false
misses (Some AlwaysHit) = false
misses (Some AlwaysMiss) = true
misses (Some (FirstMiss scope)) = false
misses (Some Open) = false

abbrev hitting : List Class → Combination
hitting classes = λ number. misses (slice_get classes number)

allowed_at : (class : Class) → Allows class (misses (Some class))
unfolding misses
allowed_at AlwaysHit = refl
allowed_at AlwaysMiss = refl
allowed_at (FirstMiss scope) = tt
allowed_at Open = tt

hitting_is_allowed : (classes : List Class) → IsAllowed classes (hitting classes)
hitting_is_allowed classes number class is = rw is (allowed_at class)

-- what always misses belongs to no group
of_no_group : (charges : List Charge) (kind : SlotKind) → slot_charge charges kind AlwaysMiss ≡ 0
of_no_group charges (Fetch line) = refl
of_no_group charges Multiply = refl
of_no_group charges Data = refl

free : (charges : List Charge) (kind : SlotKind) (class : Class)
    → (if misses (Some class) then slot_charge charges kind class else 0) ≡ 0
unfolding misses
free charges kind AlwaysHit = refl
free charges kind AlwaysMiss = of_no_group charges kind
free charges kind (FirstMiss scope) = refl
free charges kind Open = refl

none_missed : (charges : List Charge) (f : Combination) (number : ℕ) (events : List Slot) (classes : List Class)
    → ((k : ℕ) → f (number + k) ≡ misses (slice_get classes k)) → missed_from charges f number events classes ≡ 0
none_missed charges f number [] classes each = refl
none_missed charges f number (event ∷ events) [] each = refl
none_missed charges f number (event ∷ events) (class ∷ classes) each =
    let at_zero : number ≡ number + 0 = omega arith in
    let here : f number ≡ misses (Some class) = ap f at_zero ∙ each 0 in
    let next : (k : ℕ) → (number + 1) + k ≡ number + suc k = λ k. omega arith in
    let rest : missed_from charges f (number + 1) events classes ≡ 0
    = none_missed charges f (number + 1) events classes (λ k. ap f (next k) ∙ each (suc k)) in
    let none : (if f number then slot_charge charges event.kind class else 0) ≡ 0
    = rw here (free charges event.kind class) in
    omega (arith, rest, none)

no_charge : (charges : List Charge) (block : Block) (classes : List Class)
    → missed charges (hitting classes) block classes ≡ 0
no_charge charges block classes =
    let here : (k : ℕ) → 0 + k ≡ k = λ k. omega arith in
    none_missed charges (hitting classes) 0 block.slots classes (λ k. ap (hitting classes) (here k))

less_nothing : (finish off : ℕ) (most : ℤ) → off ≡ 0 → (pos finish -ℤ pos off) ≤ℤ most → pos 0 ≤ℤ most
less_nothing finish off most none less = omega (arith, ints)

pub finishes_are_natural : FinishesAreNatural
finishes_are_natural u m classes f charges order addresses g v graph within =
    let somewhere : Pair = record { node = 0; vector = record { slots = [] } } in
    let pair : Pair = get_or (pairs f.vectors) v somewhere in
    let here : v < length (pairs f.vectors) = omega (arith, within, graph.finishes.long) in
    let most : IsMost (IsEnd u m classes charges pair.node pair.vector) (finish_at g v)
    = graph.finishes.each v pair (finish_at g v) (slice_get-get_or (pairs f.vectors) v somewhere here)
    (slice_get-get_or g.finish v (pos 0) within) in
    let end : IsEnd u m classes charges pair.node pair.vector (finish_at g v) = most.is in
    let kinds : List Class = end.kinds in
    let finish : ℕ = finish_from m pair.vector.slots (entries_of end.block (hitting kinds)) in
    let off : ℕ = missed charges (hitting kinds) end.block kinds in
    less_nothing finish off (finish_at g v) (no_charge charges end.block kinds)
    (most.most (pos finish -ℤ pos off) (record {
      block = end.block;
      kinds = kinds;
      combination = hitting kinds;
      classed = end.classed;
      allowed = hitting_is_allowed kinds;
      is = refl;
    }))
