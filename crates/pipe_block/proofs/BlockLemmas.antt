-- The events of a block of a function stand in the order of their instructions.
use Rattle.std.proofs.Common.{◌≡◌, ℕ, zero, suc, ◌+◌, ◌≤◌, Bool, true, false, List, [], ◌∷◌, ◌++◌, length, slice_get, All, Option, Some, None, refl, subst, arith, add-one, if◌then◌else◌}
use Rattle.std.specs.Bool.{⊤}
use Rattle.std.specs.Option.{option_map_or}
use Rattle.std.proofs.lemmas.Option.{get_or_from_slice_get, slice_get_within}
use Rattle.wx_base.specs.declared.image.Image.{Image}
use Rattle.wx_base.specs.declared.machine.Machine.{Machine}
use Rattle.wx_base.specs.declared.machine.UnitKind.{UnitKind}
use Rattle.wx_base.specs.declared.machine.UnitKind.TheVariants.{Alu, Mul, Mem}
use Rattle.wx_base.specs.Functions.{code_at}
use Rattle.wx_base.specs.Instruction.{unit_of}
use Rattle.flow_block.specs.declared.block.Block.{Block}
use Rattle.flow_block.specs.declared.block.Slot.{Slot}
use Rattle.flow_block.specs.declared.block.SlotKind.TheVariants.{Fetch}
use Rattle.flow_block.specs.Blocks.{AreBlocks, IsBlock, has_line, line_at, unit_slots, fetch_slots, slots_at, slots_of, addresses_from}
use Rattle.flow_block.specs.Sites.{behind}
use Rattle.flow_graph.specs.declared.program.Function.{Function}
use Rattle.pipe_block.specs.Events.{Ascends}
use Rattle.pipe_block.specs.Laws.{BlocksAreTimed, NodesAreTimed}
use Rattle.pipe_block.proofs.ValidLemmas.{all_valid}

-- all events are of the instruction at a place
abbrev AllAt : ℕ → List Slot → Type 0
AllAt place [] = ⊤
AllAt place (e ∷ es) = (e.at ≡ place) × AllAt place es

-- all are of that instruction or of one before it
abbrev AllUpTo : ℕ → List Slot → Type 0
AllUpTo place [] = ⊤
AllUpTo place (e ∷ es) = (e.at ≤ place) × AllUpTo place es

at_append : (place : ℕ) (xs ys : List Slot) → AllAt place xs → AllAt place ys → AllAt place (xs ++ ys)
at_append place [] ys a b = b
at_append place (x ∷ xs) ys a b = (a.0, at_append place xs ys a.1 b)

upto_append : (place : ℕ) (xs ys : List Slot) → AllUpTo place xs → AllAt place ys → AllUpTo (place + 1) (xs ++ ys)
upto_append place [] [] a b = tt
upto_append place [] (y ∷ ys) a b = (omega (arith, b.0), upto_append place [] ys tt b.1)
upto_append place (x ∷ xs) ys a b = (omega (arith, a.0), upto_append place xs ys a.1 b)

ascends_at : (low place : ℕ) (ys : List Slot) → low ≤ place → AllAt place ys → Ascends low ys
ascends_at low place [] l b = tt
ascends_at low place (y ∷ ys) l b = (omega (arith, b.0), ascends_at y.at place ys (omega (arith, b.0)) b.1)

ascends_append : (low place : ℕ) (xs ys : List Slot) → low ≤ place → Ascends low xs → AllUpTo place xs → AllAt place ys → Ascends low (xs ++ ys)
ascends_append low place [] ys l a u b = ascends_at low place ys l b
ascends_append low place (x ∷ xs) ys l a u b = (a.0, ascends_append x.at place xs ys u.0 a.1 u.1 b)

unit_at : (place : ℕ) (unit : UnitKind) → AllAt place (unit_slots place unit)
unit_at place Alu = tt
unit_at place Mul = (refl, tt)
unit_at place Mem = (refl, tt)

word_at : (place : ℕ) (o : Option ℕ) → AllAt place (option_map_or (λ word. unit_slots place (unit_of word)) o [])
word_at place None = tt
word_at place (Some word) = unit_at place (unit_of word)

fetch_at : (machine : Machine) (start place : ℕ) → AllAt place (fetch_slots machine start place)
fetch_at machine start place = by_test (has_line machine start place (line_at machine start place))
  where
    by_test : (b : Bool) → AllAt place (if b then [] else record { at = place; kind = Fetch (line_at machine start place) } ∷ [])
    by_test true = tt
    by_test false = (refl, tt)

events_ascend : (image : Image) (machine : Machine) (start count : ℕ) → Ascends 0 (slots_of image machine start count) × AllUpTo count (slots_of image machine start count)
events_ascend image machine start zero = (tt, tt)
events_ascend image machine start (suc count) =
    let w = events_ascend image machine start count in
    let at : AllAt count (slots_at image machine start count) =
    at_append count (fetch_slots machine start count) (option_map_or (λ word. unit_slots count (unit_of word)) (code_at image (behind start count)) [])
    (fetch_at machine start count) (word_at count (code_at image (behind start count))) in
    let u = upto_append count (slots_of image machine start count) (slots_at image machine start count) w.1 at in
    (ascends_append 0 count (slots_of image machine start count) (slots_at image machine start count) (omega arith) w.0 w.1 at, rw add-one at u)

pub timed : BlocksAreTimed
timed image facts machine entry block b = record {
  some = b.count.some;
  short = b.count.short;
  valid = all_valid image (addresses_from block.start (length block.insns)) block.insns b.insns;
  few = rw b.slots b.count.few;
  ascending = rw b.slots (events_ascend image machine block.start (length block.insns)).0;
}

all_at : {X : Type 0} (P : X → Type 0) (xs : List X) (k : ℕ) (x : X) → All P xs → slice_get xs k ≡ Some x → P x
all_at P xs k x all e = subst P (get_or_from_slice_get xs k x x e) (all k x (slice_get_within xs k x e))

pub node_timed : NodesAreTimed
node_timed machine u number block built of =
    let b = built.built in
    let f = of.function in
    let blocks = all_at (λ (f : Function). AreBlocks b.image b.facts machine f.entry f.blocks) u.program.functions of.node.function f b.is.blocks of.function_stands in
    timed b.image b.facts machine f.entry block (all_at (λ (x : Block). IsBlock b.image b.facts machine f.entry x) f.blocks of.node.block block blocks.each of.block_stands)
