-- What misses are charged: at settled combinations, by each event's charge, and at most.
use Rattle.std.proofs.Common.{◌≡◌, ℕ, suc, ◌+◌, ◌*◌, ◌<◌, ◌≤◌, Bool, true, false, List, [], ◌∷◌, length, get_or, drop, slice_get, Some, if◌then◌else◌, Result, Ok, Err, IfOk, refl, sym, ◌∙◌, arith}
use Rattle.flow_block.specs.declared.block.Slot.{Slot}
use Rattle.cache_class.specs.declared.class.Class.{Class}
use Rattle.cache_class.specs.declared.class.Class.TheVariants.{AlwaysHit, AlwaysMiss, FirstMiss, Open}
use Rattle.xdd_table.specs.declared.node.Dd.{Dd}
use Rattle.xdd_table.specs.declared.node.Node.{Node}
use Rattle.xdd_table.specs.Diagram.{Combination, time}
use Rattle.flow_block.specs.Blocks.{most_slots}
use Rattle.cert_judge.specs.Offers.{IsCharged, charge_of, charged_from}
use Rattle.cert_judge.specs.Settled.{settled_miss, settled}
use Rattle.cert_judge.specs.Laws.{missed_from, MissesAreCharged}

-- an event that is settled is charged as before
charged_alike : (class : Class) (charge : ℕ) (miss : Bool) → (if settled_miss (Some class) miss then charge_of class charge else 0) ≡ (if miss then charge_of class charge else 0)
charged_alike AlwaysHit charge true = refl
charged_alike AlwaysHit charge false = refl
charged_alike AlwaysMiss charge true = refl
charged_alike AlwaysMiss charge false = refl
charged_alike (FirstMiss scope) charge miss = refl
charged_alike Open charge miss = refl

alike_from : (charges : List ℕ) (number : ℕ) (f g : Combination) (classes : List Class)
    → ((i e : ℕ) (class : Class) → slice_get classes i ≡ Some class → e ≡ number + i → g e ≡ settled_miss (Some class) (f e))
    → charged_from charges number g classes ≡ charged_from charges number f classes
alike_from charges number f g [] same = refl
alike_from charges number f g (class ∷ classes) same =
    let here : g number ≡ settled_miss (Some class) (f number) = same 0 number class refl (omega arith) in
    let further : charged_from charges (number + 1) g classes ≡ charged_from charges (number + 1) f classes =
    alike_from charges (number + 1) f g classes (λ i e c is at. same (suc i) e c is (omega arith)) in
    rw (here, charged_alike class (get_or charges number 0) (f number), further)

-- what is charged at a settled combination is what is charged before
pub charged_settled : (classes : List Class) (charges : List ℕ) (f : Combination) → charged_from charges 0 (settled classes f) classes ≡ charged_from charges 0 f classes
charged_settled classes charges f = alike_from charges 0 f (settled classes f) classes (λ i e class is at. at_event i e class is (omega arith))
  where
    at_event : (i e : ℕ) (class : Class) → slice_get classes i ≡ Some class → e ≡ i → settled_miss (slice_get classes e) (f e) ≡ settled_miss (Some class) (f e)
    at_event i e class is at = rw (at, is)

-- the list gives the charges of the events
missed_is : (worth : Slot → Class → ℕ) (number : ℕ) (f : Combination) (events : List Slot) (classes : List Class) (charges : List ℕ) → length events ≡ length classes
    → ((i e : ℕ) (event : Slot) (class : Class) → slice_get events i ≡ Some event → slice_get classes i ≡ Some class → e ≡ number + i → charge_of class (get_or charges e 0) ≡ worth event class)
    → charged_from charges number f classes ≡ missed_from worth f number events classes
missed_is worth number f [] [] charges long same = refl
missed_is worth number f [] (class ∷ classes) charges long same = absurd (omega arith)
missed_is worth number f (event ∷ events) [] charges long same = refl
missed_is worth number f (event ∷ events) (class ∷ classes) charges long same =
    let here : charge_of class (get_or charges number 0) ≡ worth event class = same 0 number event class refl refl (omega arith) in
    let further : charged_from charges (number + 1) f classes ≡ missed_from worth f (number + 1) events classes =
    missed_is worth (number + 1) f events classes charges (omega arith) (λ i e s c at is where_it_is. same (suc i) e s c at is (omega arith)) in
    rw (here, further)

pub misses_are_charged : MissesAreCharged
misses_are_charged worth f events classes charges all = missed_is worth 0 f events classes charges all.long (λ i e event class at is where_it_is. at_event i e event class at is (omega arith))
  where
    at_event : (i e : ℕ) (event : Slot) (class : Class) → slice_get events i ≡ Some event → slice_get classes i ≡ Some class → e ≡ i → charge_of class (get_or charges e 0) ≡ worth event class
    at_event i e event class at is where_it_is = rw where_it_is (all.each i event class at is)

-- no event is charged more than the bound
charge_small : (class : Class) (charge bound : ℕ) (miss : Bool) → charge ≤ bound → (if miss then charge_of class charge else 0) ≤ bound
charge_small AlwaysHit charge bound true le = omega arith
charge_small AlwaysMiss charge bound true le = omega arith
charge_small (FirstMiss scope) charge bound true le = le
charge_small Open charge bound true le = omega arith
charge_small class charge bound false le = omega arith

pub charge_of_small : (class : Class) (charge bound : ℕ) → charge ≤ bound → charge_of class charge ≤ bound
charge_of_small class charge bound le = charge_small class charge bound true le

pub charged_small : (charges : List ℕ) (number bound : ℕ) (f : Combination) (classes : List Class) → ((e : ℕ) → get_or charges e 0 ≤ bound)
    → charged_from charges number f classes ≤ length classes * bound
charged_small charges number bound f [] small = omega arith
charged_small charges number bound f (class ∷ classes) small =
    let here : (if f number then charge_of class (get_or charges number 0) else 0) ≤ bound = charge_small class (get_or charges number 0) bound (f number) (small number) in
    let further : charged_from charges (number + 1) f classes ≤ length classes * bound = charged_small charges (number + 1) bound f classes small in
    sum_small (if f number then charge_of class (get_or charges number 0) else 0) (charged_from charges (number + 1) f classes) (length classes) bound here further
  where
    sum_small : (a b n m : ℕ) → a ≤ m → b ≤ n * m → a + b ≤ suc n * m
    sum_small a b n m h k = grind arith

-- a charge that is taken, or nothing
pub if_at_most : (charge : ℕ) (miss : Bool) → (if miss then charge else 0) ≤ charge
if_at_most charge true = omega arith
if_at_most charge false = omega arith

pub if_nothing : (charge : ℕ) (miss : Bool) → charge ≡ 0 → (if miss then charge else 0) ≡ 0
if_nothing charge true is = is
if_nothing charge false is = refl

pub taken_at_most : (class : Class) (charge bound taken : ℕ) → charge ≤ bound → taken ≡ charge_of class charge → taken ≤ bound
taken_at_most class charge bound taken le is = let most : charge_of class charge ≤ bound = charge_of_small class charge bound le in omega (arith, most, is)

-- what is charged from an event on, by that of the events behind it
pub charged_more : (charges : List ℕ) (number : ℕ) (f : Combination) (class : Class) (classes rest : List Class) (a taken t : ℕ) → drop number classes ≡ class ∷ rest
    → a ≡ charged_from charges (number + 1) f rest → taken ≡ charge_of class (get_or charges number 0) → t ≡ (if f number then taken else 0) + a
    → t ≡ charged_from charges number f (drop number classes)
charged_more charges number f class classes rest a taken t front a_is taken_is t_is = rw front (t_is ∙ rw (a_is, taken_is) refl)

-- what is charged fits a word, and does with one more charge
pub charged_fits : (charges : List ℕ) (number bound limit a b : ℕ) (f : Combination) (classes : List Class) → ((e : ℕ) → get_or charges e 0 ≤ bound) → length classes ≤ 12
    → b ≤ bound → 13 * bound < limit → a ≡ charged_from charges number f classes → a + b < limit
charged_fits charges number bound limit a b f classes small few b_small fits a_is =
    let most : charged_from charges number f classes ≤ length classes * bound = charged_small charges number bound f classes small in
    let product : length classes * bound ≤ 12 * bound = times_less (length classes) 12 bound few in
    omega arith
  where
    times_less : (a b n : ℕ) → a ≤ b → a * n ≤ b * n
    times_less a b n le = grind arith

-- the diagram of what is charged is one of charges
pub charged_is : {E : Type 0} (nodes : List Node) (classes : List Class) (charges : List ℕ) (r : Result Dd E) → length classes ≤ most_slots → IfOk r (λ d. d.place < length nodes)
    → IfOk r (λ d. (f : Combination) → time nodes f d.place ≡ charged_from charges 0 f classes) → IfOk r (IsCharged nodes classes)
charged_is nodes classes charges (Ok d) few within times = record {
  few = few;
  within = within;
  alike = λ f. times (settled classes f) ∙ (charged_settled classes charges f ∙ sym (times f));
}
charged_is nodes classes charges (Err e) few within times = tt
