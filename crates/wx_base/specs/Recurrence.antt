-- When instructions take place on the pipeline. This project's own.
--
-- The past of an instruction is the list of those before it, the last one first, each with its six times. Before the
-- past stands a vector to start from: the 35 slots of a vector, or an empty list where the pipeline was empty. What is read past the
-- end of a list is 0, so that a time of an instruction before an empty start is 0.
use Rattle.std.specs.Prelude.{ℕ, zero, suc, ◌+◌, ◌-◌, Bool, true, false, nat_le, if◌then◌else◌, List, [], ◌∷◌, ◌++◌, map, max, slice_index}
use Rattle.wx_base.specs.declared.machine.Machine.{Machine}
use Rattle.wx_base.specs.declared.machine.UnitKind.{UnitKind}
use Rattle.wx_base.specs.declared.machine.UnitKind.TheVariants.{Alu, Mul, Mem}
use Rattle.wx_base.specs.declared.times.Times.{Times}
use Rattle.wx_base.specs.Bits.{is_in}
use Rattle.wx_base.specs.Machine.{timing_of}
use Rattle.wx_base.specs.Instruction.{reads_of, writes_of, unit_of, transfers_of}

-- an instruction of a run: its word, whether its fetch missed, whether it was slow, whether it jumped
pub record Entry : Type 0 where
  pub word : ℕ
  pub miss : Bool
  pub slow : Bool
  pub taken : Bool

-- an instruction with its times
pub record Done : Type 0 where
  pub entry : Entry
  pub times : Times

-- a value where the test holds, else 0
abbrev pub when : Bool → ℕ → ℕ
when test value = if test then value else 0

-- from the start of an instruction to its end: one cycle more for each further register of a block transfer
abbrev pub latency_of : Machine → Entry → ℕ
latency_of m e = (timing_of m (unit_of e.word)).latency + (transfers_of e.word - 1) + when e.slow (timing_of m (unit_of e.word)).slow

-- from the start of an instruction to the next start on its unit
abbrev pub occupancy_of : Machine → Entry → ℕ
occupancy_of m e = (timing_of m (unit_of e.word)).occupancy + (transfers_of e.word - 1)

-- slot k of a start
abbrev pub slot : List ℕ → ℕ → ℕ
slot start k = slice_index start k

-- the k-th of a list of times, counted from 1: that of instruction i-k
abbrev pub ago : ℕ → List ℕ → ℕ
ago k times = slice_index times (k - 1)

-- each time from the last instruction backwards, and then from the start
abbrev pub f_back : List ℕ → List Done → List ℕ
f_back start past = map (λ i. i.times.f) past ++ slot start 0 ∷ []

abbrev pub fe_back : List ℕ → List Done → List ℕ
fe_back start past = map (λ i. i.times.fe) past ++ slot start 1 ∷ slot start 2 ∷ []

abbrev pub d_back : List ℕ → List Done → List ℕ
d_back start past =
    map (λ i. i.times.d) past ++ slot start 3 ∷ slot start 4 ∷ slot start 5 ∷ slot start 6 ∷ slot start 7 ∷ slot start 8
    ∷ slot start 9 ∷ slot start 10 ∷ []

abbrev pub x_back : List ℕ → List Done → List ℕ
x_back start past = map (λ i. i.times.x) past ++ slot start 11 ∷ slot start 12 ∷ []

abbrev pub c_back : List ℕ → List Done → List ℕ
c_back start past = map (λ i. i.times.c) past ++ slot start 14 ∷ slot start 15 ∷ []

-- the end of the last instruction if it jumped
abbrev pub last_jump : List ℕ → List Done → ℕ
last_jump start [] = slot start 13
last_jump start (i ∷ past) = when i.entry.taken i.times.xe

-- whether two units are one
abbrev pub same_unit : UnitKind → UnitKind → Bool
same_unit Alu Alu = true
same_unit Mul Mul = true
same_unit Mem Mem = true
same_unit _ _ = false

-- the slot of a unit
abbrev pub unit_slot : UnitKind → ℕ
unit_slot Alu = 16
unit_slot Mul = 17
unit_slot Mem = 18

-- when the unit is free: the last instruction on it has occupied it until then
abbrev pub unit_free : Machine → List ℕ → UnitKind → List Done → ℕ
unit_free m start unit [] = slot start (unit_slot unit)
unit_free m start unit (i ∷ past) =
    if same_unit (unit_of i.entry.word) unit then i.times.x + occupancy_of m i.entry else unit_free m start unit past

-- when the last writer of a resource ended
abbrev pub written : List ℕ → ℕ → List Done → ℕ
written start resource [] = slot start (19 + resource)
written start resource (i ∷ past) = if is_in (writes_of i.entry.word) resource then i.times.xe else written start resource past

-- the latest of the times of the resources below n that are in the set
unfoldable pub latest : (ℕ → ℕ) → ℕ → ℕ → ℕ
latest time set zero = 0
latest time set (suc n) = max (latest time set n) (when (is_in set n) (time n))

-- how many resources there are: fifteen registers, and the flags as one
abbrev pub resources : ℕ
resources = 16

-- when all that the entry reads is there
abbrev pub operands_ready : List ℕ → List Done → Entry → ℕ
operands_ready start past e = latest (λ r. written start r past) (reads_of e.word) resources

-- The fetch begins: not before the one before it, with at most w fetches at a time, a free place in the queue of q, and
-- the end of a jump.
abbrev pub f_of : Machine → List ℕ → List Done → ℕ
f_of m start past =
    max (max (ago 1 (f_back start past)) (ago m.width (fe_back start past)))
    (max (ago m.queue (d_back start past)) (last_jump start past))

-- the fetch ends, in order
abbrev pub fe_of : Machine → List ℕ → List Done → Entry → ℕ → ℕ
fe_of m start past e f = max (f + m.hit + when e.miss m.miss) (ago 1 (fe_back start past))

-- decoding: in order, at most w at a time
abbrev pub d_of : Machine → List ℕ → List Done → ℕ → ℕ
d_of m start past fe = max (max fe (ago 1 (d_back start past))) (ago m.width (x_back start past))

-- Its unit starts it: after decoding, in order, at most w in a cycle, where the unit is free and all that is read is
-- there.
abbrev pub x_of : Machine → List ℕ → List Done → Entry → ℕ → ℕ
x_of m start past e d =
    max (max (max (d + 1) (ago 1 (x_back start past))) (ago m.width (x_back start past) + 1))
    (max (unit_free m start (unit_of e.word) past) (operands_ready start past e))

-- completion: in order, at most w in a cycle
abbrev pub c_of : Machine → List ℕ → List Done → ℕ → ℕ
c_of m start past xe = max (max xe (ago 1 (c_back start past))) (ago m.width (c_back start past) + 1)

-- the six times of the next instruction
unfoldable pub next : Machine → List ℕ → List Done → Entry → Times
next m start past e =
    let f = f_of m start past in
    let fe = fe_of m start past e f in
    let d = d_of m start past fe in
    let x = x_of m start past e d in
    let xe = x + latency_of m e in
    record { f = f; fe = fe; d = d; x = x; xe = xe; c = c_of m start past xe }

-- instructions with their times, the last one first, as the instructions are given
unfoldable pub past_of : Machine → List ℕ → List Entry → List Done
past_of m start [] = []
past_of m start (e ∷ es) =
    let past = past_of m start es in record { entry = e; times = next m start past e } ∷ past

-- when the last instruction is complete; 0 where there is none
abbrev pub completion : List ℕ → List Done → ℕ
completion start past = ago 1 (c_back start past)

-- a time that is looked at only where the machine's width or queue reaches to depth n
abbrev pub kept : ℕ → ℕ → ℕ → ℕ
kept n reach time = when (nat_le n reach) time

-- The window on a past: the slots that the next instruction's times depend on.
unfoldable pub window : Machine → List ℕ → List Done → List ℕ
window m start past =
    let d = d_back start past in
    ago 1 (f_back start past)
    ∷ ago 1 (fe_back start past) ∷ kept 2 m.width (ago 2 (fe_back start past))
    ∷ kept 1 m.queue (ago 1 d) ∷ kept 2 m.queue (ago 2 d) ∷ kept 3 m.queue (ago 3 d) ∷ kept 4 m.queue (ago 4 d)
    ∷ kept 5 m.queue (ago 5 d) ∷ kept 6 m.queue (ago 6 d) ∷ kept 7 m.queue (ago 7 d) ∷ kept 8 m.queue (ago 8 d)
    ∷ ago 1 (x_back start past) ∷ kept 2 m.width (ago 2 (x_back start past))
    ∷ last_jump start past
    ∷ ago 1 (c_back start past) ∷ kept 2 m.width (ago 2 (c_back start past))
    ∷ unit_free m start Alu past ∷ unit_free m start Mul past ∷ unit_free m start Mem past
    ∷ written start 0 past ∷ written start 1 past ∷ written start 2 past ∷ written start 3 past ∷ written start 4 past
    ∷ written start 5 past ∷ written start 6 past ∷ written start 7 past ∷ written start 8 past ∷ written start 9 past
    ∷ written start 10 past ∷ written start 11 past ∷ written start 12 past ∷ written start 13 past ∷ written start 14 past
    ∷ written start 15 past ∷ []
