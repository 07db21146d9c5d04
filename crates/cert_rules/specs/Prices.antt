-- What the numbers of a certificate charge and pay: for misses, for entering a loop and going back in it, and at the start of
-- a run. This project's own.
use Rattle.std.specs.Prelude.{ℕ, ◌+◌, ◌*◌, Bool, true, false, ◌==◌, ◌&&◌, if◌then◌else◌, List, [], ◌∷◌, sum_by, slice_get, slice_index, Option, Some, None, option_and_then, is_some, filter_map}
use Rattle.std.specs.Option.{option_map_or}
use Rattle.wx_base.specs.Monitor.{is_one_of}
use Rattle.xdd_table.specs.Diagram.{Combination}
use Rattle.flow_block.specs.declared.block.Block.{Block}
use Rattle.flow_block.specs.declared.block.Slot.{Slot}
use Rattle.flow_block.specs.declared.block.SlotKind.{SlotKind}
use Rattle.flow_block.specs.declared.block.SlotKind.TheVariants.{Fetch, Multiply, Data}
use Rattle.flow_ctx.specs.declared.scope.Scope.{Scope}
use Rattle.flow_ctx.specs.declared.scope.Scope.TheVariants.{Run, Loop}
use Rattle.flow_ctx.specs.declared.unfolded.ULoop.{ULoop}
use Rattle.flow_ctx.specs.declared.unfolded.Unfolded.{Unfolded}
use Rattle.cache_class.specs.declared.class.Class.{Class}
use Rattle.cache_class.specs.declared.class.Class.TheVariants.{AlwaysHit, AlwaysMiss, FirstMiss, Open}
use Rattle.cert_text.specs.declared.certificate.Charge.{Charge}
use Rattle.cert_text.specs.declared.certificate.TotalPrice.{TotalPrice}
use Rattle.cert_text.specs.declared.certificate.Certificate.{Certificate}

-- the sum of what the elements of a list are worth at their places, where the list begins at a place
abbrev pub sum_places : {A : Type 0} → (ℕ → A → ℕ) → ℕ → List A → ℕ
sum_places worth place [] = 0
sum_places worth place (x ∷ xs) = worth place x + sum_places worth (place + 1) xs

-- two scopes are one
abbrev pub same_scope : Scope → Scope → Bool
same_scope Run Run = true
same_scope Run (Loop m) = false
same_scope (Loop n) Run = false
same_scope (Loop n) (Loop m) = n == m

-- the charge of the group with a line and a scope
abbrev pub charge_of : List Charge → ℕ → Scope → ℕ
charge_of charges line scope = sum_by (λ c. if (c.line == line) && same_scope c.scope scope then c.amount else 0) charges

-- the charges of all groups with a scope
abbrev pub charges_in : List Charge → Scope → ℕ
charges_in charges scope = sum_by (λ c. if same_scope c.scope scope then c.amount else 0) charges

-- what a missing fetch of a line is charged: the charge of its group, where it misses once at most in a stay of a scope
abbrev pub fetch_charge : List Charge → ℕ → Class → ℕ
fetch_charge charges line AlwaysHit = 0
fetch_charge charges line AlwaysMiss = 0
fetch_charge charges line (FirstMiss scope) = charge_of charges line scope
fetch_charge charges line Open = 0

-- what an event is charged that misses
abbrev pub slot_charge : List Charge → SlotKind → Class → ℕ
slot_charge charges (Fetch line) class = fetch_charge charges line class
slot_charge charges Multiply class = 0
slot_charge charges Data class = 0

-- the charges of the groups whose events miss at a combination, where events and their classes are numbered on from a number
abbrev pub missed_from : List Charge → Combination → ℕ → List Slot → List Class → ℕ
missed_from charges f number [] classes = 0
missed_from charges f number (event ∷ events) [] = 0
missed_from charges f number (event ∷ events) (class ∷ classes) =
    (if f number then slot_charge charges event.kind class else 0) + missed_from charges f (number + 1) events classes

-- the charges of the groups whose events miss in a block at a combination
abbrev pub missed : List Charge → Combination → Block → List Class → ℕ
missed charges f block classes = missed_from charges f 0 block.slots classes

-- the block of the node with a number
abbrev pub block_of : Unfolded → ℕ → Option Block
block_of u number =
    option_and_then (λ node. option_and_then (λ function. slice_get function.blocks node.block) (slice_get u.program.functions node.function))
    (slice_get u.nodes number)

-- the address of a loop's head
abbrev pub head_address : Unfolded → ULoop → ℕ
head_address u l = option_map_or (λ block. block.start) (block_of u l.head) 0

-- what a stay in a loop costs at its begin: the charges of the loop, and the price of as many back edges as the stay may take
abbrev pub entry_price : Certificate → ℕ → ULoop → ℕ
entry_price c number l = charges_in c.charges (Loop number) + l.maxcount * slice_index c.multipliers number

-- the price of a total, by the address of its loops' heads; 0 where none is listed
abbrev pub total_price : List TotalPrice → ℕ → ℕ
total_price totals address = sum_by (λ t. if t.address == address then t.amount else 0) totals

-- what a back edge of a loop gives back: the loop's multiplier, and the price of its total, if it has one
abbrev pub back_price : Certificate → Unfolded → ℕ → ULoop → ℕ
back_price c u number l =
    slice_index c.multipliers number + (if is_some l.totalcount then total_price c.totals (head_address u l) else 0)

-- what an edge costs for the loops that it enters
abbrev pub entering : Certificate → Unfolded → ℕ → ℕ
entering c u edge = sum_places (λ number l. if is_one_of l.entries edge then entry_price c number l else 0) 0 u.loops

-- what an edge gives back for the loops that it goes back in
abbrev pub returning : Certificate → Unfolded → ℕ → ℕ
returning c u edge = sum_places (λ number l. if is_one_of l.back edge then back_price c u number l else 0) 0 u.loops

-- how often back edges of all loops with a head at an address are taken at most in a whole run, once for each such loop that has a total
abbrev pub totalcounts_at : Unfolded → ℕ → List ℕ
totalcounts_at u address = filter_map (λ l. if head_address u l == address then l.totalcount else None) u.loops

-- what a listed total costs at the start of a run: its price for as many back edges as the run may take
abbrev pub total_worth : Unfolded → TotalPrice → ℕ
total_worth u total = slice_index (totalcounts_at u total.address) 0 * total.amount

-- What is paid at the start of a run: the charges of the scope of the whole run, the begin of a stay in the loop that has the start as
-- its head, if there is one, and the totals.
abbrev pub paid_at_start : Certificate → Unfolded → ℕ
paid_at_start c u =
    charges_in c.charges Run + sum_places (λ number l. if l.head == u.start then entry_price c number l else 0) 0 u.loops
    + sum_by (λ total. total_worth u total) c.totals
