-- What the activations and counts that a run keeps stand for: the frames and totals of the definitions. This project's own.
use Rattle.std.specs.Prelude.{◌≡◌, ℕ, ◌+◌, ◌<◌, ◌≤◌, ◌==◌, ◌&&◌, nat_lt, Bool, true, false, if◌then◌else◌, List, [], ◌∷◌, map, reverse, length, slice_get, slice_index_or, find, All, AllPairs, Option, Some, None, Result, Ok, Err}
use Rattle.std.specs.Map.{lookup}
use Rattle.std.specs.Option.{option_map_or, unwrap_or}
use Rattle.wx_base.specs.declared.fact_kind.FactKind.{FactKind}
use Rattle.wx_base.specs.declared.fact_kind.FactKind.TheVariants.{Loop, Total}
use Rattle.wx_base.specs.declared.flow.FlowKind.{FlowKind}
use Rattle.wx_base.specs.Facts.{AreAscending}
use Rattle.wx_base.specs.Monitor as monitor
use Rattle.flow_graph.specs.declared.program.Function.{Function}
use Rattle.flow_graph.specs.declared.program.LoopInfo.{LoopInfo}
use Rattle.flow_graph.specs.Program.{bounded_loop, judged_function}
use Rattle.run_machine.specs.declared.came.Came.{Came}
use Rattle.run_machine.specs.declared.came.Came.TheVariants.{First, On, Jumped}
use Rattle.run_machine.specs.declared.frame.Frame.{Frame}
use Rattle.run_machine.specs.declared.monitor.Monitor.{Monitor}
use Rattle.run_machine.specs.declared.totals.Totals.{Totals}

-- what a search for a key finds in a list that ascends by it: where it stands, or between which two it is missing
abbrev pub IsPlace : {X : Type 0} → (X → ℕ) → List X → ℕ → Result ℕ ℕ → Type 0
IsPlace {X} key list k (Ok i) = (i < length list) × ((d : X) → key (slice_index_or list i d) ≡ k)
IsPlace {X} key list k (Err i) =
    (i ≤ length list) × ((j : ℕ) (d : X) → j < i → key (slice_index_or list j d) < k)
    × ((j : ℕ) (d : X) → i ≤ j → j < length list → k < key (slice_index_or list j d))

-- functions in the order of their entries, their loops in that of their heads, and the members of these ascending
pub record Ordered (functions : List Function) : Type 0 where
  pub entries : AllPairs (λ f g. f.entry < g.entry) functions
  pub heads : All (λ f. AllPairs (λ l m. l.head < m.head) f.loops) functions
  pub members : All (λ f. All (λ l. AreAscending l.members) f.loops) functions

abbrev pub heads : List LoopInfo → List ℕ
heads loops = map (λ l. l.head) loops

-- the loops of the function at a place; none behind the last
abbrev pub loops_at : List Function → ℕ → List LoopInfo
loops_at functions place = option_map_or (λ f. f.loops) (slice_get functions place) []

-- the counter of a head, by counters that stand beside the heads; 0 where there is none
abbrev pub counter_of : List ℕ → List ℕ → ℕ → ℕ
counter_of [] counts head = 0
counter_of (h ∷ hs) [] head = 0
counter_of (h ∷ hs) (c ∷ counts) head = if head == h then c else counter_of hs counts head

-- the frame of the function at an entry, with counters for its loops
abbrev pub frame_with : List LoopInfo → ℕ → Option ℕ → List ℕ → monitor.Frame
frame_with loops entry last counts = record { function = entry; last = last; counter = counter_of (heads loops) counts }

-- the frame that an activation stands for
abbrev pub frame_of : List Function → Frame → monitor.Frame
frame_of functions frame = frame_with (loops_at functions frame.place) frame.entry frame.last frame.counts.items

-- no head lies among the addresses from one on and below another
pub record IsGap (loops : List LoopInfo) (low high : ℕ) : Type 0 where
  pub none : (to : ℕ) → low ≤ to → to < high → find (λ l. l.head == to) (map bounded_loop loops) ≡ None

-- The activation's place is that of its function, it has a counter for each loop, and a gap without heads.
pub record IsFrame (functions : List Function) (frame : Frame) : Type 0 where
  pub loops : monitor.loops_of (map judged_function functions) frame.entry ≡ map bounded_loop (loops_at functions frame.place)
  pub counts : length frame.counts.items ≡ length (loops_at functions frame.place)
  pub gap : IsGap (loops_at functions frame.place) frame.low frame.high

-- the counter after a move into a head: one more from inside, else none
abbrev pub counted : Bool → ℕ → ℕ
counted inside count = if inside then count + 1 else 0

-- the total of a head after a move into it: one more from inside
abbrev pub summed : Bool → ℕ → ℕ
summed inside total = if inside then total + 1 else total

-- the rule that a move into the head of a loop breaks, by its bounds and what was counted before
abbrev pub breach_at : LoopInfo → Bool → ℕ → ℕ → Option FactKind
breach_at l inside count total =
    if nat_lt l.maxcount (counted inside count)
    then Some Loop
    else (if inside && monitor.exceeds (summed inside total) l.totalcount then Some Total else None)

-- the totals that counts of heads stand for; a head that has none was never moved back into
abbrev pub totals_of : Totals → ℕ → ℕ
totals_of totals = λ head. unwrap_or (lookup (λ h. head == h) totals.counts.entries) 0

-- what a run carries, by its youngest frame, the others, and the counts of heads
abbrev pub watched : monitor.Frame → List monitor.Frame → Totals → monitor.Watch
watched frame callers totals = record { frames = frame ∷ callers; totals = totals_of totals }

-- the most instructions of which a run is followed
abbrev pub most_steps : ℕ
most_steps = 1000000000

-- no head was moved back into more often than a run has instructions
pub record AreFew (totals : ℕ → ℕ) : Type 0 where
  pub each : (head : ℕ) → totals head < most_steps

-- the frames of the open calls
abbrev pub callers_of : List Function → Monitor → List monitor.Frame
callers_of functions m = map (frame_of functions) (reverse m.callers.items)

-- all frames, the youngest first
abbrev pub frames_of : List Function → Monitor → List monitor.Frame
frames_of functions m = frame_of functions m.current ∷ callers_of functions m

-- all activations are those of the program's functions
pub record IsMonitor (functions : List Function) (m : Monitor) : Type 0 where
  pub current : IsFrame functions m.current
  pub callers : All (λ frame. IsFrame functions frame) m.callers.items

-- all that a run carries
abbrev pub watch_of : List Function → Monitor → monitor.Watch
watch_of functions m = watched (frame_of functions m.current) (callers_of functions m) m.totals

-- what the move by which a run came to an address makes of what it carries; the first instruction is reached by no move
abbrev pub decided : monitor.Rules → Came → monitor.Frame → List monitor.Frame → (ℕ → ℕ) → ℕ → Result monitor.Watch FactKind
decided rules First frame callers totals to = Ok (record { frames = frame ∷ callers; totals = totals })
decided rules On frame callers totals to = monitor.moved_within rules.functions frame callers totals to
decided rules (Jumped flow) frame callers totals to = monitor.jumped rules frame callers totals flow to

-- what the run carries, if no rule is broken
abbrev pub verdict : Option FactKind → monitor.Watch → Result monitor.Watch FactKind
verdict None watch = Ok watch
verdict (Some fact) watch = Err fact

-- whether an instruction by which a run came on has returned from the start's own function
abbrev pub leaves_by : Came → List monitor.Frame → Bool
leaves_by First frames = false
leaves_by On frames = false
leaves_by (Jumped flow) frames = flow.ret && monitor.is_outermost frames

-- how a run comes on by an instruction that jumped or did not
abbrev pub came_by : Bool → FlowKind → Came
came_by true flow = Jumped flow
came_by false flow = On

-- the activations once the instruction at an address was executed
abbrev pub executed_in : Monitor → ℕ → Monitor
executed_in m address = record m { current = record m.current { last = Some address } }
