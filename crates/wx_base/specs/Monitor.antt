-- Which runs obey the flow facts: a run carries a frame for the start and one for each call that is open, the youngest
-- first, and for each loop head how often back edges into it were taken so far; each move between two of its instructions is
-- judged. This project's own.
use Rattle.std.specs.Prelude.{ℕ, ◌+◌, ◌++◌, Bool, All, IsTrue, drop, true, false, not, ◌==◌, ◌&&◌, ◌||◌, nat_lt, if◌then◌else◌, List, [], ◌∷◌, find, Option, Some, None, is_some, unwrap_or, Result, Ok, Err}
use Rattle.std.specs.Option.{option_map_or}
use Rattle.std.specs.List.{list_any}
use Rattle.wx_base.specs.declared.fact_kind.FactKind.{FactKind}
use Rattle.wx_base.specs.declared.fact_kind.FactKind.TheVariants.{Branch, Call, Return, Loop, Total}
use Rattle.wx_base.specs.declared.facts.TargetFact.{TargetFact}
use Rattle.wx_base.specs.declared.flow.FlowKind.{FlowKind}
use Rattle.wx_base.specs.Bits.{add_words}
use Rattle.wx_base.specs.Facts.{targets_of}
use Rattle.wx_base.specs.Flow.{flow_of}
use Rattle.wx_base.specs.Recurrence.{Entry}
use Rattle.wx_base.specs.State.{replaced}

-- A loop of a function: its head, the addresses of its members, the head among them, how often its back edges are taken at
-- most in one stay, which begins when it is entered, and how often back edges into its head are taken at most in a whole run,
-- where that is bounded.
pub record BoundedLoop : Type 0 where
  pub head : ℕ
  pub members : List ℕ
  pub maxcount : ℕ
  pub totalcount : Option ℕ

-- a function: its entry and its loops
pub record Function : Type 0 where
  pub entry : ℕ
  pub loops : List BoundedLoop

-- What moves are judged by: the targets that the facts list for indirect jumps and calls, and the functions with their
-- loops. A function that is not listed counts as one without loops; of two with one entry, and of two loops with one head,
-- the first counts. `AreRules` says which rules are those of an image.
pub record Rules : Type 0 where
  pub branches : List TargetFact
  pub calls : List TargetFact
  pub functions : List Function

-- An activation of a function: its entry, the address last executed in it if there is one, and how often the back edges
-- into each loop head were taken since its loop was entered.
pub record Frame : Type 0 where
  pub function : ℕ
  pub last : Option ℕ
  pub counter : ℕ → ℕ

-- What a run carries to be judged: the frames, the youngest first, and for each address how often the run moved there along a
-- back edge of a loop with that head.
pub record Watch : Type 0 where
  pub frames : List Frame
  pub totals : ℕ → ℕ

-- the frame of an activation that has executed nothing
abbrev pub opened : ℕ → Frame
opened entry = record { function = entry; last = None; counter = λ head. 0 }

-- what the start carries: its frame, and no back edge taken
abbrev pub first_watch : ℕ → Watch
first_watch entry = record { frames = opened entry ∷ []; totals = λ head. 0 }

-- the address last executed, 0 where there is none
abbrev pub last_of : Frame → ℕ
last_of frame = unwrap_or frame.last 0

-- the frames once the instruction at an address was executed
abbrev pub frames_at : List Frame → ℕ → List Frame
frames_at [] address = []
frames_at (frame ∷ frames) address = record frame { last = Some address } ∷ frames

-- what a run carries once the instruction at an address was executed
abbrev pub executed_at : Watch → ℕ → Watch
executed_at watch address = record watch { frames = frames_at watch.frames address }

-- whether an address is in a list
abbrev pub is_one_of : List ℕ → ℕ → Bool
is_one_of addresses address = list_any (λ a. a == address) addresses

-- whether the facts list an address among the targets of an instruction
abbrev pub is_target : List TargetFact → ℕ → ℕ → Bool
is_target facts from to = is_one_of (targets_of facts from) to

-- the loops of a function
abbrev pub loops_of : List Function → ℕ → List BoundedLoop
loops_of functions entry = option_map_or (λ f. f.loops) (find (λ f. f.entry == entry) functions) []

-- the loop of a function with this head, if the address is a head
abbrev pub loop_at : List Function → ℕ → ℕ → Option BoundedLoop
loop_at functions entry head = find (λ loop. loop.head == head) (loops_of functions entry)

-- whether a move of the frame into the loop's head comes from a member, and so takes a back edge
abbrev pub goes_back : BoundedLoop → Frame → Bool
goes_back loop frame = option_map_or (is_one_of loop.members) frame.last false

-- how often a loop's back edges were taken in the stay with a move into its head: once more from a member, and not at all
-- from elsewhere, which enters the loop
abbrev pub count_into : BoundedLoop → Frame → ℕ
count_into loop frame = if goes_back loop frame then frame.counter loop.head + 1 else 0

-- how often back edges into a loop's head were taken in the run with such a move: once more from a member
abbrev pub total_into : BoundedLoop → Frame → (ℕ → ℕ) → ℕ
total_into loop frame totals = if goes_back loop frame then totals loop.head + 1 else totals loop.head

-- whether a number is greater than a bound; where there is none it is not
abbrev pub exceeds : ℕ → Option ℕ → Bool
exceeds number bound = option_map_or (λ most. nat_lt most number) bound false

-- what the run carries after a frame's move into the head of a loop
abbrev pub with_counts : BoundedLoop → Frame → List Frame → (ℕ → ℕ) → Watch
with_counts loop frame callers totals =
    record {
      frames = record frame { counter = replaced frame.counter loop.head (count_into loop frame) } ∷ callers;
      totals = replaced totals loop.head (total_into loop frame totals);
    }

-- What the run carries after a frame's move to an address, which is the head of a loop or of none; or the rule that the move
-- breaks: the bound of one stay comes first, and then that of the whole run, which a move from elsewhere never breaks.
abbrev pub at_head : Option BoundedLoop → Frame → List Frame → (ℕ → ℕ) → Result Watch FactKind
at_head None frame callers totals = Ok (record { frames = frame ∷ callers; totals = totals })
at_head (Some loop) frame callers totals =
    if nat_lt loop.maxcount (count_into loop frame)
    then Err Loop
    else
    (if goes_back loop frame && exceeds (total_into loop frame totals) loop.totalcount
    then Err Total
    else Ok (with_counts loop frame callers totals))

-- a move to an address inside a function
abbrev pub moved_within : List Function → Frame → List Frame → (ℕ → ℕ) → ℕ → Result Watch FactKind
moved_within functions frame callers totals to = at_head (loop_at functions frame.function to) frame callers totals

-- A return to an address: it closes the youngest frame, and is a move in the caller's function, from the call to the address
-- behind it. Without an open call there is no such move.
abbrev pub returned : List Function → List Frame → (ℕ → ℕ) → ℕ → Result Watch FactKind
returned functions [] totals to = Ok (record { frames = []; totals = totals })
returned functions (caller ∷ callers) totals to =
    if to == add_words (last_of caller) 4 then moved_within functions caller callers totals to else Err Return

-- whether an instruction is a call
abbrev pub is_call : FlowKind → Bool
is_call flow = is_some flow.call || flow.call_any

-- a call to an address: it opens a frame
abbrev pub called : Frame → List Frame → (ℕ → ℕ) → ℕ → Watch
called frame callers totals to = record { frames = opened to ∷ frame ∷ callers; totals = totals }

-- a move by an instruction that jumped, called or returned
abbrev pub jumped : Rules → Frame → List Frame → (ℕ → ℕ) → FlowKind → ℕ → Result Watch FactKind
jumped rules frame callers totals flow to =
    if flow.indirect && not (is_target rules.branches (last_of frame) to)
    then Err Branch
    else
    (if flow.call_any && not (is_target rules.calls (last_of frame) to)
    then Err Call
    else
    (if is_call flow
    then Ok (called frame callers totals to)
    else
    (if flow.ret
    then returned rules.functions callers totals to
    else moved_within rules.functions frame callers totals to)))

-- the same by the frames
abbrev pub judged_in : Rules → List Frame → (ℕ → ℕ) → Entry → ℕ → Result Watch FactKind
judged_in rules [] totals from to = Ok (record { frames = []; totals = totals })
judged_in rules (frame ∷ callers) totals from to =
    if from.taken
    then jumped rules frame callers totals (flow_of from.word (last_of frame)) to
    else moved_within rules.functions frame callers totals to

-- What a move from an instruction to an address makes of what the run carries, or the rule that it breaks. The instruction is
-- the one that was executed last, so its address stands in the youngest frame.
unfoldable pub judged : Rules → Watch → Entry → ℕ → Result Watch FactKind
judged rules watch from to = judged_in rules watch.frames watch.totals from to

-- whether no call is open
abbrev pub is_outermost : List Frame → Bool
is_outermost (frame ∷ []) = true
is_outermost _ = false

-- whether an instruction that was executed returns from the start's own function, which ends the run
abbrev pub leaves : List Frame → FlowKind → Bool → Bool
leaves frames flow taken = taken && flow.ret && is_outermost frames

-- an open call: where it was made, and the function that it called
pub record OpenCall : Type 0 where
  pub site : ℕ
  pub callee : ℕ

-- The open calls of a run, the oldest first: each frame but the start's was opened by the instruction that its caller executed
-- last.
abbrev pub chain_of : List Frame → List OpenCall
chain_of [] = []
chain_of (frame ∷ []) = []
chain_of (frame ∷ caller ∷ callers) =
    chain_of (caller ∷ callers) ++ record { site = last_of caller; callee = frame.function } ∷ []

-- each frame but the youngest has executed an instruction: the one that opened the next
pub record HaveCalled (frames : List Frame) : Type 0 where
  pub each : All (λ frame. IsTrue (is_some frame.last)) (drop 1 frames)
